-- `read_book`: the words are those of the bytes that were read.
use Rattle.std.proofs.Common.{take}
use Rattle.input.proofs.read_book.Goals as goal

pub returns-clause-given : goal.returns-clause-given
returns-clause-given g c = record {
  book = record {
    bytes = take c.read_full-n.result c.read_full-n.new.bytes;
    count_is = c.words.ensures.value;
    words_are = c.words.ensures.out_after;
  };
  consumed = c.read_full-n.ensures.given;
}
