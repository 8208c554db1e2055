-- `decode_x64`: turned away by its parts or its room, or filled.
use Rattle.std.proofs.Common.{sym}
use Rattle.text.specs.Text.Laws.{◌⨾◌}
use Rattle.unwind_info.proofs.Loops.{decode_filled}
use Rattle.unwind_info.proofs.decode_x64.Goals as goal

pub returns : goal.returns
returns c =
    let a = c.args in
    let o = c.in_ok-infos.ensures.ok in
    decode_filled a.bytes.now a.begin a.end a.info_address a.body.now o.1 (sym (rw o.0 at c.if-not-fits.ensures)) (rw o.0 at c.in_ok-infos.infos.counted)
    (c.put_words-at.ensures ⨾ (rw o.0 at c.put.ensures))
