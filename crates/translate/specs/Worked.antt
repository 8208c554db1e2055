-- Document 01's starred specimens and chains by request 2, as one table: each is what `outcome` computes.
use Rattle.std.specs.Prelude.{ℕ, Bool, ◌&&◌, List, [], ◌∷◌, length, take, replicate, T, eqb}
use Rattle.text.specs.Text.{ascii}
use Rattle.text.specs.Tests.{all, eqw}
use Rattle.book.specs.Book.{Book·open}
use Rattle.x64.specs.X64.{X64·open}
use Rattle.arm64.specs.Arm64.{Arm64·open}
use Rattle.translate.specs.Outcome.{AREA, Outcome, entry_of, verdict, walk, walk_of, outcome}

-- a book and a limit, and what the call returns and writes
pub record Case : Type 0 where
  pub book : List ℕ
  pub limit : ℕ
  pub number : ℕ
  pub entries : ℕ
  pub text : List ℕ

-- a book of one function from 1000h to 1040h, of one info with these words (document 01's words 20480 and 1 before it)
abbrev one : ℕ → List ℕ → List ℕ
one n info = 1 ∷ 1 ∷ 4 ∷ n ∷ 4096 ∷ 4160 ∷ 20480 ∷ 1 ∷ info

-- such a function with two infos, its own and its parent's
abbrev chained : ℕ → List ℕ → List ℕ
chained n infos = 1 ∷ 1 ∷ 4 ∷ n ∷ 4096 ∷ 4160 ∷ 20480 ∷ 2 ∷ infos

-- an ARM64 book of such a function, of one operation
abbrev arm : List ℕ → List ℕ
arm op = 2 ∷ 1 ∷ 4 ∷ 7 ∷ 4096 ∷ 64 ∷ 1 ∷ op

pub cases : List Case
cases =
    -- push $rbx, allocate 32
    record {
      book = 1 ∷ 1 ∷ 4 ∷ 13 ∷ 4096 ∷ 4160 ∷ 20480 ∷ 1 ∷ 0 ∷ 0 ∷ 2 ∷ 2 ∷ 0 ∷ 32 ∷ 1 ∷ 3 ∷ 0 ∷ [];
      limit = 32;
      number = 0;
      entries = 1;
      text = ascii "STACK CFI INIT 1000 40 .cfa: $rsp 48 + $rbx: .cfa 16 - ^ .ra: .cfa 8 - ^\n";
    }
    -- allocations 16 and 16 instead of 32
    ∷ record {
      book = one 16 (0 ∷ 0 ∷ 3 ∷ 2 ∷ 0 ∷ 16 ∷ 2 ∷ 0 ∷ 16 ∷ 1 ∷ 3 ∷ 0 ∷ []);
      limit = 32;
      number = 0;
      entries = 1;
      text = ascii "STACK CFI INIT 1000 40 .cfa: $rsp 48 + $rbx: .cfa 16 - ^ .ra: .cfa 8 - ^\n";
    }
    -- a lone machine frame, without and with an error code
    ∷ record {
      book = one 10 (0 ∷ 0 ∷ 1 ∷ 6 ∷ 0 ∷ 0 ∷ []);
      limit = 32;
      number = 0;
      entries = 1;
      text = ascii "STACK CFI INIT 1000 40 .cfa: $rsp 48 + $rsp: .cfa 24 - ^ .ra: .cfa 48 - ^\n";
    }
    ∷ record {
      book = one 10 (0 ∷ 0 ∷ 1 ∷ 6 ∷ 0 ∷ 1 ∷ []);
      limit = 32;
      number = 0;
      entries = 1;
      text = ascii "STACK CFI INIT 1000 40 .cfa: $rsp 56 + $rsp: .cfa 24 - ^ .ra: .cfa 48 - ^\n";
    }
    -- push $rbp, allocate 32, set $rbp with offset 16
    ∷ record {
      book = one 16 (5 ∷ 16 ∷ 3 ∷ 5 ∷ 0 ∷ 0 ∷ 2 ∷ 0 ∷ 32 ∷ 1 ∷ 5 ∷ 0 ∷ []);
      limit = 32;
      number = 0;
      entries = 1;
      text = ascii "STACK CFI INIT 1000 40 .cfa: $rbp 32 + $rbp: .cfa 16 - ^ .ra: .cfa 8 - ^\n";
    }
    -- $rbx saved at RSP + 16 where S is 8
    ∷ record {
      book = one 10 (0 ∷ 0 ∷ 1 ∷ 3 ∷ 3 ∷ 16 ∷ []);
      limit = 32;
      number = 0;
      entries = 1;
      text = ascii "STACK CFI INIT 1000 40 .cfa: $rsp 8 + $rbx: .cfa -8 - ^ .ra: .cfa 8 - ^\n";
    }
    -- limit 0: the all-zero entry is skipped; begin 1 and end 2 give 5
    ∷ record { book = 1 ∷ 1 ∷ 4 ∷ 7 ∷ 0 ∷ 0 ∷ 0 ∷ 1 ∷ 0 ∷ 0 ∷ 0 ∷ []; limit = 0; number = 0; entries = 1; text = [] }
    ∷ record { book = 1 ∷ 1 ∷ 4 ∷ 7 ∷ 1 ∷ 2 ∷ 0 ∷ 1 ∷ 0 ∷ 0 ∷ 0 ∷ []; limit = 0; number = 5; entries = 0; text = [] }
    -- a part that pushes $rbx, its parent $rdi: the parent's push came first
    ∷ record {
      book = chained 16 (0 ∷ 0 ∷ 1 ∷ 1 ∷ 3 ∷ 0 ∷ 0 ∷ 0 ∷ 1 ∷ 1 ∷ 7 ∷ 0 ∷ []);
      limit = 32;
      number = 0;
      entries = 1;
      text = ascii "STACK CFI INIT 1000 40 .cfa: $rsp 24 + $rdi: .cfa 16 - ^ $rbx: .cfa 24 - ^ .ra: .cfa 8 - ^\n";
    }
    -- a part that saves $rbx at RSP + 16, its parent pushed $rbp, allocated 32 and set $rbp
    ∷ record {
      book = chained 22 (0 ∷ 0 ∷ 1 ∷ 3 ∷ 3 ∷ 16 ∷ 5 ∷ 0 ∷ 3 ∷ 5 ∷ 0 ∷ 0 ∷ 2 ∷ 0 ∷ 32 ∷ 1 ∷ 5 ∷ 0 ∷ []);
      limit = 32;
      number = 0;
      entries = 1;
      text = ascii "STACK CFI INIT 1000 40 .cfa: $rbp 48 + $rbp: .cfa 16 - ^ $rbx: .cfa 32 - ^ .ra: .cfa 8 - ^\n";
    }
    -- limit 1 has the part looked at alone: with an undecodable operation of its own it is skipped, with one of its parent's it is 5
    ∷ record { book = chained 13 (0 ∷ 0 ∷ 1 ∷ 8 ∷ 0 ∷ 0 ∷ 0 ∷ 0 ∷ 0 ∷ []); limit = 1; number = 0; entries = 1; text = [] }
    ∷ record { book = chained 13 (0 ∷ 0 ∷ 0 ∷ 0 ∷ 0 ∷ 1 ∷ 8 ∷ 0 ∷ 0 ∷ []); limit = 1; number = 5; entries = 0; text = [] }
    -- ARM64: a lone other; a lone save-next; x29 and x30 pre-indexed by 16
    ∷ record {
      book = arm (8 ∷ 0 ∷ 0 ∷ 0 ∷ []);
      limit = 32;
      number = 0;
      entries = 1;
      text = ascii "STACK CFI INIT 1000 40 .cfa: .sp 0 + .ra: .x30\n";
    }
    ∷ record {
      book = arm (7 ∷ 0 ∷ 0 ∷ 0 ∷ []);
      limit = 32;
      number = 0;
      entries = 1;
      text = ascii "STACK CFI INIT 1000 40 .x1: .cfa 8 + ^ .x2: .cfa 16 + ^ .cfa: .sp .ra: .x30\n";
    }
    ∷ record {
      book = arm (5 ∷ 0 ∷ 29 ∷ 16 ∷ []);
      limit = 32;
      number = 0;
      entries = 1;
      text = ascii "STACK CFI INIT 1000 40 .cfa: .sp 16 + .x29: .cfa -16 + ^ .x30: .cfa -8 + ^ .ra: .cfa -8 + ^\n";
    }
    ∷ []

-- the outcome is the one of the case
abbrev gives : Outcome → Case → Bool
gives o k = (eqb o.number k.number && (eqb o.entries k.entries && eqb o.length (length k.text))) && eqw (take o.length o.text) k.text

-- with a work area just large enough and room for 200 bytes
abbrev passes : Case → Bool
passes k = gives (outcome k.book k.limit (replicate AREA 7) (replicate 200 7)) k

pub worked : T (all passes cases)
unfolding cases Book·open X64·open Arm64·open entry_of verdict walk walk_of outcome
worked = tt
