-- What a call comes to, for every input (document 01, "Refusal list"): the number, the entries done, the length, and both buffers to the byte.
use Rattle.std.specs.Prelude.{◌≡◌, List, [], ◌∷◌, ◌++◌, cond, ℕ, zero, suc, ◌-◌, ◌≤◌, Option, ltb, eqb}
use lib.ListN.{length, drop, replicate}
use Rattle.refusal.specs.Refusal.{answer_number}
use Rattle.entry.specs.declared.Last.{Last}
use Rattle.entry.specs.Entry.{Entry, no_last}
use Rattle.book.specs.Book.{kind, bodies, contents_ok}
use Rattle.x64.specs.X64.{x64_entry}
use Rattle.arm64.specs.Arm64.{arm_entry}
use Rattle.dwarf.specs.Dwarf.{dwarf_entry}
use Rattle.pdb.specs.Pdb.{pdb_entry}
use Rattle.translate.specs.declared.Returned.{Returned}
pub mod Laws

-- an entry, by the book's kind: 4, skipping, 5 to 7, its text, and what it leaves to the next
unfoldable pub entry_of : ℕ → ℕ → Option Last → List ℕ → Entry
entry_of kind limit last body =
    cond (eqb kind 2) (arm_entry last body) (cond (eqb kind 3) (dwarf_entry last body) (cond (eqb kind 4) (pdb_entry last body) (x64_entry limit last body)))

-- ---- the entries in turn

-- the work area's bytes that are used and cleared (refusal 1)
abbrev pub AREA : ℕ
AREA = 8192

-- an entry has at most 8,192 bytes of text (refusal 8)
abbrev pub LONGEST : ℕ
LONGEST = 8192

-- the highest limit (refusal 2)
abbrev pub MOST_LIMIT : ℕ
MOST_LIMIT = 32

-- an entry's number, with 8 and 9 tried last: its size, and the room behind what is used
unfoldable pub verdict : ℕ → ℕ → ℕ → ℕ → ℕ
verdict zero room used size = cond (ltb LONGEST size) 8 (cond (ltb (room - used) size) 9 0)
verdict (suc n) room used size = suc n

-- a number, the entries done, their text
pub record Walked : Type 0 where
  pub number : ℕ
  pub done : ℕ
  pub text : List ℕ

-- go on at 0, else stop with what is done
abbrev pub onward : ℕ → ℕ → List ℕ → Walked → Walked
onward zero done acc rest = rest
onward (suc n) done acc rest = record { number = suc n; done = done; text = acc }

-- each entry in turn, until one is refused
unfoldable pub walk : ℕ → ℕ → ℕ → Option Last → List (List ℕ) → ℕ → List ℕ → Walked
walk k l room s [] done acc = record { number = 0; done = done; text = acc }
walk k l room s (b ∷ bs) done acc =
    let rest = walk k l room (entry_of k l s b).next bs (suc done) (acc ++ (entry_of k l s b).text) in
    onward (verdict (entry_of k l s b).number room (length acc) (length (entry_of k l s b).text)) done acc rest

-- the entries of a book, at a limit and so much room for the text
unfoldable pub walk_of : List ℕ → ℕ → ℕ → Walked
walk_of b l room = walk (kind b) l room no_last (bodies b) 0 []

-- ---- the call

-- all that a call comes to
pub record Outcome : Type 0 where
  pub number : ℕ
  pub entries : ℕ
  pub length : ℕ
  pub work : List ℕ
  pub text : List ℕ

-- refused before the first entry: no byte is changed
abbrev pub refused : ℕ → List ℕ → List ℕ → Outcome
refused n w t = record { number = n; entries = 0; length = 0; work = w; text = t }

-- the work area with its first bytes zero, and its rest as it was
unfoldable pub cleared : List ℕ → List ℕ
cleared w = replicate AREA 0 ++ drop AREA w

-- the text buffer has the text of the entries done; its rest is as it was
abbrev pub ran : Walked → List ℕ → List ℕ → Outcome
ran o w t = record {
  number = o.number;
  entries = o.done;
  length = lib.ListN.length o.text;
  work = cleared w;
  text = o.text ++ drop (lib.ListN.length o.text) t;
}

-- of a book, a limit, and what stands in the work area and in the text buffer
unfoldable pub outcome : List ℕ → ℕ → List ℕ → List ℕ → Outcome
outcome b l w t =
    cond (ltb (length w) AREA) (refused 1 w t)
    (cond (ltb MOST_LIMIT l) (refused 2 w t)
    (cond (contents_ok b) (ran (walk_of b l (length t)) w t) (refused 3 w t)))

-- the contract of the call: what is returned and what both buffers hold afterwards are the outcome's
pub record Called (o : Outcome) (w' t' : List ℕ) (r : Returned) : Type 0 where
  pub number_is : answer_number r.answer ≡ o.number
  pub entries_is : r.entries ≡ o.entries
  pub length_is : r.length ≡ o.length
  pub work_is : w' ≡ o.work
  pub text_is : t' ≡ o.text
  pub fits : r.length ≤ length t'
