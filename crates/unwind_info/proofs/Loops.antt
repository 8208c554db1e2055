-- The loops over the parts and over a part's operations: what holds at their heads, with its start, turn and end.
use Rattle.std.proofs.Common.{◌≡◌, refl, sym, ap, ◌∙◌, arith, true, false, List, [], ◌∷◌, ◌++◌, ℕ, ◌+◌, ◌-◌, ◌*◌, ◌≤◌, ◌<◌, length, drop, set, leb, Ok, Err, length-append, length-drop}
use Rattle.std.proofs.lemmas.List.{nil_from_length}
use borrow.Author.Tests.{eq-eqb, ne_eqb, leb-true, leb-false}
use Rattle.text.specs.Text.{Put}
use Rattle.text.specs.Text.Laws.{◌⨾◌, put_as}
use Rattle.fill.specs.Fill.{Fills}
use Rattle.fill.specs.Fill.Laws.{fills_refused, fills_put, fills_short, third}
use Rattle.refusal.specs.declared.Refusal.{Refusal}
use Rattle.refusal.specs.declared.Refusal.TheVariants.{Room}
use Rattle.refusal.specs.Refusal.{number}
use Rattle.refusal.specs.Refusal.Laws.{numbered}
use Rattle.unwind_info.specs.declared.Operation.{Operation}
use Rattle.unwind_info.specs.UnwindInfo.{slot_count, frame_register, frame_offset, part_size, words_of, op_words, codes_of, info_words}
use Rattle.unwind_info.specs.UnwindInfo.{parts, infos_words, part_number, first_refused, count_number, x64_body, x64_number, decoded}
use Rattle.unwind_info.specs.Index.{info_length, parts_first, parts_none, part_whole, zero_both}

-- ---- the first part, and those behind it

pub no_parts : (bs : List ℕ) → length bs ≡ 0 → parts bs ≡ []
no_parts bs e = ap parts (nil_from_length bs e) ∙ parts_none

module _ (p : List ℕ) (ps : List (List ℕ)) where
  -- where it is not turned away, those behind it decide
  refused_behind : part_number p ≡ 0 → first_refused (p ∷ ps) ≡ first_refused ps
  unfolding first_refused
  refused_behind e = rw (eq-eqb (part_number p) 0 e)

  refused_here : (part_number p ≡ 0 → ⊥) → first_refused (p ∷ ps) ≡ part_number p
  unfolding first_refused
  refused_here e = rw (ne_eqb (part_number p) 0 e)

  none_refused : first_refused (p ∷ ps) ≡ 0 → part_number p ≡ 0
  unfolding first_refused
  none_refused e = (zero_both (part_number p) (first_refused ps) e).0

-- of bytes whose parts are not turned away
module _ (bs : List ℕ) (h : 0 < length bs) (w : first_refused (parts bs) ≡ 0) where
  first_good : part_number bs ≡ 0
  first_good = none_refused bs (parts (drop (part_size bs) bs)) (rw (parts_first bs h) at w)

  pub first_there : part_size bs ≤ length bs
  first_there = part_whole bs first_good

  pub behind_good : first_refused (parts (drop (part_size bs) bs)) ≡ 0
  behind_good = sym (refused_behind bs (parts (drop (part_size bs) bs)) first_good) ∙ (rw (parts_first bs h) at w)

-- ---- the headers

-- p parts with s slots were met, and rest is left
pub record Checking (bs rest : List ℕ) (p s : ℕ) : Type 0 where
  pub number : first_refused (parts rest) ≡ first_refused (parts bs)
  pub count : p + length (parts rest) ≡ length (parts bs)
  pub words : length (infos_words (parts bs)) ≤ 3 * p + 3 * s + length (infos_words (parts rest))
  pub slots : s ≤ 255 * p
  pub small : p + s + length rest ≤ length bs

pub check_none : (bs : List ℕ) → Checking bs bs 0 0
check_none bs = record { number = refl; count = omega arith; words = omega arith; slots = omega arith; small = omega arith }

module _ {bs rest : List ℕ} {p s : ℕ} (g : Checking bs rest p s) (h : 0 < length rest) where
  pub check_more : part_number rest ≡ 0 → slot_count rest < 256 → Checking bs (drop (part_size rest) rest) (p + 1) (s + slot_count rest)
  unfolding infos_words
  check_more e b =
      let next = parts (drop (part_size rest) rest) in
      let f = parts_first rest h in
      record {
        number = sym (refused_behind rest next e) ∙ sym (ap first_refused f) ∙ g.number;
        count = omega (arith, g.count, ap length f);
        words = omega (arith, g.words, ap (λ (l : List (List ℕ)). length (infos_words l)) f, length-append (info_words rest) (infos_words next), info_length rest);
        slots = omega (arith, g.slots);
        small = omega (arith, g.small, part_whole rest e, length-drop (part_size rest) rest);
      }

  -- a part is turned away
  pub check_stop : (r : Refusal) → number r ≡ part_number rest → number r ≡ x64_number bs
  unfolding x64_number
  check_stop r e =
      let n : part_number rest ≡ 0 → ⊥ = λ z. numbered r (e ∙ z) in
      let f : first_refused (parts bs) ≡ part_number rest =
      sym g.number ∙ ap first_refused (parts_first rest h) ∙ refused_here rest (parts (drop (part_size rest) rest)) n in
      rw (f, ne_eqb (part_number rest) 0 n) e

-- every part is there
pub record Headers (bs : List ℕ) (p s : ℕ) : Type 0 where
  pub whole : first_refused (parts bs) ≡ 0
  pub counted : p ≡ length (parts bs)
  pub slots : s ≤ 255 * p
  pub most : length (infos_words (parts bs)) ≤ 3 * p + 3 * s
  pub number : x64_number bs ≡ count_number p

pub check_end : {bs rest : List ℕ} {p s : ℕ} → Checking bs rest p s → length rest ≡ 0 → Headers bs p s
unfolding x64_number first_refused infos_words
check_end {bs} {rest} {p} {s} g e =
    let z = no_parts rest e in
    let w : first_refused (parts bs) ≡ 0 = sym g.number ∙ ap first_refused z in
    let n : p ≡ length (parts bs) = omega (arith, g.count, ap length z) in
    record {
      whole = w;
      counted = n;
      slots = g.slots;
      most = omega (arith, g.words, ap (λ (l : List (List ℕ)). length (infos_words l)) z);
      number = rw (w, n) refl;
    }

-- ---- put

pub ops_first : {o : Operation} (all os : List Operation) → all ≡ o ∷ os → op_words all ≡ words_of o ++ op_words os
unfolding op_words
ops_first all os e = rw e refl

pub ops_none : (all : List Operation) → all ≡ [] → op_words all ≡ []
unfolding op_words
ops_none all e = rw e refl

-- an info put: its operation count last
pub info_put : {d d₁ d₂ : List ℕ} {at s r n : ℕ} (part : List ℕ) → Put d at (frame_register part ∷ frame_offset part ∷ 0 ∷ []) d₁ s
    → Put d₁ s (op_words (codes_of part)) d₂ r → n ≡ length (codes_of part) → at + length (info_words part) ≤ length d → Put d at (info_words part) (set d₂ (s - 1) n) r
unfolding info_words
info_put {d} {d₁} {d₂} {at} {s} {r} {n} part x y e h =
    let k : s - 1 ≡ at + 2 = omega (arith, x.next, x.short, h) in
    rw (k, ← e) (third n (x ⨾ y))

-- the first part, and its words and those behind it
pub first_whole : (bs x : List ℕ) (ps : List (List ℕ)) → parts bs ≡ x ∷ ps → first_refused (parts bs) ≡ 0 → part_size x ≤ length x
first_whole bs x ps e w = part_whole x (none_refused x ps (rw e at w))

pub infos_first : (bs x : List ℕ) (ps : List (List ℕ)) → parts bs ≡ x ∷ ps → infos_words (parts bs) ≡ info_words x ++ infos_words ps
unfolding infos_words
infos_first bs x ps e = ap infos_words e

pub infos_none : (bs : List ℕ) → parts bs ≡ [] → infos_words (parts bs) ≡ []
unfolding infos_words
infos_none bs e = ap infos_words e

-- ---- the call

module _ (bs : List ℕ) (b e a : ℕ) (d : List ℕ) where
  -- 10, 11 and 4
  pub decode_refused : (r : Refusal) → number r ≡ x64_number bs → Fills (decoded bs b e a (length d)) d d (Err r)
  unfolding decoded
  decode_refused r h = rw (← h, ne_eqb (number r) 0 (numbered r)) (fills_refused r d)

  -- 9
  pub decode_short : x64_number bs ≡ 0 → leb (4 + length (infos_words (parts bs))) (length d) ≡ false → Fills (decoded bs b e a (length d)) d d (Err Room)
  unfolding decoded x64_body
  decode_short z h = rw z (fills_short (x64_body b e a bs) d (omega (arith, leb-false (4 + length (infos_words (parts bs))) (length d) h)))

  -- all of it
  pub decode_filled : {n r : ℕ} {d' : List ℕ} → x64_number bs ≡ 0 → leb (4 + length (infos_words (parts bs))) (length d) ≡ true → n ≡ length (parts bs)
      → Put d 0 (b ∷ e ∷ a ∷ n ∷ infos_words (parts bs)) d' r → Fills (decoded bs b e a (length d)) d d' (Ok r)
  unfolding decoded x64_body
  decode_filled {n} z h q p =
      rw z (fills_put (put_as p (ap (λ (m : ℕ). b ∷ e ∷ a ∷ m ∷ infos_words (parts bs)) q)) (omega (arith, leb-true (4 + length (infos_words (parts bs))) (length d) h)))
