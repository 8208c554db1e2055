-- The two loops over the list: counted, and put. What holds at their heads, with its start, turn and end.
use Rattle.std.proofs.Common.{◌≡◌, refl, sym, ap, ◌∙◌, subst, arith, Bool, true, false, cond, ◌&&◌, List, []}
use Rattle.std.proofs.Common.{◌∷◌, ◌++◌, ℕ, ◌+◌, ◌-◌, ◌*◌, ◌≤◌, ◌<◌, T, Ok, Err, length, drop, length-append, length-drop, leb→le}
use Rattle.std.proofs.lemmas.List.{nil_from_length}
use borrow.Author.Tests.{ne_eqb}
use Rattle.text.specs.Text.{MAX, Put}
use Rattle.text.specs.Text.Laws.{put_as}
use Rattle.text.specs.Tests.{and_l, and_r, all}
use Rattle.refusal.specs.declared.Refusal.{Refusal}
use Rattle.refusal.specs.declared.Refusal.TheVariants.{Room}
use Rattle.refusal.specs.Refusal.{number}
use Rattle.refusal.specs.Refusal.Laws.{numbered}
use Rattle.fill.specs.Fill.{Fills}
use Rattle.fill.specs.Fill.Laws.{fills_refused, fills_put, fills_short, Fitting, fitting_all, fitting_room, fitting_put, fitting_none}
use Rattle.arm64.specs.declared.Op.{Op}
use Rattle.arm64.specs.Arm64.{words_of}
use Rattle.unwind_codes.specs.UnwindCodes.{byte, size_at, operation_at, whole, ends, list, op_words, arm_body, arm_number, decoded}
use Rattle.unwind_codes.specs.Index.{size_some, list_first, list_none, ops_length}

-- ---- counted

pub shorter : (bs : List ℕ) → 0 < length bs → length (drop (size_at bs) bs) < length bs
shorter bs h = omega (arith, length-drop (size_at bs) bs, size_some (byte bs 0))

-- count codes were met, and rest is left
pub record Checking (bs rest : List ℕ) (count : ℕ) : Type 0 where
  pub wholes : all whole (list rest) ≡ all whole (list bs)
  pub sum : count + length (list rest) ≡ length (list bs)
  pub small : count + length rest ≤ length bs

pub check_none : (bs : List ℕ) → Checking bs bs 0
check_none bs = record { wholes = refl; sum = omega arith; small = omega arith }

-- what there is at the list's end: every code is whole, and there are n
pub record Listed (bs : List ℕ) (n : ℕ) : Type 0 where
  pub wholes : all whole (list bs) ≡ true
  pub size : n ≡ length (list bs)

-- the first code, and those behind it
abbrev behind : List ℕ → List (List ℕ)
behind bs = cond (ends (operation_at bs)) [] (list (drop (size_at bs) bs))

module _ {bs rest : List ℕ} {count : ℕ} (g : Checking bs rest count) (h : 0 < length rest) where
  first_whole : all whole (list rest) ≡ (whole rest && all whole (behind rest))
  first_whole = ap (all whole) (list_first rest h)

  -- the first code is not all there: 12
  pub check_cut : whole rest ≡ false → arm_number bs ≡ 12
  unfolding arm_number
  check_cut w =
      let f : all whole (list bs) ≡ false = sym g.wholes ∙ first_whole ∙ ap (λ (t : Bool). t && all whole (behind rest)) w in
      rw f

  -- it is all there
  rest_whole : whole rest ≡ true → all whole (list rest) ≡ all whole (behind rest)
  rest_whole w = first_whole ∙ ap (λ (t : Bool). t && all whole (behind rest)) w

  -- and ends the list
  pub check_ends : whole rest ≡ true → true ≡ ends (operation_at rest) → Listed bs (count + 1)
  check_ends l e =
      let z : behind rest ≡ [] = ap (λ (t : Bool). cond t [] (list (drop (size_at rest) rest))) (sym e) in
      record { wholes = sym g.wholes ∙ rest_whole l ∙ ap (all whole) z; size = omega (arith, g.sum, ap length (list_first rest h), ap length z) }

  -- and the list goes on
  pub check_more : whole rest ≡ true → false ≡ ends (operation_at rest) → Checking bs (drop (size_at rest) rest) (count + 1)
  check_more l e =
      let z : behind rest ≡ list (drop (size_at rest) rest) = ap (λ (t : Bool). cond t [] (list (drop (size_at rest) rest))) (sym e) in
      record {
        wholes = sym (ap (all whole) z) ∙ sym (rest_whole l) ∙ g.wholes;
        sum = omega (arith, g.sum, ap length (list_first rest h), ap length z);
        small = omega (arith, g.small, shorter rest h);
      }

-- the bytes' end
pub check_end : {bs rest : List ℕ} {count : ℕ} → Checking bs rest count → length rest ≡ 0 → Listed bs count
check_end {bs} {rest} {count} g e =
    let z : list rest ≡ [] = ap list (nil_from_length rest e) ∙ list_none in
    record { wholes = sym g.wholes ∙ ap (all whole) z; size = omega (arith, g.sum, ap length z) }

-- ---- put

-- of n codes some are left, and rest starts with the first of them
pub record OpsLeft (rest : List ℕ) (left : ℕ) (words : List ℕ) : Type 0 where
  pub codes : List (List ℕ)
  pub many : length codes ≡ left
  pub here : 0 < left → list rest ≡ codes
  pub wholes : T (all whole codes)
  pub words_are : words ≡ op_words codes

pub ops_all : {bs : List ℕ} {n : ℕ} → n ≡ length (list bs) → T (all whole (list bs)) → OpsLeft bs n (op_words (list bs))
ops_all {bs} e w = record { codes = list bs; many = sym e; here = λ z. refl; wholes = w; words_are = refl }

module _ {rest words : List ℕ} {left : ℕ} (l : OpsLeft rest left words) (h : 0 < left) where
  -- there is a code, all of it
  pub some : 0 < length rest
  some = go rest (l.here h)
    where
      go : (r : List ℕ) → list r ≡ l.codes → 0 < length r
      go [] e = absurd (omega (arith, l.many, ap length (sym list_none ∙ e)))
      go (b ∷ r) e = omega arith

  codes_are : l.codes ≡ rest ∷ behind rest
  codes_are = sym (l.here h) ∙ list_first rest some

  pub code_within : size_at rest ≤ length rest
  code_within =
      leb→le (size_at rest) (length rest)
      (and_l (whole rest) (all whole (behind rest)) (subst (λ (cs : List (List ℕ)). T (all whole cs)) codes_are l.wholes))

  pub words_first : {o : Op} → o ≡ operation_at rest → words ≡ words_of o ++ op_words (behind rest)
  unfolding op_words
  words_first e =
      l.words_are ∙ ap op_words codes_are ∙ ap (λ (r : Op). words_of r ++ op_words (behind rest)) (sym e)

  pub ops_turn : OpsLeft (drop (size_at rest) rest) (left - 1) (op_words (behind rest))
  ops_turn = record {
    codes = behind rest;
    many = omega (arith, l.many, ap length codes_are);
    here = λ z. go (ends (operation_at rest)) (omega (arith, l.many, ap length codes_are, z));
    wholes = and_r (whole rest) (all whole (behind rest)) (subst (λ (cs : List (List ℕ)). T (all whole cs)) codes_are l.wholes);
    words_are = refl;
  }
    where
      go : (t : Bool) → 0 < length (cond t [] (list (drop (size_at rest) rest))) → list (drop (size_at rest) rest) ≡ cond t [] (list (drop (size_at rest) rest))
      go true q = absurd (omega (arith, q))
      go false q = refl

pub ops_done : {rest words : List ℕ} {left : ℕ} → OpsLeft rest left words → left ≡ 0 → words ≡ []
unfolding op_words
ops_done l e = l.words_are ∙ ap op_words (nil_from_length l.codes (omega (arith, l.many)))

-- and put
pub record Putting (d : List ℕ) (at : ℕ) (t d₁ : List ℕ) (p : ℕ) (rest : List ℕ) (left : ℕ) : Type 0 where
  pub words : List ℕ
  pub codes : OpsLeft rest left words
  pub text : Fitting d at t d₁ p words

pub put_all : {bs d : List ℕ} {at n : ℕ} → n ≡ length (list bs) → T (all whole (list bs)) → at + 4 * n ≤ length d → length d ≤ MAX
    → Putting d at (op_words (list bs)) d at bs n
put_all {bs} e w r m = record { words = op_words (list bs); codes = ops_all e w; text = fitting_all (omega (arith, r, e, ops_length (list bs))) m }

module _ {d t d₁ rest : List ℕ} {at p left : ℕ} (l : Putting d at t d₁ p rest left) (h : 0 < left) {o : Op} (e : o ≡ operation_at rest) where
  pub op_room : p + length (words_of o) ≤ length d₁
  op_room = omega (arith, fitting_room l.text, ap length (words_first l.codes h e), length-append (words_of o) (op_words (behind rest)))

  pub put_turn : {d₂ : List ℕ} {q : ℕ} → Put d₁ p (words_of o) d₂ q → Putting d at t d₂ q (drop (size_at rest) rest) (left - 1)
  put_turn x = record { words = op_words (behind rest); codes = ops_turn l.codes h; text = fitting_put l.text (words_first l.codes h e) x }

pub put_done : {d t d₁ rest : List ℕ} {at p left : ℕ} → Putting d at t d₁ p rest left → left ≡ 0 → Put d at t d₁ p
put_done l e = (fitting_none l.text (ops_done l.codes e)).0

-- ---- the call

pub body_length : (address size : ℕ) (bs : List ℕ) → length (arm_body address size bs) ≡ 3 + 4 * length (list bs)
unfolding arm_body
body_length address size bs = omega (arith, ops_length (list bs))

module _ (bs : List ℕ) (address size : ℕ) (d : List ℕ) where
  -- 12 and 4
  pub decode_refused : (r : Refusal) → number r ≡ arm_number bs → Fills (decoded bs address size (length d)) d d (Err r)
  unfolding decoded
  decode_refused r h = rw (← h, ne_eqb (number r) 0 (numbered r)) (fills_refused r d)

  -- 9
  pub decode_short : {n : ℕ} → arm_number bs ≡ 0 → n ≡ length (list bs) → length d < 3 + 4 * n → Fills (decoded bs address size (length d)) d d (Err Room)
  unfolding decoded
  decode_short z e h = rw z (fills_short (arm_body address size bs) d (omega (arith, body_length address size bs)))

  -- all of it
  pub decode_filled : {n r : ℕ} {d' : List ℕ} → arm_number bs ≡ 0 → n ≡ length (list bs) → 3 + 4 * n ≤ length d
      → Put d 0 (address ∷ size ∷ n ∷ op_words (list bs)) d' r → Fills (decoded bs address size (length d)) d d' (Ok r)
  unfolding decoded arm_body
  decode_filled {n} z e h p =
      rw z (fills_put (put_as p (ap (λ (m : ℕ). address ∷ size ∷ m ∷ op_words (list bs)) e)) (omega (arith, ops_length (list bs))))
