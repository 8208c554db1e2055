-- The forms that the code's iterators walk: the first code and the operations behind it, the first part and those behind it.
use Rattle.std.specs.Prelude.{◌≡◌, Bool, true, false, cond, ◌&&◌, ◌||◌, List, [], ◌∷◌, Option, Some, None, length, get_or, take, drop, T, eqb, ltb, leb}
use Rattle.std.proofs.Math.Path.{refl}
use Rattle.std.proofs.Common.{sym, ap, ◌∙◌, arith, length-drop, get_or-drop, leb→le, le-leb, lt-ltb, le-ltb, ltb-false, eq-eqb, ne_eqb}
use Prim.Native.Nat.{ℕ, zero, suc, ◌+◌, ◌-◌, ◌*◌, ◌/◌, ◌%◌, ◌≤◌, ◌<◌}
use Rattle.std.proofs.Math.ListN.{get_or-map, get_or-eq_default}
use Rattle.std.proofs.lemmas.List.{get_or-take, drop-take, length-take-le}
use Rattle.std.proofs.Math.Dec.{eqb-suc-zero}
use Rattle.text.specs.Tests.{and_l, and_r, at, Others, others}
use Rattle.std.proofs.Math.Decide.{dec_lt}
use Rattle.unwind_info.specs.declared.Operation.{Operation}
use Rattle.unwind_info.specs.declared.UnwindCode.{UnwindCode}
use Rattle.unwind_info.specs.declared.Operation.TheVariants.{PushNonVolatile, Alloc, Undecodable}
use Rattle.unwind_info.specs.UnwindInfo.{byte, slot_at, long_at, slot_count, part_size, code, slots_of}
use Rattle.unwind_info.specs.UnwindInfo.{operation_of, alloc_large, push_machframe, codes, code_at, within, codes_in, codes_of, op_words}
use Rattle.unwind_info.specs.UnwindInfo.{info_words, parts_in, parts, part_number}

-- ---- the table

-- an entry of the table uses the slot behind it only where it takes two, both only where it takes three, and set frame no info
module _ (f i i' near near' far far' : ℕ) where
  -- of operation code c, x of one table and y of the other
  abbrev Uses : ℕ → Option UnwindCode → Option UnwindCode → Type 0
  Uses c x y = ((c ≡ 3 → ⊥) → i ≡ i') → (slots_of x ≡ 2 → near ≡ near') → (slots_of x ≡ 3 → far ≡ far') → x ≡ y

  -- of the codes from c on
  abbrev UsesFrom : ℕ → List (Option UnwindCode) → List (Option UnwindCode) → Type 0
  UsesFrom c [] [] = Unit
  UsesFrom c [] (y ∷ ys) = ⊥
  UsesFrom c (x ∷ xs) [] = ⊥
  UsesFrom c (x ∷ xs) (y ∷ ys) = Uses c x y × UsesFrom (suc c) xs ys

  entry_of : (c n : ℕ) (xs ys : List (Option UnwindCode)) → UsesFrom c xs ys → Uses (c + n) (get_or xs n None) (get_or ys n None)
  entry_of c n [] [] h e p q = refl
  entry_of c n [] (y ∷ ys) h e p q = absurd h
  entry_of c n (x ∷ xs) [] h e p q = absurd h
  entry_of c zero (x ∷ xs) (y ∷ ys) h e p q = let z : c + 0 ≡ c = omega arith in h.0 (rw z at e) p q
  entry_of c (suc n) (x ∷ xs) (y ∷ ys) h e p q = let z : c + suc n ≡ suc c + n = omega arith in entry_of (suc c) n xs ys h.1 (rw z at e) p q

  alloc : i ≡ i' → (slots_of (alloc_large i near far) ≡ 2 → near ≡ near') → (slots_of (alloc_large i near far) ≡ 3 → far ≡ far')
      → alloc_large i near far ≡ alloc_large i' near' far'
  alloc e n g = go (eqb i 0) (eqb i 1) refl refl
    where
      go : (s t : Bool) → eqb i 0 ≡ s → eqb i 1 ≡ t → alloc_large i near far ≡ alloc_large i' near' far'
      go true t p q = rw (← e, n (rw p refl), p)
      go false true p q = rw (← e, g (rw (p, q) refl), p, q)
      go false false p q = rw (← e, p, q)

  same_table : UsesFrom 0 (codes f i near far) (codes f i' near' far')
  unfolding codes
  same_table = (
    λ e p q. rw (e (λ z. omega (arith, z))),
    (
      λ e p q. alloc (e (λ z. omega (arith, z))) p q,
      (
        λ e p q. rw (e (λ z. omega (arith, z))),
        (
          λ e p q. refl,
          (
            λ e p q. rw (e (λ z. omega (arith, z)), p refl),
            (
              λ e p q. rw (e (λ z. omega (arith, z)), q refl),
              (
                λ e p q. refl,
                (
                  λ e p q. refl,
                  (
                    λ e p q. refl,
                    (
                      λ e p q. refl,
                      (λ e p q. rw (e (λ z. omega (arith, z))), tt),
                    ),
                  ),
                ),
              ),
            ),
          ),
        ),
      ),
    ),
  )

  pub same_entry : (c : ℕ) → Uses c (get_or (codes f i near far) c None) (get_or (codes f i' near' far') c None)
  same_entry c = let z : 0 + c ≡ c = omega arith in rw z at (entry_of 0 c (codes f i near far) (codes f i' near' far') same_table)

-- how many slots it takes does not depend on what stands in them
slots_same : (f i near near' far far' c : ℕ) → slots_of (get_or (codes f i near far) c None) ≡ slots_of (get_or (codes f i near' far') c None)
unfolding codes
slots_same f i near near' far far' c =
    sym (get_or-map slots_of (codes f i near far) c None)
    ∙ ap (λ (n : ℕ). get_or (1 ∷ n ∷ 1 ∷ 1 ∷ 2 ∷ 3 ∷ 0 ∷ 0 ∷ 2 ∷ 3 ∷ slots_of (push_machframe i) ∷ []) c 0) (alloc (eqb i 0) (eqb i 1))
    ∙ get_or-map slots_of (codes f i near' far') c None
  where
    alloc : (s t : Bool) → slots_of (cond s (code 2 (Alloc (8 * near))) (cond t (code 3 (Alloc far)) None))
        ≡ slots_of (cond s (code 2 (Alloc (8 * near'))) (cond t (code 3 (Alloc far')) None))
    alloc true t = refl
    alloc false true = refl
    alloc false false = refl

-- ---- a code by its place

slot_drop : (bs : List ℕ) (i j : ℕ) → slot_at (drop i bs) j ≡ slot_at bs (i + j)
unfolding slot_at
slot_drop bs i j = let e : i + (j + 1) ≡ i + j + 1 = omega arith in rw (get_or-drop i bs j 0, get_or-drop i bs (j + 1) 0, e)

long_drop : (bs : List ℕ) (i j : ℕ) → long_at (drop i bs) j ≡ long_at bs (i + j)
unfolding long_at
long_drop bs i j = let e : i + (j + 2) ≡ i + j + 2 = omega arith in rw (slot_drop bs i j, slot_drop bs i (j + 2), e)

pub code_drop : (f : ℕ) (bs : List ℕ) (i : ℕ)
    → code_at f (drop i bs) ≡ get_or (codes f (byte bs (i + 1) / 16) (slot_at bs (i + 2)) (long_at bs (i + 2))) (byte bs (i + 1) % 16) None
unfolding code_at
code_drop f bs i = rw (get_or-drop i bs 1 0, slot_drop bs i 2, long_drop bs i 2)

-- the codes that the page names, up to 10
abbrev named : ℕ → Bool
named c = ltb c 6 || leb 8 c

-- a code that it does not name, as the last arm of a `match` is told it
pub no_code : (f i near far c : ℕ) → Others named 11 c → get_or (codes f i near far) c None ≡ None
unfolding codes
no_code f i near far c h = elim (dec_lt c 11) [
  | yes l ↦ is_none (get_or (codes f i near far) c None) (rw (others named 11 c h l) at (at 11 (λ (n : ℕ). named n || is_missing (get_or (codes f i near far) n None)) tt c l))
  | no l ↦ get_or-eq_default (codes f i near far) None {n = c} (omega arith)
]
  where
    is_missing : Option UnwindCode → Bool
    is_missing None = true
    is_missing (Some u) = false

    is_none : (u : Option UnwindCode) → T (is_missing u) → u ≡ None
    is_none None h = refl
    is_none (Some u) h = absurd h

-- ---- the operations of a part

-- where n slots are left: none where it runs past them
abbrev pub taken : ℕ → Option UnwindCode → Option UnwindCode
taken n c = cond (within n c) c None

-- a push by its byte
pub push_taken : (bs : List ℕ) (i left b f : ℕ) → 0 < left → b ≡ byte bs (i + 1) → b % 16 ≡ 0 → code 1 (PushNonVolatile (b / 16)) ≡ taken left (code_at f (drop i bs))
unfolding codes
push_taken bs i left b f h e z = rw (code_drop f bs i, ← e, z, le-leb 1 left (omega arith))

pub within_slots : (n : ℕ) (c : Option UnwindCode) → T (within n c) → (1 ≤ slots_of c) × (slots_of c ≤ n)
within_slots n c h = (leb→le 1 (slots_of c) (and_l (leb 1 (slots_of c)) _ h), leb→le (slots_of c) n (and_r (leb 1 (slots_of c)) _ h))

pub taken_slots : {u : UnwindCode} (n : ℕ) (c : Option UnwindCode) → taken n c ≡ Some u → (1 ≤ u.slots) × (u.slots ≤ n)
taken_slots {u} n c e = go (within n c) refl e
  where
    go : (t : Bool) → within n c ≡ t → cond t c None ≡ Some u → (1 ≤ u.slots) × (u.slots ≤ n)
    go true p q = let w = within_slots n c (rw p tt) in let s : slots_of c ≡ u.slots = ap slots_of q in (omega (arith, w), omega (arith, w))
    go false p q = let z : ◌≡◌ {A = ℕ} 0 1 = cc in absurd (omega arith)

module _ (f : ℕ) where
  -- with room enough the bound does not matter
  codes_same : (k m n : ℕ) (bs : List ℕ) → n ≤ k → n ≤ m → codes_in k f n bs ≡ codes_in m f n bs
  unfolding codes_in
  codes_same zero zero n bs p q = refl
  codes_same zero (suc m) zero bs p q = refl
  codes_same zero (suc m) (suc n) bs p q = absurd (omega arith)
  codes_same (suc k) zero zero bs p q = refl
  codes_same (suc k) zero (suc n) bs p q = absurd (omega arith)
  codes_same (suc k) (suc m) zero bs p q = refl
  codes_same (suc k) (suc m) (suc n) bs p q =
      go (within (suc n) c) refl (λ h. codes_same k m (suc n - slots_of c) (drop (2 * slots_of c) bs) (omega arith) (omega arith))
    where
      c : Option UnwindCode
      c = code_at f bs

      go : (t : Bool) → within (suc n) c ≡ t
          → (1 ≤ slots_of c → codes_in k f (suc n - slots_of c) (drop (2 * slots_of c) bs) ≡ codes_in m f (suc n - slots_of c) (drop (2 * slots_of c) bs))
          → cond t (operation_of c ∷ codes_in k f (suc n - slots_of c) (drop (2 * slots_of c) bs)) (Undecodable ∷ [])
          ≡ cond t (operation_of c ∷ codes_in m f (suc n - slots_of c) (drop (2 * slots_of c) bs)) (Undecodable ∷ [])
      go true e ih = ap (λ (l : List Operation). operation_of c ∷ l) (ih (within_slots (suc n) c (rw e tt)).0)
      go false e ih = refl

  -- those behind the first code
  abbrev pub behind : ℕ → Option UnwindCode → List ℕ → List Operation
  behind n None bs = []
  behind n (Some c) bs = codes_in (n - c.slots) f (n - c.slots) (drop (2 * c.slots) bs)

  first_of : (c : Option UnwindCode) (n : ℕ) (bs : List ℕ)
      → cond (within (suc n) c) (operation_of c ∷ codes_in n f (suc n - slots_of c) (drop (2 * slots_of c) bs)) (Undecodable ∷ [])
      ≡ operation_of (taken (suc n) c) ∷ behind (suc n) (taken (suc n) c) bs
  first_of None n bs = refl
  first_of (Some c) n bs = go (within (suc n) (Some c)) refl
    where
      go : (t : Bool) → within (suc n) (Some c) ≡ t → cond t (c.operation ∷ codes_in n f (suc n - c.slots) (drop (2 * c.slots) bs)) (Undecodable ∷ [])
          ≡ operation_of (cond t (Some c) None) ∷ behind (suc n) (cond t (Some c) None) bs
      go true e =
          let s = within_slots (suc n) (Some c) (rw e tt) in
          ap (λ (l : List Operation). c.operation ∷ l) (codes_same n (suc n - c.slots) (suc n - c.slots) (drop (2 * c.slots) bs) (omega (arith, s)) (omega arith))
      go false e = refl

  pub codes_first : (n : ℕ) (bs : List ℕ) → 0 < n → codes_in n f n bs ≡ operation_of (taken n (code_at f bs)) ∷ behind n (taken n (code_at f bs)) bs
  unfolding codes_in
  codes_first zero bs h = absurd (omega arith)
  codes_first (suc n) bs h = first_of (code_at f bs) n bs

  -- those of slots to their end
  abbrev pub operations : List ℕ → List Operation
  operations bs = codes_in (length bs / 2) f (length bs / 2) bs

  pub operations_none : operations [] ≡ []
  unfolding codes_in
  operations_none = refl

  pub no_operations : (bs : List ℕ) → length bs ≡ 0 → operations bs ≡ []
  no_operations [] h = operations_none
  no_operations (b ∷ bs) h = absurd (omega arith)

  -- the first one, and those behind it: none behind one that is undecodable
  pub operations_last : (bs : List ℕ) → 2 ≤ length bs → taken (length bs / 2) (code_at f bs) ≡ None → operations bs ≡ Undecodable ∷ []
  operations_last bs h e = codes_first (length bs / 2) bs (omega arith) ∙ rw e refl

  pub operations_first : {c : UnwindCode} (bs : List ℕ) → 2 ≤ length bs → taken (length bs / 2) (code_at f bs) ≡ Some c
      → operations bs ≡ c.operation ∷ operations (drop (2 * c.slots) bs)
  operations_first {c} bs h e =
      let n : length (drop (2 * c.slots) bs) / 2 ≡ length bs / 2 - c.slots = omega (arith, length-drop (2 * c.slots) bs) in
      codes_first (length bs / 2) bs (omega arith) ∙ rw (e, n) refl

  -- a push, and those behind it
  pub operations_push : (bs : List ℕ) → 2 ≤ length bs → byte bs 1 % 16 ≡ 0 → operations bs ≡ PushNonVolatile (byte bs 1 / 16) ∷ operations (drop 2 bs)
  operations_push bs h z = operations_first bs h (sym (push_taken bs 0 (length bs / 2) (byte bs 1) f (omega arith) refl z))

-- there are no more operations than slots
pub codes_few : (k f n : ℕ) (bs : List ℕ) → length (codes_in k f n bs) ≤ n
unfolding codes_in
codes_few zero f n bs = omega arith
codes_few (suc k) f zero bs = omega arith
codes_few (suc k) f (suc n) bs = go (within (suc n) c) refl (codes_few k f (suc n - slots_of c) (drop (2 * slots_of c) bs))
  where
    c : Option UnwindCode
    c = code_at f bs

    go : (t : Bool) → within (suc n) c ≡ t → length (codes_in k f (suc n - slots_of c) (drop (2 * slots_of c) bs)) ≤ suc n - slots_of c
        → length (cond t (operation_of c ∷ codes_in k f (suc n - slots_of c) (drop (2 * slots_of c) bs)) (Undecodable ∷ [])) ≤ suc n
    go true e ih = omega (arith, ih, within_slots (suc n) c (rw e tt))
    go false e ih = omega arith

pub codes_few_of : (p : List ℕ) → length (codes_of p) ≤ slot_count p
unfolding codes_of
codes_few_of p = codes_few (slot_count p) (byte p 3 % 16) (slot_count p) (drop 4 p)

pub ops_length : (os : List Operation) → length (op_words os) ≡ 3 * length os
unfolding op_words
ops_length [] = refl
ops_length (o ∷ os) = omega (arith, ops_length os)

-- ---- what stands behind the slots does not matter

module _ (n : ℕ) (bs : List ℕ) where
  slot_cut : 4 ≤ n → slot_at bs 2 ≡ slot_at (take n bs) 2
  unfolding slot_at
  slot_cut h = rw (get_or-take n bs 2 0 (omega arith), get_or-take n bs 3 0 (omega arith))

  long_cut : 6 ≤ n → long_at bs 2 ≡ long_at (take n bs) 2
  unfolding long_at slot_at
  long_cut h = rw (get_or-take n bs 2 0 (omega arith), get_or-take n bs 3 0 (omega arith), get_or-take n bs 4 0 (omega arith), get_or-take n bs 5 0 (omega arith))

  slots_cut : (f : ℕ) → 2 ≤ n → slots_of (code_at f (take n bs)) ≡ slots_of (code_at f bs)
  unfolding code_at
  slots_cut f h =
      rw (get_or-take n bs 1 0 (omega arith))
      (slots_same f (byte bs 1 / 16) (slot_at (take n bs) 2) (slot_at bs 2) (long_at (take n bs) 2) (long_at bs 2) (byte bs 1 % 16))

  code_cut : (f : ℕ) → 2 ≤ n → 2 * slots_of (code_at f bs) ≤ n → code_at f bs ≡ code_at f (take n bs)
  unfolding code_at
  code_cut f h l =
      rw (get_or-take n bs 1 0 (omega arith))
      (same_entry f (byte bs 1 / 16) (byte bs 1 / 16) (slot_at bs 2) (slot_at (take n bs) 2) (long_at bs 2) (long_at (take n bs) 2) (byte bs 1 % 16) (λ z. refl)
      (λ z. slot_cut (omega (arith, z))) (λ z. long_cut (omega (arith, z))))

codes_cut : (k f n : ℕ) (bs : List ℕ) → 2 * n ≤ length bs → codes_in k f n (take (2 * n) bs) ≡ codes_in k f n bs
unfolding codes_in
codes_cut zero f n bs h = refl
codes_cut (suc k) f zero bs h = refl
codes_cut (suc k) f (suc n) bs h =
    go (within (suc n) c) refl
    (λ (l : 2 * (suc n - slots_of c) ≤ length (drop (2 * slots_of c) bs)). codes_cut k f (suc n - slots_of c) (drop (2 * slots_of c) bs) l)
  where
    c : Option UnwindCode
    c = code_at f bs

    cut : Option UnwindCode
    cut = code_at f (take (2 * suc n) bs)

    rest : List ℕ → Option UnwindCode → List Operation
    rest l u = codes_in k f (suc n - slots_of u) (drop (2 * slots_of u) l)

    same : within (suc n) cut ≡ within (suc n) c
    same = ap (λ (s : ℕ). leb 1 s && leb s (suc n)) (slots_cut (2 * suc n) bs f (omega arith))

    go : (t : Bool) → within (suc n) c ≡ t
        → (2 * (suc n - slots_of c) ≤ length (drop (2 * slots_of c) bs)
        → codes_in k f (suc n - slots_of c) (take (2 * (suc n - slots_of c)) (drop (2 * slots_of c) bs)) ≡ rest bs c)
        → cond (within (suc n) cut) (operation_of cut ∷ rest (take (2 * suc n) bs) cut) (Undecodable ∷ []) ≡ cond (within (suc n) c) (operation_of c ∷ rest bs c) (Undecodable ∷ [])
    go true e ih =
        let s = within_slots (suc n) c (rw e tt) in
        let z : 2 * suc n ≡ 2 * slots_of c + 2 * (suc n - slots_of c) = omega (arith, s) in
        let d : drop (2 * slots_of c) (take (2 * suc n) bs) ≡ take (2 * (suc n - slots_of c)) (drop (2 * slots_of c) bs) =
        ap (λ (m : ℕ). drop (2 * slots_of c) (take m bs)) z ∙ drop-take (2 * slots_of c) (2 * (suc n - slots_of c)) bs in
        rw (same, e, ← code_cut (2 * suc n) bs f (omega arith) (omega (arith, s)))
        (ap (λ (l : List Operation). operation_of c ∷ l)
        (ap (codes_in k f (suc n - slots_of c)) d ∙ ih (omega (arith, s, h, length-drop (2 * slots_of c) bs))))
    go false e ih = rw (same, e) refl

pub operations_cut : (f n : ℕ) (bs : List ℕ) → 2 * n ≤ length bs → operations f (take (2 * n) bs) ≡ codes_in n f n bs
operations_cut f n bs h =
    let e : length (take (2 * n) bs) / 2 ≡ n = omega (arith, length-take-le (2 * n) bs h) in
    rw e (codes_cut n f n bs h)

-- an info has three words, and three for each code; there are no more of these than slots
pub info_size : (p : List ℕ) → length (info_words p) ≡ 3 + 3 * length (codes_of p)
unfolding info_words
info_size p = omega (arith, ops_length (codes_of p))

pub info_length : (p : List ℕ) → length (info_words p) ≤ 3 + 3 * slot_count p
info_length p = omega (arith, info_size p, codes_few_of p)

-- ---- the parts

parts_same : (k m : ℕ) (bs : List ℕ) → length bs ≤ k → length bs ≤ m → parts_in k bs ≡ parts_in m bs
unfolding parts_in
parts_same zero zero bs p q = refl
parts_same zero (suc m) [] p q = refl
parts_same zero (suc m) (b ∷ bs) p q = absurd (omega arith)
parts_same (suc k) zero [] p q = refl
parts_same (suc k) zero (b ∷ bs) p q = absurd (omega arith)
parts_same (suc k) (suc m) [] p q = refl
parts_same (suc k) (suc m) (b ∷ bs) p q =
    let s = length-drop (part_size (b ∷ bs)) (b ∷ bs) in
    ap (λ (l : List (List ℕ)). (b ∷ bs) ∷ l) (parts_same k m (drop (part_size (b ∷ bs)) (b ∷ bs)) (omega (arith, s)) (omega (arith, s)))

-- the first part, and those behind it
pub parts_first : (bs : List ℕ) → 0 < length bs → parts bs ≡ bs ∷ parts (drop (part_size bs) bs)
unfolding parts_in
parts_first [] h = absurd (omega arith)
parts_first (b ∷ bs) h =
    let s = length-drop (part_size (b ∷ bs)) (b ∷ bs) in
    ap (λ (l : List (List ℕ)). (b ∷ bs) ∷ l)
    (parts_same (length bs) (length (drop (part_size (b ∷ bs)) (b ∷ bs))) (drop (part_size (b ∷ bs)) (b ∷ bs)) (omega (arith, s)) (omega arith))

pub parts_none : parts [] ≡ []
unfolding parts_in
parts_none = refl

-- a part that is not turned away lies within the bytes
pub part_whole : (bs : List ℕ) → part_number bs ≡ 0 → part_size bs ≤ length bs
unfolding part_number
part_whole bs e = go (eqb (byte bs 0 % 8) 1) (ltb (length bs) (part_size bs)) refl e
  where
    go : (v t : Bool) → ltb (length bs) (part_size bs) ≡ t → ◌≡◌ {A = ℕ} (cond v (cond t 11 0) 10) 0 → part_size bs ≤ length bs
    go true true p q = absurd (omega (arith, q))
    go true false p q = ltb-false (length bs) (part_size bs) p
    go false t p q = absurd (omega (arith, q))

-- 10, 11 and 0, by the version v and the size n that were read
pub is_version : {v : ℕ} (bs : List ℕ) → v ≡ byte bs 0 → (v % 8 ≡ 1 → ⊥) → 10 ≡ part_number bs
unfolding part_number
is_version {v} bs e h = rw (← e, ne_eqb (v % 8) 1 h)

pub is_short : {v n : ℕ} (bs : List ℕ) → v ≡ byte bs 0 → n ≡ part_size bs → v % 8 ≡ 1 → length bs < n → 11 ≡ part_number bs
unfolding part_number
is_short {v} {n} bs e s h l = rw (← e, eq-eqb (v % 8) 1 h, lt-ltb (length bs) (part_size bs) (omega (arith, s, l)))

pub is_whole : {v n : ℕ} (bs : List ℕ) → v ≡ byte bs 0 → n ≡ part_size bs → v % 8 ≡ 1 → n ≤ length bs → 0 ≡ part_number bs
unfolding part_number
is_whole {v} {n} bs e s h l = rw (← e, eq-eqb (v % 8) 1 h, le-ltb (length bs) (part_size bs) (omega (arith, s, l)))

-- a number that is looked at first, and x only where it is 0: where neither says anything, both are 0
pub zero_both : (n x : ℕ) → cond (eqb n 0) x n ≡ 0 → (n ≡ 0) × (x ≡ 0)
zero_both zero x e = (refl, e)
zero_both (suc n) x e = absurd (omega (arith, rw (eqb-suc-zero n) at e))
