-- What decoding does not read (document 02, request 3): nothing behind a code that ends the list.
use Rattle.std.specs.Prelude.{◌≡◌, refl, Bool, true, false, cond, ◌&&◌, ◌||◌, List, [], ◌∷◌, ◌++◌, ℕ, zero, suc, ◌≤◌, T, length, drop}
use Rattle.std.proofs.Common.{sym, ap, ◌∙◌, arith, length-append, length-drop, leb→le, le-leb}
use Rattle.std.proofs.lemmas.List.{get_or_append_left, drop-append-le}
use Rattle.text.specs.Tests.{and_l, and_r, all}
use Rattle.unwind_codes.specs.UnwindCodes.{code_of, meant, number, size_at, operation_at, whole, ends, list_in, op_words, arm_body, arm_number, decoded}
use Rattle.unwind_codes.specs.Index.{size_some}

-- the list of bs ends at a code that ends it, and each of its at most k codes is whole
unfoldable pub ends_in : ℕ → List ℕ → Bool
ends_in zero bs = false
ends_in (suc k) [] = false
ends_in (suc k) (b ∷ bs) = whole (b ∷ bs) && (ends (operation_at (b ∷ bs)) || ends_in k (drop (size_at (b ∷ bs)) (b ∷ bs)))

abbrev pub ends_itself : List ℕ → Bool
ends_itself bs = ends_in (length bs) bs

-- ---- a code that is whole is the same whatever stands behind it

number_front : (n : ℕ) (bs rest : List ℕ) → n ≤ length bs → number n (bs ++ rest) ≡ number n bs
unfolding number
number_front zero bs rest h = refl
number_front (suc n) bs rest h = omega (arith, number_front n bs rest (omega arith), get_or_append_left bs rest 0 n (omega arith))

operation_front : (b : ℕ) (bs rest : List ℕ) → size_at (b ∷ bs) ≤ length (b ∷ bs) → operation_at ((b ∷ bs) ++ rest) ≡ operation_at (b ∷ bs)
unfolding operation_at
operation_front b bs rest h = ap (λ (n : ℕ). meant (code_of b) n) (number_front (code_of b).size (b ∷ bs) rest h)

whole_size : (bs : List ℕ) → T (whole bs) → size_at bs ≤ length bs
whole_size bs h = leb→le (size_at bs) (length bs) h

-- ---- the list

-- what a body and its refusals are made of
record Same (xs ys : List (List ℕ)) : Type 0 where
  pub count : length xs ≡ length ys
  pub words : op_words xs ≡ op_words ys
  pub wholes : all whole xs ≡ all whole ys

same_none : Same [] []
same_none = record { count = refl; words = refl; wholes = refl }

same_cons : (x y : List ℕ) (xs ys : List (List ℕ)) → operation_at x ≡ operation_at y → whole x ≡ whole y → Same xs ys → Same (x ∷ xs) (y ∷ ys)
unfolding op_words
same_cons x y xs ys e w s = record { count = ap suc s.count; words = rw (e, s.words); wholes = rw (w, s.wholes) }

same_list : (k m : ℕ) (bs rest : List ℕ) → T (ends_in k bs) → length (bs ++ rest) ≤ m → Same (list_in m (bs ++ rest)) (list_in k bs)
unfolding ends_in list_in
same_list zero m bs rest h l = absurd h
same_list (suc k) m [] rest h l = absurd h
same_list (suc k) zero (b ∷ bs) rest h l = absurd (omega (arith, l))
same_list (suc k) (suc m) (b ∷ bs) rest h l =
    same_cons ((b ∷ bs) ++ rest) (b ∷ bs) _ _ (operation_front b bs rest w) wholes
    (go (ends (operation_at (b ∷ bs))) (ap ends (operation_front b bs rest w)) (and_r (whole (b ∷ bs)) _ h) (λ q. same_list k m (drop (size_at (b ∷ bs)) (b ∷ bs)) rest q shorter))
  where
    w : size_at (b ∷ bs) ≤ length (b ∷ bs)
    w = whole_size (b ∷ bs) (and_l (whole (b ∷ bs)) _ h)

    wholes : whole ((b ∷ bs) ++ rest) ≡ whole (b ∷ bs)
    wholes =
        le-leb (size_at (b ∷ bs)) (length ((b ∷ bs) ++ rest)) (omega (arith, w, length-append (b ∷ bs) rest))
        ∙ sym (le-leb (size_at (b ∷ bs)) (length (b ∷ bs)) w)

    shorter : length (drop (size_at (b ∷ bs)) (b ∷ bs) ++ rest) ≤ m
    shorter =
        omega (arith, l, length-append bs rest, length-append (drop (size_at (b ∷ bs)) (b ∷ bs)) rest, length-drop (size_at (b ∷ bs)) (b ∷ bs), size_some b)

    behind : drop (size_at (b ∷ bs)) ((b ∷ bs) ++ rest) ≡ drop (size_at (b ∷ bs)) (b ∷ bs) ++ rest
    behind = drop-append-le (size_at (b ∷ bs)) (b ∷ bs) rest w

    go : (t : Bool) → ends (operation_at ((b ∷ bs) ++ rest)) ≡ t → T (t || ends_in k (drop (size_at (b ∷ bs)) (b ∷ bs)))
        → (T (ends_in k (drop (size_at (b ∷ bs)) (b ∷ bs))) → Same (list_in m (drop (size_at (b ∷ bs)) (b ∷ bs) ++ rest)) (list_in k (drop (size_at (b ∷ bs)) (b ∷ bs))))
        → Same (cond (ends (operation_at ((b ∷ bs) ++ rest))) [] (list_in m (drop (size_at (b ∷ bs)) ((b ∷ bs) ++ rest)))) (cond t [] (list_in k (drop (size_at (b ∷ bs)) (b ∷ bs))))
    go true e q ih = rw e same_none
    go false e q ih = rw (e, behind) (ih q)

-- ---- the law

-- bytes behind a code that ends the list are not read: the call comes to the same without them
pub unread : (bs rest : List ℕ) → T (ends_itself bs) → (address size room : ℕ) → decoded (bs ++ rest) address size room ≡ decoded bs address size room
unfolding decoded arm_number arm_body
unread bs rest h address size room =
    let s = same_list (length bs) (length (bs ++ rest)) bs rest h (omega arith) in
    rw (s.count, s.words, s.wholes)
