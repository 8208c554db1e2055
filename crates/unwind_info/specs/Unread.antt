-- What decoding does not read: flags, the size of the prolog, code offsets, and the info of set frame (document 02, request 1).
-- Bytes that are alike but for these come to the same.
use Rattle.std.specs.Prelude.{◌≡◌, Bool, true, false, cond, Option, None, List, [], ◌∷◌, ℕ, zero, suc, ◌+◌, ◌-◌, ◌*◌, ◌/◌, ◌%◌, ◌≤◌, ◌<◌, length, get_or, take, drop, T}
use Rattle.std.proofs.Math.Path.{refl}
use Rattle.std.proofs.Common.{sym, ap, ◌∙◌, subst, arith, get_or-take, get_or-drop, drop-drop}
use Rattle.unwind_info.specs.declared.Operation.{Operation}
use Rattle.unwind_info.specs.declared.Operation.TheVariants.{Undecodable}
use Rattle.unwind_info.specs.declared.UnwindCode.{UnwindCode}
use Rattle.unwind_info.specs.UnwindInfo.{byte, slot_at, long_at, version, slot_count, part_size, slots_of, operation_of, codes, code_at, within, codes_in, codes_of, op_words}
use Rattle.unwind_info.specs.UnwindInfo.{info_words, parts_in, infos_words, x64_body, part_number, first_refused, x64_number, decoded}
use Rattle.unwind_info.specs.Index.{same_entry}

-- ---- alike

-- two codes: the operation code, the info unless it is set frame's, and what stands in the slots behind it that it takes
pub record AlikeCode (f : ℕ) (bs cs : List ℕ) : Type 0 where
  pub operation : byte bs 1 % 16 ≡ byte cs 1 % 16
  pub info : (byte bs 1 % 16 ≡ 3 → ⊥) → byte bs 1 / 16 ≡ byte cs 1 / 16
  pub slots_behind : take (2 * slots_of (code_at f bs) - 2) (drop 2 bs) ≡ take (2 * slots_of (code_at f bs) - 2) (drop 2 cs)

-- the codes of n slots, as far as they are decoded
unfoldable pub AlikeCodes : ℕ → ℕ → ℕ → List ℕ → List ℕ → Type 0
AlikeCodes zero f n bs cs = Unit
AlikeCodes (suc k) f zero bs cs = Unit
AlikeCodes (suc k) f (suc n) bs cs =
    AlikeCode f bs cs
    × (T (within (suc n) (code_at f bs)) → AlikeCodes k f (suc n - slots_of (code_at f bs)) (drop (2 * slots_of (code_at f bs)) bs) (drop (2 * slots_of (code_at f bs)) cs))

-- two parts: the version, the count of slots, the fourth byte, and the codes
pub record AlikePart (bs cs : List ℕ) : Type 0 where
  pub length_is : length bs ≡ length cs
  pub version_is : version bs ≡ version cs
  pub count_is : slot_count bs ≡ slot_count cs
  pub frame_is : byte bs 3 ≡ byte cs 3
  pub codes_are : AlikeCodes (slot_count bs) (byte bs 3 % 16) (slot_count bs) (drop 4 bs) (drop 4 cs)

-- the parts one after the other
unfoldable pub AlikeParts : ℕ → List ℕ → List ℕ → Type 0
AlikeParts zero bs cs = Unit
AlikeParts (suc k) [] [] = Unit
AlikeParts (suc k) [] (c ∷ cs) = ⊥
AlikeParts (suc k) (b ∷ bs) [] = ⊥
AlikeParts (suc k) (b ∷ bs) (c ∷ cs) =
    AlikePart (b ∷ bs) (c ∷ cs) × AlikeParts k (drop (part_size (b ∷ bs)) (b ∷ bs)) (drop (part_size (b ∷ bs)) (c ∷ cs))

-- ---- codes

-- the bytes of slots that are the same in front
same_byte : (n i : ℕ) (bs cs : List ℕ) → take n (drop 2 bs) ≡ take n (drop 2 cs) → i < n → byte bs (2 + i) ≡ byte cs (2 + i)
same_byte n i bs cs e h = sym (front bs) ∙ ap (λ (l : List ℕ). byte l i) e ∙ front cs
  where
    front : (l : List ℕ) → byte (take n (drop 2 l)) i ≡ byte l (2 + i)
    front l = get_or-take n (drop 2 l) i 0 h ∙ get_or-drop 2 l i 0

same_slot : (n : ℕ) (bs cs : List ℕ) → take n (drop 2 bs) ≡ take n (drop 2 cs) → 2 ≤ n → slot_at bs 2 ≡ slot_at cs 2
unfolding slot_at
same_slot n bs cs e h = rw (same_byte n 0 bs cs e (omega arith), same_byte n 1 bs cs e (omega arith))

same_long : (n : ℕ) (bs cs : List ℕ) → take n (drop 2 bs) ≡ take n (drop 2 cs) → 4 ≤ n → long_at bs 2 ≡ long_at cs 2
unfolding long_at slot_at
same_long n bs cs e h =
    rw (same_byte n 0 bs cs e (omega arith), same_byte n 1 bs cs e (omega arith), same_byte n 2 bs cs e (omega arith), same_byte n 3 bs cs e (omega arith))

-- codes that are alike are the same
same_code : (f : ℕ) (bs cs : List ℕ) → AlikeCode f bs cs → code_at f bs ≡ code_at f cs
unfolding code_at
same_code f bs cs a =
    same_entry f (byte bs 1 / 16) (byte cs 1 / 16) (slot_at bs 2) (slot_at cs 2) (long_at bs 2) (long_at cs 2) (byte bs 1 % 16) a.info near far
    ∙ ap (λ (n : ℕ). get_or (codes f (byte cs 1 / 16) (slot_at cs 2) (long_at cs 2)) n None) a.operation
  where
    c : Option UnwindCode
    c = get_or (codes f (byte bs 1 / 16) (slot_at bs 2) (long_at bs 2)) (byte bs 1 % 16) None

    near : slots_of c ≡ 2 → slot_at bs 2 ≡ slot_at cs 2
    near z = same_slot (2 * slots_of c - 2) bs cs a.slots_behind (omega (arith, z))

    far : slots_of c ≡ 3 → long_at bs 2 ≡ long_at cs 2
    far z = same_long (2 * slots_of c - 2) bs cs a.slots_behind (omega (arith, z))

same_codes : (k f n : ℕ) (bs cs : List ℕ) → AlikeCodes k f n bs cs → codes_in k f n bs ≡ codes_in k f n cs
unfolding codes_in AlikeCodes
same_codes zero f n bs cs a = refl
same_codes (suc k) f zero bs cs a = refl
same_codes (suc k) f (suc n) bs cs a =
    go (within (suc n) c) refl (λ h. same_codes k f (suc n - slots_of c) (drop (2 * slots_of c) bs) (drop (2 * slots_of c) cs) (a.1 h))
    ∙ ap (λ (u : Option UnwindCode). cond (within (suc n) u) (operation_of u ∷ codes_in k f (suc n - slots_of u) (drop (2 * slots_of u) cs)) (Undecodable ∷ [])) (same_code f bs cs a.0)
  where
    c : Option UnwindCode
    c = code_at f bs

    rest : List ℕ → List Operation
    rest l = codes_in k f (suc n - slots_of c) (drop (2 * slots_of c) l)

    go : (t : Bool) → within (suc n) c ≡ t → (T (within (suc n) c) → rest bs ≡ rest cs)
        → cond t (operation_of c ∷ rest bs) (Undecodable ∷ []) ≡ cond t (operation_of c ∷ rest cs) (Undecodable ∷ [])
    go true e ih = ap (λ (l : List Operation). operation_of c ∷ l) (ih (rw e tt))
    go false e ih = refl

-- ---- parts

same_info : (bs cs : List ℕ) → AlikePart bs cs → info_words bs ≡ info_words cs
unfolding info_words codes_of
same_info bs cs a =
    ap (λ (l : List Operation). byte bs 3 % 16 ∷ byte bs 3 / 16 * 16 ∷ length l ∷ op_words l)
    (same_codes (slot_count bs) (byte bs 3 % 16) (slot_count bs) (drop 4 bs) (drop 4 cs) a.codes_are)
    ∙ rw (a.frame_is, a.count_is) refl

same_number : (bs cs : List ℕ) → AlikePart bs cs → part_number bs ≡ part_number cs
unfolding part_number
same_number bs cs a = rw (a.length_is, a.version_is, a.count_is)

-- what a body and its refusals are made of
record Same (ps qs : List (List ℕ)) : Type 0 where
  pub number : first_refused ps ≡ first_refused qs
  pub count : length ps ≡ length qs
  pub words : infos_words ps ≡ infos_words qs

same_cons : (p q : List ℕ) (ps qs : List (List ℕ)) → AlikePart p q → Same ps qs → Same (p ∷ ps) (q ∷ qs)
unfolding first_refused infos_words
same_cons p q ps qs a s =
    record { number = rw (same_number p q a, s.number); count = ap suc s.count; words = rw (same_info p q a, s.words) }

same_parts : (k : ℕ) (bs cs : List ℕ) → AlikeParts k bs cs → Same (parts_in k bs) (parts_in k cs)
unfolding AlikeParts parts_in
same_parts zero bs cs a = record { number = refl; count = refl; words = refl }
same_parts (suc k) [] [] a = record { number = refl; count = refl; words = refl }
same_parts (suc k) [] (c ∷ cs) a = absurd a
same_parts (suc k) (b ∷ bs) [] a = absurd a
same_parts (suc k) (b ∷ bs) (c ∷ cs) a =
    subst (λ (n : ℕ). Same ((b ∷ bs) ∷ parts_in k (drop (part_size (b ∷ bs)) (b ∷ bs))) ((c ∷ cs) ∷ parts_in k (drop (4 + 2 * n) (c ∷ cs)))) a.0.count_is
    (same_cons (b ∷ bs) (c ∷ cs) _ _ a.0 (same_parts k (drop (part_size (b ∷ bs)) (b ∷ bs)) (drop (part_size (b ∷ bs)) (c ∷ cs)) a.1))

-- bytes that are alike come to the same, whatever the addresses and the room
pub unread : (bs cs : List ℕ) → length bs ≡ length cs → AlikeParts (length bs) bs cs → (b e a room : ℕ) → decoded bs b e a room ≡ decoded cs b e a room
unfolding decoded x64_number x64_body
unread bs cs l h b e a room = let s = same_parts (length bs) bs cs h in rw (s.number, s.count, s.words, l)

-- ---- bytes are alike themselves, and where only the first part's flags and prolog size differ

codes_alike : (k f n : ℕ) (bs : List ℕ) → AlikeCodes k f n bs bs
unfolding AlikeCodes
codes_alike zero f n bs = tt
codes_alike (suc k) f zero bs = tt
codes_alike (suc k) f (suc n) bs = (
  record { operation = refl; info = λ h. refl; slots_behind = refl },
  λ h. codes_alike k f (suc n - slots_of (code_at f bs)) (drop (2 * slots_of (code_at f bs)) bs),
)

parts_alike : (k : ℕ) (bs : List ℕ) → AlikeParts k bs bs
unfolding AlikeParts
parts_alike zero bs = tt
parts_alike (suc k) [] = tt
parts_alike (suc k) (b ∷ bs) = (
  record {
    length_is = refl;
    version_is = refl;
    count_is = refl;
    frame_is = refl;
    codes_are = codes_alike (slot_count (b ∷ bs)) (byte (b ∷ bs) 3 % 16) (slot_count (b ∷ bs)) (drop 4 (b ∷ bs));
  },
  parts_alike k (drop (part_size (b ∷ bs)) (b ∷ bs)),
)

head_alike : (v w p q : ℕ) (bs : List ℕ) → v % 8 ≡ w % 8 → AlikeParts (length (v ∷ p ∷ bs)) (v ∷ p ∷ bs) (w ∷ q ∷ bs)
unfolding AlikeParts
head_alike v w p q bs h = (
  record {
    length_is = refl;
    version_is = h;
    count_is = refl;
    frame_is = refl;
    codes_are = codes_alike n (byte (v ∷ p ∷ bs) 3 % 16) n (drop 4 (v ∷ p ∷ bs));
  },
  rw (behind v p, behind w q) (parts_alike (suc (length bs)) (drop (2 + 2 * n) bs)),
)
  where
    n : ℕ
    n = slot_count (v ∷ p ∷ bs)

    behind : (x y : ℕ) → drop (4 + 2 * n) (x ∷ y ∷ bs) ≡ drop (2 + 2 * n) bs
    behind x y = let z : 4 + 2 * n ≡ 2 + (2 + 2 * n) = omega arith in rw z (sym (drop-drop (2 + 2 * n) 2 (x ∷ y ∷ bs)))

pub unread_head : (v w p q : ℕ) (bs : List ℕ) → v % 8 ≡ w % 8 → (b e a room : ℕ) → decoded (v ∷ p ∷ bs) b e a room ≡ decoded (w ∷ q ∷ bs) b e a room
unread_head v w p q bs h b e a room = unread (v ∷ p ∷ bs) (w ∷ q ∷ bs) refl (head_alike v w p q bs h) b e a room
