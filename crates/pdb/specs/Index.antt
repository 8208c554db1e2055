-- The parts of a body as the code has them, what the layout gives, and what is left of a text that is trimmed.
use Rattle.std.specs.Prelude.{◌≡◌, refl, ℕ, zero, suc, ◌+◌, ◌-◌, ◌*◌, ◌/◌, ◌≤◌, ◌<◌, length, get_or, take, drop, map, T, leb, eqb}
use Rattle.std.specs.Prelude.{Bool, true, false, not, cond, ◌&&◌, Option, Ok}
use Rattle.std.proofs.Common.{sym, ap, ◌∙◌, arith, add-one, length-take, length-drop, drop-cons, ne_eqb, eq-eqb, leb→le, eqb→eq}
use Rattle.std.proofs.lemmas.List.{take-append-drop, nil_from_length}
use Rattle.std.specs.Simd.{first_chunks}
use mathlib.Core.List.{List, [], ◌∷◌, ◌++◌, reverse, reverse_aux, reverse-append, reverse-reverse}
use lib.Pointwise.{pointwise, bytes_decides}
use borrow.Author.Tests.{le-leb, lt-leb}
use Rattle.text.specs.Text.{ascii}
use Rattle.text.specs.Tests.{and_l, and_r, both, all, one_less}
use Rattle.lines.specs.declared.StackInfo.{StackInfo}
use Rattle.lines.specs.Lines.{flag, win_text}
use Rattle.pdb.specs.declared.Part.{Part}
use Rattle.pdb.specs.declared.Part.TheVariants.{Prolog, Code}
use Rattle.pdb.specs.declared.Range.{Range}
use Rattle.refusal.specs.declared.Refusal.TheVariants.{Reach}
use Rattle.entry.specs.declared.Fate.TheVariants.{Write}
use Rattle.entry.specs.declared.Last.{Last}
use Rattle.entry.specs.Entry.{word}
use Rattle.entry.specs.Entry.Laws.{only_written}
use Rattle.pdb.specs.Pdb.{start_of, end_of, range_at, ranges, words_from, prologs, codes, program, sizes_fit, flags_fit, has_program, length_fits, counts_fit, range_fits}
use Rattle.pdb.specs.Pdb.{apart, differ, ranges_fit, printable, rest_fits, pdb_layout, pdb_skipped, in_reach, pdb_judged, lead}
use Rattle.pdb.specs.Pdb.{trim, max_stack, numbers_text, range_text, sorted, ranges_text, contiguous, both_text, pdb_text}

-- ---- the parts of a body

-- a range from its two words
unfoldable pub range_of : List ℕ → Range
range_of p = record { start = record { 0 = get_or p 0 0 }; end = record { 0 = get_or p 1 0 } }

-- ranges from such pairs of words
abbrev pub ranges_of : List (List ℕ) → List Range
ranges_of ps = map range_of ps

-- n words from word a on
abbrev pub part : ℕ → ℕ → List ℕ → List ℕ
part a n ws = take n (drop a ws)

drop_word : (ws : List ℕ) (a : ℕ) → a < length ws → drop a ws ≡ word ws a ∷ drop (a + 1) ws
drop_word ws a h = rw (add-one, drop-cons ws a 0)

pub words_part : (ws : List ℕ) (a n : ℕ) → a + n ≤ length ws → part a n ws ≡ words_from ws a n
unfolding words_from
words_part ws a zero h = refl
words_part ws a (suc n) h = rw (drop_word ws a (omega arith)) (ap (λ (l : List ℕ). word ws a ∷ l) (words_part ws (a + 1) n (omega arith)))

-- two words of them are a range
pub ranges_part : (ws : List ℕ) (a n : ℕ) → a + 2 * n ≤ length ws → ranges_of (first_chunks 2 n (part a (2 * n) ws)) ≡ ranges ws a n
unfolding ranges range_of range_at
ranges_part ws a zero h = refl
ranges_part ws a (suc n) h =
    let e : 2 * suc n ≡ suc (suc (2 * n)) = omega arith in
    let g : a + 1 + 1 ≡ a + 2 = omega arith in
    let f : drop a ws ≡ word ws a ∷ word ws (a + 1) ∷ drop (a + 2) ws
    = drop_word ws a (omega arith) ∙ ap (λ (l : List ℕ). word ws a ∷ l) (rw g at (drop_word ws (a + 1) (omega arith))) in
    rw (e, f) (ap (λ (l : List Range). range_at ws a ∷ l) (ranges_part ws (a + 2) n (omega arith)))

-- the words from a up to e, two by two
pub pairs_part : (ws : List ℕ) (a e n : ℕ) → e ≡ a + 2 * n → e ≤ length ws
    → ranges_of (first_chunks 2 (length (part a (e - a) ws) / 2) (part a (e - a) ws)) ≡ ranges ws a n
pairs_part ws a e n h k =
    let f : e - a ≡ 2 * n = omega arith in
    let l : length (part a (2 * n) ws) / 2 ≡ n = omega (arith, length-take (2 * n) (drop a ws), length-drop a ws) in
    rw (f, l) (ranges_part ws a n (omega arith))

-- ---- where the lists lie

-- the prolog ranges, or the code ranges
unfoldable pub listed : List ℕ → Bool → List Range
listed ws prolog = cond prolog (prologs ws) (codes ws)

pub prologs_at : (ws : List ℕ) (p : ℕ) → p ≡ word ws 12 → ranges ws 15 p ≡ prologs ws
unfolding prologs
prologs_at ws p e = rw e

pub codes_at : (ws : List ℕ) (p c : ℕ) → p ≡ word ws 12 → c ≡ word ws 13 → ranges ws (15 + 2 * p) c ≡ codes ws
unfolding codes
codes_at ws p c e f = rw (e, f)

pub program_at : (ws : List ℕ) (p c n : ℕ) → p ≡ word ws 12 → c ≡ word ws 13 → n ≡ word ws 14 → words_from ws (15 + 2 * p + 2 * c) n ≡ program ws
unfolding program
program_at ws p c n e f g = rw (e, f, g)

pub prologs_part : (ws : List ℕ) (a : ℕ) → a ≡ 15 + 2 * word ws 12 → a ≤ length ws
    → ranges_of (first_chunks 2 (length (part 15 (a - 15) ws) / 2) (part 15 (a - 15) ws)) ≡ prologs ws
unfolding prologs
prologs_part ws a e h = pairs_part ws 15 a (word ws 12) e h

pub codes_part : (ws : List ℕ) (a b : ℕ) → a ≡ 15 + 2 * word ws 12 → b ≡ a + 2 * word ws 13 → b ≤ length ws
    → ranges_of (first_chunks 2 (length (part a (b - a) ws) / 2) (part a (b - a) ws)) ≡ codes ws
unfolding codes
codes_part ws a b e f h = pairs_part ws a b (word ws 13) f h ∙ ap (λ (n : ℕ). ranges ws n (word ws 13)) e

pub program_part : (ws : List ℕ) (a b : ℕ) → a ≡ 15 + 2 * word ws 12 → b ≡ a + 2 * word ws 13 → b + word ws 14 ≡ length ws → part b (length ws - b) ws ≡ program ws
unfolding program
program_part ws a b e f h =
    let n : length ws - b ≡ word ws 14 = omega arith in
    let m : b ≡ 15 + 2 * word ws 12 + 2 * word ws 13 = omega arith in
    rw (n, m) (words_part ws (15 + 2 * word ws 12 + 2 * word ws 13) (word ws 14) (omega arith))

-- ---- one step of each

pub words_step : (ws : List ℕ) (a n : ℕ) → 0 < n → words_from ws a n ≡ word ws a ∷ words_from ws (a + 1) (n - 1)
unfolding words_from
words_step ws a n h = ap (words_from ws a) (one_less n h)

pub words_snoc : (ws : List ℕ) (a n : ℕ) → words_from ws a (suc n) ≡ words_from ws a n ++ (word ws (a + n) ∷ [])
unfolding words_from
words_snoc ws a zero = let e : a + 0 ≡ a = omega arith in rw e
words_snoc ws a (suc n) = let e : a + suc n ≡ a + 1 + n = omega arith in rw e (ap (λ (l : List ℕ). word ws a ∷ l) (words_snoc ws (a + 1) n))

pub words_last : (ws : List ℕ) (a n : ℕ) → 0 < n → words_from ws a n ≡ words_from ws a (n - 1) ++ (word ws (a + n - 1) ∷ [])
words_last ws a zero h = absurd (omega arith)
words_last ws a (suc n) h = let e : suc n - 1 ≡ n = omega arith in let f : a + suc n - 1 ≡ a + n = omega arith in rw (e, f) (words_snoc ws a n)

pub bytes_step : (ws : List ℕ) (a n : ℕ) → 0 < n → all printable (words_from ws a n) ≡ (printable (word ws a) && all printable (words_from ws (a + 1) (n - 1)))
bytes_step ws a n h = rw (words_step ws a n h)

-- the last one's test comes last
all_snoc : (xs : List ℕ) (x : ℕ) → all printable (xs ++ (x ∷ [])) ≡ (all printable xs && printable x)
all_snoc [] x = one (printable x)
  where
    one : (t : Bool) → (t && true) ≡ (true && t)
    one true = refl
    one false = refl
all_snoc (y ∷ ys) x = go (printable y) (all_snoc ys x)
  where
    go : (t : Bool) → all printable (ys ++ (x ∷ [])) ≡ (all printable ys && printable x) → (t && all printable (ys ++ (x ∷ []))) ≡ ((t && all printable ys) && printable x)
    go true h = h
    go false h = refl

pub bytes_more : (ws : List ℕ) (a n : ℕ) → all printable (words_from ws a (n + 1)) ≡ (all printable (words_from ws a n) && printable (word ws (a + n)))
bytes_more ws a n = rw (add-one n, words_snoc ws a n) (all_snoc (words_from ws a n) (word ws (a + n)))

pub byte_small : (c : ℕ) → T (printable c) → c ≤ 126
unfolding printable
byte_small c h = leb→le c 126 (and_r (leb 32 c) _ h)

byte_some : (c : ℕ) → T (printable c) → 32 ≤ c
unfolding printable
byte_some c h = leb→le 32 c (and_l (leb 32 c) _ h)

-- past the end stands 0, which is no byte of a program
some_within : (ws : List ℕ) (a : ℕ) → 0 < word ws a → a < length ws
some_within [] a h = absurd (omega arith)
some_within (x ∷ ws) zero h = omega arith
some_within (x ∷ ws) (suc a) h = omega (arith, some_within ws a h)

pub word_within : (ws : List ℕ) (a n i : ℕ) → T (all printable (words_from ws a n)) → i < n → (a + i < length ws) × (word ws (a + i) ≤ 126)
unfolding words_from
word_within ws a zero i h k = absurd (omega arith)
word_within ws a (suc n) zero h k =
    let t = and_l (printable (word ws a)) _ h in
    let e : a + 0 ≡ a = omega arith in
    rw e (some_within ws a (omega (arith, byte_some (word ws a) t)), byte_small (word ws a) t)
word_within ws a (suc n) (suc i) h k =
    let e : a + suc i ≡ a + 1 + i = omega arith in
    rw e (word_within ws (a + 1) n i (and_r (printable (word ws a)) _ h) (omega arith))

pub past_end : (ws : List ℕ) (a n : ℕ) → 0 < n → length ws < a + n → false ≡ all printable (words_from ws a n)
past_end ws a n h k = go (all printable (words_from ws a n)) refl
  where
    go : (t : Bool) → all printable (words_from ws a n) ≡ t → false ≡ t
    go true e = absurd (omega (arith, (word_within ws a n (n - 1) (rw e tt) (omega arith)).0))
    go false e = refl

pub apart_step : (ws : List ℕ) (s a n : ℕ) → 0 < n → apart s (ranges ws a n) ≡ (not (eqb (word ws a) s) && apart s (ranges ws (a + 2) (n - 1)))
unfolding apart ranges range_at
apart_step ws s a n h = ap (λ (k : ℕ). apart s (ranges ws a k)) (one_less n h)

-- ---- one range and those behind it

fits_cons : (r : Range) (rs : List Range) → ranges_fit (r ∷ rs) ≡ (range_fits r && (apart (start_of r) rs && ranges_fit rs))
unfolding ranges_fit differ
fits_cons r rs = go (range_fits r) (all range_fits rs) (apart (start_of r) rs) (differ rs)
  where
    go : (a b c d : Bool) → ((a && b) && (c && d)) ≡ (a && (c && (b && d)))
    go true true true d = refl
    go true true false d = refl
    go true false true d = refl
    go true false false d = refl
    go false b c d = refl

pub fits_step : (ws : List ℕ) (a n : ℕ) → 0 < n
    → ranges_fit (ranges ws a n) ≡ (range_fits (range_at ws a) && (apart (start_of (range_at ws a)) (ranges ws (a + 2) (n - 1)) && ranges_fit (ranges ws (a + 2) (n - 1))))
unfolding ranges
fits_step ws a zero h = absurd (omega arith)
fits_step ws a (suc n) h = let e : suc n - 1 ≡ n = omega arith in rw e (fits_cons (range_at ws a) (ranges ws (a + 2) n))

pub turned_fits : (r : Range) (rs : List Range) → end_of r < start_of r → ranges_fit (r ∷ rs) ≡ false
unfolding range_fits
turned_fits r rs h = rw (fits_cons r rs, lt-leb (start_of r) (end_of r) h)

pub alike_fits : (r : Range) (rs : List Range) → apart (start_of r) rs ≡ false → ranges_fit (r ∷ rs) ≡ false
alike_fits r rs h = rw (fits_cons r rs, h) (go (range_fits r))
  where
    go : (t : Bool) → (t && false) ≡ false
    go true = refl
    go false = refl

pub rest_fit : (r : Range) (rs : List Range) → start_of r ≤ end_of r → apart (start_of r) rs ≡ true → ranges_fit (r ∷ rs) ≡ ranges_fit rs
unfolding range_fits
rest_fit r rs h k = rw (fits_cons r rs, le-leb (start_of r) (end_of r) h, k)

-- ---- what the layout asks

-- the tests of the first words
abbrev pub head_fits : List ℕ → Bool
head_fits ws = sizes_fit ws && (flags_fit ws && counts_fit ws)

pub head_broken : (ws : List ℕ) → head_fits ws ≡ false → pdb_layout ws ≡ false
unfolding pdb_layout
head_broken ws h = go (sizes_fit ws) (flags_fit ws) (counts_fit ws) (rest_fits ws) h
  where
    go : (a b c d : Bool) → (a && (b && c)) ≡ false → (a && (b && (c && d))) ≡ false
    go true true true d h = absurd cc
    go true true false d h = refl
    go true false c d h = refl
    go false b c d h = refl

pub layout_by : (ws : List ℕ) (t : Bool) → head_fits ws ≡ true → rest_fits ws ≡ t → pdb_layout ws ≡ t
unfolding pdb_layout
layout_by ws t h k = go (sizes_fit ws) (flags_fit ws) (counts_fit ws) h
  where
    go : (a b c : Bool) → (a && (b && c)) ≡ true → (a && (b && (c && rest_fits ws))) ≡ t
    go true true true h = k
    go true true false h = absurd cc
    go true false c h = absurd cc
    go false b c h = absurd cc

-- the words that the counts demand
abbrev demanded : List ℕ → ℕ
demanded ws = 15 + 2 * word ws 12 + 2 * word ws 13 + word ws 14

pub rest_broken : (ws : List ℕ) → (demanded ws ≡ length ws → ⊥) → rest_fits ws ≡ false
unfolding rest_fits
rest_broken ws h = rw (ne_eqb (demanded ws) (length ws) h)

pub rest_by : (ws : List ℕ) → demanded ws ≡ length ws → rest_fits ws ≡ (ranges_fit (prologs ws) && (ranges_fit (codes ws) && all printable (program ws)))
unfolding rest_fits
rest_by ws h = rw (eq-eqb (demanded ws) (length ws) h)

-- ---- what the layout gives

pub counts_prologs : (ws : List ℕ) → T (counts_fit ws) → word ws 12 ≤ 16
unfolding counts_fit
counts_prologs ws h = leb→le (word ws 12) 16 (and_l (leb (word ws 12) 16) _ h)

pub counts_codes : (ws : List ℕ) → T (counts_fit ws) → word ws 13 ≤ 16
unfolding counts_fit
counts_codes ws h = leb→le (word ws 13) 16 (and_l (leb (word ws 13) 16) _ (and_r (leb (word ws 12) 16) _ h))

pub counts_length : (ws : List ℕ) → T (counts_fit ws) → word ws 14 ≤ 1024
unfolding counts_fit length_fits
counts_length ws h = go (has_program ws) (and_r (leb (word ws 13) 16) _ (and_r (leb (word ws 12) 16) _ h))
  where
    go : (t : Bool) → T (cond t (leb (word ws 14) 1024) (eqb (word ws 14) 0)) → word ws 14 ≤ 1024
    go true k = leb→le (word ws 14) 1024 k
    go false k = omega (arith, eqb→eq (word ws 14) 0 k)

pub layout_counts : (ws : List ℕ) → T (pdb_layout ws) → T (counts_fit ws)
unfolding pdb_layout
layout_counts ws h = and_l (counts_fit ws) _ (and_r (flags_fit ws) _ (and_r (sizes_fit ws) _ h))

layout_rest : (ws : List ℕ) → T (pdb_layout ws) → T (rest_fits ws)
unfolding pdb_layout
layout_rest ws h = and_r (counts_fit ws) _ (and_r (flags_fit ws) _ (and_r (sizes_fit ws) _ h))

layout_lists : (ws : List ℕ) → T (pdb_layout ws) → T (ranges_fit (prologs ws) && (ranges_fit (codes ws) && all printable (program ws)))
unfolding rest_fits
layout_lists ws h = and_r (eqb (15 + 2 * word ws 12 + 2 * word ws 13 + word ws 14) (length ws)) _ (layout_rest ws h)

pub layout_prologs : (ws : List ℕ) → T (pdb_layout ws) → T (ranges_fit (prologs ws))
layout_prologs ws h = and_l (ranges_fit (prologs ws)) _ (layout_lists ws h)

pub layout_codes : (ws : List ℕ) → T (pdb_layout ws) → T (ranges_fit (codes ws))
layout_codes ws h = and_l (ranges_fit (codes ws)) _ (and_r (ranges_fit (prologs ws)) _ (layout_lists ws h))

pub layout_program : (ws : List ℕ) → T (pdb_layout ws) → T (all printable (program ws))
layout_program ws h = and_r (ranges_fit (codes ws)) _ (and_r (ranges_fit (prologs ws)) _ (layout_lists ws h))

pub fits_differ : (rs : List Range) → T (ranges_fit rs) → T (differ rs)
unfolding ranges_fit
fits_differ rs h = and_r (all range_fits rs) _ h

-- an entry that is written keeps the layout
pub written : (last : Option Last) (ws : List ℕ) → pdb_judged last ws ≡ Ok Write → T (pdb_layout ws)
unfolding pdb_judged
written last ws h = let w = only_written (pdb_layout ws) (pdb_skipped last ws) (in_reach ws) Reach h in w.0

-- ---- the lines of a part

abbrev pub is_prolog : Part → Bool
is_prolog Prolog = true
is_prolog Code = false

-- its ranges
abbrev pub ranges_in : List ℕ → Part → List Range
ranges_in ws Prolog = prologs ws
ranges_in ws Code = codes ws

-- a line for each, by start
abbrev pub part_text : List ℕ → Part → List ℕ
part_text ws p = ranges_text ws (is_prolog p) (sorted (ranges_in ws p))

pub part_fits : (ws : List ℕ) (p : Part) → T (pdb_layout ws) → T (ranges_fit (ranges_in ws p))
part_fits ws Prolog h = layout_prologs ws h
part_fits ws Code h = layout_codes ws h

-- ---- one prolog and one code range

-- one of each, p ending where c starts
pub record AreJoined (ps cs : List Range) (p c : Range) : Type 0 where
  pub prolog : ps ≡ p ∷ []
  pub code : cs ≡ c ∷ []
  pub meet : end_of p ≡ start_of c

pub ranges_length : (ws : List ℕ) (a n : ℕ) → length (ranges ws a n) ≡ n
unfolding ranges
ranges_length ws a zero = refl
ranges_length ws a (suc n) = ap suc (ranges_length ws (a + 2) n)

pub not_one : (ps cs : List Range) → (length ps ≡ 1 → ⊥) → contiguous ps cs ≡ false
unfolding contiguous
not_one [] cs h = refl
not_one (p ∷ []) cs h = absurd (h refl)
not_one (p ∷ q ∷ ps) cs h = refl

pub not_one_code : (ps cs : List Range) → (length cs ≡ 1 → ⊥) → contiguous ps cs ≡ false
unfolding contiguous
not_one_code [] cs h = refl
not_one_code (p ∷ []) [] h = refl
not_one_code (p ∷ []) (c ∷ []) h = absurd (h refl)
not_one_code (p ∷ []) (c ∷ d ∷ cs) h = refl
not_one_code (p ∷ q ∷ ps) cs h = refl

pub apart_prologs : (ws : List ℕ) → (word ws 12 ≡ 1 → ⊥) → false ≡ contiguous (prologs ws) (codes ws)
unfolding prologs
apart_prologs ws h = sym (not_one (prologs ws) (codes ws) (λ e. h (sym (ranges_length ws 15 (word ws 12)) ∙ e)))

pub apart_codes : (ws : List ℕ) → (word ws 13 ≡ 1 → ⊥) → false ≡ contiguous (prologs ws) (codes ws)
unfolding codes
apart_codes ws h = sym (not_one_code (prologs ws) (codes ws) (λ e. h (sym (ranges_length ws (15 + 2 * word ws 12) (word ws 13)) ∙ e)))

pub one_each : (ws : List ℕ) → word ws 12 ≡ 1 → word ws 13 ≡ 1 → eqb (end_of (range_at ws 15)) (start_of (range_at ws 17)) ≡ contiguous (prologs ws) (codes ws)
unfolding prologs codes ranges contiguous
one_each ws e f = rw (e, f)

-- the only range of a list
only_range : (ws : List ℕ) (a n : ℕ) (r : Range) → ranges ws a n ≡ r ∷ [] → (n ≡ 1) × (range_at ws a ≡ r)
unfolding ranges
only_range ws a zero r e = absurd (omega (arith, ap length e))
only_range ws a (suc n) r e = (omega (arith, ap length e, ranges_length ws (a + 2) n), cc)

-- one line over both
pub joined_text : (ws : List ℕ) (p c : Range) → AreJoined (prologs ws) (codes ws) p c → pdb_text ws ≡ range_text ws (start_of p) (end_of c) (end_of p - start_of p)
unfolding prologs codes pdb_text both_text contiguous
joined_text ws p c j =
    let f = only_range ws 15 (word ws 12) p j.prolog in
    let e : 15 + 2 * word ws 12 ≡ 17 = omega (arith, f.0) in
    let g = only_range ws 17 (word ws 13) c (rw e at j.code) in
    rw (j.prolog, j.code, eq-eqb (end_of p) (start_of c) j.meet, f.1, g.1)

-- else one for each range
pub apart_text : (ws : List ℕ) → contiguous (prologs ws) (codes ws) ≡ false
    → pdb_text ws ≡ part_text ws Prolog ++ part_text ws Code
unfolding pdb_text
apart_text ws h = rw h

-- ---- trimming

-- without the spaces at the end
abbrev pub unpadded : List ℕ → List ℕ
unpadded t = reverse (lead (reverse t))

lead_keep : (c : ℕ) (cs : List ℕ) → (c ≡ 32 → ⊥) → lead (c ∷ cs) ≡ c ∷ cs
unfolding lead
lead_keep c cs h = rw (ne_eqb c 32 h)

lead_drop : (c : ℕ) (cs : List ℕ) → c ≡ 32 → lead (c ∷ cs) ≡ lead cs
unfolding lead
lead_drop c cs h = rw (eq-eqb c 32 h)

pub lead_stop : (ws : List ℕ) (a n : ℕ) → 0 < n → (word ws a ≡ 32 → ⊥) → lead (words_from ws a n) ≡ words_from ws a n
lead_stop ws a n h k = rw (words_step ws a n h) (lead_keep (word ws a) (words_from ws (a + 1) (n - 1)) k)

pub lead_turn : (ws : List ℕ) (a n : ℕ) → 0 < n → word ws a ≡ 32 → lead (words_from ws a n) ≡ lead (words_from ws (a + 1) (n - 1))
lead_turn ws a n h k = rw (words_step ws a n h) (lead_drop (word ws a) (words_from ws (a + 1) (n - 1)) k)

pub lead_none : (ws : List ℕ) (a n : ℕ) → n ≤ 0 → lead (words_from ws a n) ≡ words_from ws a n
unfolding words_from lead
lead_none ws a n h = let e : n ≡ 0 = omega arith in rw e

pub reverse_snoc : (xs : List ℕ) (c : ℕ) → reverse (xs ++ (c ∷ [])) ≡ c ∷ reverse xs
reverse_snoc xs c = reverse-append xs (c ∷ [])

pad_keep : (xs : List ℕ) (c : ℕ) → (c ≡ 32 → ⊥) → unpadded (xs ++ (c ∷ [])) ≡ xs ++ (c ∷ [])
pad_keep xs c h =
    ap (λ (t : List ℕ). reverse (lead t)) (reverse_snoc xs c) ∙ ap reverse (lead_keep c (reverse xs) h)
    ∙ ap reverse (sym (reverse_snoc xs c)) ∙ reverse-reverse (xs ++ (c ∷ []))

pad_drop : (xs : List ℕ) (c : ℕ) → c ≡ 32 → unpadded (xs ++ (c ∷ [])) ≡ unpadded xs
pad_drop xs c h = ap (λ (t : List ℕ). reverse (lead t)) (reverse_snoc xs c) ∙ ap reverse (lead_drop c (reverse xs) h)

-- a text that is one space
abbrev pub is_space : List ℕ → Bool
is_space t = pointwise eqb t (32 ∷ [])

space_is : (t : List ℕ) → is_space t ≡ true → t ≡ 32 ∷ []
space_is t h = (bytes_decides t (32 ∷ [])).0 h

not_space : (c : ℕ) → is_space (c ∷ []) ≡ false → c ≡ 32 → ⊥
not_space c h e = let k : true ≡ false = rw e at h in cc

pub front_turn : (t : List ℕ) → is_space (take 1 t) ≡ true → lead (drop 1 t) ≡ lead t
front_turn [] h = refl
front_turn (c ∷ cs) h = let e : c ∷ [] ≡ 32 ∷ [] = space_is (c ∷ []) h in sym (lead_drop c cs cc)

pub front_stop : (t : List ℕ) → is_space (take 1 t) ≡ false → lead t ≡ t
unfolding lead
front_stop [] h = refl
front_stop (c ∷ cs) h = lead_keep c cs (not_space c h)

pub back_turn : (t : List ℕ) → is_space (drop (length t - 1) t) ≡ true → unpadded (take (length t - 1) t) ≡ unpadded t
back_turn t h =
    let e : take (length t - 1) t ++ (32 ∷ []) ≡ t =
    ap (λ (u : List ℕ). take (length t - 1) t ++ u) (sym (space_is (drop (length t - 1) t) h)) ∙ take-append-drop (length t - 1) t in
    sym (pad_drop (take (length t - 1) t) 32 refl) ∙ ap unpadded e

pub back_stop : (t : List ℕ) → is_space (drop (length t - 1) t) ≡ false → unpadded t ≡ t
unfolding lead
back_stop t h = go (drop (length t - 1) t) h (length-drop (length t - 1) t) (take-append-drop (length t - 1) t)
  where
    go : (u : List ℕ) → is_space u ≡ false → length u ≡ length t - (length t - 1) → take (length t - 1) t ++ u ≡ t → unpadded t ≡ t
    go [] k l e = rw (nil_from_length t (omega arith))
    go (c ∷ []) k l e = sym (ap unpadded e) ∙ pad_keep (take (length t - 1) t) c (not_space c k) ∙ e
    go (c ∷ d ∷ u) k l e = absurd (omega arith)

pub pad_stop : (ws : List ℕ) (a n : ℕ) → 0 < n → (word ws (a + n - 1) ≡ 32 → ⊥) → unpadded (words_from ws a n) ≡ words_from ws a n
pad_stop ws a n h k = ap unpadded (words_last ws a n h) ∙ pad_keep (words_from ws a (n - 1)) (word ws (a + n - 1)) k ∙ sym (words_last ws a n h)

pub pad_turn : (ws : List ℕ) (a n : ℕ) → 0 < n → word ws (a + n - 1) ≡ 32 → unpadded (words_from ws a n) ≡ unpadded (words_from ws a (n - 1))
pad_turn ws a n h k = ap unpadded (words_last ws a n h) ∙ pad_drop (words_from ws a (n - 1)) (word ws (a + n - 1)) k

pub pad_none : (ws : List ℕ) (a n : ℕ) → n ≤ 0 → unpadded (words_from ws a n) ≡ words_from ws a n
unfolding words_from lead
pad_none ws a n h = let e : n ≡ 0 = omega arith in rw e

-- what the two searches for the ends have found: s spaces first, r words behind them
pub trimmed : (ws : List ℕ) (p c n s r : ℕ) → p ≡ word ws 12 → c ≡ word ws 13 → n ≡ word ws 14
    → lead (words_from ws (15 + 2 * p + 2 * c) n) ≡ words_from ws (15 + 2 * p + 2 * c + s) (n - s)
    → unpadded (words_from ws (15 + 2 * p + 2 * c + s) (n - s)) ≡ words_from ws (15 + 2 * p + 2 * c + s) r
    → trim (program ws) ≡ words_from ws (15 + 2 * p + 2 * c + s) r
unfolding trim
trimmed ws p c n s r e f g h k = ap trim (sym (program_at ws p c n e f g)) ∙ ap unpadded h ∙ k

lead_all : (p : ℕ → Bool) (t : List ℕ) → T (all p t) → T (all p (lead t))
unfolding lead
lead_all p [] h = tt
lead_all p (c ∷ cs) h = elim (eqb c 32) as (λ b. T (all p (cond b (lead cs) (c ∷ cs)))) [ true ↦ lead_all p cs (and_r (p c) _ h) | false ↦ h ]

aux_all : (p : ℕ → Bool) (t a : List ℕ) → T (all p t) → T (all p a) → T (all p (reverse_aux t a))
aux_all p [] a h k = k
aux_all p (c ∷ cs) a h k = aux_all p cs (c ∷ a) (and_r (p c) _ h) (both (p c) _ (and_l (p c) _ h) k)

-- what every byte passes, every byte of the trimmed text passes
pub trim_all : (p : ℕ → Bool) (t : List ℕ) → T (all p t) → T (all p (trim t))
unfolding trim
trim_all p t h = aux_all p (lead (reverse (lead t))) [] (lead_all p (reverse (lead t)) (aux_all p (lead t) [] (lead_all p t h) tt)) tt

-- ---- the nine numbers, as the code hands them to `lines`

-- those of the line from s up to e, with prolog size p
unfoldable pub info_of : List ℕ → ℕ → ℕ → ℕ → StackInfo
info_of ws s e p = record {
  ty = word ws 0;
  start = record { 0 = s };
  code_size = e - s;
  prolog_size = p;
  epilog_size = 0;
  params_size = word ws 4;
  saved_regs_size = word ws 5;
  locals_size = word ws 6;
  max_stack_size = max_stack ws;
}

flag_text : (t : Bool) → flag t ≡ cond t (ascii "1 ") (ascii "0 ")
flag_text true = refl
flag_text false = refl

pub win_text_lem : (ws : List ℕ) (s e p : ℕ) → win_text (info_of ws s e p) (has_program ws) ≡ numbers_text ws s e p
unfolding win_text info_of numbers_text
win_text_lem ws s e p = rw (flag_text (has_program ws))
