-- One step of each definition over the words, what the layout gives, and that comparing as a row goes is comparing with what was seen before it.
use Rattle.std.specs.Prelude.{◌≡◌, refl, ℕ, zero, suc, ◌+◌, ◌-◌, ◌*◌, ◌≤◌, ◌<◌, Bool, true, false, not, cond, ◌&&◌, ◌||◌, List, [], ◌∷◌, ◌++◌, length, T, ltb, leb, eqb, Ok}
use Rattle.std.proofs.Common.{sym, ap, arith, length-append, leb→le, eqb→eq, le-leb, ne_eqb}
use Rattle.std.proofs.lemmas.Bool.{eqb-false}
use Rattle.text.specs.Tests.{is_false, and_l, and_r, one_less, both, all}
use Rattle.entry.specs.declared.Fate.TheVariants.{Write}
use Rattle.refusal.specs.declared.Refusal.TheVariants.{Reach}
use Rattle.entry.specs.Entry.{word}
use Rattle.entry.specs.Entry.Laws.{only_written}
use Rattle.dwarf.specs.declared.RegisterRule.{RegisterRule}
use Rattle.dwarf.specs.Dwarf.{Row, rule_at, rules_from, rule_count, next_row, row_at, rows_from, row_count, rows, wide, first_start}
use Rattle.dwarf.specs.Dwarf.{registers, member, once, distinct, rule_fits, rules_fit, cfa_fits}
use Rattle.dwarf.specs.Dwarf.{row_fits, rows_fit, rules_of, head_fits, dwarf_layout, dwarf_skipped, dwarf_reach, dwarf_judged}
use Rattle.dwarf.specs.Dwarf.{rule_bytes, Seen, seen, differs, remember, seen_after, ran_rules, ran_moved, nothing_seen}
use Rattle.dwarf.specs.Cache.{newly, fresh}

-- ---- steps

pub rules_step : (ws : List ℕ) (n a : ℕ) → 0 < n → rules_from ws n a ≡ rule_at ws a ∷ rules_from ws (n - 1) (a + 4)
unfolding rules_from
rules_step ws n a h = ap (λ (k : ℕ). rules_from ws k a) (one_less n h)

pub rows_step : (ws : List ℕ) (m a : ℕ) → 0 < m → rows_from ws m a ≡ row_at ws a ∷ rows_from ws (m - 1) (next_row ws a)
unfolding rows_from
rows_step ws m a h = ap (λ (k : ℕ). rows_from ws k a) (one_less m h)

pub rules_fit_step : (ws : List ℕ) (n a : ℕ) → 0 < n → rules_fit ws n a ≡ rule_fits ws a && rules_fit ws (n - 1) (a + 4)
unfolding rules_fit
rules_fit_step ws n a h = ap (λ (k : ℕ). rules_fit ws k a) (one_less n h)

pub rows_fit_step : (ws : List ℕ) (m a : ℕ) → 0 < m → rows_fit ws m a ≡ row_fits ws a && rows_fit ws (m - 1) (next_row ws a)
unfolding rows_fit
rows_fit_step ws m a h = ap (λ (k : ℕ). rows_fit ws k a) (one_less m h)

-- ---- what the layout gives

pub row_few : (ws : List ℕ) (a : ℕ) → T (row_fits ws a) → rule_count ws a ≤ 64
unfolding row_fits
row_few ws a h = leb→le (rule_count ws a) 64 (and_r (cfa_fits ws a) _ (and_l (cfa_fits ws a && leb (rule_count ws a) 64) _ h))

pub row_once_lem : (ws : List ℕ) (a : ℕ) → T (row_fits ws a) → T (once (registers (row_at ws a).rules))
unfolding row_fits
row_once_lem ws a h = and_r (rules_fit ws (rule_count ws a) (a + 9)) _ (and_r (cfa_fits ws a && leb (rule_count ws a) 64) _ h)

-- rows have at most 265 words
pub row_bound : (ws : List ℕ) (a m : ℕ) → T (row_fits ws a) → 0 < m → a + 265 * m ≤ 271367 → next_row ws a + 265 * (m - 1) ≤ 271367
row_bound ws a m h k b = omega (arith, row_few ws a h)

pub head_few : (ws : List ℕ) → T (head_fits ws) → row_count ws ≤ 1024
unfolding head_fits
head_few ws h = leb→le (row_count ws) 1024 (and_r (ltb (word ws 5) 65536) _ (and_r (leb (word ws 0) 10) _ h))

pub layout_few : (ws : List ℕ) → T (dwarf_layout ws) → row_count ws ≤ 1024
unfolding dwarf_layout
layout_few ws h = head_few ws (and_l (head_fits ws) _ h)

pub layout_rows : (ws : List ℕ) → T (dwarf_layout ws) → T (rows_fit ws (row_count ws) 7)
unfolding dwarf_layout
layout_rows ws h = and_l (rows_fit ws (row_count ws) 7) _ (and_r (head_fits ws) _ h)

pub layout_distinct : (ws : List ℕ) → T (dwarf_layout ws) → distinct [] (registers (rules_of (rows ws))) ≤ 64
unfolding dwarf_layout
layout_distinct ws h = leb→le (distinct [] (registers (rules_of (rows ws)))) 64 (and_r (rows_fit ws (row_count ws) 7) _ (and_r (head_fits ws) _ h))

-- 01, DWARF body: no register twice in a row
abbrev pub row_once : Row → Bool
row_once w = once (registers w.rules)

pub rows_once : (ws : List ℕ) (m a : ℕ) → T (rows_fit ws m a) → T (all row_once (rows_from ws m a))
unfolding rows_fit rows_from
rows_once ws zero a h = tt
rows_once ws (suc m) a h =
    both (row_once (row_at ws a)) _ (row_once_lem ws a (and_l (row_fits ws a) _ h)) (rows_once ws m (next_row ws a) (and_r (row_fits ws a) _ h))

-- a body of few words for its rows has few rules, and so few registers
rules_long : (ws : List ℕ) (n a : ℕ) → length (rules_from ws n a) ≡ n
unfolding rules_from
rules_long ws zero a = refl
rules_long ws (suc n) a = ap suc (rules_long ws n (a + 4))

rows_words : (ws : List ℕ) (m a : ℕ) → T (rows_fit ws m a) → 4 * length (rules_of (rows_from ws m a)) + 9 * m + a ≤ length ws
unfolding rows_fit rows_from rules_of
rows_words ws zero a h = omega (arith, eqb→eq a (length ws) h)
rows_words ws (suc m) a h =
    let k = rows_words ws m (next_row ws a) (and_r (row_fits ws a) _ h) in
    omega (arith, k, length-append (rules_from ws (rule_count ws a) (a + 9)) (rules_of (rows_from ws m (next_row ws a))), rules_long ws (rule_count ws a) (a + 9))

distinct_few : (met : List ℕ) (xs : List RegisterRule) → distinct met (registers xs) ≤ length xs
unfolding distinct registers
distinct_few met [] = omega arith
distinct_few met (x ∷ xs) = go (member x.register met) (distinct_few (x.register ∷ met) xs)
  where
    go : (b : Bool) → distinct (x.register ∷ met) (registers xs) ≤ length xs → cond b 0 1 + distinct (x.register ∷ met) (registers xs) ≤ suc (length xs)
    go true h = omega arith
    go false h = omega arith

pub few_words : (ws : List ℕ) → T (rows_fit ws (row_count ws) 7) → length ws ≤ 263 + 9 * row_count ws → true ≡ leb (distinct [] (registers (rules_of (rows ws)))) 64
unfolding rows
few_words ws h k =
    sym (le-leb (distinct [] (registers (rules_of (rows ws)))) 64 (omega (arith, rows_words ws (row_count ws) 7 h, distinct_few [] (rules_of (rows_from ws (row_count ws) 7)))))

-- and by the words behind the first seven
pub few_behind : (ws : List ℕ) (m : ℕ) → T (rows_fit ws m 0) → length ws ≤ 256 + 9 * m → true ≡ leb (distinct [] (registers (rules_of (rows_from ws m 0)))) 64
few_behind ws m h k = sym (le-leb (distinct [] (registers (rules_of (rows_from ws m 0)))) 64
    (omega (arith, rows_words ws m 0 h, distinct_few [] (rules_of (rows_from ws m 0)))))

-- ---- registers met

pub fresh_append : (c : ℕ → Seen) (xs ys : List RegisterRule) → fresh c (xs ++ ys) ≡ fresh c xs + fresh (seen_after c xs) ys
unfolding fresh seen_after
fresh_append c [] ys = omega arith
fresh_append c (x ∷ xs) ys = rw (fresh_append (remember c x) xs ys) (omega arith)

fresh_met : (c : ℕ → Seen) (met : List ℕ) (xs : List RegisterRule) → ((q : ℕ) → newly (c q) ≡ cond (member q met) 0 1)
    → fresh c xs ≡ distinct met (registers xs)
unfolding fresh distinct registers member
fresh_met c met [] h = refl
fresh_met c met (x ∷ xs) h = rw (h x.register, fresh_met (remember c x) (x.register ∷ met) xs (λ q. go q (eqb x.register q)))
  where
    go : (q : ℕ) (t : Bool) → newly (cond t (seen x.kind x.value) (c q)) ≡ cond (t || member q met) 0 1
    go q true = refl
    go q false = h q

pub fresh_distinct : (xs : List RegisterRule) → fresh nothing_seen xs ≡ distinct [] (registers xs)
unfolding nothing_seen member
fresh_distinct xs = fresh_met nothing_seen [] xs (λ q. refl)

-- ---- a row that names no register twice: comparing as it goes is comparing with what was seen before it

-- what a row's rules write, each against the rules c last seen before the row
unfoldable pub row_rules : ℕ → ℕ → (ℕ → Seen) → List RegisterRule → List ℕ
row_rules f ra c [] = []
row_rules f ra c (x ∷ xs) = cond (differs (c x.register) x.kind x.value) (rule_bytes f ra x) [] ++ row_rules f ra c xs

apart : (q r : ℕ) → eqb q r ≡ false → eqb r q ≡ false
apart q r h = ne_eqb r q (λ e. eqb-false q r h (sym e))

or_l : (a b : Bool) → (a || b) ≡ false → a ≡ false
or_l true b h = h
or_l false b h = refl

or_r : (a b : Bool) → (a || b) ≡ false → b ≡ false
or_r true b h = let z : ◌≡◌ {A = ℕ} 0 1 = cc in absurd (omega arith)
or_r false b h = h

-- what holds of no rules, and of one more that is not x's register's, holds of a row that does not name that register
pub free_ind : (x : RegisterRule) (P : List RegisterRule → Type 0) → P []
    → ((y : RegisterRule) (ys : List RegisterRule) → eqb x.register y.register ≡ false → P ys → P (y ∷ ys))
    → (xs : List RegisterRule) → member x.register (registers xs) ≡ false → P xs
unfolding member registers
free_ind x P none more [] h = none
free_ind x P none more (y ∷ ys) h =
    more y ys (apart y.register x.register (or_l (eqb y.register x.register) _ h))
    (free_ind x P none more ys (or_r (eqb y.register x.register) _ h))

row_free : (f ra : ℕ) (c : ℕ → Seen) (x : RegisterRule) (xs : List RegisterRule) → member x.register (registers xs) ≡ false
    → row_rules f ra (remember c x) xs ≡ row_rules f ra c xs
unfolding row_rules
row_free f ra c x = free_ind x (λ ys. row_rules f ra (remember c x) ys ≡ row_rules f ra c ys) refl (λ y ys e i. rw (e, i))

-- the first of a row's rules, and those behind it, which do not name its register
pub once_free : (x : RegisterRule) (xs : List RegisterRule) → T (once (registers (x ∷ xs))) → member x.register (registers xs) ≡ false
unfolding once registers
once_free x xs h = is_false (member x.register (registers xs)) (and_l (not (member x.register (registers xs))) _ h)

pub once_rest : (x : RegisterRule) (xs : List RegisterRule) → T (once (registers (x ∷ xs))) → T (once (registers xs))
unfolding once registers
once_rest x xs h = and_r (not (member x.register (registers xs))) _ h

pub ran_row_lem : (f ra : ℕ) (c : ℕ → Seen) (xs : List RegisterRule) → T (once (registers xs)) → ran_rules f ra c xs ≡ row_rules f ra c xs
unfolding ran_rules row_rules
ran_row_lem f ra c [] h = refl
ran_row_lem f ra c (x ∷ xs) h = rw (ran_row_lem f ra (remember c x) xs (once_rest x xs h), row_free f ra c x xs (once_free x xs h))

-- they take as many places
fresh_same : (x : RegisterRule) (c d : ℕ → Seen) (xs : List RegisterRule) → ((q : ℕ) → eqb x.register q ≡ false → c q ≡ d q)
    → member x.register (registers xs) ≡ false → fresh c xs ≡ fresh d xs
unfolding fresh member registers
fresh_same x c d [] e h = refl
fresh_same x c d (y ∷ ys) e h = rw (
  e y.register (apart y.register x.register (or_l (eqb y.register x.register) _ h)),
  fresh_same x (remember c y) (remember d y) ys (λ q k. ap (λ (s : Seen). cond (eqb y.register q) (seen y.kind y.value) s) (e q k)) (or_r (eqb y.register x.register) _ h),
)

pub fresh_free : (c : ℕ → Seen) (x : RegisterRule) (xs : List RegisterRule) → T (once (registers (x ∷ xs))) → fresh (remember c x) xs ≡ fresh c xs
fresh_free c x xs h = fresh_same x (remember c x) c xs (λ q k. rw k) (once_free x xs h)

-- whether the return register's rule changes, against what was seen before the row
unfoldable pub ra_moves : ℕ → (ℕ → Seen) → List RegisterRule → Bool
ra_moves ra c [] = false
ra_moves ra c (x ∷ xs) = (eqb x.register ra && differs (c x.register) x.kind x.value) || ra_moves ra c xs

ra_free : (ra : ℕ) (c : ℕ → Seen) (x : RegisterRule) (xs : List RegisterRule) → member x.register (registers xs) ≡ false
    → ra_moves ra (remember c x) xs ≡ ra_moves ra c xs
unfolding ra_moves
ra_free ra c x = free_ind x (λ ys. ra_moves ra (remember c x) ys ≡ ra_moves ra c ys) refl (λ y ys e i. rw (e, i))

pub ran_ra : (ra : ℕ) (c : ℕ → Seen) (xs : List RegisterRule) → T (once (registers xs)) → ran_moved ra c xs ≡ ra_moves ra c xs
unfolding ran_moved ra_moves
ran_ra ra c [] h = refl
ran_ra ra c (x ∷ xs) h = rw (ran_ra ra (remember c x) xs (once_rest x xs h), ra_free ra c x xs (once_free x xs h))

-- ---- an entry that is written is laid out

pub written : (ws : List ℕ) → dwarf_judged ws ≡ Ok Write → T (dwarf_layout ws)
unfolding dwarf_judged
written ws h = let w = only_written (dwarf_layout ws) (dwarf_skipped ws) (dwarf_reach ws) Reach h in w.0

-- ---- the first row's start

pub first_none : (ws : List ℕ) → row_count ws ≡ 0 → 0 ≡ first_start (rows ws)
unfolding rows rows_from first_start
first_none ws e = rw e

pub first_some : (ws : List ℕ) → 0 < row_count ws → wide ws 7 ≡ first_start (rows ws)
unfolding rows first_start
first_some ws h = rw (rows_step ws (row_count ws) 7 h)
