-- What holds at each turn of the loops: what is left from here gives what all gives.
use mathlib.Core.Path.{◌≡◌, refl, sym, ap, ap₂}
use Prim.Native.Nat.{ℕ, ◌+◌, ◌≤◌}
use native.Mathlib.Omega.{arith}
use mathlib.Core.Bool.{cond}
use mathlib.Core.List.{List, [], ◌∷◌}
use lib.ListN.{length}
use lib.Dec.{T}
use Rattle.text.specs.Text.{MAX, Put, Left}
use Rattle.text.specs.Text.Laws.{left_all, left_put, left_as, left_none}
use Rattle.text.specs.Tests.{all, and_l, and_r}
use Rattle.dwarf.specs.declared.RegisterRule.{RegisterRule}
use Rattle.dwarf.specs.declared.RuleCache.{RuleCache}
use Rattle.dwarf.specs.declared.RowState.{RowState}
use Rattle.dwarf.specs.declared.Fde.{Fde}
use Rattle.dwarf.specs.Dwarf.{Row, rows, row_count, rules_of, dwarf_layout, Seen, differs, remember, rule_bytes, seen_after, ran_rules, ran_row, ran_rows, CfaSeen, no_cfa, nothing_seen}
use Rattle.dwarf.specs.Cache.{lookup, newly, fresh, cfa_of, Remembers, After}
use Rattle.dwarf.specs.Index.{layout_rows, layout_distinct, fresh_append, fresh_distinct, row_once, rows_once}

-- ---- over a row's rules, remembered one after the other: of the rules all, behind the rules c₀, xs are left behind the rules c

pub record RulesLeft (c₀ : RuleCache) (all : List RegisterRule) (c : RuleCache) (xs : List RegisterRule) : Type 0 where
  pub counts : c.count + fresh (lookup c) xs ≡ c₀.count + fresh (lookup c₀) all
  pub sees : seen_after (lookup c) xs ≡ seen_after (lookup c₀) all

pub rules_all : (c : RuleCache) (xs : List RegisterRule) → RulesLeft c xs c xs
rules_all c xs = record { counts = refl; sees = refl }

module _ {c₀ : RuleCache} {all : List RegisterRule} {c : RuleCache} {xs : List RegisterRule} where
  -- there is room for the next one where there is room for all
  pub rule_room : {x : RegisterRule} {ys : List RegisterRule} → RulesLeft c₀ all c xs → xs ≡ x ∷ ys
      → c₀.count + fresh (lookup c₀) all ≤ 64 → c.count + newly (lookup c x.register) ≤ 64
  unfolding fresh
  rule_room {x} {ys} l i h = let e = rw i at l.counts in omega arith

  pub rule_turn : {x : RegisterRule} {ys : List RegisterRule} {c₁ : RuleCache} → RulesLeft c₀ all c xs → xs ≡ x ∷ ys
      → lookup c₁ ≡ remember (lookup c) x → c₁.count ≡ c.count + newly (lookup c x.register) → RulesLeft c₀ all c₁ ys
  unfolding fresh seen_after
  rule_turn {x} {ys} {c₁} l i e k =
      let counts = rw i at l.counts in
      let sees = rw i at l.sees in
      record { counts = omega (arith, ap (λ (g : ℕ → Seen). fresh g ys) e); sees = rw e sees }

  pub rules_done : RulesLeft c₀ all c xs → xs ≡ [] → Remembers c₀ all c
  unfolding fresh seen_after
  rules_done l i = record { sees = rw i at l.sees; counts = let e = rw i at l.counts in omega arith }

-- ---- and put: what is left to put of them

pub record PutLeft (f ra : ℕ) (d : List ℕ) (at : ℕ) (c₀ : RuleCache) (all : List RegisterRule) (d₁ : List ℕ) (p : ℕ) (c : RuleCache) (xs : List RegisterRule) : Type 0 where
  pub rules : RulesLeft c₀ all c xs
  pub text : Left d at (ran_rules f ra (lookup c₀) all) d₁ p (ran_rules f ra (lookup c) xs)

module _ {f ra : ℕ} {d : List ℕ} {at : ℕ} {c₀ : RuleCache} {all : List RegisterRule} {d₁ : List ℕ} {p : ℕ} {c : RuleCache} {xs : List RegisterRule} where
  pub put_turn : {x : RegisterRule} {ys : List RegisterRule} {c₁ : RuleCache} {d₂ : List ℕ} {q : ℕ} → PutLeft f ra d at c₀ all d₁ p c xs → xs ≡ x ∷ ys
      → lookup c₁ ≡ remember (lookup c) x → c₁.count ≡ c.count + newly (lookup c x.register)
      → Put d₁ p (cond (differs (lookup c x.register) x.kind x.value) (rule_bytes f ra x) []) d₂ q
      → PutLeft f ra d at c₀ all d₂ q c₁ ys
  unfolding ran_rules
  put_turn {x} {ys} l i e k u = record {
    rules = rule_turn l.rules i e k;
    text = left_as (left_put (rw i at l.text) u) (ap (λ (g : ℕ → Seen). ran_rules f ra g ys) (sym e));
  }

  pub put_done : PutLeft f ra d at c₀ all d₁ p c xs → xs ≡ [] → Put d at (ran_rules f ra (lookup c₀) all) d₁ p
  unfolding ran_rules
  put_done l i = left_none (rw i at l.text)

-- ---- over all rows: of those of a body, xs are left

pub record RowsLeft (ws : List ℕ) (e : Fde) (d : List ℕ) (at : ℕ) (d₁ : List ℕ) (p : ℕ) (s : RowState) (xs : List Row) : Type 0 where
  pub room : s.rules.count + fresh (lookup s.rules) (rules_of xs) ≤ 64
  pub once_each : T (all row_once xs)
  pub text : Left d at (ran_rows e no_cfa nothing_seen (rows ws)) d₁ p (ran_rows e (cfa_of s) (lookup s.rules) xs)

pub lines_all : {ws : List ℕ} {e : Fde} {d : List ℕ} {at : ℕ} {s : RowState} → T (dwarf_layout ws) → cfa_of s ≡ no_cfa → s.rules.count ≡ 0 → lookup s.rules ≡ nothing_seen
    → length d ≤ MAX → at ≤ MAX → RowsLeft ws e d at d at s (rows ws)
unfolding rows
lines_all {ws} {e} {d} {at} {s} h i j k u v = record {
  room = omega (arith, layout_distinct ws h, fresh_distinct (rules_of (rows ws)), ap (λ (g : ℕ → Seen). fresh g (rules_of (rows ws))) k);
  once_each = rows_once ws (row_count ws) 7 (layout_rows ws h);
  text = left_as (left_all u v) (ap₂ (λ (x : CfaSeen) (g : ℕ → Seen). ran_rows e x g (rows ws)) (sym i) (sym k));
}

module _ {ws : List ℕ} {e : Fde} {d : List ℕ} {at : ℕ} {d₁ : List ℕ} {p : ℕ} {s : RowState} {xs : List Row} where
  pub row_room : {w : Row} {ys : List Row} → RowsLeft ws e d at d₁ p s xs → xs ≡ w ∷ ys → s.rules.count + fresh (lookup s.rules) w.rules ≤ 64
  unfolding rules_of
  row_room {w} {ys} l i = let r = rw i at l.room in omega (arith, fresh_append (lookup s.rules) w.rules (rules_of ys))

  pub row_names_once : {w : Row} {ys : List Row} → RowsLeft ws e d at d₁ p s xs → xs ≡ w ∷ ys → T (row_once w)
  row_names_once {w} {ys} l i = let o = rw i at l.once_each in and_l (row_once w) _ o

  pub lines_turn : {w : Row} {ys : List Row} {d₂ : List ℕ} {q : ℕ} {r : RowState} → RowsLeft ws e d at d₁ p s xs → xs ≡ w ∷ ys
      → Put d₁ p (ran_row e (cfa_of s) (lookup s.rules) w) d₂ q → After s w r → RowsLeft ws e d at d₂ q r ys
  unfolding rules_of ran_rows
  lines_turn {w} {ys} {d₂} {q} {r} l i x y =
      let room = rw i at l.room in
      record {
        room = omega (arith, fresh_append (lookup s.rules) w.rules (rules_of ys), y.rules.counts, ap (λ (g : ℕ → Seen). fresh g (rules_of ys)) y.rules.sees);
        once_each = let o = rw i at l.once_each in and_r (row_once w) _ o;
        text = left_as (left_put (rw i at l.text) x) (ap₂ (λ (x : CfaSeen) (g : ℕ → Seen). ran_rows e x g ys) (sym y.cfa_is) (sym y.rules.sees));
      }

  pub lines_done : RowsLeft ws e d at d₁ p s xs → xs ≡ [] → Put d at (ran_rows e no_cfa nothing_seen (rows ws)) d₁ p
  unfolding ran_rows
  lines_done l i = left_none (rw i at l.text)
