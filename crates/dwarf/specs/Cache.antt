-- The rules last seen as the code keeps them: arrays with a count, and what they say of each register.
use Rattle.std.specs.Prelude.{◌≡◌, Bool, true, cond, ◌&&◌, List, [], ◌∷◌, ◌++◌, ℕ, suc, ◌+◌, take, get_or, eqb, leb, ltb, Option, Some, None, is_some}
use Rattle.text.specs.Tests.{any}
use Rattle.lines.specs.Lines.{form_text, rule_text}
use Rattle.rules.specs.declared.Form.{Form}
use Rattle.rules.specs.declared.Rule.{Rule}
use Rattle.rules.specs.Rules.{form_of, rule_of}
use Rattle.dwarf.specs.declared.RegisterRule.{RegisterRule}
use Rattle.dwarf.specs.declared.CfaRule.{CfaRule}
use Rattle.dwarf.specs.declared.RuleCache.{RuleCache}
use Rattle.dwarf.specs.declared.RowState.{RowState}
use Rattle.dwarf.specs.declared.Registers.{Registers}
use Rattle.dwarf.specs.Dwarf.{Seen, never, seen, CfaSeen, no_cfa, last_cfa, distinct, remember, Row, seen_after}

-- the first place of q in a list, or the list's length
unfoldable pub first_in : List ℕ → ℕ → ℕ
first_in [] q = 0
first_in (x ∷ l) q = cond (eqb x q) 0 (suc (first_in l q))

-- the place of a register in the cache, or the count
abbrev pub place_of : RuleCache → ℕ → ℕ
place_of c q = first_in (take c.count c.register) q

-- how many there are once place p of n is taken
abbrev pub behind : ℕ → ℕ → ℕ
behind n p = cond (eqb p n) (n + 1) n

-- the rule last seen of a register
unfoldable pub lookup : RuleCache → ℕ → Seen
lookup c q = cond (ltb (place_of c q) c.count) (seen (get_or c.kind (place_of c q) 0) (get_or c.value (place_of c q) 0)) never

-- the CFA last seen, if any
abbrev pub cfa_if : Option CfaRule → CfaSeen
cfa_if None = no_cfa
cfa_if (Some x) = last_cfa x

abbrev pub cfa_of : RowState → CfaSeen
cfa_of s = cfa_if s.cfa

-- a register that was never seen takes one place more
abbrev pub newly : Seen → ℕ
newly never = 1
newly (seen k v) = 0

-- how many places rules take
unfoldable pub fresh : (ℕ → Seen) → List RegisterRule → ℕ
fresh c [] = 0
fresh c (x ∷ xs) = newly (c x.register) + fresh (remember c x) xs

-- ---- what the code hands on of forms and rules that may not be there

-- the bytes of the form, if there is one
unfoldable pub formed : Option Form → List ℕ
formed None = []
formed (Some f) = form_text (form_of f)

-- the form's bytes are t, and there is one where there are any
pub record Forms (t : List ℕ) (f : Option Form) : Type 0 where
  pub some_is : is_some f ≡ any t
  pub bytes_are : formed f ≡ t

-- the bytes of the rule, if there is one
unfoldable pub formatted : Option Rule → List ℕ
formatted None = []
formatted (Some r) = rule_text (rule_of r)

-- ---- rules that are remembered, one after the other

-- behind the rules xs the rules c are the rules d
pub record Remembers (c : RuleCache) (xs : List RegisterRule) (d : RuleCache) : Type 0 where
  pub sees : lookup d ≡ seen_after (lookup c) xs
  pub counts : d.count ≡ c.count + fresh (lookup c) xs

-- the state behind a row
pub record After (s : RowState) (w : Row) (r : RowState) : Type 0 where
  pub cfa_is : cfa_of r ≡ last_cfa w.cfa
  pub rules : Remembers s.rules w.rules r.rules

-- ---- the registers met in a body

-- in the order in which they were met
abbrev pub held : Registers → List ℕ
held c = take c.count c.number

-- after c the registers rs: whether there is room for all, and then what others, ys, will add
pub record Known (c : Registers) (rs : List ℕ) (d : Registers) (r : Bool) : Type 0 where
  pub tells : r ≡ leb (c.count + distinct (held c) rs) 64
  pub counts : r ≡ true → (ys : List ℕ) → d.count + distinct (held d) ys ≡ c.count + distinct (held c) (rs ++ ys)

-- what a rule of a row keeps to (`rule_fits`)
abbrev pub fits : RegisterRule → Bool
fits x = ltb x.register 65536 && cond (eqb x.kind 3) (ltb x.value 65536) (leb x.kind 4)
