-- The text of an ARM64 entry as its operations are run is the text of its sense, and every line is well formed.
use Rattle.std.specs.Prelude.{◌≡◌, refl, Bool, true, false, not, cond, ◌&&◌, List, [], ◌∷◌, ◌++◌, length, pos, ◌+ℤ◌, Option, eqb}
use Rattle.std.proofs.Common.{sym, ap, ◌∙◌, arith, lt-ltb, le-ltb, ne_eqb, append-nil, append_assoc}
use Prim.Native.Nat.{ℕ, zero, suc, ◌+◌, ◌-◌, ◌<◌, ◌≤◌}
use Rattle.std.proofs.Math.Decide.{dec_lt}
use Rattle.std.proofs.Math.IntN.{sub_ℕ}
use Rattle.std.proofs.Math.Dec.{T}
use Rattle.text.specs.Text.{ascii}
use Rattle.text.specs.Tests.{is_false, all, all_append, and_l, and_r, both, eqw}
use Rattle.digits.specs.Digits.{decimal}
use Rattle.names.specs.Names.{letter_of, arm64_name}
use Rattle.lines.specs.Lines.{Bytes, Rule, rule, register, cfa, form_text, rule_text, rules_text, init_text, later_text, line_text, render, name_ok, rule_ok, line_ok}
use Rattle.lines.specs.Lines.Laws.{rules_append, render_unless}
use Rattle.rules.specs.Rules.Laws.{arm64_ok}
use Rattle.refusal.specs.declared.Refusal.TheVariants.{Reach}
use Rattle.entry.specs.declared.Last.{Last}
use Rattle.entry.specs.Entry.{word}
use Rattle.entry.specs.Entry.Laws.{Accepted, accepted}
use Rattle.arm64.specs.declared.Op.{Op}
use Rattle.arm64.specs.declared.Op.TheVariants.{AllocStack, SaveReg, SaveRegPreindexed, SaveRegPair, SaveRegPairPreindexed, SaveLrPair, SaveNext, Other, End, Undecodable}
use Rattle.arm64.specs.declared.Saved.{Saved}
use Rattle.arm64.specs.declared.Saves.{Saves}
use Rattle.arm64.specs.declared.Saves.TheVariants.{Nothing, Alone, Paired}
use Rattle.arm64.specs.Arm64.{ops, width, above, saved, pair_from, is_lr, in_reach, arm_layout, arm_skipped, arm_judged, growth_of, writes_cfa, saves}
use Rattle.arm64.specs.Arm64.{no_pair, last_after, writes_ra, saved_text, cfa_text, ra_text, given, saves_text, op_text, defaults_text, first_line, later_line, nth_line, run, arm_text, arm_entry}
use Rattle.arm64.specs.Sense.{added_by, sum, Slot, slot, step, next, last_pair, slot_rule, cfa_rule, ra_rule}
use Rattle.arm64.specs.Sense.{optional, is_x30, two_rules, pair_rules, op_rules, lacks, defaults, arm_line, lines_from, arm_lines}

-- ---- a saved register of the text is one of the sense, at the place a - b

-- the register, and its place
slot_of : Saved → Slot
slot_of p = slot p.letter p.register (sub_ℕ p.a p.b)

above_sub : (a b k : ℕ) → sub_ℕ a b +ℤ pos k ≡ sub_ℕ (a + k) b
above_sub a b k = elim (dec_lt a b) [
  | yes h ↦ rw (lt-ltb a b h) (below h (dec_lt (a + k) b))
  | no h ↦ let g : b ≤ a = omega (arith, h) in let e : a - b + k ≡ a + k - b = omega arith in rw (le-ltb a b g, le-ltb (a + k) b (omega arith), e)
]
  where
    below : a < b → Dec (a + k < b) → sub_ℕ k (suc (b - suc a)) ≡ sub_ℕ (a + k) b
    below h (yes g) = let e : suc (b - suc a) - suc k ≡ b - suc (a + k) = omega arith in rw (lt-ltb (a + k) b g, lt-ltb k (suc (b - suc a)) (omega arith), e)
    below h (no g) = let e : k - suc (b - suc a) ≡ a + k - b = omega (arith, g) in rw (le-ltb (a + k) b (omega (arith, g)), le-ltb k (suc (b - suc a)) (omega (arith, g)), e)

step_width : (l : ℕ) → step l ≡ width l
unfolding step width
step_width zero = refl
step_width (suc zero) = refl
step_width (suc (suc n)) = rw (ne_eqb (suc (suc n)) 0 (λ e. omega arith), ne_eqb (suc (suc n)) 1 (λ e. omega arith), le-ltb (suc (suc n)) 2 (omega arith))

next_above : (p : Saved) → next (slot_of p) ≡ slot_of (above p)
unfolding next slot_of above
next_above p = rw (step_width p.letter, above_sub p.a p.b (width p.letter))

x30_lr : (p : Saved) → is_x30 (slot_of p) ≡ is_lr p
unfolding is_x30 slot_of
x30_lr p = go (eqb p.register 30) (eqb p.letter 0)
  where
    go : (s t : Bool) → (s && t) ≡ (t && s)
    go true true = refl
    go true false = refl
    go false true = refl
    go false false = refl

-- ---- the total and the last pair of the run are the sum and the last earlier pair

-- the state of the run behind these operations, latest first
record After (ds : List Op) (T : ℕ) (p : Saved) : Type 0 where
  total_is : T ≡ sum ds
  pair_is : slot_of p ≡ last_pair ds

kept : (ds : List Op) (T : ℕ) (p : Saved) (o : Op) → After ds T p → After (o ∷ ds) (T + growth_of o) (last_after T p o)
unfolding growth_of last_after sum added_by last_pair slot_of
kept ds T p (AllocStack v) h = record { total_is = rw h.total_is; pair_is = h.pair_is }
kept ds T p (SaveReg l r v) h = record { total_is = rw h.total_is; pair_is = h.pair_is }
kept ds T p (SaveRegPreindexed l r v) h = record { total_is = rw h.total_is; pair_is = h.pair_is }
kept ds T p (SaveRegPair l r v) h = record { total_is = rw h.total_is; pair_is = rw (← h.total_is) (sym (next_above (saved l r v T))) }
kept ds T p (SaveRegPairPreindexed l r v) h = record { total_is = rw h.total_is; pair_is = rw (← h.total_is) (sym (next_above (saved l r 0 (T + v)))) }
kept ds T p (SaveLrPair r v) h = record { total_is = rw h.total_is; pair_is = h.pair_is }
kept ds T p SaveNext h = record { total_is = rw h.total_is; pair_is = rw (← h.pair_is, next_above p, next_above (above p)) }
kept ds T p Other h = record { total_is = rw h.total_is; pair_is = h.pair_is }
kept ds T p End h = record { total_is = rw h.total_is; pair_is = h.pair_is }
kept ds T p Undecodable h = record { total_is = rw h.total_is; pair_is = h.pair_is }

-- ---- an operation's text is its rules' text

-- what an operation saves, as rules
saves_rules : Saves → List Rule
saves_rules Nothing = []
saves_rules (Alone p) = slot_rule (slot_of p) ∷ []
saves_rules (Paired p q) = two_rules (slot_of p) (slot_of q)

pair_rules_lem : (p : Saved) → pair_rules (slot_of p) ≡ saves_rules (pair_from p)
unfolding saves_rules
pair_rules_lem p = rw (next_above p)

op_rules_lem : (ds : List Op) (T : ℕ) (p : Saved) (o : Op) → After ds T p → op_rules ds o ≡ optional (writes_cfa o) (cfa_rule (T + growth_of o)) ++ saves_rules (saves T p o)
unfolding growth_of writes_cfa saves op_rules saves_rules slot_of
op_rules_lem ds T p (AllocStack v) h = rw h.total_is
op_rules_lem ds T p (SaveReg l r v) h = rw h.total_is
op_rules_lem ds T p (SaveRegPreindexed l r v) h = rw h.total_is
op_rules_lem ds T p (SaveRegPair l r v) h = rw (← h.total_is) (pair_rules_lem (saved l r v T))
op_rules_lem ds T p (SaveRegPairPreindexed l r v) h = rw (← h.total_is) (ap (λ (rs : List Rule). cfa_rule (T + v) ∷ rs) (pair_rules_lem (saved l r 0 (T + v))))
op_rules_lem ds T p (SaveLrPair r v) h = rw (← h.total_is, above_sub v T 8)
op_rules_lem ds T p SaveNext h = rw (← h.pair_is, next_above p) (pair_rules_lem (above p))
op_rules_lem ds T p Other h = let z : T + 0 ≡ sum ds = omega (arith, h.total_is) in rw z
op_rules_lem ds T p End h = refl
op_rules_lem ds T p Undecodable h = refl

optional_text : (t : Bool) (r : Rule) → given t (rule_text r) ≡ rules_text (optional t r)
unfolding rules_text
optional_text true r = sym (append-nil (rule_text r))
optional_text false r = refl

cfa_text_lem : (n : ℕ) → cfa_text n ≡ rule_text (cfa_rule n)
unfolding cfa_text cfa_rule form_text rule_text
cfa_text_lem n = refl

saves_text_lem : (s : Saves) → saves_text s ≡ rules_text (saves_rules s)
unfolding saved_text ra_text saves_text slot_rule ra_rule two_rules saves_rules slot_of form_text rule_text rules_text
saves_text_lem Nothing = refl
saves_text_lem (Alone p) = sym (append-nil (saved_text p))
saves_text_lem (Paired p q) =
    append_assoc (saved_text p) (saved_text q) (given (is_lr q) (ra_text q))
    ∙ ap (λ (l : Bytes). saved_text p ++ (saved_text q ++ l)) (optional_text (is_lr q) (ra_rule (slot_of q)) ∙ rw (x30_lr q) refl)

module _ (ds : List Op) (T : ℕ) (p : Saved) (o : Op) (h : After ds T p) where
  op_text_lem : op_text T p o ≡ rules_text (op_rules ds o)
  unfolding op_text
  op_text_lem =
      let n : ℕ = T + growth_of o in
      let s : Saves = saves T p o in
      rw (op_rules_lem ds T p o h, rules_append (optional (writes_cfa o) (cfa_rule n)) (saves_rules s), ← optional_text (writes_cfa o) (cfa_rule n), ← cfa_text_lem n, ← saves_text_lem s)

-- ---- the names that an operation's rules lack are those that were not written

no_cfa_lem : (l r : ℕ) → eqw (arm64_name l r) cfa ≡ false
no_cfa_lem l r = is_false (eqw (arm64_name l r) cfa) (and_r (name_ok (arm64_name l r)) _ (arm64_ok l r))

no_ra : (l r : ℕ) → eqw (arm64_name l r) (ascii ".ra") ≡ false
unfolding arm64_name letter_of
no_ra l r = go (eqb l 0) (eqb l 1)
  where
    go : (s t : Bool) → eqw (ascii "." ++ cond s (ascii "x") (cond t (ascii "d") (ascii "q")) ++ decimal r) (ascii ".ra") ≡ false
    go true t = refl
    go false true = refl
    go false false = refl

two_cfa : (p q : Saved) → lacks cfa (two_rules (slot_of p) (slot_of q)) ≡ true
unfolding slot_rule ra_rule two_rules slot_of lacks
two_cfa p q = rw (no_cfa_lem p.letter p.register, no_cfa_lem q.letter q.register) (go (is_x30 (slot_of q)))
  where
    go : (t : Bool) → lacks cfa (optional t (ra_rule (slot_of q))) ≡ true
    go true = refl
    go false = refl

two_ra : (p q : Saved) → lacks (ascii ".ra") (two_rules (slot_of p) (slot_of q)) ≡ not (is_lr q)
unfolding slot_rule ra_rule two_rules slot_of lacks
two_ra p q = rw (no_ra p.letter p.register, no_ra q.letter q.register) (go (is_x30 (slot_of q)) ∙ ap not (x30_lr q))
  where
    go : (t : Bool) → lacks (ascii ".ra") (optional t (ra_rule (slot_of q))) ≡ not t
    go true = refl
    go false = refl

lacks_cfa : (t : Bool) (n : ℕ) (s : Saves) → lacks cfa (optional t (cfa_rule n) ++ saves_rules s) ≡ not t
unfolding cfa_rule slot_rule saves_rules slot_of lacks
lacks_cfa true n s = refl
lacks_cfa false n Nothing = refl
lacks_cfa false n (Alone p) = rw (no_cfa_lem p.letter p.register)
lacks_cfa false n (Paired p q) = two_cfa p q

saves_ra : (s : Saves) → lacks (ascii ".ra") (saves_rules s) ≡ not (writes_ra s)
unfolding writes_ra slot_rule saves_rules slot_of lacks
saves_ra Nothing = refl
saves_ra (Alone p) = rw (no_ra p.letter p.register)
saves_ra (Paired p q) = two_ra p q

lacks_ra : (t : Bool) (n : ℕ) (s : Saves) → lacks (ascii ".ra") (optional t (cfa_rule n) ++ saves_rules s) ≡ not (writes_ra s)
unfolding cfa_rule lacks
lacks_ra true n s = saves_ra s
lacks_ra false n s = saves_ra s

default_rules_lem : (s t : Bool) → given s (ascii " .cfa: .sp") ++ given t (ascii " .ra: .x30")
    ≡ rules_text (optional s (rule cfa (register (ascii ".sp"))) ++ optional t (rule (ascii ".ra") (register (ascii ".x30"))))
unfolding form_text rule_text rules_text
default_rules_lem true true = refl
default_rules_lem true false = refl
default_rules_lem false true = refl
default_rules_lem false false = refl

-- ---- lines one after the other

module _ (ds : List Op) (T : ℕ) (p : Saved) (o : Op) (h : After ds T p) where
  defaults_text_lem : defaults_text (writes_cfa o) (writes_ra (saves T p o)) ≡ rules_text (defaults (op_rules ds o))
  unfolding defaults_text defaults
  defaults_text_lem =
      let n : ℕ = T + growth_of o in
      let s : Saves = saves T p o in
      rw (op_rules_lem ds T p o h, lacks_cfa (writes_cfa o) n s, lacks_ra (writes_cfa o) n s) (default_rules_lem (not (writes_cfa o)) (not (writes_ra s)))

  line_text_lem : (a z i : ℕ) → nth_line a z i (op_text T p o) (defaults_text (writes_cfa o) (writes_ra (saves T p o))) ≡ line_text true (arm_line a z i (op_rules ds o))
  unfolding first_line later_line nth_line arm_line init_text later_text line_text
  line_text_lem a z zero =
      let rs = op_rules ds o in
      rw (op_text_lem ds T p o h, defaults_text_lem, rules_append rs (defaults rs))
      (ap (λ (l : Bytes). l ++ ascii "\n") (append_assoc (init_text a z) (rules_text rs) (rules_text (defaults rs))))
  line_text_lem a z (suc i) = rw (op_text_lem ds T p o h)

run_text : (a z : ℕ) (ds : List Op) (T : ℕ) (p : Saved) (os : List Op) → After ds T p → run a z (length ds) T p os ≡ render true (lines_from a z ds os)
unfolding run lines_from render
run_text a z ds T p [] h = refl
run_text a z ds T p (o ∷ os) h = rw (line_text_lem ds T p o h a z (length ds), run_text a z (o ∷ ds) (T + growth_of o) (last_after T p o) os (kept ds T p o h))

pub arm_text_lem : (ws : List ℕ) → arm_text ws ≡ render true (arm_lines ws)
unfolding arm_text arm_lines sum last_pair slot_of
arm_text_lem ws = run_text (word ws 0) (word ws 1) [] 0 no_pair (ops ws) (record { total_is = refl; pair_is = refl })

-- ---- an entry that is not refused: its text is that of its lines, unless it is skipped

pub arm_accepted : (last : Option Last) (ws : List ℕ) → (arm_entry last ws).number ≡ 0 → Accepted (arm_layout ws) (arm_skipped ws) (arm_judged ws) (arm_text ws) last last
unfolding arm_entry arm_judged
arm_accepted last ws = accepted (arm_layout ws) (arm_skipped ws) (in_reach (word ws 0) 0 0 no_pair (ops ws)) Reach (arm_text ws) last last

pub arm_entry_text : (last : Option Last) (ws : List ℕ) → (arm_entry last ws).number ≡ 0 → (arm_entry last ws).text ≡ render true (cond (arm_skipped ws) [] (arm_lines ws))
unfolding arm_entry
arm_entry_text last ws e = (arm_accepted last ws e).text_is ∙ render_unless true (arm_skipped ws) (arm_text ws) (arm_lines ws) (arm_text_lem ws)

-- ---- every line is well formed

-- every rule is well formed
abbrev Fine : List Rule → Type 0
Fine rs = T (all rule_ok rs)

optional_ok : (t : Bool) (r : Rule) → T (rule_ok r) → Fine (optional t r)
optional_ok true r h = both (rule_ok r) true h tt
optional_ok false r h = tt

slot_ok : (p : Slot) → T (rule_ok (slot_rule p))
unfolding slot_rule
slot_ok p = both (name_ok (arm64_name p.letter p.number)) true (and_l (name_ok (arm64_name p.letter p.number)) _ (arm64_ok p.letter p.number)) tt

cfa_ok : (n : ℕ) → T (rule_ok (cfa_rule n))
unfolding cfa_rule
cfa_ok n = tt

ra_ok : (p : Slot) → T (rule_ok (ra_rule p))
unfolding ra_rule
ra_ok p = tt

one_ok : (p : Slot) → Fine (slot_rule p ∷ [])
one_ok p = both (rule_ok (slot_rule p)) true (slot_ok p) tt

two_ok : (p q : Slot) → Fine (two_rules p q)
unfolding two_rules
two_ok p q =
    let t : Bool = is_x30 q in
    both (rule_ok (slot_rule p)) (all rule_ok (slot_rule q ∷ optional t (ra_rule q))) (slot_ok p)
    (both (rule_ok (slot_rule q)) (all rule_ok (optional t (ra_rule q))) (slot_ok q) (optional_ok t (ra_rule q) (ra_ok q)))

pair_ok : (p : Slot) → Fine (pair_rules p)
pair_ok p = two_ok p (next p)

with_cfa : (n : ℕ) (rs : List Rule) → Fine rs → Fine (cfa_rule n ∷ rs)
with_cfa n rs h = both (rule_ok (cfa_rule n)) _ (cfa_ok n) h

op_ok : (ds : List Op) (o : Op) → Fine (op_rules ds o)
unfolding op_rules
op_ok ds (AllocStack v) = with_cfa (sum ds + v) [] tt
op_ok ds (SaveReg l r v) = one_ok (slot l r (sub_ℕ v (sum ds)))
op_ok ds (SaveRegPreindexed l r v) = let p : Slot = slot l r (sub_ℕ 0 (sum ds + v)) in with_cfa (sum ds + v) (slot_rule p ∷ []) (one_ok p)
op_ok ds (SaveRegPair l r v) = pair_ok (slot l r (sub_ℕ v (sum ds)))
op_ok ds (SaveRegPairPreindexed l r v) = let p : Slot = slot l r (sub_ℕ 0 (sum ds + v)) in with_cfa (sum ds + v) (pair_rules p) (pair_ok p)
op_ok ds (SaveLrPair r v) = two_ok (slot 0 r (sub_ℕ v (sum ds))) (slot 0 30 (sub_ℕ v (sum ds) +ℤ pos 8))
op_ok ds SaveNext = pair_ok (next (last_pair ds))
op_ok ds Other = with_cfa (sum ds) [] tt
op_ok ds End = tt
op_ok ds Undecodable = tt

line_ok_lem : (a z i : ℕ) (rs : List Rule) → Fine rs → T (line_ok (arm_line a z i rs))
unfolding arm_line defaults
line_ok_lem a z zero rs h =
    let c : Rule = rule cfa (register (ascii ".sp")) in
    let r : Rule = rule (ascii ".ra") (register (ascii ".x30")) in
    all_append rule_ok rs (optional (lacks cfa rs) c ++ optional (lacks (ascii ".ra") rs) r) h
    (all_append rule_ok (optional (lacks cfa rs) c) (optional (lacks (ascii ".ra") rs) r) (optional_ok (lacks cfa rs) c tt) (optional_ok (lacks (ascii ".ra") rs) r tt))
line_ok_lem a z (suc i) rs h = h

lines_ok : (a z : ℕ) (ds os : List Op) → T (all line_ok (lines_from a z ds os))
unfolding lines_from
lines_ok a z ds [] = tt
lines_ok a z ds (o ∷ os) = both (line_ok (arm_line a z (length ds) (op_rules ds o))) _ (line_ok_lem a z (length ds) (op_rules ds o) (op_ok ds o)) (lines_ok a z (o ∷ ds) os)

pub arm_entry_ok : (ws : List ℕ) → T (all line_ok (arm_lines ws))
unfolding arm_lines
arm_entry_ok ws = lines_ok (word ws 0) (word ws 1) [] (ops ws)
