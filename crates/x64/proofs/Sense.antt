-- The text of an x64 entry as its operations are run is the text of its sense, and the line is well formed; the law of the CFA.
use Rattle.std.specs.Prelude.{◌≡◌, ℕ, ◌+◌, ◌-◌, ◌*◌, Bool, true, false, not, cond, length, get_or, take, pos, T, eqb, Option}
use Rattle.std.proofs.Math.Path.{refl}
use Rattle.std.proofs.Common.{sym, ap, ◌∙◌, add-one, arith, ne_eqb}
use Rattle.std.proofs.Math.Nat.{add_assoc}
use mathlib.Core.List.{List, [], ◌∷◌, ◌++◌, map, append-nil, append_assoc, map-append}
use Rattle.std.proofs.Math.ListN.{length-append}
use Rattle.std.proofs.Math.Seq.{take-append_seam, get_or-append_seam, append_snoc}
use Rattle.std.proofs.Math.IntN.{sub_ℕ}
use Rattle.text.specs.Text.{ascii}
use Rattle.text.specs.Tests.{is_true, all, all_append, and_l, both}
use Rattle.digits.specs.Digits.{hex}
use Rattle.tables.specs.Tables.{pe_name}
use Rattle.lines.specs.Lines.{Bytes, Form, register_plus, at_cfa_minus, rule, init, cfa, rule_text, rules_text, init_text, line_text, render, name_ok, register_ok, form_ok, rule_ok, line_ok}
use Rattle.lines.specs.Lines.Laws.{rules_append, render_unless}
use Rattle.rules.specs.Rules.Laws.{pe_ok}
use Rattle.entry.specs.declared.Last.{Last}
use Rattle.entry.specs.Entry.{word}
use Rattle.entry.specs.Entry.Laws.{Accepted, accepted_by}
use Rattle.x64.specs.declared.Op.{Op}
use Rattle.x64.specs.declared.Op.TheVariants.{PushNonVolatile, Alloc, SaveRsp, SaveFp, SetFpRegister, PushMachineFrame, Other, Undecodable}
use Rattle.x64.specs.X64.{chain, is_machine, any_machine, x64_layout, x64_skipped, x64_reach, x64_judged, growth_of, run, total}
use Rattle.x64.specs.X64.{saved_text, machine_text, op_text, set_text, cfa_or, ra_text, rules_run, x64_text, is_set, set_count, x64_entry}
use Rattle.x64.specs.Index.{saved_rule, framed_rule, cfa_rule_lem}
use Rattle.x64.specs.Sense.{op_rules, op_cfa, cfa_form, ra_rules, added_by, sum, each, sums, x64_rules, x64_line, x64_lines, pushes, allocations, machine_frames, error_codes}

-- ---- sums against the running total

added_growth : (o : Op) → added_by o ≡ growth_of o
unfolding added_by growth_of
added_growth (PushNonVolatile r) = refl
added_growth (Alloc v) = refl
added_growth (SaveRsp r v) = refl
added_growth (SaveFp r v b) = refl
added_growth (SetFpRegister b) = refl
added_growth (PushMachineFrame true) = refl
added_growth (PushMachineFrame false) = refl
added_growth Other = refl
added_growth Undecodable = refl

sum_snoc : (ds : List Op) (o : Op) → sum (ds ++ (o ∷ [])) ≡ sum ds + growth_of o
unfolding sum
sum_snoc [] o = rw (added_growth o) (omega arith)
sum_snoc (d ∷ ds) o = rw (sum_snoc ds o) (omega arith)

module _ {A : Type 0} (f : ℕ → Op → List A) where
  from : (ds os : List Op)
      → each (λ k. f (8 + sum (take k (ds ++ os))) (get_or (ds ++ os) k Other)) (length ds) (length os) ≡ run f (8 + sum ds) os
  unfolding each run
  from ds [] = refl
  from ds (o ∷ os) =
      rw (take-append_seam ds (o ∷ os), get_or-append_seam ds o os Other, add_assoc 8 (sum ds) (growth_of o))
      (ap (λ r. f (8 + sum ds) o ++ r) (simp (append_snoc, sum_snoc, length-append, add-one) at (from (ds ++ (o ∷ [])) os)))

  pub sums_run : (os : List Op) → sums f os ≡ run f 8 os
  unfolding sums sum
  sums_run os = from [] os

sum_total : (S : ℕ) (os : List Op) → S + sum os ≡ total S os
unfolding sum total
sum_total S [] = omega arith
sum_total S (o ∷ os) = rw (← sum_total (S + growth_of o) os, ← added_growth o) (omega arith)

-- ---- the text as it is run is the rendering of the line

op_text_lem : (S : ℕ) (o : Op) → rules_text (op_rules S o) ≡ op_text S o
unfolding op_rules op_text machine_text rules_text
op_text_lem S (PushNonVolatile r) = append-nil _ ∙ saved_rule (pe_name r) (pos (S + 8))
op_text_lem S (Alloc v) = refl
op_text_lem S (SaveRsp r v) = append-nil _ ∙ saved_rule (pe_name r) (sub_ℕ S v)
op_text_lem S (SaveFp r v b) = append-nil _ ∙ framed_rule (pe_name r) (pe_name b.register) (sub_ℕ v b.offset)
op_text_lem S (SetFpRegister b) = refl
op_text_lem S (PushMachineFrame code) =
    rw (append-nil (rule_text (rule (ascii ".ra") (at_cfa_minus (pos (S + 40))))), saved_rule (ascii "$rsp") (pos (S + 16)), saved_rule (ascii ".ra") (pos (S + 40)))
op_text_lem S Other = refl
op_text_lem S Undecodable = refl

ops_text : (S : ℕ) (os : List Op) → rules_text (run op_rules S os) ≡ run op_text S os
unfolding run rules_text
ops_text S [] = refl
ops_text S (o ∷ os) = rw (rules_append (op_rules S o) (run op_rules (S + growth_of o) os), op_text_lem S o, ops_text (S + growth_of o) os)

-- the text of a CFA rule
abbrev cfa_rule : Form → Bytes
cfa_rule f = rule_text (rule cfa f)

set_text_lem : (S : ℕ) (o : Op) → map cfa_rule (op_cfa S o) ≡ set_text S o
unfolding op_cfa set_text
set_text_lem S (PushNonVolatile r) = refl
set_text_lem S (Alloc v) = refl
set_text_lem S (SaveRsp r v) = refl
set_text_lem S (SaveFp r v b) = refl
set_text_lem S (SetFpRegister b) = rw (cfa_rule_lem (pe_name b.register) (sub_ℕ S b.offset))
set_text_lem S (PushMachineFrame code) = refl
set_text_lem S Other = refl
set_text_lem S Undecodable = refl

sets_text : (S : ℕ) (os : List Op) → map cfa_rule (run op_cfa S os) ≡ run set_text S os
unfolding run
sets_text S [] = refl
sets_text S (o ∷ os) = rw (map-append cfa_rule (op_cfa S o) (run op_cfa (S + growth_of o) os), set_text_lem S o, sets_text (S + growth_of o) os)

cfa_text_lem : (fs : List Form) (S : ℕ) → cfa_rule (cfa_form fs S) ≡ cfa_or (map cfa_rule fs) S
unfolding cfa_form cfa_or
cfa_text_lem [] S = cfa_rule_lem (ascii "$rsp") (pos S)
cfa_text_lem (f ∷ fs) S = refl

none_more : (t : Bool) (n : ℕ) → t ≡ not (eqb n 0) → t ≡ not (eqb (0 + n) 0)
none_more t n e = let z : 0 + n ≡ n = omega arith in rw z e

machine_counted : (os : List Op) → any_machine os ≡ not (eqb (machine_frames os) 0)
unfolding any_machine is_machine machine_frames
machine_counted [] = refl
machine_counted (PushNonVolatile r ∷ os) = none_more (any_machine os) (machine_frames os) (machine_counted os)
machine_counted (Alloc v ∷ os) = none_more (any_machine os) (machine_frames os) (machine_counted os)
machine_counted (SaveRsp r v ∷ os) = none_more (any_machine os) (machine_frames os) (machine_counted os)
machine_counted (SaveFp r v b ∷ os) = none_more (any_machine os) (machine_frames os) (machine_counted os)
machine_counted (SetFpRegister b ∷ os) = none_more (any_machine os) (machine_frames os) (machine_counted os)
machine_counted (PushMachineFrame code ∷ os) = rw (ne_eqb (1 + machine_frames os) 0 (λ e. omega arith))
machine_counted (Other ∷ os) = none_more (any_machine os) (machine_frames os) (machine_counted os)
machine_counted (Undecodable ∷ os) = none_more (any_machine os) (machine_frames os) (machine_counted os)

ra_text_lem : (os : List Op) → rules_text (ra_rules os) ≡ ra_text (any_machine os)
unfolding ra_rules ra_text rules_text
ra_text_lem os = rw (machine_counted os) (go (eqb (machine_frames os) 0))
  where
    go : (t : Bool) → rules_text (cond t (rule (ascii ".ra") (at_cfa_minus (pos 8)) ∷ []) []) ≡ cond (not t) [] (saved_text (ascii ".ra") (pos 8))
    go true = append-nil _ ∙ saved_rule (ascii ".ra") (pos 8)
    go false = refl

rules_text_lem : (os : List Op) → rules_text (x64_rules os) ≡ rules_run os
unfolding x64_rules rules_run rules_text
rules_text_lem os = rw (
  rules_append (sums op_rules os) (ra_rules os),
  sums_run op_rules os,
  sums_run op_cfa os,
  sum_total 8 os,
  ops_text 8 os,
  ra_text_lem os,
  cfa_text_lem (run op_cfa 8 os) (total 8 os),
  sets_text 8 os,
) (sym (append_assoc (cfa_or (run set_text 8 os) (total 8 os)) (run op_text 8 os) (ra_text (any_machine os))))

pub x64_text_lem : (ws : List ℕ) → x64_text ws ≡ render false (x64_line ws ∷ [])
unfolding x64_text x64_line render line_text init_text
x64_text_lem ws =
    let i : Bytes = ascii "STACK CFI INIT " ++ hex (word ws 0) ++ ascii " " ++ hex (word ws 1 - word ws 0) in
    sym (append-nil (i ++ rules_text (x64_rules (chain ws)) ++ ascii "\n") ∙ ap (λ (t : Bytes). i ++ t ++ ascii "\n") (rules_text_lem (chain ws)))

-- ---- the line is well formed

pe_name_lem : (r : ℕ) → name_ok (pe_name r) ≡ true
pe_name_lem r = is_true (name_ok (pe_name r)) (and_l (name_ok (pe_name r)) _ (pe_ok r))

pe_register : (r : ℕ) → register_ok (pe_name r) ≡ true
pe_register r = is_true (register_ok (pe_name r)) (pe_ok r)

op_ok : (S : ℕ) (o : Op) → T (all rule_ok (op_rules S o))
unfolding op_rules
op_ok S (PushNonVolatile r) = rw (pe_name_lem r) tt
op_ok S (Alloc v) = tt
op_ok S (SaveRsp r v) = rw (pe_name_lem r) tt
op_ok S (SaveFp r v b) = rw (pe_name_lem r, pe_register b.register) tt
op_ok S (SetFpRegister b) = tt
op_ok S (PushMachineFrame code) = tt
op_ok S Other = tt
op_ok S Undecodable = tt

cfa_ok : (S : ℕ) (o : Op) → T (all form_ok (op_cfa S o))
unfolding op_cfa
cfa_ok S (PushNonVolatile r) = tt
cfa_ok S (Alloc v) = tt
cfa_ok S (SaveRsp r v) = tt
cfa_ok S (SaveFp r v b) = tt
cfa_ok S (SetFpRegister b) = rw (pe_register b.register) tt
cfa_ok S (PushMachineFrame code) = tt
cfa_ok S Other = tt
cfa_ok S Undecodable = tt

run_ok : {A : Type 0} (p : A → Bool) (f : ℕ → Op → List A) → ((S : ℕ) (o : Op) → T (all p (f S o))) → (S : ℕ) (os : List Op) → T (all p (run f S os))
unfolding run
run_ok p f h S [] = tt
run_ok p f h S (o ∷ os) = all_append p (f S o) _ (h S o) (run_ok p f h (S + growth_of o) os)

pub x64_ok : (ws : List ℕ) → T (line_ok (x64_line ws))
unfolding x64_line x64_rules cfa_form ra_rules
x64_ok ws =
    let os = chain ws in
    both (form_ok (cfa_form (sums op_cfa os) (8 + sum os))) _ (first (sums op_cfa os) (8 + sum os) (rw (sums_run op_cfa os) (run_ok form_ok op_cfa cfa_ok 8 os)))
    (all_append rule_ok (sums op_rules os) (ra_rules os) (rw (sums_run op_rules os) (run_ok rule_ok op_rules op_ok 8 os)) (last (eqb (machine_frames os) 0)))
  where
    first : (fs : List Form) (S : ℕ) → T (all form_ok fs) → T (form_ok (cfa_form fs S))
    first [] S h = tt
    first (f ∷ fs) S h = and_l (form_ok f) _ h

    last : (t : Bool) → T (all rule_ok (cond t (rule (ascii ".ra") (at_cfa_minus (pos 8)) ∷ []) []))
    last true = tt
    last false = tt

-- ---- an entry that is not refused: its text is that of its line, unless it is skipped

pub x64_accepted : (limit : ℕ) (last : Option Last) (ws : List ℕ) → (x64_entry limit last ws).number ≡ 0
    → Accepted (x64_layout ws) (x64_skipped limit ws) (x64_judged limit ws) (x64_text ws) last last
unfolding x64_entry x64_judged
x64_accepted limit last ws = accepted_by (x64_layout ws) (x64_skipped limit ws) (x64_reach limit ws) (x64_text ws) last last

pub x64_entry_text : (limit : ℕ) (last : Option Last) (ws : List ℕ) → (x64_entry limit last ws).number ≡ 0
    → (x64_entry limit last ws).text ≡ render false (cond (x64_skipped limit ws) [] (x64_lines ws))
unfolding x64_entry x64_lines
x64_entry_text limit last ws e = (x64_accepted limit last ws e).text_is ∙ render_unless false (x64_skipped limit ws) (x64_text ws) (x64_lines ws) (x64_text_lem ws)

pub x64_entry_ok : (ws : List ℕ) → T (all line_ok (x64_lines ws))
unfolding x64_lines
x64_entry_ok ws = both (line_ok (x64_line ws)) true (x64_ok ws) tt

-- ---- the law of the CFA

sum_counts : (os : List Op) → sum os ≡ 8 * pushes os + allocations os + 40 * machine_frames os + 8 * error_codes os
unfolding sum added_by pushes allocations machine_frames error_codes is_machine
sum_counts [] = refl
sum_counts (PushNonVolatile r ∷ os) = omega (arith, sum_counts os)
sum_counts (Alloc v ∷ os) = omega (arith, sum_counts os)
sum_counts (SaveRsp r v ∷ os) = omega (arith, sum_counts os)
sum_counts (SaveFp r v b ∷ os) = omega (arith, sum_counts os)
sum_counts (SetFpRegister b ∷ os) = omega (arith, sum_counts os)
sum_counts (PushMachineFrame true ∷ os) = omega (arith, sum_counts os)
sum_counts (PushMachineFrame false ∷ os) = omega (arith, sum_counts os)
sum_counts (Other ∷ os) = omega (arith, sum_counts os)
sum_counts (Undecodable ∷ os) = omega (arith, sum_counts os)

no_set : (S : ℕ) (os : List Op) → set_count os ≡ 0 → run op_cfa S os ≡ []
unfolding set_count is_set run op_cfa
no_set S [] h = refl
no_set S (PushNonVolatile r ∷ os) h = no_set (S + growth_of (PushNonVolatile r)) os (omega arith)
no_set S (Alloc v ∷ os) h = no_set (S + growth_of (Alloc v)) os (omega arith)
no_set S (SaveRsp r v ∷ os) h = no_set (S + growth_of (SaveRsp r v)) os (omega arith)
no_set S (SaveFp r v b ∷ os) h = no_set (S + growth_of (SaveFp r v b)) os (omega arith)
no_set S (SetFpRegister b ∷ os) h = absurd (omega arith)
no_set S (PushMachineFrame e ∷ os) h = no_set (S + growth_of (PushMachineFrame e)) os (omega arith)
no_set S (Other ∷ os) h = no_set (S + growth_of Other) os (omega arith)
no_set S (Undecodable ∷ os) h = no_set (S + growth_of Undecodable) os (omega arith)

-- With no frame register set, the CFA is $rsp plus 8, 8 for each push, what was allocated, 40 for each machine frame and 8 for each error code,
-- over the whole chain.
pub cfa_law : (ws : List ℕ) → set_count (chain ws) ≡ 0
    → x64_line ws ≡ init (word ws 0) (word ws 1 - word ws 0)
    (rule cfa (register_plus (ascii "$rsp") (pos (8 + (8 * pushes (chain ws) + allocations (chain ws) + 40 * machine_frames (chain ws) + 8 * error_codes (chain ws)))))
    ∷ (sums op_rules (chain ws) ++ ra_rules (chain ws)))
unfolding x64_line x64_rules cfa_form
cfa_law ws h = rw (sums_run op_cfa (chain ws), no_set 8 (chain ws) h, sum_counts (chain ws))
