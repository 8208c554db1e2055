-- The text of a DWARF entry as its rows are run is the text of its sense, and the lines are well formed.
use Rattle.std.specs.Prelude.{◌≡◌, refl, ℕ, ◌-◌, Bool, true, false, not, cond, ◌&&◌, List, [], ◌∷◌, ◌++◌, ℤ, T, eqb, leb, Option}
use Rattle.std.proofs.Common.{sym, ap, ap₂, ◌∙◌, append_assoc, append-nil}
use Rattle.std.proofs.Math.Path.{fun_ext}
use Rattle.text.specs.Text.{ascii}
use Rattle.digits.specs.Digits.{hex, signed}
use Rattle.text.specs.Tests.{all, all_append, and_l, and_r, both, either, any}
use Rattle.names.specs.Names.{cfi_name}
use Rattle.lines.specs.Lines.{Bytes, Form, register, register_plus, cfa_plus, at_cfa_plus, Rule, rule, init, later, cfa, form_text}
use Rattle.lines.specs.Lines.{rule_text, rules_text, init_text, later_text, line_text, render, name_ok, register_ok, form_ok, rule_ok, line_ok}
use Rattle.lines.specs.Lines.Laws.{rules_append, render_append, render_unless}
use Rattle.rules.specs.Rules.Laws.{cfi_ok}
use Rattle.refusal.specs.declared.Refusal.TheVariants.{Reach}
use Rattle.entry.specs.declared.Last.{Last}
use Rattle.entry.specs.Entry.Laws.{Accepted, accepted}
use Rattle.dwarf.specs.declared.RegisterRule.{RegisterRule}
use Rattle.dwarf.specs.declared.CfaRule.{CfaRule}
use Rattle.dwarf.specs.declared.CfaRule.TheVariants.{RegisterPlus, Expression}
use Rattle.dwarf.specs.Dwarf.{twos, Row, rows, load_address, last_end, fde_of, dwarf_layout, dwarf_skipped, dwarf_reach, Seen, never, seen}
use Rattle.dwarf.specs.Dwarf.{differs, CfaSeen, no_cfa, last_cfa, cfa_differs, dwarf_judged, row_count}
use Rattle.dwarf.specs.Dwarf.{rows_fit, form_bytes, named_bytes, rule_bytes, cfa_bytes, ra_bytes, default_bytes, start_bytes}
use Rattle.dwarf.specs.Dwarf.{line_bytes, row_bytes, remember, seen_after, ran_of, ran_row, ran_rows, nothing_seen, dwarf_text, dwarf_entry}
use Rattle.dwarf.specs.Index.{layout_rows, row_rules, ran_row_lem, ra_moves, ran_ra, row_once, rows_once}
use Rattle.dwarf.specs.Sense.{or_else, rule_for, last_rule, last_cfa_rule, rule_differs, cfa_changes, name_form, rule_forms, named, rule_rules, cfa_plus_rules, cfa_rules, ra_rules}
use Rattle.dwarf.specs.Sense.{new_rules, ra_differs, family, return_register, first, end_of, default_rules, line_of, row_line, dwarf_row, dwarf_rows, dwarf_lines}

-- ---- the last earlier row against what is remembered

-- a rule of the sense, as the text remembers it; where there is none, what was remembered before
or_seen : List RegisterRule → Seen → Seen
or_seen [] s = s
or_seen (x ∷ xs) s = seen x.kind x.value

-- the same of the last earlier CFA
cfa_seen : List CfaRule → CfaSeen
cfa_seen [] = no_cfa
cfa_seen (x ∷ xs) = last_cfa x

-- what is remembered of a register, by the rule of an earlier row or none
seen_by : (ℕ → List RegisterRule) → ℕ → Seen
seen_by earlier r = or_seen (earlier r) never

or_else_assoc : {A : Type 0} (x y z : List A) → or_else (or_else x y) z ≡ or_else x (or_else y z)
or_else_assoc [] y z = refl
or_else_assoc (a ∷ x) y z = refl

or_else_none : {A : Type 0} (x : List A) → or_else x [] ≡ x
or_else_none [] = refl
or_else_none (a ∷ x) = refl

or_seen_lem : (x y : List RegisterRule) (s : Seen) → or_seen (or_else x y) s ≡ or_seen x (or_seen y s)
unfolding or_seen
or_seen_lem [] y s = refl
or_seen_lem (a ∷ x) y s = refl

rule_snoc : (ds : List Row) (w : Row) (r : ℕ) → last_rule (ds ++ (w ∷ [])) r ≡ or_else (rule_for r w.rules) (last_rule ds r)
unfolding last_rule
rule_snoc [] w r = sym (or_else_none (rule_for r w.rules))
rule_snoc (d ∷ ds) w r = rw (rule_snoc ds w r) (or_else_assoc (rule_for r w.rules) (last_rule ds r) (rule_for r d.rules))

cfa_snoc : (ds : List Row) (w : Row) → last_cfa_rule (ds ++ (w ∷ [])) ≡ w.cfa ∷ []
unfolding last_cfa_rule
cfa_snoc [] w = refl
cfa_snoc (d ∷ ds) w = rw (cfa_snoc ds w)

remember_rule : (c : ℕ → Seen) (x : RegisterRule) (r : ℕ) → remember c x r ≡ or_seen (cond (eqb x.register r) (x ∷ []) []) (c r)
unfolding or_seen
remember_rule c x r = go (eqb x.register r)
  where
    go : (t : Bool) → cond t (seen x.kind x.value) (c r) ≡ or_seen (cond t (x ∷ []) []) (c r)
    go true = refl
    go false = refl

after_rules : (c : ℕ → Seen) (xs : List RegisterRule) (r : ℕ) → seen_after c xs r ≡ or_seen (rule_for r xs) (c r)
unfolding seen_after rule_for or_seen
after_rules c [] r = refl
after_rules c (x ∷ xs) r =
    after_rules (remember c x) xs r ∙ ap (or_seen (rule_for r xs)) (remember_rule c x r) ∙ sym (or_seen_lem (rule_for r xs) (cond (eqb x.register r) (x ∷ []) []) (c r))

after_row : (ds : List Row) (w : Row) (r : ℕ) → seen_after (seen_by (last_rule ds)) w.rules r ≡ seen_by (last_rule (ds ++ (w ∷ []))) r
unfolding seen_by
after_row ds w r =
    after_rules (seen_by (last_rule ds)) w.rules r ∙ sym (or_seen_lem (rule_for r w.rules) (last_rule ds r) never) ∙ ap (λ (xs : List RegisterRule). or_seen xs never) (sym (rule_snoc ds w r))

rule_differs_lem : (ys : List RegisterRule) (x : RegisterRule) → differs (or_seen ys never) x.kind x.value ≡ rule_differs ys x
unfolding or_seen rule_differs
rule_differs_lem [] x = refl
rule_differs_lem (y ∷ ys) x = refl

cfa_differs_lem : (ys : List CfaRule) (x : CfaRule) → cfa_differs (cfa_seen ys) x ≡ cfa_changes ys x
unfolding cfa_seen cfa_changes
cfa_differs_lem [] x = refl
cfa_differs_lem (y ∷ ys) x = refl

-- ---- what is written is the text of the rules

-- these forms, under any name, give these bytes
abbrev Writes : List Form → Bytes → Type 0
Writes fs t = (n : Bytes) → rules_text (named n fs) ≡ named_bytes n t

no_form : Writes [] []
unfolding rules_text named named_bytes any
no_form [] = refl
no_form (c ∷ n) = refl

one_form : (f : Form) → any (form_text f) ≡ true → Writes (f ∷ []) (form_text f)
unfolding rules_text rule_text named named_bytes any
one_form f h [] = refl
one_form f h (c ∷ n) = rw h (append-nil (rule_text (rule (c ∷ n) f)))

name_form_lem : (n : Bytes) → Writes (name_form n) n
unfolding name_form form_text any
name_form_lem [] = no_form
name_form_lem (c ∷ n) = one_form (register (c ∷ n)) refl

either_form : (t : Bool) (fs gs : List Form) (x y : Bytes) → Writes fs x → Writes gs y → Writes (cond t fs gs) (cond t x y)
either_form true fs gs x y p q = p
either_form false fs gs x y p q = q

forms_text : (f : ℕ) (x : RegisterRule) → Writes (rule_forms f x) (form_bytes f x)
unfolding rule_forms form_bytes form_text any
forms_text f x =
    either_form (eqb x.kind 0) (name_form (cfi_name f x.register)) _ _ _ (name_form_lem (cfi_name f x.register))
    (either_form (eqb x.kind 1) (at_cfa_plus (twos x.value) ∷ []) _ _ _ (one_form (at_cfa_plus (twos x.value)) refl)
    (either_form (eqb x.kind 2) (cfa_plus (twos x.value) ∷ []) _ _ _ (one_form (cfa_plus (twos x.value)) refl)
    (either_form (eqb x.kind 3) (name_form (cfi_name f x.value)) [] _ _ (name_form_lem (cfi_name f x.value)) no_form)))

rule_text_lem : (f ra : ℕ) (x : RegisterRule) → rules_text (rule_rules f ra x) ≡ rule_bytes f ra x
unfolding rule_rules rule_bytes
rule_text_lem f ra x = forms_text f x (cond (eqb x.register ra) (ascii ".ra") (cfi_name f x.register))

cfa_text_lem : (f : ℕ) (x : CfaRule) → rules_text (cfa_rules f x) ≡ cfa_bytes f x
unfolding cfa_rules cfa_bytes cfa_plus_rules rules_text rule_text form_text any
cfa_text_lem f (RegisterPlus r o) = go (cfi_name f r) (twos o)
  where
    go : (n : Bytes) (z : ℤ) → rules_text (cfa_plus_rules n z) ≡ cond (any n) (ascii " .cfa: " ++ n ++ (ascii " " ++ signed z ++ ascii " +")) []
    go [] z = refl
    go (c ∷ n) z = append-nil (rule_text (rule cfa (register_plus (c ∷ n) z)))
cfa_text_lem f Expression = refl

ra_text_lem : (f ra : ℕ) → rules_text (ra_rules f ra) ≡ ra_bytes f ra
unfolding ra_rules ra_bytes name_form named rules_text rule_text form_text any
ra_text_lem f ra = go (leb 3 f && leb f 9) (cfi_name f ra)
  where
    go : (t : Bool) (n : Bytes) → rules_text (named (ascii ".ra") (cond t (name_form n) [])) ≡ cond (t && any n) (ascii " .ra: " ++ n) []
    go true [] = refl
    go true (c ∷ n) = append-nil (ascii " .ra: " ++ (c ∷ n))
    go false n = refl

cond_text : (t : Bool) (rs : List Rule) (x : Bytes) → rules_text rs ≡ x → rules_text (cond t rs []) ≡ cond t x []
unfolding rules_text
cond_text true rs x e = e
cond_text false rs x e = refl

default_text : (b : List ℕ) (start : ℕ) (moved : Bool) → rules_text (default_rules b start moved) ≡ default_bytes (fde_of b) start moved
unfolding default_rules default_bytes fde_of
default_text b start moved = cond_text (eqb start (first b) && not moved) _ _ (ra_text_lem (family b) (return_register b))

-- ---- a row's line is dropped in both or in none

end_last : (w : Row) (ws : List Row) → last_end w.end ws ≡ end_of (w ∷ ws)
unfolding last_end end_of
end_last w [] = refl
end_last w (v ∷ ws) = end_last v ws

end_is : (ws : List Row) → last_end 0 ws ≡ end_of ws
unfolding last_end end_of
end_is [] = refl
end_is (w ∷ ws) = end_last w ws

line_text_lem : (b : List ℕ) (start : ℕ) (rs : List Rule) → line_text false (line_of b start rs) ≡ start_bytes (fde_of b) start ++ rules_text rs ++ ascii "\n"
unfolding line_text line_of start_bytes init_text later_text fde_of
line_text_lem b start rs = rw (end_is (rows b)) (go (eqb start (first b)))
  where
    go : (t : Bool) → line_text false (cond t (init (start - load_address b) (end_of (rows b) - first b) rs) (later (start - load_address b) rs))
        ≡ cond t (ascii "STACK CFI INIT " ++ hex (start - load_address b) ++ ascii " " ++ hex (end_of (rows b) - first b))
        (ascii "STACK CFI " ++ hex (start - load_address b)) ++ rules_text rs ++ ascii "\n"
    go true = refl
    go false = refl

line_bytes_lem : (b : List ℕ) (start : ℕ) (rs : List Rule) (moved : Bool) → line_text false (line_of b start (rs ++ default_rules b start moved)) ≡ line_bytes (fde_of b) start (rules_text rs) moved
unfolding line_bytes
line_bytes_lem b start rs moved = rw (
  line_text_lem b start (rs ++ default_rules b start moved),
  rules_append rs (default_rules b start moved),
  default_text b start moved,
  append_assoc (start_bytes (fde_of b) start) (rules_text rs) (default_bytes (fde_of b) start moved),
)

row_text : (b : List ℕ) (start : ℕ) (rs : List Rule) (moved : Bool) → render false (row_line b start rs moved) ≡ row_bytes (fde_of b) start (rules_text rs) moved
unfolding row_line render row_bytes rules_text rule_text any
row_text b start [] moved = refl
row_text b start (rule n f ∷ rs) moved =
    append-nil (line_text false (line_of b start ((rule n f ∷ rs) ++ default_rules b start moved))) ∙ line_bytes_lem b start (rule n f ∷ rs) moved

-- ---- a row that names no register twice: comparing as it goes is comparing with the rows before it

new_text : (f ra : ℕ) (earlier : ℕ → List RegisterRule) (xs : List RegisterRule) → rules_text (new_rules f ra earlier xs) ≡ row_rules f ra (seen_by earlier) xs
unfolding new_rules row_rules rules_text seen_by
new_text f ra earlier [] = refl
new_text f ra earlier (x ∷ xs) = rw (
  rules_append (cond (rule_differs (earlier x.register) x) (rule_rules f ra x) []) (new_rules f ra earlier xs),
  cond_text (rule_differs (earlier x.register) x) _ _ (rule_text_lem f ra x),
  new_text f ra earlier xs,
  rule_differs_lem (earlier x.register) x,
)

moves_differs : (ra : ℕ) (earlier : ℕ → List RegisterRule) (xs : List RegisterRule) → ra_moves ra (seen_by earlier) xs ≡ ra_differs ra earlier xs
unfolding ra_moves ra_differs seen_by
moves_differs ra earlier [] = refl
moves_differs ra earlier (x ∷ xs) = rw (rule_differs_lem (earlier x.register) x, moves_differs ra earlier xs)

-- ---- all rows

row_ran : (b : List ℕ) (ds : List Row) (w : Row) → T (row_once w) → render false (dwarf_row b ds w) ≡ ran_row (fde_of b) (cfa_seen (last_cfa_rule ds)) (seen_by (last_rule ds)) w
unfolding ran_row ran_of dwarf_row fde_of
row_ran b ds w h =
    let cs : List Rule = cond (cfa_changes (last_cfa_rule ds) w.cfa) (cfa_rules (family b) w.cfa) [] in
    let ns : List Rule = new_rules (family b) (return_register b) (last_rule ds) w.rules in
    rw (
      row_text b w.start (cs ++ ns) (ra_differs (return_register b) (last_rule ds) w.rules),
      rules_append cs ns,
      cond_text (cfa_changes (last_cfa_rule ds) w.cfa) _ _ (cfa_text_lem (family b) w.cfa),
      new_text (family b) (return_register b) (last_rule ds) w.rules,
      ran_row_lem (family b) (return_register b) (seen_by (last_rule ds)) w.rules h,
      ran_ra (return_register b) (seen_by (last_rule ds)) w.rules h,
      moves_differs (return_register b) (last_rule ds) w.rules,
      cfa_differs_lem (last_cfa_rule ds) w.cfa,
    )

rows_ran : (b : List ℕ) (ds : List Row) (s : CfaSeen) (c : ℕ → Seen) (ws : List Row) → s ≡ cfa_seen (last_cfa_rule ds) → c ≡ seen_by (last_rule ds) → T (all row_once ws)
    → render false (dwarf_rows b ds ws) ≡ ran_rows (fde_of b) s c ws
unfolding ran_rows dwarf_rows render cfa_seen
rows_ran b ds s c [] i j h = refl
rows_ran b ds s c (w ∷ ws) i j h =
    rw (i, j) (render_append false (dwarf_row b ds w) _ ∙ ap₂ (λ (s t : Bytes). s ++ t) (row_ran b ds w (and_l (row_once w) _ h))
    (rows_ran b (ds ++ (w ∷ [])) (last_cfa w.cfa) (seen_after (seen_by (last_rule ds)) w.rules) ws (ap cfa_seen (sym (cfa_snoc ds w)))
    (fun_ext λ r. after_row ds w r) (and_r (row_once w) _ h)))

-- the text as it is run is the rendering of the lines
pub dwarf_text_lem : (b : List ℕ) → T (rows_fit b (row_count b) 7) → dwarf_text b ≡ render false (dwarf_lines b)
unfolding dwarf_text dwarf_lines rows nothing_seen last_rule last_cfa_rule seen_by or_seen cfa_seen
dwarf_text_lem b h = sym (rows_ran b [] no_cfa nothing_seen (rows b) refl refl (rows_once b (row_count b) 7 h))

-- ---- an entry that is not refused: its text is that of its lines, unless it is skipped

pub dwarf_accepted : (last : Option Last) (b : List ℕ) → (dwarf_entry last b).number ≡ 0 → Accepted (dwarf_layout b) (dwarf_skipped b) (dwarf_judged b) (dwarf_text b) last last
unfolding dwarf_entry dwarf_judged
dwarf_accepted last b = accepted (dwarf_layout b) (dwarf_skipped b) (dwarf_reach b) Reach (dwarf_text b) last last

pub dwarf_entry_text : (last : Option Last) (b : List ℕ) → (dwarf_entry last b).number ≡ 0 → (dwarf_entry last b).text ≡ render false (cond (dwarf_skipped b) [] (dwarf_lines b))
unfolding dwarf_entry
dwarf_entry_text last b e =
    let a = dwarf_accepted last b e in
    a.text_is ∙ render_unless false (dwarf_skipped b) (dwarf_text b) (dwarf_lines b) (dwarf_text_lem b (layout_rows b a.keeps))

-- ---- the lines are well formed

name_ok_lem : (f r : ℕ) → T (name_ok (cfi_name f r))
name_ok_lem f r = and_l (name_ok (cfi_name f r)) _ (cfi_ok f r)

name_form_ok : (n : Bytes) → T (register_ok n) → T (all form_ok (name_form n))
unfolding name_form
name_form_ok [] h = tt
name_form_ok (c ∷ n) h = both (register_ok (c ∷ n)) true h tt

forms_ok : (f : ℕ) (x : RegisterRule) → T (all form_ok (rule_forms f x))
unfolding rule_forms
forms_ok f x =
    let by = either (all form_ok) in
    by (eqb x.kind 0) (name_form (cfi_name f x.register)) _ (name_form_ok _ (cfi_ok f x.register))
    (by (eqb x.kind 1) (at_cfa_plus (twos x.value) ∷ []) _ tt
    (by (eqb x.kind 2) (cfa_plus (twos x.value) ∷ []) _ tt
    (by (eqb x.kind 3) (name_form (cfi_name f x.value)) [] (name_form_ok _ (cfi_ok f x.value)) tt)))

named_ok : (n : Bytes) (fs : List Form) → T (name_ok n) → T (all form_ok fs) → T (all rule_ok (named n fs))
unfolding named
named_ok n [] h k = tt
named_ok [] (f ∷ fs) h k = tt
named_ok (c ∷ n) (f ∷ fs) h k = both (rule_ok (rule (c ∷ n) f)) true (both (name_ok (c ∷ n)) (form_ok f) h (and_l (form_ok f) _ k)) tt

rule_ok_lem : (f ra : ℕ) (x : RegisterRule) → T (all rule_ok (rule_rules f ra x))
unfolding rule_rules
rule_ok_lem f ra x = named_ok (cond (eqb x.register ra) (ascii ".ra") (cfi_name f x.register)) (rule_forms f x) (go (eqb x.register ra)) (forms_ok f x)
  where
    go : (t : Bool) → T (name_ok (cond t (ascii ".ra") (cfi_name f x.register)))
    go true = tt
    go false = name_ok_lem f x.register

new_ok : (f ra : ℕ) (earlier : ℕ → List RegisterRule) (xs : List RegisterRule) → T (all rule_ok (new_rules f ra earlier xs))
unfolding new_rules
new_ok f ra earlier [] = tt
new_ok f ra earlier (x ∷ xs) = all_append rule_ok (cond (rule_differs (earlier x.register) x) (rule_rules f ra x) []) _
    (either (all rule_ok) (rule_differs (earlier x.register) x) (rule_rules f ra x) [] (rule_ok_lem f ra x) tt) (new_ok f ra earlier xs)

plus_ok : (n : Bytes) (z : ℤ) → T (register_ok n) → T (all rule_ok (cfa_plus_rules n z))
unfolding cfa_plus_rules
plus_ok [] z h = tt
plus_ok (c ∷ n) z h = both (register_ok (c ∷ n)) true h tt

cfa_ok : (f : ℕ) (x : CfaRule) → T (all rule_ok (cfa_rules f x))
unfolding cfa_rules
cfa_ok f (RegisterPlus r o) = plus_ok (cfi_name f r) (twos o) (cfi_ok f r)
cfa_ok f Expression = tt

ra_ok : (f ra : ℕ) → T (all rule_ok (ra_rules f ra))
unfolding ra_rules
ra_ok f ra = named_ok (ascii ".ra") (cond (leb 3 f && leb f 9) (name_form (cfi_name f ra)) []) tt
    (either (all form_ok) (leb 3 f && leb f 9) (name_form (cfi_name f ra)) [] (name_form_ok _ (cfi_ok f ra)) tt)

default_ok : (b : List ℕ) (start : ℕ) (moved : Bool) → T (all rule_ok (default_rules b start moved))
unfolding default_rules
default_ok b start moved = either (all rule_ok) (eqb start (first b) && not moved) (ra_rules (family b) (return_register b)) [] (ra_ok (family b) (return_register b)) tt

line_ok_lem : (b : List ℕ) (start : ℕ) (rs : List Rule) → T (all rule_ok rs) → T (line_ok (line_of b start rs))
unfolding line_of
line_ok_lem b start rs h = go (eqb start (first b))
  where
    go : (t : Bool) → T (line_ok (cond t (init (start - load_address b) (end_of (rows b) - first b) rs) (later (start - load_address b) rs)))
    go true = h
    go false = h

row_line_ok : (b : List ℕ) (start : ℕ) (rs : List Rule) (moved : Bool) → T (all rule_ok rs) → T (all line_ok (row_line b start rs moved))
unfolding row_line
row_line_ok b start [] moved h = tt
row_line_ok b start (r ∷ rs) moved h =
    both (line_ok (line_of b start ((r ∷ rs) ++ default_rules b start moved))) true
    (line_ok_lem b start ((r ∷ rs) ++ default_rules b start moved) (all_append rule_ok (r ∷ rs) (default_rules b start moved) h (default_ok b start moved))) tt

row_ok : (b : List ℕ) (ds : List Row) (w : Row) → T (all line_ok (dwarf_row b ds w))
unfolding dwarf_row
row_ok b ds w =
    let cs : List Rule = cond (cfa_changes (last_cfa_rule ds) w.cfa) (cfa_rules (family b) w.cfa) [] in
    row_line_ok b w.start (cs ++ new_rules (family b) (return_register b) (last_rule ds) w.rules) (ra_differs (return_register b) (last_rule ds) w.rules)
    (all_append rule_ok cs _ (either (all rule_ok) (cfa_changes (last_cfa_rule ds) w.cfa) (cfa_rules (family b) w.cfa) [] (cfa_ok (family b) w.cfa) tt)
    (new_ok (family b) (return_register b) (last_rule ds) w.rules))

rows_ok : (b : List ℕ) (ds ws : List Row) → T (all line_ok (dwarf_rows b ds ws))
unfolding dwarf_rows
rows_ok b ds [] = tt
rows_ok b ds (w ∷ ws) = all_append line_ok (dwarf_row b ds w) _ (row_ok b ds w) (rows_ok b (ds ++ (w ∷ [])) ws)

pub dwarf_entry_ok : (b : List ℕ) → T (all line_ok (dwarf_lines b))
unfolding dwarf_lines
dwarf_entry_ok b = rows_ok b [] (rows b)
