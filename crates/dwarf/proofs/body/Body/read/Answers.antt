-- `read`: by the layout.
use Rattle.std.proofs.Common.{◌≡◌, ◌≤◌, ◌<◌, ℕ, List, sym, ◌∙◌, arith, take, drop, length, true, false, ◌&&◌, leb, ltb, [], T}
use Rattle.std.proofs.Math.Bool.{and-false}
use Rattle.std.proofs.lemmas.List.{get_or-take}
use Rattle.text.specs.Tests.{both}
use Rattle.entry.specs.Entry.{word}
use Rattle.dwarf.specs.Dwarf.{head_fits, rows_fit, rows_from, row_count, distinct, registers, rules_of, dwarf_layout}
use Rattle.dwarf.proofs.Slices.{layout_cut, layout_short, rows_behind}
use Rattle.dwarf.proofs.body.Body.read.Goals as goal

pub returns-in_err-family : goal.returns-in_err-family
returns-in_err-family c = rw c.from_residual.ensures (layout_short c.args.words.now (omega (arith, c.in_err-family.ensures.cases)))

at_front : (ws front : List ℕ) → front ≡ take 7 ws → (k : ℕ) → k < 7 → word front k ≡ word ws k
at_front ws front e k l = rw e (get_or-take 7 ws k 0 l)

head_is : (ws front : List ℕ) → front ≡ take 7 ws → (leb (word front 0) 10 && (ltb (word front 5) 65536 && leb (word front 6) 1024)) ≡ head_fits ws
unfolding head_fits
head_is ws front e = rw (at_front ws front e 0 (omega arith), at_front ws front e 5 (omega arith), at_front ws front e 6 (omega arith))

-- the layout by its three tests
module _ (ws : List ℕ) (h : 7 ≤ length ws) where
  no_head : head_fits ws ≡ false → dwarf_layout ws ≡ false
  no_head e = layout_cut ws h ∙ rw e

  no_rows : rows_fit (drop 7 ws) (row_count ws) 0 ≡ false → dwarf_layout ws ≡ false
  no_rows e = layout_cut ws h ∙ rw e (and-false (head_fits ws))

  too_many : leb (distinct [] (registers (rules_of (rows_from (drop 7 ws) (row_count ws) 0)))) 64 ≡ false → dwarf_layout ws ≡ false
  too_many e = layout_cut ws h ∙ rw (e, and-false (rows_fit (drop 7 ws) (row_count ws) 0)) (and-false (head_fits ws))

  all_three : head_fits ws ≡ true → T (rows_fit (drop 7 ws) (row_count ws) 0)
      → leb (distinct [] (registers (rules_of (rows_from (drop 7 ws) (row_count ws) 0)))) 64 ≡ true → T (dwarf_layout ws)
  all_three e f g = rw (layout_cut ws h, e, g) (both (rows_fit (drop 7 ws) (row_count ws) 0) true f tt)

pub returns-then-not-head_fits : goal.returns-then-not-head_fits
returns-then-not-head_fits c =
    let ws = c.args.words.now in
    let cut = c.in_ok-family.ensures.cases in
    no_head ws (omega (arith, cut.2)) (sym (head_is ws _ cut.0) ∙ sym c.if-not-head_fits.ensures)

pub returns-in_err-rows : goal.returns-in_err-rows
returns-in_err-rows c =
    let ws = c.args.words.now in
    let cut = c.in_ok-family.ensures.cases in
    rw c.from_residual-in_err-rows.ensures
    (no_rows ws (omega (arith, cut.2)) (rw (cut.1, at_front ws _ cut.0 6 (omega arith)) at c.in_err-rows.ensures))

pub returns-then-not-registers_fit : goal.returns-then-not-registers_fit
returns-then-not-registers_fit c =
    let ws = c.args.words.now in
    let cut = c.in_ok-family.ensures.cases in
    let r = c.in_ok-rows.ensures in
    too_many ws (omega (arith, cut.2)) (sym (rw (r.0, r.1, cut.1, at_front ws _ cut.0 6 (omega arith)) at c.if-not-registers_fit.ensures))

pub invariant_of-result : goal.invariant_of-result
invariant_of-result c =
    let ws = c.args.words.now in
    let cut = c.in_ok-family.ensures.cases in
    let r = c.in_ok-rows.ensures in
    let n : word c.in_ok-family.field-0-0.now 6 ≡ word ws 6 = at_front ws _ cut.0 6 (omega arith) in
    let fit = rw (r.0, r.1, cut.1, n) at c.in_ok-rows.rows.fit in
    let few = rw (r.0, r.1, cut.1, n) at c.if-not-registers_fit.ensures in
    record {
      laid_out = all_three ws (omega (arith, cut.2)) (sym (head_is ws _ cut.0) ∙ sym c.if-not-head_fits.ensures) fit (sym few);
      rows_are = rw (r.0, r.1, cut.1, n) (sym (rows_behind ws));
      count_is = r.1 ∙ n;
    }
