-- `put_entry`: the beginning, the CFA, the chain, the return address and the newline, put one after the other.
use Rattle.std.proofs.Common.{◌≡◌, ◌-◌, true, false, ap, arith, rules}
use Rattle.text.specs.Text.Laws.{put_as, put_none, put_length}
use Rattle.entry.specs.Entry.{word}
use Rattle.x64.specs.X64.{chain, run, total, set_text, op_text, cfa_or, any_machine, ra_text, rules_run, x64_text}
use Rattle.x64.specs.Scan.Laws.{scan_cfa, scan_machine, in_reach_is}
use Rattle.x64.proofs.Rules.{put_line}
use Rattle.text.specs.Text.{Put}
use Rattle.x64.proofs.write.put_entry.Goals as goal
use Rattle.x64.proofs.write.put_entry.Goals.{then-not-scan, else-not-scan}

pub put_chain-p-requires : goal.put_chain-p-requires
put_chain-p-requires c = in_reach_is (chain c.args.body.words.now) c.args.scan c.requires

pub returns : goal.returns
unfolding x64_text rules_run ra_text
returns c =
    let ws = c.args.body.words.now in
    let os = chain ws in
    let p = c.put_chain-p.ensures in
    let ra : Put c.put_chain-p.new.out c.put_chain-p.result (ra_text c.args.scan.machine) c.if-not-scan.out c.if-not-scan.p = elim c.if-not-scan.branch [
      | then-not-scan w ↦ let m : c.args.scan.machine ≡ false = search rules in rw (w.out-is, w.p-is, m, ← w.ra_name.ensures) w.put_saved-p.ensures
      | else-not-scan w ↦ let m : c.args.scan.machine ≡ true = search rules in rw (w.out-is, w.p-is, m) (put_none (omega (arith, put_length p, p.short)) (omega (arith, p.next)))
    ] in
    put_line (word ws 0) (word ws 1 - word ws 0) (cfa_or (run set_text 8 os) (total 8 os)) (run op_text 8 os) (ra_text (any_machine os))
    (put_as c.put_init-p.ensures (rw (c.saturating_sub-size.ensures, c.end.ensures, c.begin-begin.ensures)))
    (put_as c.put_scan-p.ensures (scan_cfa os c.args.scan c.requires))
    c.put_chain-p.ensures
    (put_as ra (ap ra_text (scan_machine os c.args.scan c.requires)))
    c.put_byte.ensures
