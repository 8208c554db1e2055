-- `registers_fit`: registers met and those left to meet are those of the body.
use Rattle.dwarf.specs.Index.{few_behind}
use Rattle.dwarf.proofs.Meeting.{met_over, met_turn, met_done}
use Rattle.dwarf.proofs.judge.registers_fit.Goals as goal

pub returns-then-rows : goal.returns-then-rows
returns-then-rows c = let r = c.args.rows in few_behind r.words.now r.left r.fit c.if-rows.true

pub returns-then-not-meet_rules : goal.returns-then-not-meet_rules
returns-then-not-meet_rules c = met_over c.loop-row.invariant c.in-Some.ensures.steps c.if-not-meet_rules.ensures

pub loop-row-preserved : goal.loop-row-preserved
loop-row-preserved c = met_turn c.loop-row.invariant c.in-Some.ensures.steps c.if-not-meet_rules.ensures

pub returns : goal.returns
returns c = met_done c.loop-row.invariant c.in-None.ensures.steps.0
