-- `meet`: it was met, there is no room, or it is stored behind the others.
use Rattle.std.proofs.Common.{◌≡◌, sym, ◌∙◌, length, rules}
use Rattle.dwarf.specs.Cache.{held}
use Rattle.dwarf.proofs.Meeting.{any_member, met_before, met_none, met_new}
use Rattle.dwarf.proofs.Registers.meet.Goals as goal

pub returns-then-contains : goal.returns-then-contains
returns-then-contains c =
    let s = c.args.self.now in
    met_before s c.args.register (sym (any_member c.args.register (held s)) ∙ sym c.if-contains.ensures.value)

pub returns-then-count-eq-MOST_REGISTERS : goal.returns-then-count-eq-MOST_REGISTERS
returns-then-count-eq-MOST_REGISTERS c =
    let s = c.args.self.now in
    met_none s c.args.register (sym (any_member c.args.register (held s)) ∙ sym c.if-contains.ensures.value) c.if-count-eq-MOST_REGISTERS.true

pub returns : goal.returns
returns c =
    let s = c.args.self.now in
    let long : length s.number ≡ 64 = search rules in
    met_new s c.args.register _ long (sym (any_member c.args.register (held s)) ∙ sym c.if-contains.ensures.value)
