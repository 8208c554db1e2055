-- `differs`: at the register's place, or there is none.
use Rattle.std.proofs.Common.{arith, ◌∙◌, length, ◌≡◌, rules}
use Rattle.dwarf.proofs.Store.{found, not_found, differs_at, differs_new}
use Rattle.dwarf.proofs.RuleCache.differs.Goals as goal

pub returns-in-Some : goal.returns-in-Some
returns-in-Some c =
    let s = c.args.self.now in
    let lr : length s.register ≡ 64 = search rules in
    let p = found s c.args.rule.register (omega arith) c.in-Some.ensures in
    c.differs_at.ensures ∙ differs_at s c.args.rule.register _ _ _ p.0 p.1

pub returns-in-None : goal.returns-in-None
returns-in-None c =
    let s = c.args.self.now in
    let lr : length s.register ≡ 64 = search rules in
    differs_new s c.args.rule.register _ _ (not_found s c.args.rule.register (omega arith) c.in-None.ensures)
