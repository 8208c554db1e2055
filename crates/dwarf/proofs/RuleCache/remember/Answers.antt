-- `remember`: the rule is stored at its register's place, or behind the others.
use Rattle.std.proofs.Common.{arith, ◌∙◌, length, ◌<◌, ◌≡◌, rules}
use Rattle.dwarf.specs.Cache.{place_of}
use Rattle.dwarf.proofs.Store.{found, not_found, differs_at, differs_new, newly_at, newly_not, replaced_at, appended_at}
use Rattle.dwarf.proofs.RuleCache.remember.Goals.{In-None}
use Rattle.dwarf.proofs.RuleCache.remember.Goals as goal

-- a register that is not there leaves room
none : (c : In-None) → place_of c.args.self.now c.args.rule.register ≡ c.args.self.now.count
none c = let lr : length c.args.self.now.register ≡ 64 = search rules in not_found c.args.self.now c.args.rule.register (omega arith) c.in-None.ensures

room : (c : In-None) → c.args.self.now.count < 64
room c = omega (arith, newly_not c.args.self.now c.args.rule.register (none c))

pub bounds-self-q-in-None : goal.bounds-self-q-in-None
bounds-self-q-in-None c = room (goal.at.bounds-self-q-in-None c).In-None

pub bounds-self-q-in-None-2 : goal.bounds-self-q-in-None-2
bounds-self-q-in-None-2 c = room (goal.at.bounds-self-q-in-None-2 c).In-None

pub bounds-self-q-in-None-3 : goal.bounds-self-q-in-None-3
bounds-self-q-in-None-3 c = room (goal.at.bounds-self-q-in-None-3 c).In-None

pub invariant_of-self-in-None : goal.invariant_of-self-in-None
invariant_of-self-in-None c = record { few = omega (arith, room (goal.at.invariant_of-self-in-None c).In-None) }

pub returns-in-Some-clause-changes : goal.returns-in-Some-clause-changes
returns-in-Some-clause-changes c =
    let s = c.args.self.now in
    let lr : length s.register ≡ 64 = search rules in
    let p = found s c.args.rule.register (omega arith) c.in-Some.ensures in
    c.differs_at-differs.ensures ∙ differs_at s c.args.rule.register _ _ _ p.0 p.1

pub returns-in-Some-clause-sees : goal.returns-in-Some-clause-sees
returns-in-Some-clause-sees c =
    let s = c.args.self.now in
    let lr : length s.register ≡ 64 = search rules in
    let lk : length s.kind ≡ 64 = search rules in
    let lv : length s.value ≡ 64 = search rules in
    let p = found s c.args.rule.register (omega arith) c.in-Some.ensures in
    replaced_at s c.args.rule.register c.args.rule.kind c.args.rule.value lr lk lv _ p.0 p.1

pub returns-in-Some-clause-counts : goal.returns-in-Some-clause-counts
returns-in-Some-clause-counts c =
    let s = c.args.self.now in
    let lr : length s.register ≡ 64 = search rules in
    let p = found s c.args.rule.register (omega arith) c.in-Some.ensures in
    omega (arith, newly_at s c.args.rule.register _ p.0 p.1)

pub returns-in-None-clause-changes : goal.returns-in-None-clause-changes
returns-in-None-clause-changes c = differs_new c.args.self.now c.args.rule.register _ _ (none (goal.at.returns-in-None-clause-changes c).In-None)

pub returns-in-None-clause-sees : goal.returns-in-None-clause-sees
returns-in-None-clause-sees c =
    let s = c.args.self.now in
    let lr : length s.register ≡ 64 = search rules in
    let lk : length s.kind ≡ 64 = search rules in
    let lv : length s.value ≡ 64 = search rules in
    appended_at s c.args.rule.register c.args.rule.kind c.args.rule.value lr lk lv _ (none (goal.at.returns-in-None-clause-sees c).In-None)

pub returns-in-None-clause-counts : goal.returns-in-None-clause-counts
returns-in-None-clause-counts c = omega (arith, newly_not c.args.self.now c.args.rule.register (none (goal.at.returns-in-None-clause-counts c).In-None))
