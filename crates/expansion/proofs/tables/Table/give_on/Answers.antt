use Rattle.std.proofs.Common.{sym, subst, arith}
use Rattle.std.specs.List.{All}
use Rattle.hint_log.specs.Naming.{arbiter}
use Rattle.log_laws.specs.Engines.{instances, part}
use Rattle.oracle.specs.Calls.{IsPlain}
use Rattle.expansion.proofs.GivenInstances.{arbiters_in_range, pairs_plain, instance_passed, instance_added}
use Rattle.expansion.proofs.tables.Table.give_on.Goals as goal

pub returns-then-has_true_universal-clause-given : goal.returns-then-has_true_universal-clause-given
returns-then-has_true_universal-clause-given g c rows are = search (arith, instance_passed)

pub on_arbiters-requires-clause-in_range : goal.on_arbiters-requires-clause-in_range
on_arbiters-requires-clause-in_range g c =
    arbiters_in_range c.args.log.now.entries (arbiter c.args.paired.now.f.now c.requires.arbiters.0
    c.args.paired.now.row.now) c.args.paired.now.variables.now c.args.paired.now.f.now.existentials
    (g.met.O.Oracle.searched c.args.oracle.now c.args.log.now c.requires.fit).logged c.requires.arbiters.1

pub add-requires-clause-plain : goal.add-requires-clause-plain
add-requires-clause-plain g c =
    let row = c.args.paired.now.row.now in
    let rows = c.requires.arbiters.0 in
    let entries = c.args.log.now.entries in
    let named = c.in_ok-literals.ensures (part instances entries) rows row c.requires.arbiters.1 in
    subst (All (IsPlain entries)) (sym c.deref.ensures.value)
    (pairs_plain c.args.paired.now.f.now entries (g.met.O.Oracle.searched c.args.oracle.now c.args.log.now
    c.requires.fit).logged rows row c.args.clause.now.literals.now c.in_ok-literals.literals.items named)

pub returns-clause-given : goal.returns-clause-given
returns-clause-given g c rows are = search (arith, instance_added)
