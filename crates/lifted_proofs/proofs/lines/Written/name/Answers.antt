use Rattle.std.proofs.Common.{refl}
use Rattle.std.specs.Vec.{with_item}
use Rattle.lifted_proofs.proofs.NamedGoals.{named-set}
use Rattle.lifted_proofs.proofs.lines.Written.name.Goals as goal

pub returns-clause-named : goal.returns-clause-named
returns-clause-named c =
    let new = c.id_of.new.self in
    (named-set c.args.table.now c.args.plan.now c.args.self.now new c.args.q c.in_ok-id.id c.in_ok-id.ensures.line
    c.requires.written c.requires.within c.in_ok-id.ensures.ids
    (record new { ids = with_item new.ids c.args.q c.in_ok-id.id }) refl refl).1

pub returns-clause-kept : goal.returns-clause-kept
returns-clause-kept c =
    let new = c.id_of.new.self in
    (named-set c.args.table.now c.args.plan.now c.args.self.now new c.args.q c.in_ok-id.id c.in_ok-id.ensures.line
    c.requires.written c.requires.within c.in_ok-id.ensures.ids
    (record new { ids = with_item new.ids c.args.q c.in_ok-id.id }) refl refl).2
