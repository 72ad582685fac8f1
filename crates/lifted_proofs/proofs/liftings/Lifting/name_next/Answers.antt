use Rattle.std.proofs.Common.{arith}
use Rattle.lifted_proofs.proofs.LiftedNames.{nameable, naming-passed, naming-found, next-left}
use Rattle.lifted_proofs.proofs.liftings.Lifting.name_next.Goals as goal

pub returns-then-not-is_next : goal.returns-then-not-is_next
returns-then-not-is_next c = search (arith, naming-passed)

pub name-requires-clause-nameable : goal.name-requires-clause-nameable
name-requires-clause-nameable c = search (arith, nameable, next-left)

pub returns : goal.returns
returns c =
    let l = c.args.self.now in
    naming-found l c.requires.lifting c.args.j c.args.found c.args.q c.args.named.now c.name.new.named
    c.literal_at-literal.result c.requires.named
    (next-left l c.requires.lifting c.args.j c.args.found c.literal_at-literal.result c.is_next.result c.is_next.ensures
    c.if-not-is_next.false)
    c.literal_at-literal.ensures c.in_ok-name.ensures
