use Rattle.std.proofs.Common.{refl, subst}
use Rattle.list_laws.proofs.Results.{on_ok}
use Rattle.lifted_proofs.specs.Liftings.{IsSettledFrom}
use Rattle.lifted_proofs.proofs.LiftedNames.{name-known, name-weak}
use Rattle.lifted_proofs.proofs.liftings.Lifting.name.Goals as goal

pub returns-in_ok-push-in-None : goal.returns-in_ok-push-in-None
returns-in_ok-push-in-None c =
    name-known c.args.self.now c.requires.lifting c.args.j c.args.literal c.args.id c.args.named.now
    (record c.args.named.now { ids = c.push.new.self }) c.requires.nameable
    (subst (IsSettledFrom c.args.self.now c.args.literal) c.in-None.is c.settled_from.ensures) refl
    c.in_ok-push-in-None.ensures.items

pub returns-in-Some : goal.returns-in-Some
returns-in-Some c =
    on_ok c.name_weaker.result
    (name-weak c.args.self.now c.requires.lifting c.args.j c.args.literal c.args.id c.in-Some.was c.args.named.now
    c.name_weaker.new.named c.requires.within c.requires.nameable
    (subst (IsSettledFrom c.args.self.now c.args.literal) c.in-Some.is c.settled_from.ensures)) c.name_weaker.ensures
