use Rattle.std.proofs.Common.{◌≤◌, ◌∙◌, ap, subst, length, get_or, [], arith}
use Rattle.lifted_proofs.specs.Liftings.{formula_of}
use Rattle.lifted_proofs.proofs.LiftedNames.{naming-begun, naming-done}
use Rattle.lifted_proofs.proofs.liftings.Lifting.name_clause.Goals as goal

pub loop-q-init : goal.loop-q-init
loop-q-init c = search (arith, naming-begun)

pub returns : goal.returns
returns c =
    let l = c.args.self.now in
    naming-done l c.requires.lifting c.args.j c.loop-q.found c.loop-q.q c.loop-q.named c.requires.within
    c.loop-q.invariant
    (subst (λ xs. length xs ≤ c.loop-q.q)
    (c.clause-q-end.ensures ∙ ap (λ p. get_or (formula_of l).matrix p []) c.place.ensures.is) c.loop-q-test.false)
