use Rattle.std.proofs.Common.{◌≡◌, ◌∙◌, List, [], length, get_or, ap, arith}
use Rattle.dq_lits.specs.Literal.{Literal}
use Rattle.lifted_proofs.specs.Liftings.{left_at}
use Rattle.lifted_proofs.proofs.LiftedNames.{left-in, none-next, next-by}
use Rattle.lifted_proofs.proofs.liftings.Lifting.is_next.Goals as goal

pub clause-left-requires : goal.clause-left-requires
clause-left-requires c = search (arith, (left-in c.args.self.now c.args.j c.requires.lifting c.requires.within))

pub returns-then-found-left : goal.returns-then-found-left
returns-then-found-left c =
    let l = c.args.self.now in
    let left : c.clause-left.result.now ≡ left_at l c.args.j =
    c.clause-left.ensures ∙ ap (λ g. get_or g.matrix c.args.j []) c.formula.ensures in
    none-next l c.args.j c.args.found c.args.literal
    (omega (arith, c.if-found-left.true, ap (λ (ls : List Literal). length ls) left))

pub returns : goal.returns
returns c =
    let l = c.args.self.now in
    let k = c.index-left-found.result in
    let left : c.clause-left.result.now ≡ left_at l c.args.j =
    c.clause-left.ensures ∙ ap (λ g. get_or g.matrix c.args.j []) c.formula.ensures in
    next-by l c.args.j c.args.found k c.args.literal c.eq.result
    (omega (arith, c.if-found-left.false, ap (λ (ls : List Literal). length ls) left))
    (c.index-left-found.is ∙ ap (λ xs. get_or xs c.args.found k) left) c.eq.ensures
