use Rattle.dq_formula.specs.Prefix.{AreUndeclaredIn}
use Rattle.dq_formula.proofs.Free.{free-variables}
use Rattle.dq_formula.proofs.formula.Formula.free_variables.Goals as goal

pub returns : goal.returns
returns c =
    let f = c.args.self.now in
    let vs = c.in_ok-free.free.items in
    let are : AreUndeclaredIn f f.matrix vs = rw (c.in_ok-free.ensures.items, c.items.ensures)
    c.in_ok-undeclared.ensures in
    free-variables f vs c.sort_unstable.new.self.items are c.sort_unstable.ensures.permutation
    c.sort_unstable.ensures.sorted
