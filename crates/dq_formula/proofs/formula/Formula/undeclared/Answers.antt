use Rattle.std.proofs.Common.{◌≡◌, ◌+◌, [], ◌∷◌, ◌++◌, take, arith}
use Rattle.std.proofs.Math.Seq.{take-suc}
use Rattle.dq_formula.proofs.Free.{none_undeclared}
use Rattle.dq_formula.proofs.formula.Formula.undeclared.Goals as goal

pub loop-j-init : goal.loop-j-init
loop-j-init c = rw c.new-vars.ensures (none_undeclared c.args.self.now)

pub loop-j-preserved : goal.loop-j-preserved
loop-j-preserved c =
    let j = c.loop-j.j in
    let matrix = c.args.self.now.matrix in
    let next : take (j + 1) matrix ≡ take j matrix ++ c.clause.result.now ∷ [] = search (arith, take-suc) in
    rw next (c.in_ok-add_undeclared.ensures (take j matrix) c.loop-j.invariant)
