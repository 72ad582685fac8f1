use Rattle.std.proofs.Common.{◌≡◌, ◌+◌, [], ◌∷◌, ◌++◌, take, arith}
use Rattle.std.proofs.Math.Seq.{take-suc}
use Rattle.std.proofs.lemmas.List.{take_all}
use Rattle.dq_formula.proofs.formula.Formula.add_undeclared.Goals as goal

pub loop-lit-preserved : goal.loop-lit-preserved
loop-lit-preserved c =
    let i = c.loop-lit.lit-index in
    let clause = c.args.clause.now in
    let next : take (i + 1) clause ≡ take i clause ++ c.lit-item.result ∷ [] = search (arith, take-suc) in
    λ earlier are. rw next (c.in_ok-add_if_undeclared.ensures earlier (take i clause)
    (c.loop-lit.invariant earlier are))

pub returns : goal.returns
returns c = λ earlier are. rw (take_all c.loop-lit.lit-index c.args.clause.now c.loop-lit-test.false) at
    (c.loop-lit.invariant earlier are)
