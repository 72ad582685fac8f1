use Rattle.proof_checker.specs.ClauseLiterals.{clause_literals}
use Rattle.std.proofs.Common.{arith}
use Rattle.proof_checker.proofs.MatrixPlaces.{next_clause}
use Rattle.proof_checker.proofs.tables.clause_literals.Goals as goal

pub loop-j-preserved : goal.loop-j-preserved
loop-j-preserved c =
    next_clause c.args.first c.loop-j.j c.args.f.now.matrix c.loop-j.all.items c.push_literals.new.all.items
    (clause_literals c.args.first c.args.f.now.matrix) c.clause.result.now
    (omega (arith, c.loop-j-test.true, c.clauses-j-end.ensures.value))
    c.clause.ensures c.loop-j.invariant c.in_ok-push_literals.ensures
