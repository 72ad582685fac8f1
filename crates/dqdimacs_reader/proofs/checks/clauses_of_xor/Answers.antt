use Rattle.std.proofs.Common.{arith}
use Rattle.dqdimacs_reader.proofs.XorLines.{of_one, of_two, of_three, of_four, of_five}
use Rattle.dqdimacs_reader.proofs.checks.clauses_of_xor.Goals as goal

pub returns-then-size-eq1-clause-value : goal.returns-then-size-eq1-clause-value
returns-then-size-eq1-clause-value c = of_one c.args.literals.now (omega (arith, c.if-size-eq1.true))

pub returns-then-size-eq2-clause-value : goal.returns-then-size-eq2-clause-value
returns-then-size-eq2-clause-value c = of_two c.args.literals.now (omega (arith, c.if-size-eq2.true))

pub returns-then-size-eq3-clause-value : goal.returns-then-size-eq3-clause-value
returns-then-size-eq3-clause-value c = of_three c.args.literals.now (omega (arith, c.if-size-eq3.true))

pub returns-then-size-eq4-clause-value : goal.returns-then-size-eq4-clause-value
returns-then-size-eq4-clause-value c = of_four c.args.literals.now (omega (arith, c.if-size-eq4.true))

pub returns-else-size-eq4-clause-value : goal.returns-else-size-eq4-clause-value
returns-else-size-eq4-clause-value c = search (arith, of_five)
