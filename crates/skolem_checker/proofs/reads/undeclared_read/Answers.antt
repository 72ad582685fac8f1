use Rattle.std.proofs.Common.{arith}
use Rattle.skolem_checker.specs.Tables.{ReadsByTables}
use Rattle.skolem_checker.proofs.ConesLaws.{settled_written, all_declared, all_seen}
use Rattle.skolem_checker.proofs.reads.undeclared_read.Goals as goal

pub undeclared_by_batches-requires-clause-settled : goal.undeclared_by_batches-requires-clause-settled
undeclared_by_batches-requires-clause-settled c =
    search (
      arith,
      (settled_written c.args.tested.now.circuit.now c.args.tested.now.literals.now c.args.places.now c.args.tested.now.formula.now c.existentials-ys.result.now),
    )

pub undeclared_by_batches-requires-clause-cone : goal.undeclared_by_batches-requires-clause-cone
undeclared_by_batches-requires-clause-cone c =
    c.forget.ensures c.args.tested.now.formula.now c.args.tested.now.circuit.now c.args.tested.now.literals.now _

pub settle_by_ends-requires-clause-declared : goal.settle_by_ends-requires-clause-declared
settle_by_ends-requires-clause-declared c = search (arith, all_declared)

pub returns-then-all_see_all-clause-answer : goal.returns-then-all_see_all-clause-answer
returns-then-all_see_all-clause-answer c =
    all_seen c.args.tested.now.formula.now c.existentials-ys.result.now
    (ReadsByTables c.args.tested.now.circuit.now c.args.tested.now.literals.now c.args.places.now)
    c.existentials-ys.ensures c.every_formula_is_lawful.ensures.named (c.all_see_all.ensures c.if-all_see_all.true)

pub all_see_all-requires : goal.all_see_all-requires
all_see_all-requires c = search (arith, all_declared)
