use Rattle.skolem_checker.proofs.reads.first_read.Goals as goal

pub returns-then-are_declared-clause-answer : goal.returns-then-are_declared-clause-answer
returns-then-are_declared-clause-answer c = rw c.deref.ensures.value at
    (c.are_declared.ensures.declared c.if-are_declared.true)

pub returns-clause-answer : goal.returns-clause-answer
returns-clause-answer c = rw c.deref-2.ensures.value at c.first_read_one_by_one.ensures
