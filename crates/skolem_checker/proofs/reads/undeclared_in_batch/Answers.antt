use Rattle.std.proofs.Common.{ap, ◌∙◌, length, arith}
use Rattle.skolem_checker.proofs.ConesLaws.{batch_alone, cone_written}
use Rattle.skolem_checker.proofs.reads.undeclared_in_batch.Goals as goal

pub returns-then-are_walked-clause-cone : goal.returns-then-are_walked-clause-cone
returns-then-are_walked-clause-cone c =
    search (
      arith,
      (cone_written c.args.tested.now.formula.now c.args.tested.now.circuit.now c.args.tested.now.literals.now c.are_walked.new.slots c.args.words.now.reached.items c.args.words.now.reached.len c.are_walked.new.cone c.args.words.now.reached.ok.0 (c.are_walked.ensures.same_length ∙ ap length c.deref_mut.ensures.value) (c.are_walked.ensures.cone c.if-are_walked.true)),
    )

pub returns-then-are_walked-clause-answer : goal.returns-then-are_walked-clause-answer
returns-then-are_walked-clause-answer c =
    search (
      arith,
      (batch_alone c.args.tested.now.circuit.now c.args.tested.now.literals.now c.args.places.now c.args.tested.now.formula.now c.args.ys.now c.args.settled c.requires.settled (c.are_walked.ensures.alone c.if-are_walked.true)),
    )

pub returns-clause-cone : goal.returns-clause-cone
returns-clause-cone c =
    c.forget.ensures c.args.tested.now.formula.now c.args.tested.now.circuit.now c.args.tested.now.literals.now
    c.undeclared_by_words-read.new.words.reached.items
