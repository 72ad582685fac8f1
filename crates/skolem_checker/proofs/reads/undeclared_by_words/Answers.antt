use Rattle.std.proofs.Common.{◌≡◌, length, ap, ◌∙◌}
use Rattle.skolem_checker.proofs.SightsLaws.{batch_answer, whole_written}
use Rattle.skolem_checker.proofs.reads.undeclared_by_words.Goals as goal

pub returns-clause-answer : goal.returns-clause-answer
returns-clause-answer c =
    let same : length c.mark_reached.new.words ≡ length c.args.words.now.reached.items =
    c.mark_reached.ensures.same_length ∙ ap length c.deref_mut.ensures.value in
    batch_answer c.args.tested.now.formula.now c.args.tested.now.circuit.now c.args.tested.now.literals.now
    c.args.places.now c.args.ys.now c.mark_reached.new.words c.first_read.result
    c.mark_reached.ensures.reached
    (rw (whole_written c.mark_reached.new.words c.args.words.now.reached.items c.args.words.now.reached.len
    c.args.words.now.reached.ok.0 same) at c.first_read.ensures.answer)
