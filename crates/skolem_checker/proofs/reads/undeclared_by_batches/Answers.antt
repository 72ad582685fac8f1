use Rattle.std.proofs.Common.{◌≡◌, ℕ, ◌*◌, ◌+◌, ◌-◌, ◌<◌, List, length, get_or, sym, ap, ◌∙◌, subst, arith}
use Rattle.std.specs.Prelude.{slice_index}
use Rattle.std.proofs.lemmas.List.{length-map, get_or_default}
use Rattle.dq_lits.specs.Formula.{Existential}
use Rattle.skolem_checker.specs.Cones.{AreSettled}
use Rattle.skolem_checker.specs.Tables.{ReadsByTables}
use Rattle.skolem_checker.proofs.ConesLaws.{batch_known}
use Rattle.skolem_checker.proofs.SightsLaws.{batch_declared, batch_passes, batch_fails}
use Rattle.skolem_checker.proofs.reads.undeclared_by_batches.Goals as goal

pub undeclared_in_batch-read-requires-clause-declared : goal.undeclared_in_batch-read-requires-clause-declared
undeclared_in_batch-read-requires-clause-declared c = search (arith, batch_declared)

pub returns-in-Some-clause-answer : goal.returns-in-Some-clause-answer
returns-in-Some-clause-answer c = search (arith, batch_fails)

pub loop-batch-preserved : goal.loop-batch-preserved
loop-batch-preserved c =
    let lengths : length c.existentials-ys.result.now ≡ length c.args.tested.now.formula.now.existentials =
    ap length c.existentials-ys.ensures ∙ length-map c.args.tested.now.formula.now.existentials
    (λ (y : Existential). y.variable) in record {
      words = c.undeclared_in_batch-read.ensures.words;
      settled = c.undeclared_in_batch-read.ensures.settled ∙ c.loop-batch.invariant.settled;
      cone = c.undeclared_in_batch-read.ensures.cone;
      first = batch_passes c.args.tested.now.formula.now c.existentials-ys.result.now (c.loop-batch.batch * 64)
          (c.loop-batch.batch * 64 + c.min.result - c.loop-batch.batch * 64)
          c.existentials-ys.ensures c.every_formula_is_lawful.ensures.named
          (ReadsByTables c.args.tested.now.circuit.now c.args.tested.now.literals.now c.args.places.now)
          c.loop-batch.invariant.first ((c.loop-batch.batch + 1) * 64) c.in_default.ensures.answer
          (λ p lt below. omega (arith, lt, below, lengths, c.min.ensures));
    }

pub undeclared_in_batch-read-requires-clause-settled : goal.undeclared_in_batch-read-requires-clause-settled
undeclared_in_batch-read-requires-clause-settled c =
    let f = c.args.tested.now.formula.now in
    let ys = c.existentials-ys.result.now in
    batch_known c.args.tested.now.circuit.now c.args.tested.now.literals.now c.args.places.now f ys
    c.args.words.now.settled.items c.loop-batch.batch (c.loop-batch.batch * 64 + c.min.result - c.loop-batch.batch * 64)
    c.index-settled.result.now
    (subst (λ xs. AreSettled c.args.tested.now.circuit.now c.args.tested.now.literals.now c.args.places.now f xs
    c.args.words.now.settled.items (length xs)) (sym c.existentials-ys.ensures) c.requires.settled)
    (at_index c.loop-batch.words.settled.items c.args.words.now.settled.items c.loop-batch.batch
    c.index-settled.result.now
    c.loop-batch.invariant.settled
    (omega (
      arith,
      c.loop-batch.invariant.words.settled,
      c.loop-batch-test.true,
      c.div_ceil-batch-end.ensures,
      ap length c.existentials-ys.ensures,
      length-map f.existentials (λ (y : Existential). y.variable),
    ))
    c.index-settled.ensures)
    (omega (arith, c.min.ensures))
  where
    at_index : (xs ys : List ℕ) (i v : ℕ) → xs ≡ ys → i < length xs → v ≡ get_or xs i v → v ≡ slice_index ys i
    at_index xs ys i v same below is = is ∙ get_or_default xs i v 0 below ∙ ap (λ zs. slice_index zs i) same
