use Rattle.std.proofs.Common.{◌<◌, IsSome, get_or, length, subst, sym}
use Rattle.dq_lits.specs.Formula.{existential_of}
use Rattle.defined_checker.proofs.TakenBlocks.{is_existential}
use Rattle.defined_checker.proofs.checks.take_blocks.Goals as goal

pub take_block-requires-clause-existential : goal.take_block-requires-clause-existential
take_block-requires-clause-existential c =
    let f = c.args.f.now in
    subst (λ ys. IsSome (existential_of f (get_or ys c.loop-k.k 0))) (sym c.existentials.ensures)
    (is_existential f c.loop-k.k c.every_formula_is_lawful.ensures.named
    (subst (λ ys. c.loop-k.k < length ys) c.existentials-count.ensures c.loop-k-test.true))
