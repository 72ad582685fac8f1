use Rattle.std.proofs.Common.{arith}
use Rattle.skolem_checker.proofs.SightsLaws.{allowed_is_declared}
use Rattle.skolem_checker.proofs.sights.are_declared.Goals as goal

pub returns-clause-declared : goal.returns-clause-declared
returns-clause-declared c all i e at q below reads =
    search (
      arith,
      (allowed_is_declared c.args.tested.now.formula.now c.note_sets.new.listed c.note_sets.new.stops i q e (c.note_sets.ensures.noted i e at)),
    )
