use Rattle.std.proofs.Common.{◌∙◌, ap, Ok}
use Rattle.dq_verdicts.proofs.prepared.solve_left.Goals as goal

pub lifted_false-requires-clause-refuted : goal.lifted_false-requires-clause-refuted
lifted_false-requires-clause-refuted c = c.search.ensures.refuted c.in-Ok-Refuted.id
    (c.in-Ok-Refuted.is ∙ ap Ok c.in-Ok-Refuted.field-0-is)
