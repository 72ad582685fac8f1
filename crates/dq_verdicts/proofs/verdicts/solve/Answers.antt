use Rattle.std.proofs.Common.{◌∙◌, ap, Ok}
use Rattle.dq_verdicts.proofs.verdicts.solve.Goals as goal

pub false_output-requires-clause-refuted : goal.false_output-requires-clause-refuted
false_output-requires-clause-refuted c = c.search.ensures.refuted c.in-Ok-Refuted.id
    (c.in-Ok-Refuted.is ∙ ap Ok c.in-Ok-Refuted.field-0-is)
