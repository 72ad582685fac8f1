use Rattle.std.proofs.Common.{◌∙◌, ap, Ok}
use Rattle.engine_cases.proofs.expansions.Expanding.find.Goals as goal

pub show_model-requires-clause-variables : goal.show_model-requires-clause-variables
show_model-requires-clause-variables g c =
    c.solve.ensures.point_variables c.in-Ok-Model.points (c.in-Ok-Model.is ∙ ap Ok c.in-Ok-Model.field-0-is)
    ∙ c.requires.ready.table.table.existentials
