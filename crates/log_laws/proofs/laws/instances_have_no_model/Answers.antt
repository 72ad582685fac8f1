use Rattle.log_laws.proofs.Refuted.{refuted}
use Rattle.log_laws.proofs.laws.instances_have_no_model.Goals as goal

pub returns : goal.returns
returns c = refuted c.derived_line_is_implied.ensures
