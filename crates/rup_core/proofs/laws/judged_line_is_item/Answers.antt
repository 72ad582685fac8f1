use Rattle.rup_core.proofs.JudgedLines.{derived_is_item}
use Rattle.rup_core.proofs.laws.judged_line_is_item.Goals as goal

pub returns : goal.returns
returns c = derived_is_item
