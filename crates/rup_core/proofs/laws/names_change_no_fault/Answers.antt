use Rattle.rup_core.proofs.RenamedVariables.{line_fault-renamed}
use Rattle.rup_core.proofs.laws.names_change_no_fault.Goals as goal

pub returns : goal.returns
returns c number known live other literals hints apart same line hinted =
    line_fault-renamed number known apart live other same literals hints line hinted
