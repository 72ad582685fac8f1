use Rattle.repair_loop.proofs.Stages.{search_states_grouped}
use Rattle.repair_loop.proofs.preservation.search_states_are_grouped.Goals as goal

pub returns : goal.returns
returns c =
    search_states_grouped c.instances_are_grouped.ensures c.copies_are_grouped.ensures c.copies_are_stored.ensures
