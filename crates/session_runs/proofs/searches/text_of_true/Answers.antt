use Rattle.std.proofs.Common.{arith}
use Rattle.session_runs.proofs.FoundVerdicts.{can-export-true}
use Rattle.session_runs.proofs.searches.text_of_true.Goals as goal

pub true_text-requires-clause-is_true : goal.true_text-requires-clause-is_true
true_text-requires-clause-is_true c = search (arith, c.requires.answered, c.skolem_functions_show_true.ensures)

pub true_text-requires-clause-decided : goal.true_text-requires-clause-decided
true_text-requires-clause-decided c = search (arith, can-export-true)
