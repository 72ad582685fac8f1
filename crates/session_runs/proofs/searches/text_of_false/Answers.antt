use Rattle.std.proofs.Common.{arith}
use Rattle.session_runs.proofs.FoundVerdicts.{can-export-false}
use Rattle.session_runs.proofs.searches.text_of_false.Goals as goal

pub false_text-requires-clause-refuted : goal.false_text-requires-clause-refuted
false_text-requires-clause-refuted c = search (arith, can-export-false)
