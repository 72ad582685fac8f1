use Rattle.log_laws.proofs.MissedPoints.{true_clause_misses, hint_misses, known_misses, again_misses, ignored_misses, twice_misses}
use Rattle.log_laws.proofs.examples.each_point_can_be_missed_alone.Goals as goal

pub returns : goal.returns
returns c = record {
  origins = true_clause_misses;
  derivations = hint_misses;
  lemmas = known_misses;
  rows = again_misses;
  models = ignored_misses;
  repeats = twice_misses;
}
