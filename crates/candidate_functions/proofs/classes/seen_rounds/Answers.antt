use Rattle.std.proofs.Common.{arith}
use Rattle.std.proofs.lemmas.List.Elements.{All-weaker}
use Rattle.candidate_functions.proofs.DependencyClasses.{places_below, places_told}
use Rattle.candidate_functions.proofs.classes.seen_rounds.Goals as goal

pub pair_rounds-requires : goal.pair_rounds-requires
pair_rounds-requires c = search (arith, places_below, places_told, All-weaker)
