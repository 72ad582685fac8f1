use Rattle.proof_checker.proofs.RefutedNegations.{refuted_solves}
use Rattle.proof_checker.proofs.laws.refuted_negation_solves.Goals as goal

pub returns : goal.returns
returns c candidate symbols items = refuted_solves candidate symbols items c.deleting_derivation_is_sound.ensures
