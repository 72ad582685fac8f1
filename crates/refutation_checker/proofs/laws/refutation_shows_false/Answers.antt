use Rattle.std.proofs.Common.{map}
use Rattle.dq_lits.specs.Expansion.{instance_at}
use Rattle.dq_lits.proofs.Refutations.{model_makes_true}
use Rattle.refutation_checker.specs.Refutation.{normal_item}
use Rattle.refutation_checker.proofs.laws.refutation_shows_false.Goals as goal

pub returns : goal.returns
returns c f d well_formed none =
    c.expansion_lifts.ensures f d.rows well_formed
    (λ m model. c.deleting_derivation_is_sound.ensures (instance_at f d.rows)
    (map (normal_item f d.rows) d.items) none m (model_makes_true f d.rows m model))
