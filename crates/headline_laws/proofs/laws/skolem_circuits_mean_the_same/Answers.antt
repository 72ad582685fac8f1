use Rattle.headline_laws.proofs.HeldCircuits.{held}
use Rattle.headline_laws.proofs.laws.skolem_circuits_mean_the_same.Goals as goal

pub returns : goal.returns
returns c certificate read f same formed holds =
    held certificate read f same.universals same.existentials same.holds formed.prefix c.mapping_is_as_told.ensures.exact
    (record {
      lawful = c.binary_circuits_are_lawful.ensures.lawful;
      acyclic = c.binary_circuits_are_lawful.ensures.acyclic;
      outputs_mean = c.binary_circuits_are_lawful.ensures.outputs_mean;
    }) holds
