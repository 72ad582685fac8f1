use Rattle.std.proofs.Common.{refl}
use Rattle.pec_front.proofs.OneBoxDesign.{is-design, is-acyclic, are-boxes, all-driven}
use Rattle.pec_front.proofs.examples.box_that_reads_both_inputs.Goals as goal

pub returns : goal.returns
returns c = record {
  lawful = record { is_design = is-design; acyclic = is-acyclic; boxes = are-boxes; all_driven = all-driven };
  matrix = refl;
  variables = refl;
  universals = refl;
  driven = refl;
}
