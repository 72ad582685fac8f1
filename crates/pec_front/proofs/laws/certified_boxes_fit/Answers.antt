use Rattle.pec_front.specs.Encoding.{design_formula}
use Rattle.pec_front.proofs.laws.certified_boxes_fit.Goals as goal

pub returns : goal.returns
returns c d net symbols keeps acyclic boxes driven kept complete h =
    let formed = c.design_formulas_are_well_formed.ensures d keeps acyclic in
    let r = c.outputs_are_skolem_functions.ensures (design_formula d) net symbols formed.prefix kept complete h in
    (r.0, r.2, c.outputs_are_boxes.ensures d r.0 keeps acyclic boxes driven r.1)
