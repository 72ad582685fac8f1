use Rattle.pec_front.proofs.EncoderSteps.{own-design}
use Rattle.pec_front.proofs.formulas.formula_of.Goals as goal

pub encoded-requires : goal.encoded-requires
encoded-requires c = own-design c.in_ok-encoder.encoder c.args.design.now c.in_ok-encoder.ensures
