-- A step as the definitions see it.
use Rattle.dq_lits.specs.Derivation.{ProofStep}
use Rattle.cert_text.specs.declared.steps.Step.{Step}

abbrev pub step_seen : Step → ProofStep
step_seen s = record { id = s.id; literals = s.lits.now; hints = s.hints.now }
