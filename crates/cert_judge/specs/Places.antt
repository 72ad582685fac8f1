-- Words of private contracts: how large a circuit file can be, and what is answered where its
-- reading stopped.
use Rattle.std.specs.Prelude.{◌≡◌, ℕ, ◌≤◌, length}
use Rattle.aiger_text.specs.declared.faults.AagStop.{AagStop}
use Rattle.aiger_text.specs.declared.faults.AagStop.TheVariants.{Refused, Memory}
use Rattle.circuit_plain.specs.Netlist.{Netlist}
use Rattle.skolem_checker.specs.declared.mapping.MapPlace.{MapPlace}
use Rattle.cert_judge.specs.Judgement.{mapping_line, binary_mapping_line}
use Rattle.cert_judge.specs.declared.answers.Judgement.{Judgement}
use Rattle.cert_judge.specs.declared.answers.Judgement.TheVariants.{Refused as RefusedAnswer}
use Rattle.cert_judge.specs.declared.answers.CertificateFault.TheVariants.{Circuit}
use Rattle.cert_judge.specs.declared.circuits.Form.{Form}
use Rattle.cert_judge.specs.declared.circuits.Form.TheVariants.{Ascii, Binary}

-- as its header's limits say
pub record HasFewLines (net : Netlist) : Type 0 where
  pub variables : net.max_var ≤ 1000000000
  pub inputs : length net.inputs ≤ 1000000000
  pub outputs : length net.outputs ≤ 1000000000

-- the lines of inputs and outputs in a form
abbrev pub mapping_line_in : Form → ℕ → Netlist → MapPlace → ℕ
mapping_line_in Ascii h net = mapping_line h net
mapping_line_in Binary h net = binary_mapping_line h

abbrev pub AnswersStop : AagStop → Judgement → Type 0
AnswersStop (Refused line name) answer = answer ≡ RefusedAnswer line (Circuit name)
AnswersStop Memory answer = ⊥
