-- What a line of a circuit's text does, and the first line of its comment.
use Rattle.std.specs.Prelude.{◌≡◌, ℕ, Bool, List, ◌++◌, true, false, Option, None, Some, IsSome}
use Rattle.dq_lits.specs.Formula.{Dqbf}
use Rattle.aiger_text.specs.CircuitLines.{CircuitLines}
use Rattle.circuit_plain.specs.Netlist.{Netlist}
use Rattle.rup_core.specs.Runs.{Run}
use Rattle.cert_text.specs.CircuitProof.{circuit_proof_of}
use Rattle.aiger_text.specs.declared.faults.AagStop.{AagStop}
use Rattle.aiger_text.specs.declared.faults.AagStop.TheVariants.{Refused as RefusedFile, Memory as NoFile}
use Rattle.aiger_text.specs.declared.files.AagFile.{AagFile}
use Rattle.cert_judge.specs.Judgement.{begins_proof, proof_on, BehindProof}
use Rattle.cert_judge.specs.Places.{mapping_line_in}
use Rattle.cert_judge.specs.declared.circuits.Form.{Form}
use Rattle.cert_judge.specs.Phases.{line_end, AreLinesFrom, CircuitGives, Gives, IsLastUnless, IsLawful}
use Rattle.cert_judge.specs.ProofStart.{SaysRead}
use Rattle.cert_judge.specs.declared.answers.Judgement.{Judgement}
use Rattle.cert_judge.specs.declared.answers.Judgement.TheVariants.{Refused}
use Rattle.cert_judge.specs.declared.answers.CertificateFault.TheVariants.{Circuit as CircuitFault}
use Rattle.cert_judge.specs.declared.phases.Phase.TheVariants.{Decided}
use Rattle.cert_judge.specs.declared.phases.Phase.{Phase}
use Rattle.skolem_checker.specs.Checks.{candidate_of}

-- what a phase gives behind the line is what the lines gave before it
abbrev pub FollowsLine : Dqbf → CircuitLines → List ℕ → Phase → Type 0
FollowsLine f old line phase =
    (ended : Bool) (behind : List ℕ) (answer : Judgement) → IsLastUnless ended line behind
    → Gives f phase behind answer → CircuitGives f old (line ++ (line_end ended ++ behind)) answer

-- the circuit's text goes on, or another phase follows
abbrev pub TakesCircuit : Dqbf → ℕ → CircuitLines → List ℕ → CircuitLines → Option Phase → Type 0
TakesCircuit f first old line new None =
    AreLinesFrom first new
    × ((ended : Bool) (behind : List ℕ) (answer : Judgement) → IsLastUnless ended line behind
    → CircuitGives f new behind answer
    → CircuitGives f old (line ++ (line_end ended ++ behind)) answer)
TakesCircuit f first old line new (Some phase) = IsLawful phase × FollowsLine f old line phase

-- what a phase gives behind the first line of a comment, which has this number
abbrev pub BeginsComment : Dqbf → Form → ℕ → ℕ → AagFile → List ℕ → Phase → Type 0
BeginsComment f form first number file line phase =
    (ended : Bool) (behind : List ℕ) (answer : Judgement) → IsLastUnless ended line behind
    → Gives f phase behind answer
    → BehindProof (mapping_line_in form first file.circuit)
    (proof_on f file.circuit (Some (line ++ (line_end ended ++ behind))) (Some number))
    (candidate_of f file.circuit file.symbols) answer

-- what a phase gives behind the header line of a proof
abbrev pub BeginsProof : Dqbf → Netlist → ℕ → Option Judgement → Option Run → List ℕ → Phase → Type 0
BeginsProof f net number finding run header phase =
    (ended : Bool) (behind : List ℕ) (answer : Judgement) → IsLastUnless ended header behind
    → Gives f phase behind answer
    → SaysRead finding run
    (circuit_proof_of f net (header ++ (line_end ended ++ behind)) number) answer

-- the comment begins here
pub record IsWholeCircuit (l : CircuitLines) : Type 0 where
  pub comment : l.in_comment ≡ true
  pub header : IsSome l.body

abbrev pub IsStoppedPhase : AagStop → Phase → Type 0
IsStoppedPhase (RefusedFile line name) phase = phase ≡ Decided (Refused line (CircuitFault name))
IsStoppedPhase NoFile phase = ⊥

-- what a phase gives where the comment to come is no proof
abbrev pub GivesFreeText : CircuitLines → Phase → Type 0
GivesFreeText lines phase =
    (f : Dqbf) (comment behind : List ℕ) (answer : Judgement) → begins_proof comment ≡ false
    → Gives f phase behind answer → CircuitGives f lines comment answer
