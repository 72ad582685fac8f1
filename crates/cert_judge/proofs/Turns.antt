-- From the phase before a line to the one behind it.
use Rattle.std.proofs.Common.{◌≡◌, ℕ, Bool, List, Option, None, Some, arith}
use Rattle.dq_lits.specs.Formula.{Dqbf}
use Rattle.aiger_text.specs.CircuitLines.{CircuitLines}
use Rattle.cert_judge.specs.CircuitPhases.{TakesCircuit}
use Rattle.cert_judge.specs.Phases.{next_phase, Takes}
use Rattle.cert_judge.specs.declared.phases.Phase.{Phase}
use Rattle.cert_judge.specs.declared.phases.Phase.TheVariants.{Circuit}

circuit_turn : (f : Dqbf) (first : ℕ) (old new : CircuitLines) (text : List ℕ) (next : Option Phase) →
    TakesCircuit f first old text new next → (ended : Bool) →
    Takes f (Circuit first old) text ended (next_phase (Circuit first new) next)
circuit_turn f first old new text None takes ended = takes.1 ended
circuit_turn f first old new text (Some phase) takes ended = takes.1 ended

module _ (f : Dqbf) (first : ℕ) (old new : CircuitLines) (text : List ℕ) (next : Option Phase) (after : Phase)
    (takes : TakesCircuit f first old text new next) (turned : after ≡ next_phase (Circuit first new) next)
    (ended : Bool) where
  pub circuit_takes : Takes f (Circuit first old) text ended after
  circuit_takes = search (arith, circuit_turn)
