-- Reading a definition: its gates, and then its steps.
use Rattle.std.proofs.Common.{◌≡◌, ℕ, ◌+◌, List, Result, Ok, Err, subst}
use Rattle.dq_lits.specs.Formula.{Dqbf}
use Rattle.dq_text.specs.Line.{LineCursor, lines_from}
use Rattle.circuit_plain.specs.declared.circuits.Gate.{Gate}
use Rattle.cert_text.specs.AllowedDefinitions.{first_definition_id}
use Rattle.cert_text.specs.DefinitionLine.{definition_gates}
use Rattle.cert_text.specs.DefinitionsRead.{IsStop}
use Rattle.cert_text.specs.DefinitionText.{read_definition}
use Rattle.cert_text.specs.ItemLine.{step_lines}
use Rattle.cert_text.specs.Lines.{IsReadingUpTo, LinesRead, read_from, read_up_to}
use Rattle.cert_text.specs.Variables.{is_up_to}
use Rattle.cert_text.specs.declared.definition_lines.DefinedHead.{DefinedHead}
use Rattle.cert_text.specs.declared.faults.CertRefusal.{CertRefusal}
use Rattle.cert_text.specs.declared.faults.CertStop.{CertStop}
use Rattle.cert_text.specs.declared.faults.CertStop.TheVariants.{Refused, Memory}
use Rattle.cert_text.proofs.DefinitionParts.{stop_of_rest, stop_behind}

is_stop : {A : Type 0} (read : Result (LinesRead A) CertRefusal) (stop : CertStop) (left : LineCursor) →
    IsReadingUpTo read (Err stop) left → IsStop read stop
is_stop read (Refused fault) left is = is
is_stop read Memory left is = tt

module _ (f : Dqbf) (y : ℕ) (head : DefinedHead) (at mid : LineCursor) (gates : List Gate)
    (gates_are : read_from (definition_gates f) (f.variables + 1) head.gates at ≡ Ok (read_up_to gates mid))
    (vars id : ℕ) (vars_are : vars ≡ f.variables) (id_is : id ≡ first_definition_id f head.gates) where
  -- the steps stop the reading
  pub steps_stop : (stop : CertStop) (left : LineCursor) →
      IsReadingUpTo (read_from (step_lines (is_up_to (vars + head.gates))) id head.steps mid)
      (Err stop) left →
      IsStop (read_definition f y head (lines_from at.number at.rest) at.number) stop
  steps_stop stop left is =
      stop_of_rest (read_from (definition_gates f) (f.variables + 1) head.gates at) _ (read_up_to gates mid) stop
      gates_are
      (stop_behind
      (read_from (step_lines (is_up_to (f.variables + head.gates)))
      (first_definition_id f head.gates) head.steps mid) _ stop
      (is_stop _ stop left
      (subst (λ n. IsReadingUpTo (read_from (step_lines (is_up_to (n + head.gates)))
      (first_definition_id f head.gates) head.steps mid) (Err stop) left) vars_are
      (subst (λ n. IsReadingUpTo (read_from (step_lines (is_up_to (vars + head.gates)))
      n head.steps mid) (Err stop) left) id_is is))))
