-- Reading a part of a text, and what stands behind it.
use Rattle.std.proofs.Common.{◌≡◌, ℕ, ◌+◌, List, [], ◌∷◌, Result, Ok, Err, sym, ap, subst, arith}
use Rattle.dq_lits.specs.Derivation.{ProofStep}
use Rattle.dq_lits.specs.Literal.{Literal}
use Rattle.dq_text.specs.Line.{TextLine, LineCursor, line_tokens, lines_from}
use Rattle.cert_text.specs.DefinitionsRead.{IsStop}
use Rattle.cert_text.specs.DefinitionText.{PartRead, next_line, part_up_to}
use Rattle.cert_text.specs.Kind.{refusal}
use Rattle.cert_text.specs.LineStop.{IsLineOf, StopsAt}
use Rattle.cert_text.specs.Lines.{and_read, at_line}
use Rattle.cert_text.specs.PlainStep.{IsStepOf}
use Rattle.cert_text.specs.declared.faults.CertFault.{CertFault}
use Rattle.cert_text.specs.declared.faults.CertFault.TheVariants.{Truncated}
use Rattle.cert_text.specs.declared.faults.CertRefusal.{CertRefusal}
use Rattle.cert_text.specs.declared.faults.CertStop.{CertStop}
use Rattle.cert_text.specs.declared.faults.CertStop.TheVariants.{Refused, Memory}
use Rattle.cert_text.specs.declared.faults.LineStop.{LineStop}
use Rattle.cert_text.specs.declared.faults.LineStop.TheVariants.{Fault, Memory as NoMemory}

-- a stop of the first part is one of the whole
pub stop_behind : {A B : Type 0} (first : Result A CertRefusal) (next : A → Result B CertRefusal) (stop : CertStop) →
    IsStop first stop → IsStop (and_read first next) stop
stop_behind first next (Refused fault) is = ap (λ r. and_read r next) is
stop_behind first next Memory is = tt

pub stop_of_rest : {A B : Type 0} (first : Result A CertRefusal) (next : A → Result B CertRefusal) (part : A)
    (stop : CertStop) → first ≡ Ok part → IsStop (next part) stop → IsStop (and_read first next) stop
stop_of_rest first next part stop is rest = subst (λ r. IsStop (and_read r next) stop) (sym is) rest

module _ {A : Type 0} (read : List (List ℕ) → Result A CertFault) (left : LineCursor) where
  abbrev here : Result (PartRead A) CertRefusal
  here = next_line read (lines_from left.number left.rest) left.number

  pub missing : (stop : CertStop) (number : ℕ) → left.rest ≡ [] → left.number ≡ number →
      stop ≡ Refused (refusal number Truncated) → IsStop here stop
  missing stop number none is made = search arith

  module _ (line : TextLine) (behind : LineCursor)
      (first : lines_from left.number left.rest ≡ line ∷ lines_from behind.number behind.rest) where
    by_line : here ≡ and_read (at_line line.number (read (line_tokens line.text)))
        (λ part. Ok (record { part = part; rest = lines_from behind.number behind.rest; number = line.number + 1 }))
    by_line = ap (λ lines. next_line read lines left.number) first

    pub at_fault : (name : CertFault) (stop : CertStop) → read (line_tokens line.text) ≡ Err name →
        stop ≡ Refused (refusal line.number name) → IsStop here stop
    at_fault name stop is made = search (arith, by_line)

    pub stopped_at : (taken : LineStop) (stop : CertStop) → IsLineOf (read (line_tokens line.text)) (Err taken) →
        StopsAt line.number taken stop → IsStop here stop
    stopped_at (Fault name) stop is stops = at_fault name stop is stops
    stopped_at NoMemory stop is stops = subst (IsStop here) (sym stops) tt

    pub taken : (part : A) → read (line_tokens line.text) ≡ Ok part → behind.number ≡ line.number + 1 →
        here ≡ Ok (part_up_to part behind)
    taken part is next = search (arith, by_line)

-- a step's stop is its line's
pub step_stop : (line : Result ProofStep CertFault) (stop : LineStop) (literals : List Literal) (hints : List ℕ) →
    IsStepOf line (Err stop) literals hints → IsLineOf line (Err stop)
step_stop line (Fault name) literals hints is = is
step_stop line NoMemory literals hints is = tt
