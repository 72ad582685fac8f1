-- The header line of a certificate of each kind.
use Rattle.std.proofs.Common.{◌≡◌, ◌⊎◌, ℕ, ◌+◌, ◌≤◌, Bool, true, false, inl, List, [], ◌∷◌, ◌++◌, Option, None, Some, Result, Ok, Err, refl, sym, ◌∙◌, ap, subst, arith}
use Rattle.std.specs.Prelude.{IfNone, IfOk}
use Rattle.dq_lits.specs.Derivation.{ProofFault}
use Rattle.dq_lits.specs.Formula.{Dqbf}
use Rattle.dq_lits.specs.declared.memory.Memory.{Memory}
use Rattle.dq_text.specs.Line.{TextLine, lines_from}
use Rattle.aiger_text.specs.CircuitLines.{CircuitLines, GoesOn, ReadsLine, no_lines}
use Rattle.aiger_text.specs.FirstFault.{IsFirstFault}
use Rattle.aiger_text.specs.Scan.{IsAagReading, LineFault, scan}
use Rattle.aiger_text.specs.declared.faults.AagFault.{AagFault}
use Rattle.aiger_text.specs.declared.faults.AagStop.{AagStop}
use Rattle.aiger_text.specs.declared.faults.AagStop.TheVariants.{Refused as RefusedFile, Memory as NoFile}
use Rattle.aiger_text.specs.declared.files.AagFile.{AagFile}
use Rattle.cert_text.specs.Lines.{IsReading}
use Rattle.cert_text.specs.Scan.{read_lines, refutation_of}
use Rattle.cert_text.specs.declared.faults.CertRefusal.{CertRefusal}
use Rattle.cert_text.specs.declared.faults.CertStop.{CertStop}
use Rattle.cert_text.specs.declared.faults.CertStop.TheVariants.{Refused as RefusedText, Memory as NoText}
use Rattle.cert_text.specs.declared.refutations.Dqr.{Dqr}
use Rattle.cert_stream.specs.KeptLines.{seen}
use Rattle.cert_stream.specs.RefutationState.{AnswersLines, MayAnswer, RefutationState, answers_by, judged_whole}
use Rattle.cert_text.specs.declared.kinds.Kind.TheVariants.{Circuit as CircuitText}
use Rattle.cert_judge.specs.CircuitPhases.{IsStoppedPhase}
use Rattle.cert_judge.specs.Beginnings.{IsJudgementFrom, StartsCircuit}
use Rattle.cert_judge.specs.Judgement.{answer_of_refutation, IsCircuitAnswer, IsCircuitRefusal}
use Rattle.cert_judge.specs.Phases.{line_end, AnswersFile, AreLinesFrom, CircuitGives, HasNoEnd, IsLastUnless, RefutationGives, SaysRefutation}
use Rattle.cert_judge.specs.declared.answers.Judgement.{Judgement}
use Rattle.cert_judge.specs.declared.phases.Phase.{Phase}
use Rattle.cert_judge.specs.declared.phases.Phase.TheVariants.{Circuit}
use Rattle.cert_judge.proofs.CircuitSteps.{goes_back, still_lines, stop_taken}
use Rattle.cert_judge.proofs.CommentLines.{ReadIsSpelled}
use Rattle.cert_judge.proofs.LinesToCome.{first_is, line_of}

-- a refutation's lines
renumbered : (s : RefutationState) (number : ℕ) (b : Bool) (o : Option CertStop) (bytes : List ℕ)
    (said : Result (Option ProofFault) CertStop) → s.failed ≡ b → s.lines.stopped ≡ o →
    (b ≡ false → IfNone o (s.lines.number ≡ number)) → MayAnswer s (lines_from s.lines.number bytes) said →
    MayAnswer s (lines_from number bytes) said
renumbered s number true o bytes said failed stopped counts may =
    subst (λ c. answers_by c s (lines_from number bytes) said) (sym failed)
    (subst (λ c. answers_by c s (lines_from s.lines.number bytes) said) failed may)
renumbered s number false None bytes said failed stopped counts may =
    subst (λ n. MayAnswer s (lines_from n bytes) said) (counts refl) may
renumbered s number false (Some stop) bytes said failed stopped counts may =
    let given = subst (λ c. answers_by c s (lines_from s.lines.number bytes) said) failed may in
    subst (λ c. answers_by c s (lines_from number bytes) said) (sym failed)
    (subst (λ c. AnswersLines (seen s.lines) s.proving c (lines_from number bytes) said) (sym stopped)
    (subst (λ c. AnswersLines (seen s.lines) s.proving c (lines_from s.lines.number bytes) said) stopped given))

module _ (old new : RefutationState) (text : List ℕ) (free : HasNoEnd text)
    (counts : new.failed ≡ false → IfNone new.lines.stopped (new.lines.number ≡ old.lines.number + 1))
    (line : (behind : List ℕ) (lines : List TextLine) (said : Result (Option ProofFault) CertStop) →
    MayAnswer new lines said → MayAnswer old (line_of text old.lines.number behind ∷ lines) said) where
  pub refutation_takes : (ended : Bool) (behind : List ℕ) (answer : Judgement) → IsLastUnless ended text behind →
      RefutationGives new behind answer → RefutationGives old (text ++ (line_end ended ++ behind)) answer
  refutation_takes ended behind answer last p = search (arith, first_is)

says_read : (f : Dqbf) (read : Result Dqr CertRefusal) (said : Result (Option ProofFault) CertStop)
    (answer : Judgement) → IsReading (judged_whole f read) said → SaysRefutation said answer →
    answer ≡ answer_of_refutation f read
says_read f (Ok d) (Ok fault) answer is says = search arith
says_read f (Ok d) (Err (RefusedText r)) answer is says = cc
says_read f (Ok d) (Err NoText) answer is says = absurd says
says_read f (Err r) (Ok fault) answer is says = cc
says_read f (Err r) (Err (RefusedText s)) answer is says = search arith
says_read f (Err r) (Err NoText) answer is says = absurd says

-- before the header line
pub refutation_begins : (f : Dqbf) (number : ℕ) (fresh : RefutationState) → fresh.lines.number ≡ number →
    ((lines : List TextLine) (said : Result (Option ProofFault) CertStop) → MayAnswer fresh lines said →
    IsReading (judged_whole f (read_lines f lines number)) said) →
    (bytes : List ℕ) (answer : Judgement) → RefutationGives fresh bytes answer →
    answer ≡ answer_of_refutation f (refutation_of f bytes number)
refutation_begins f number fresh first begun bytes answer p = search (arith, says_read)

-- a circuit's text
by_scan : (h : ℕ) (text : List ℕ) (line : ℕ) (name : AagFault) (r : Result AagFile LineFault) → scan text h ≡ r →
    IsAagReading h r (Err (RefusedFile line name)) → IsFirstFault text h (record { line = line; name = name })
by_scan h text line name (Ok file) is reading = search arith
by_scan h text line name (Err fault) is same = inl (is ∙ ap Err same)

circuit_read : ReadIsSpelled → (f : Dqbf) (first : ℕ) (bytes : List ℕ) (answer : Judgement)
    (reading : Result AagFile AagStop) → IsAagReading first (scan bytes first) reading →
    AnswersFile f first first bytes reading answer →
    IsCircuitRefusal first bytes answer ⊎ IsCircuitAnswer f first bytes answer
circuit_read law f first bytes answer (Ok file) is says = search arith
circuit_read law f first bytes answer (Err (RefusedFile line name)) is says =
    search (arith, (by_scan first bytes line name))
circuit_read law f first bytes answer (Err NoFile) is says = absurd says

circuit_begins : ReadIsSpelled → (f : Dqbf) (first : ℕ) (bytes : List ℕ) (answer : Judgement) →
    CircuitGives f (no_lines first) bytes answer → IsJudgementFrom f bytes (CircuitText 0 first) answer
circuit_begins law f first bytes answer c = search (arith, circuit_read)

pub fresh_lines : (first : ℕ) → first ≤ 2 → AreLinesFrom first (no_lines first)
fresh_lines first early = search arith

pub circuit_starts : ReadIsSpelled → (first : ℕ) (old new : CircuitLines) (text : List ℕ) → first ≤ 2 →
    old ≡ no_lines first → HasNoEnd text → IfNone old.stopped (ReadsLine old text (Ok tt) new) → GoesOn old new →
    StartsCircuit first text (Circuit first new)
circuit_starts law first old new text early is free reads goes =
    let fresh = no_lines first in
    let reads_fresh = subst (λ (l : CircuitLines). IfNone l.stopped (ReadsLine l text (Ok tt) new)) is reads in
    let goes_fresh = subst (λ (l : CircuitLines). GoesOn l new) is goes in
    record {
      lawful = still_lines fresh new text free refl refl reads_fresh goes_fresh first (fresh_lines first early);
      starts = λ f ended behind answer last says.
          circuit_begins law f first (text ++ (line_end ended ++ behind)) answer
          (goes_back fresh new text free refl refl reads_fresh goes_fresh f ended behind answer last says);
    }

no_formula : Dqbf
no_formula = record { variables = 0; universals = []; existentials = []; matrix = [] }

pub circuit_refused : ReadIsSpelled → (first : ℕ) (old new : CircuitLines) (text : List ℕ) (stop : AagStop)
    (r : Result Phase Memory) → old ≡ no_lines first → HasNoEnd text →
    IfNone old.stopped (ReadsLine old text (Err stop) new) → IfOk r (IsStoppedPhase stop) →
    IfOk r (StartsCircuit first text)
circuit_refused law first old new text stop (Ok phase) is free reads stopped =
    let fresh = no_lines first in
    let reads_fresh = subst (λ (l : CircuitLines). IfNone l.stopped (ReadsLine l text (Err stop) new)) is reads in
    record {
      lawful = (stop_taken no_formula fresh text new stop phase free refl refl reads_fresh stopped).0;
      starts = λ f ended behind answer last says.
          circuit_begins law f first (text ++ (line_end ended ++ behind)) answer
          ((stop_taken f fresh text new stop phase free refl refl reads_fresh stopped).1 ended behind answer last says);
    }
circuit_refused law first old new text stop (Err _) is free reads stopped = tt
