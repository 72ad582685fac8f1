-- What a line up to the header line does, and what a certificate's kind is judged by.
use Rattle.std.specs.Prelude.{◌≡◌, ◌⊎◌, ℕ, Bool, List, ◌++◌, Option, None, Some}
use Rattle.dq_lits.specs.Formula.{Dqbf}
use Rattle.aig_binary.specs.Scan.{scan_binary}
use Rattle.cert_text.specs.DefinitionText.{definitions_of}
use Rattle.cert_text.specs.Scan.{refutation_of}
use Rattle.cert_text.specs.declared.faults.CertRefusal.{CertRefusal}
use Rattle.cert_text.specs.declared.kinds.Kind.{Kind}
use Rattle.cert_text.specs.declared.kinds.Kind.TheVariants.{Circuit as CircuitText, BinaryCircuit as BinaryText, Refutation as RefutationText, Definitions as DefinitionsText}
use Rattle.cert_judge.specs.Judgement.{answer_of_refutation, IsBinaryJudgement, IsCircuitAnswer, IsCircuitRefusal, IsDefinitionsAnswer, IsJudgement}
use Rattle.cert_judge.specs.Phases.{line_end, Gives, IsBeginning, IsLastUnless, IsLawful}
use Rattle.cert_judge.specs.declared.answers.Judgement.{Judgement}
use Rattle.cert_judge.specs.declared.phases.Phase.{Phase}

-- the judgement of a certificate of this kind whose header line begins these bytes
abbrev pub IsJudgementFrom : Dqbf → List ℕ → Kind → Judgement → Type 0
IsJudgementFrom f bytes (CircuitText _ h) answer =
    IsCircuitRefusal h bytes answer ⊎ IsCircuitAnswer f h bytes answer
IsJudgementFrom f bytes (BinaryText _ h) answer =
    IsBinaryJudgement f h (scan_binary bytes h) answer
IsJudgementFrom f bytes (RefutationText _ h) answer =
    answer ≡ answer_of_refutation f (refutation_of f bytes h)
IsJudgementFrom f bytes (DefinitionsText _ h) answer =
    IsDefinitionsAnswer f (definitions_of f bytes h) answer

-- what a phase gives behind the header line
abbrev pub Starts : Dqbf → Kind → List ℕ → Bool → Phase → Type 0
Starts f kind header ended phase =
    (behind : List ℕ) (answer : Judgement) → IsLastUnless ended header behind
    → Gives f phase behind answer
    → IsJudgementFrom f (header ++ (line_end ended ++ behind)) kind answer

-- the lines so far, or the phase that follows
abbrev pub BeginsAs : Dqbf → List ℕ → List ℕ → Bool → List ℕ → CertRefusal → Option Phase → Type 0
BeginsAs f before line ended lines missing None =
    IsBeginning lines missing
    × ((behind : List ℕ) (answer : Judgement) → IsJudgement f (lines ++ behind) answer
    → IsJudgement f (before ++ (line ++ (line_end ended ++ behind))) answer)
BeginsAs f before line ended lines missing (Some phase) =
    IsLawful phase
    × ((behind : List ℕ) (answer : Judgement) → IsLastUnless ended line behind
    → Gives f phase behind answer
    → IsJudgement f (before ++ (line ++ (line_end ended ++ behind))) answer)

-- the same of a circuit, for every formula
pub record StartsCircuit (first : ℕ) (header : List ℕ) (phase : Phase) : Type 0 where
  pub lawful : IsLawful phase
  pub starts : (f : Dqbf) (ended : Bool) (behind : List ℕ) (answer : Judgement)
      → IsLastUnless ended header behind → Gives f phase behind answer
      → IsJudgementFrom f (header ++ (line_end ended ++ behind)) (CircuitText 0 first) answer
