-- What may be said of a certificate of which these bytes are to come, by what was read of it.
use Rattle.std.specs.Prelude.{◌≡◌, ◌≢◌, ◌⊎◌, ℕ, ◌≤◌, Bool, true, false, List, [], ◌∷◌, ◌++◌, Option, None, Some, Result, Ok, Err, IfSome}
use Rattle.std.specs.List.{All}
use Rattle.dq_lits.specs.Derivation.{ProofFault}
use Rattle.dq_lits.specs.Formula.{Dqbf}
use Rattle.dq_text.specs.Line.{line_tokens, lines_from}
use Rattle.aiger_text.specs.CircuitLines.{CircuitLines, commented, header_line, lines_give}
use Rattle.aig_binary.specs.FilesByLine.{binary_gives, AreAigLines}
use Rattle.aig_binary.specs.Scan.{scan_binary}
use Rattle.aig_binary.specs.declared.files_by_line.AigLines.{AigLines}
use Rattle.aiger_text.specs.Scan.{IsAagReading, scan}
use Rattle.aiger_text.specs.declared.faults.AagStop.{AagStop}
use Rattle.aiger_text.specs.declared.faults.AagStop.TheVariants.{Refused as RefusedFile, Memory as NoFile}
use Rattle.aiger_text.specs.declared.files.AagFile.{AagFile}
use Rattle.cert_text.specs.DefinitionText.{definitions_of}
use Rattle.cert_text.specs.Kind.{refusal, stated_verdict}
use Rattle.cert_text.specs.declared.faults.CertFault.TheVariants.{BadHeader}
use Rattle.cert_text.specs.declared.faults.CertRefusal.{CertRefusal}
use Rattle.cert_text.specs.declared.faults.CertStop.{CertStop}
use Rattle.cert_text.specs.declared.faults.CertStop.TheVariants.{Refused as RefusedText, Memory as NoText}
use Rattle.cert_text.specs.declared.kinds.Verdict.{Verdict}
use Rattle.cert_stream.specs.ProofState.{ProofState}
use Rattle.cert_stream.specs.ProofState as Proofs
use Rattle.cert_stream.specs.RefutationState.{RefutationState, MayAnswer}
use Rattle.skolem_checker.specs.Checks.{candidate_of}
use Rattle.skolem_checker.specs.SkolemCircuit.{IsComplete}
use Rattle.cert_judge.specs.Judgement.{answer_of_derivation, line_ends, mapping_line, proof_in, BehindMapping, BehindProof, IsBinaryJudgement, IsDefinitionsAnswer, IsJudgement}
use Rattle.cert_judge.specs.Places.{mapping_line_in, HasFewLines}
use Rattle.cert_judge.specs.declared.answers.Judgement.{Judgement}
use Rattle.cert_judge.specs.declared.answers.Judgement.TheVariants.{Refused, NoEmptyClause, ValidTrue, ValidFalse}
use Rattle.cert_judge.specs.declared.answers.CertificateFault.TheVariants.{Text, Circuit as CircuitFault}
use Rattle.cert_judge.specs.declared.phases.Phase.{Phase}
use Rattle.cert_judge.specs.declared.phases.Phase.TheVariants.{Beginning, Refutation, Circuit, Proof, FreeText, Binary, Definitions, Decided, NoMemory}

-- LF, where the line has one
abbrev pub line_end : Bool → List ℕ
line_end true = 10 ∷ []
line_end false = []

abbrev pub HasNoEnd : List ℕ → Type 0
HasNoEnd bytes = All (λ byte. byte ≢ 10) bytes

-- a line without LF has bytes, and none behind it
abbrev pub IsLastUnless : Bool → List ℕ → List ℕ → Type 0
IsLastUnless true text behind = Unit {0}
IsLastUnless false text behind = (text ≢ []) × (behind ≡ [])

-- a refusal comes before the fault of a derivation; want of memory says nothing
abbrev pub SaysRefutation : Result (Option ProofFault) CertStop → Judgement → Type 0
SaysRefutation (Ok fault) answer = answer ≡ answer_of_derivation ValidFalse fault
SaysRefutation (Err (RefusedText r)) answer = answer ≡ Refused r.line (Text r.name)
SaysRefutation (Err NoText) answer = ⊥

pub record RefutationGives (s : RefutationState) (bytes : List ℕ) (answer : Judgement) : Type 0 where
  pub said : Result (Option ProofFault) CertStop
  pub may : MayAnswer s (lines_from s.lines.number bytes) said
  pub says : SaysRefutation said answer

-- what was found of the circuit comes before its proof
abbrev pub found_or_derived : Option Judgement → Option (Option ProofFault) → Judgement
found_or_derived (Some finding) said = finding
found_or_derived None (Some fault) = answer_of_derivation ValidTrue fault
found_or_derived None None = NoEmptyClause

-- a refusal comes before all else
abbrev pub SaysProof : Option Judgement → Result (Option (Option ProofFault)) CertStop → Judgement
    → Type 0
SaysProof finding (Ok said) answer = answer ≡ found_or_derived finding said
SaysProof finding (Err (RefusedText r)) answer = answer ≡ Refused r.line (Text r.name)
SaysProof finding (Err NoText) answer = ⊥

pub record ProofGives (finding : Option Judgement) (s : ProofState) (bytes : List ℕ)
    (answer : Judgement) : Type 0 where
  pub said : Result (Option (Option ProofFault)) CertStop
  pub may : Proofs.MayAnswer s (lines_from s.lines.number bytes) said
  pub says : SaysProof finding said answer

pub record IsEndOf (bytes comment : List ℕ) : Type 0 where
  pub before : List ℕ
  pub parts : bytes ≡ before ++ comment

-- of a file whose header is line h, where these bytes begin on line n
abbrev pub AnswersFile : Dqbf → ℕ → ℕ → List ℕ → Result AagFile AagStop → Judgement → Type 0
AnswersFile f h n bytes (Ok file) answer =
    IfSome file.comment (IsEndOf bytes)
    × BehindProof (mapping_line h file.circuit)
    (proof_in f n (line_ends bytes) file.circuit file.comment)
    (candidate_of f file.circuit file.symbols) answer
AnswersFile f h n bytes (Err (RefusedFile line name)) answer =
    answer ≡ Refused line (CircuitFault name)
AnswersFile f h n bytes (Err NoFile) answer = ⊥

-- behind the line `c` the bytes to come are the comment
pub record CircuitGives (f : Dqbf) (l : CircuitLines) (bytes : List ℕ) (answer : Judgement)
    : Type 0 where
  pub reading : Result AagFile AagStop
  pub is_reading : IsAagReading (header_line l)
      (commented l.in_comment bytes (lines_give l (lines_from l.number bytes))) reading
  pub answers : AnswersFile f (header_line l) l.number bytes reading answer

abbrev pub GivesBinary : Dqbf → ℕ → AigLines → List ℕ → Judgement → Type 0
GivesBinary f first l bytes answer = IsBinaryJudgement f first (binary_gives l bytes) answer

-- the answer is right where these bytes are to come
abbrev pub Gives : Dqbf → Phase → List ℕ → Judgement → Type 0
Gives f (Beginning lines missing) bytes answer = IsJudgement f (lines.items ++ bytes) answer
Gives f (Refutation refutation) bytes answer = RefutationGives refutation bytes answer
Gives f (Circuit first lines) bytes answer = CircuitGives f lines bytes answer
Gives f (Proof proof finding) bytes answer = ProofGives finding proof bytes answer
Gives f (FreeText form first file) bytes answer =
    BehindMapping (mapping_line_in form first file.circuit) None
    (candidate_of f file.circuit file.symbols) answer
Gives f (Binary first lines) bytes answer = GivesBinary f first lines bytes answer
Gives f (Definitions first text) bytes answer =
    IsDefinitionsAnswer f (definitions_of f (text.items ++ bytes) first) answer
Gives f (Decided said) bytes answer = answer ≡ said
Gives f NoMemory bytes answer = ⊥

-- what may be said behind a line may be said before it
abbrev pub Takes : Dqbf → Phase → List ℕ → Bool → Phase → Type 0
Takes f old text ended new =
    (behind : List ℕ) (answer : Judgement) → IsLastUnless ended text behind
    → Gives f new behind answer → Gives f old (text ++ (line_end ended ++ behind)) answer

-- the line that states the verdict
pub record IsVerdictLine (lines : List ℕ) (missing : CertRefusal) : Type 0 where
  pub text : List ℕ
  pub verdict : Verdict
  pub is : lines ≡ text ++ (10 ∷ [])
  pub one_line : HasNoEnd text
  pub states : stated_verdict (line_tokens text) ≡ Some verdict
  pub missing_is : missing ≡ refusal 2 BadHeader

-- before the header line, and what is said if it doesn't come
abbrev pub IsBeginning : List ℕ → CertRefusal → Type 0
IsBeginning lines missing =
    ((lines ≡ []) × (missing ≡ refusal 1 BadHeader)) ⊎ IsVerdictLine lines missing

-- these are the lines of a text that began on line `first`
pub record AreLinesFrom (first : ℕ) (l : CircuitLines) : Type 0 where
  pub early : first ≤ 2
  pub header : header_line l ≡ first
  pub reads : l.stopped ≡ None
  pub before : List ℕ
  pub read : (bytes : List ℕ) → scan (before ++ bytes) first
      ≡ commented l.in_comment bytes (lines_give l (lines_from l.number bytes))

-- the same of a circuit in the binary form
pub record AreBinaryLines (first : ℕ) (l : AigLines) : Type 0 where
  pub early : first ≤ 2
  pub header : l.reader.header_line ≡ first
  pub ready : AreAigLines l
  pub before : List ℕ
  pub read : (bytes : List ℕ) → scan_binary (before ++ bytes) first ≡ binary_gives l bytes

-- a file that can be judged
pub record IsJudged (first : ℕ) (file : AagFile) : Type 0 where
  pub early : first ≤ 2
  pub complete : IsComplete file.circuit
  pub few : HasFewLines file.circuit

abbrev pub IsLawful : Phase → Type 0
IsLawful (Beginning lines missing) = IsBeginning lines.items missing
IsLawful (Refutation refutation) = Unit {0}
IsLawful (Circuit first lines) = AreLinesFrom first lines
IsLawful (Proof proof finding) = Unit {0}
IsLawful (FreeText form first file) = IsJudged first file
IsLawful (Binary first lines) = AreBinaryLines first lines
IsLawful (Definitions first text) = first ≤ 2
IsLawful (Decided said) = Unit {0}
IsLawful NoMemory = Unit {0}

-- the phase that follows, if another one does
abbrev pub next_phase : Phase → Option Phase → Phase
next_phase phase None = phase
next_phase phase (Some next) = next
