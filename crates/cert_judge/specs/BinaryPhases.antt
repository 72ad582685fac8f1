-- What a line of a binary circuit's text does, and the first line of its comment.
use Rattle.std.specs.Prelude.{◌≡◌, ℕ, Bool, false, List, ◌++◌, Option, None, Some}
use Rattle.dq_lits.specs.Formula.{Dqbf}
use Rattle.aiger_text.specs.declared.files.AagFile.{AagFile}
use Rattle.aig_binary.specs.Scan.{scan_binary}
use Rattle.aig_binary.specs.declared.files_by_line.AigLines.{AigLines}
use Rattle.skolem_checker.specs.Checks.{candidate_of}
use Rattle.cert_judge.specs.Judgement.{begins_proof, binary_mapping_line, proof_on, BehindProof, IsBinaryJudgement}
use Rattle.cert_judge.specs.Phases.{line_end, AreBinaryLines, Gives, GivesBinary, IsLastUnless, IsLawful}
use Rattle.cert_judge.specs.declared.answers.Judgement.{Judgement}
use Rattle.cert_judge.specs.declared.phases.Phase.{Phase}

-- what a phase gives behind the line is what the lines gave before it
abbrev pub FollowsBinary : Dqbf → ℕ → AigLines → List ℕ → Phase → Type 0
FollowsBinary f first old line phase =
    (ended : Bool) (behind : List ℕ) (answer : Judgement) → IsLastUnless ended line behind
    → Gives f phase behind answer
    → GivesBinary f first old (line ++ (line_end ended ++ behind)) answer

-- the circuit's text goes on, or another phase follows
abbrev pub TakesBinaryLine : Dqbf → ℕ → AigLines → List ℕ → Bool → AigLines → Option Phase
    → Type 0
TakesBinaryLine f first old line ended new None =
    AreBinaryLines first new
    × ((behind : List ℕ) (answer : Judgement) → IsLastUnless ended line behind
    → GivesBinary f first new behind answer
    → GivesBinary f first old (line ++ (line_end ended ++ behind)) answer)
TakesBinaryLine f first old line ended new (Some phase) =
    IsLawful phase
    × ((behind : List ℕ) (answer : Judgement) → IsLastUnless ended line behind
    → Gives f phase behind answer
    → GivesBinary f first old (line ++ (line_end ended ++ behind)) answer)

-- the header line, for every formula
pub record StartsBinary (first : ℕ) (header : List ℕ) (phase : Phase) : Type 0 where
  pub lawful : IsLawful phase
  pub starts : (f : Dqbf) (ended : Bool) (behind : List ℕ) (answer : Judgement)
      → IsLastUnless ended header behind → Gives f phase behind answer
      → IsBinaryJudgement f first (scan_binary (header ++ (line_end ended ++ behind)) first) answer

-- what a phase gives where the comment to come is no proof
abbrev pub GivesFreeBinary : Dqbf → ℕ → AigLines → Phase → Type 0
GivesFreeBinary f first old phase =
    (comment behind : List ℕ) (answer : Judgement) → begins_proof comment ≡ false
    → Gives f phase behind answer → GivesBinary f first old comment answer

-- the same by the circuit's file
abbrev pub GivesBareText : Dqbf → ℕ → AagFile → Phase → Type 0
GivesBareText f first file phase =
    (comment behind : List ℕ) (number : ℕ) (answer : Judgement) → begins_proof comment ≡ false
    → Gives f phase behind answer
    → BehindProof (binary_mapping_line first)
    (proof_on f file.circuit (Some comment) (Some number))
    (candidate_of f file.circuit file.symbols) answer
