-- What is to be said of a certificate: the first of its faults, or that it proves the formula true
-- or false, or which existentials it shows to be defined.
use Rattle.std.specs.Prelude.{◌≡◌, ℕ, ◌+◌, ◌-◌, ◌<◌, ◌≤◌, ◌==◌, ◌⊎◌, Bool, false, ◌||◌, List, [], ◌∷◌, length, take, drop, Option, None, Some, Result, Ok, Err, if◌then◌else◌}
use Rattle.std.specs.List.{filter, position}
use Rattle.std.specs.Str.{bytes_eq}
use Rattle.dq_lits.specs.Derivation.{ProofFault, underived, unfinished}
use Rattle.dq_lits.specs.Formula.{Dqbf}
use Rattle.circuit_plain.specs.Netlist.{Netlist}
use Rattle.dq_text.specs.Line.{line_tokens}
use Rattle.aiger_text.specs.FirstFault.{IsFirstFault}
use Rattle.aiger_text.specs.Grammar.{SpellsCircuit}
use Rattle.aiger_text.specs.Scan.{LineFault}
use Rattle.aiger_text.specs.declared.files.AagFile.{AagFile}
use Rattle.aiger_text.specs.declared.files.ReadCircuit.{ReadCircuit}
use Rattle.aig_binary.specs.Grammar.{SpellsBinary}
use Rattle.aig_binary.specs.Scan.{scan_binary}
use Rattle.cert_text.specs.CircuitProof.{circuit_proof_of}
use Rattle.cert_text.specs.DefinitionBlocks.{DefinitionBlock}
use Rattle.cert_text.specs.DefinitionGrammar.{SpellsDefinitions}
use Rattle.cert_text.specs.DefinitionText.{definitions_of}
use Rattle.cert_text.specs.Header.{proof_word}
use Rattle.cert_text.specs.Kind.{certificate_kind}
use Rattle.cert_text.specs.Scan.{refutation_of}
use Rattle.cert_text.specs.declared.circuit_proofs.Dqp.{Dqp}
use Rattle.cert_text.specs.declared.faults.CertRefusal.{CertRefusal}
use Rattle.cert_text.specs.declared.kinds.Kind.{Kind}
use Rattle.cert_text.specs.declared.kinds.Kind.TheVariants.{Circuit as CircuitText, BinaryCircuit as BinaryText, Refutation, Definitions}
use Rattle.cert_text.specs.declared.refutations.Dqr.{Dqr}
use Rattle.cert_text.specs.declared.versions.Version.TheVariants.{One, Two}
use Rattle.defined_checker.specs.Forced.{AreRight}
use Rattle.defined_checker.specs.Judging.{AreJudged, counts_of, no_counts}
use Rattle.defined_checker.specs.declared.checks.DefinedCounts.{DefinedCounts}
use Rattle.defined_checker.specs.declared.faults.DefinitionFault.{DefinitionFault}
use Rattle.proof_checker.specs.CircuitProof.{circuit_proof_fault}
use Rattle.refutation_checker.specs.Refutation.{refutation_fault}
use Rattle.skolem_checker.specs.Checks.{Candidate, candidate_of, IsReadsAnswer, IsRowsAnswer}
use Rattle.skolem_checker.specs.SkolemCircuit.{MappedCircuit, ReadsUniversal, IsSkolemCircuit}
use Rattle.skolem_checker.specs.declared.mapping.MapError.{MapError}
use Rattle.skolem_checker.specs.declared.mapping.MapPlace.{MapPlace}
use Rattle.skolem_checker.specs.declared.mapping.MapPlace.TheVariants.{Whole, Input, Output}
use Rattle.cert_judge.specs.declared.answers.Judgement.{Judgement}
use Rattle.cert_judge.specs.declared.answers.Judgement.TheVariants.{Refused, UndeclaredRead, BadRow, Unproved, UnderivedStep, NoEmptyClause, ValidTrue, ValidFalse, BadBlock, ValidDefinitions}
use Rattle.cert_judge.specs.declared.answers.CertificateFault.TheVariants.{Text, Circuit, Mapping}

abbrev pub begins_with : List ℕ → List (List ℕ) → Bool
begins_with word [] = false
begins_with word (token ∷ _) = bytes_eq token word

-- the bytes before the first LF
abbrev pub first_line : List ℕ → List ℕ
first_line bytes = until (position (λ byte. byte == 10) bytes) bytes
  where
    until : Option ℕ → List ℕ → List ℕ
    until None bytes = bytes
    until (Some end) bytes = take end bytes

abbrev pub line_ends : List ℕ → ℕ
line_ends bytes = length (filter (λ byte. byte == 10) bytes)

-- the number of the first line of a comment, which ends a text of so many line ends whose first
-- line has the number h
abbrev pub comment_line : ℕ → ℕ → List ℕ → ℕ
comment_line h ends comment = h + (ends - line_ends comment)

-- a comment is a proof where its first line begins one, in either version
abbrev pub begins_proof : List ℕ → Bool
begins_proof comment =
    begins_with (proof_word One) (line_tokens (first_line comment))
    || begins_with (proof_word Two) (line_tokens (first_line comment))

abbrev pub as_proof : Result Dqp CertRefusal → Result (Option Dqp) CertRefusal
as_proof (Ok d) = Ok (Some d)
as_proof (Err refusal) = Err refusal

-- the proof in a circuit's comment, if it begins one, or the first fault of that proof's text
abbrev pub proof_in : Dqbf → ℕ → ℕ → Netlist → Option (List ℕ) → Result (Option Dqp) CertRefusal
proof_in f h ends net None = Ok None
proof_in f h ends net (Some comment) =
    if begins_proof comment
    then as_proof (circuit_proof_of f net comment (comment_line h ends comment)) else Ok None

-- the same of a comment that begins on this line
abbrev pub proof_on : Dqbf → Netlist → Option (List ℕ) → Option ℕ
    → Result (Option Dqp) CertRefusal
proof_on f net (Some comment) (Some line) =
    if begins_proof comment then as_proof (circuit_proof_of f net comment line) else Ok None
proof_on f net (Some comment) None = Ok None
proof_on f net None line = Ok None

-- the line of a fault of the mapping: the header is line h, then follow the inputs' lines and then
-- the outputs'
abbrev pub mapping_line : ℕ → Netlist → MapPlace → ℕ
mapping_line h net Whole = h
mapping_line h net (Input place) = h + 1 + place
mapping_line h net (Output place) = h + 1 + length net.inputs + place

-- in the binary form, where inputs have no lines: an input's own line is the header's
abbrev pub binary_mapping_line : ℕ → MapPlace → ℕ
binary_mapping_line h Whole = h
binary_mapping_line h (Input place) = h
binary_mapping_line h (Output place) = h + 1 + place

-- rows are tried one by one for at most so many universals
abbrev pub max_row_universals : ℕ
max_row_universals = 20

-- the verdict where a derivation has no fault, and else the fault
abbrev pub answer_of_derivation : Judgement → Option ProofFault → Judgement
answer_of_derivation verdict None = verdict
answer_of_derivation verdict (Some (underived id)) = UnderivedStep id
answer_of_derivation verdict (Some unfinished) = NoEmptyClause

-- first the number of universals, then the rows
abbrev pub IsTestedByRows : Dqbf → MappedCircuit → Judgement → Type 0
IsTestedByRows f c (Unproved n) = (max_row_universals < n) × (n ≡ length f.universals)
IsTestedByRows f c (BadRow k) =
    (length f.universals ≤ max_row_universals) × IsRowsAnswer f c (Err k)
IsTestedByRows f c ValidTrue = (length f.universals ≤ max_row_universals) × IsRowsAnswer f c (Ok tt)
IsTestedByRows f c _ = ⊥

-- by its proof, or by its rows where it has none
abbrev pub IsTestedBy : Option Dqp → Candidate → Judgement → Type 0
IsTestedBy (Some d) c answer =
    answer ≡ answer_of_derivation ValidTrue (circuit_proof_fault c d.items)
IsTestedBy None c answer = IsTestedByRows c.formula c.circuit answer

-- an output reads a universal that its existential may not see
pub record HasUndeclaredRead (c : Candidate) (answer : Judgement) : Type 0 where
  pub existential : ℕ
  pub universal : ℕ
  pub first : IsReadsAnswer (ReadsUniversal c.circuit) c.formula (Err (existential, universal))
  pub is : answer ≡ UndeclaredRead existential universal

pub record PassesReads (proof : Option Dqp) (c : Candidate) (answer : Judgement) : Type 0 where
  pub reads : IsReadsAnswer (ReadsUniversal c.circuit) c.formula (Ok tt)
  pub tested : IsTestedBy proof c answer

-- what the tests of a mapped circuit say: first its reads, then its proof or its rows
abbrev pub IsTested : Option Dqp → Candidate → Judgement → Type 0
IsTested proof c answer = HasUndeclaredRead c answer ⊎ PassesReads proof c answer

-- by the line of each fault of the mapping
abbrev pub BehindMapping : (MapPlace → ℕ) → Option Dqp → Result Candidate MapError → Judgement
    → Type 0
BehindMapping line_of proof (Err fault) answer =
    answer ≡ Refused (line_of fault.at) (Mapping fault.name)
BehindMapping line_of proof (Ok c) answer = IsTested proof c answer

abbrev pub BehindProof : (MapPlace → ℕ) → Result (Option Dqp) CertRefusal
    → Result Candidate MapError → Judgement → Type 0
BehindProof line_of (Err refusal) mapped answer =
    answer ≡ Refused refusal.line (Text refusal.name)
BehindProof line_of (Ok proof) mapped answer = BehindMapping line_of proof mapped answer

-- the text of a proof in the comment comes first, then the mapping, then the tests
abbrev pub IsCircuitJudgement : Dqbf → ℕ → List ℕ → AagFile → Judgement → Type 0
IsCircuitJudgement f h text file answer =
    BehindProof (mapping_line h file.circuit)
    (proof_in f h (line_ends text) file.circuit file.comment)
    (candidate_of f file.circuit file.symbols) answer

-- the text, whose first line has the number h, isn't a circuit file
pub record IsCircuitRefusal (h : ℕ) (text : List ℕ) (answer : Judgement) : Type 0 where
  pub fault : LineFault
  pub is_first : IsFirstFault text h fault
  pub is : answer ≡ Refused fault.line (Circuit fault.name)

-- the text spells a circuit file
pub record IsCircuitAnswer (f : Dqbf) (h : ℕ) (text : List ℕ) (answer : Judgement) : Type 0 where
  pub file : AagFile
  pub spelled : SpellsCircuit text file
  pub is : IsCircuitJudgement f h text file answer

-- the same in the binary form, whose reading tells the comment's line
abbrev pub IsBinaryJudgement : Dqbf → ℕ → Result ReadCircuit LineFault → Judgement → Type 0
IsBinaryJudgement f h (Err fault) answer = answer ≡ Refused fault.line (Circuit fault.name)
IsBinaryJudgement f h (Ok read) answer =
    BehindProof (binary_mapping_line h)
    (proof_on f read.file.circuit read.file.comment read.comment_line)
    (candidate_of f read.file.circuit read.file.symbols) answer

-- the first fault of a refutation's text, and then of its derivation
abbrev pub answer_of_refutation : Dqbf → Result Dqr CertRefusal → Judgement
answer_of_refutation f (Ok d) = answer_of_derivation ValidFalse (refutation_fault f d)
answer_of_refutation f (Err refusal) = Refused refusal.line (Text refusal.name)

-- the counts of the blocks where none is at fault, and else the first fault
abbrev pub answer_of_blocks : List DefinitionBlock → Option DefinitionFault → Judgement
answer_of_blocks blocks None = ValidDefinitions (counts_of no_counts blocks)
answer_of_blocks blocks (Some fault) = BadBlock fault

-- the first fault of a text of definitions, and then of its blocks
abbrev pub IsDefinitionsAnswer : Dqbf → Result (List DefinitionBlock) CertRefusal → Judgement
    → Type 0
IsDefinitionsAnswer f (Ok blocks) answer =
    (fault : Option DefinitionFault)
    × (AreJudged f blocks fault × (answer ≡ answer_of_blocks blocks fault))
IsDefinitionsAnswer f (Err refusal) answer = answer ≡ Refused refusal.line (Text refusal.name)

-- by the kind of the certificate, and where its header line begins
abbrev pub IsJudgementOf : Dqbf → List ℕ → Result Kind CertRefusal → Judgement → Type 0
IsJudgementOf f text (Ok (CircuitText at h)) answer =
    IsCircuitRefusal h (drop at text) answer ⊎ IsCircuitAnswer f h (drop at text) answer
IsJudgementOf f text (Ok (BinaryText at h)) answer =
    IsBinaryJudgement f h (scan_binary (drop at text) h) answer
IsJudgementOf f text (Ok (Refutation at h)) answer =
    answer ≡ answer_of_refutation f (refutation_of f (drop at text) h)
IsJudgementOf f text (Ok (Definitions at h)) answer =
    IsDefinitionsAnswer f (definitions_of f (drop at text) h) answer
IsJudgementOf f text (Err refusal) answer = answer ≡ Refused refusal.line (Text refusal.name)

abbrev pub IsJudgement : Dqbf → List ℕ → Judgement → Type 0
IsJudgement f text answer = IsJudgementOf f text (certificate_kind text) answer

-- the file that a text of this kind spells behind its first lines
abbrev pub SpellsFile : List ℕ → Result Kind CertRefusal → AagFile → Type 0
SpellsFile text (Ok (CircuitText at h)) file = SpellsCircuit (drop at text) file
SpellsFile text (Ok (BinaryText at h)) file =
    (line : Option ℕ)
    × SpellsBinary (drop at text) h (record { file = file; comment_line = line })
SpellsFile text (Ok (Refutation at h)) file = ⊥
SpellsFile text (Ok (Definitions at h)) file = ⊥
SpellsFile text (Err refusal) file = ⊥

-- the text is a circuit's by its first lines, and spells behind these one that is made of Skolem
-- functions
pub record HoldsSkolemCircuit (f : Dqbf) (text : List ℕ) : Type 0 where
  pub file : AagFile
  pub spelled : SpellsFile text (certificate_kind text) file
  pub skolem : IsSkolemCircuit f file.circuit file.symbols

-- the text is one of definitions by its first lines, and spells these blocks
abbrev pub SpellsBlocks : Dqbf → List ℕ → Result Kind CertRefusal → List DefinitionBlock → Type 0
SpellsBlocks f text (Ok (Definitions at h)) blocks = SpellsDefinitions (drop at text) f blocks
SpellsBlocks f text (Ok _) blocks = ⊥
SpellsBlocks f text (Err refusal) blocks = ⊥

-- the text spells a block for each existential, so many of each kind, and what they say is right
pub record HoldsRightDefinitions (f : Dqbf) (text : List ℕ) (counts : DefinedCounts) : Type 0 where
  pub blocks : List DefinitionBlock
  pub spelled : SpellsBlocks f text (certificate_kind text) blocks
  pub counted : counts ≡ counts_of no_counts blocks
  pub right : AreRight f blocks
