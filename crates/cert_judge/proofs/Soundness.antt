-- What is accepted is right.
use Rattle.std.proofs.Common.{◌≡◌, ◌⊎◌, ℕ, inl, inr, List, Option, None, Some, Result, Ok, Err, refl, ap, arith}
use Rattle.std.specs.Prelude.{drop, ◌↔◌}
use Rattle.std.specs.List.{All}
use Rattle.dq_lits.specs.Formula.{Dqbf, HasLawfulPrefix, IsWellFormed}
use Rattle.dq_lits.specs.Derivation.{ProofFault, underived, unfinished}
use Rattle.rup_core.specs.Items.{ProofItem}
use Rattle.dq_lits.specs.Henkin.{IsTrueFormula, IsFalseFormula}
use Rattle.circuit_plain.specs.Netlist.{Netlist, IsNetlist}
use Rattle.aiger_text.specs.Grammar.{HasMeaning}
use Rattle.aiger_text.specs.Scan.{LineFault, AllGrounded}
use Rattle.aiger_text.specs.Symbol.{SymbolTable}
use Rattle.aiger_text.specs.declared.files.AagFile.{AagFile}
use Rattle.aiger_text.specs.declared.files.ReadCircuit.{ReadCircuit}
use Rattle.aig_binary.specs.Grammar.{SpellsBinary}
use Rattle.aig_binary.specs.Scan.{scan_binary}
use Rattle.cert_text.specs.Kind.{certificate_kind}
use Rattle.cert_text.specs.declared.circuit_proofs.Dqp.{Dqp}
use Rattle.cert_text.specs.declared.faults.CertRefusal.{CertRefusal}
use Rattle.cert_text.specs.declared.kinds.Kind.{Kind}
use Rattle.cert_text.specs.declared.kinds.Kind.TheVariants.{Circuit as CircuitText, BinaryCircuit as BinaryText, Refutation, Definitions}
use Rattle.cert_text.specs.declared.refutations.Dqr.{Dqr}
use Rattle.defined_checker.specs.Forced.{AcceptedTextsAreRight}
use Rattle.defined_checker.specs.declared.checks.DefinedCounts.{DefinedCounts}
use Rattle.proof_checker.specs.CircuitProof.{circuit_proof_fault}
use Rattle.refutation_checker.specs.Refutation.{refutation_fault}
use Rattle.skolem_checker.specs.Checks.{Candidate, candidate_of, with_mapping, IsReadsAnswer, IsRowsAnswer}
use Rattle.skolem_checker.specs.Mapping.{Mapping, mapping_of}
use Rattle.skolem_checker.specs.SkolemCircuit.{IsComplete, IsSkolemCircuit, ReadsUniversal}
use Rattle.skolem_checker.specs.declared.mapping.MapError.{MapError}
use Rattle.skolem_checker.specs.declared.mapping.MapPlace.{MapPlace}
use Rattle.skolem_checker.proofs.LiteralNumbers.{spelled_complete, meaning_grounded}
use Rattle.cert_judge.specs.declared.answers.Judgement.{Judgement}
use Rattle.cert_judge.specs.Judgement.{HoldsRightDefinitions, HoldsSkolemCircuit, IsCircuitAnswer, IsCircuitRefusal, IsTested, IsTestedByRows, BehindMapping, BehindProof, IsJudgementOf, IsJudgement, answer_of_derivation, answer_of_refutation, IsBinaryJudgement, SpellsFile}
use Rattle.cert_judge.specs.declared.answers.Judgement.TheVariants.{Refused, UndeclaredRead, ValidTrue, ValidFalse, ValidDefinitions}
use Rattle.cert_judge.specs.declared.answers.CertificateFault.{CertificateFault}
use Rattle.cert_judge.specs.declared.answers.CertificateFault.TheVariants.{Text, Circuit, Mapping as BadMapping}
use Rattle.cert_judge.proofs.DefinitionAnswers.{ReadTextsAreSpelled, accepted_blocks, never_false, never_true}

-- what the laws of the circuits' tests and proofs give
pub record TestsLaw : Type 0 where
  pub skolem : (c : Candidate) (symbols : SymbolTable) → HasLawfulPrefix c.formula
      → candidate_of c.formula c.circuit.netlist symbols ≡ Ok c
      → IsReadsAnswer (ReadsUniversal c.circuit) c.formula (Ok tt) → IsRowsAnswer c.formula c.circuit (Ok tt)
      → IsSkolemCircuit c.formula c.circuit.netlist symbols
  pub is_true : (f : Dqbf) (net : Netlist) (symbols : SymbolTable) → HasLawfulPrefix f → IsNetlist net → IsComplete net
      → IsSkolemCircuit f net symbols → IsTrueFormula f
  pub proved : (c : Candidate) (symbols : SymbolTable) (items : List ProofItem) → IsWellFormed c.formula
      → IsNetlist c.circuit.netlist → IsComplete c.circuit.netlist
      → candidate_of c.formula c.circuit.netlist symbols ≡ Ok c
      → IsReadsAnswer (ReadsUniversal c.circuit) c.formula (Ok tt) → circuit_proof_fault c items ≡ None
      → IsSkolemCircuit c.formula c.circuit.netlist symbols

-- what the law of refutations gives
abbrev pub RefutationLaw : Type 0
RefutationLaw = (f : Dqbf) (d : Dqr) → IsWellFormed f → refutation_fault f d ≡ None → IsFalseFormula f

true_is_no_refusal : (line : ℕ) (name : CertificateFault) → ValidTrue ≡ Refused line name → ⊥
true_is_no_refusal line name same = cc

false_is_no_refusal : (line : ℕ) (name : CertificateFault) → ValidFalse ≡ Refused line name → ⊥
false_is_no_refusal line name same = cc

true_is_no_read : (y x : ℕ) → ValidTrue ≡ UndeclaredRead y x → ⊥
true_is_no_read y x same = cc

no_fault : (fault : Option ProofFault) → ValidTrue ≡ answer_of_derivation ValidTrue fault → fault ≡ None
no_fault None same = refl
no_fault (Some (underived id)) same = cc
no_fault (Some unfinished) same = cc

module _ (law : TestsLaw) (f : Dqbf) (net : Netlist) (symbols : SymbolTable) (formed : IsWellFormed f)
    (kept : IsNetlist net) (complete : IsComplete net) where
  abbrev mapped_by : Mapping → Candidate
  mapped_by mapping = record { formula = f; circuit = record { netlist = net; mapping = mapping } }

  true_by_tests : (proof : Option Dqp) (mapping : Mapping) → mapping_of f net symbols ≡ Ok mapping →
      IsTested proof (mapped_by mapping) ValidTrue → IsSkolemCircuit f net symbols
  true_by_tests proof mapping is (inl r) = absurd (true_is_no_read r.existential r.universal r.is)
  true_by_tests None mapping is (inr r) =
      law.skolem (mapped_by mapping) symbols formed.prefix (ap (with_mapping f net) is) r.reads r.tested.1
  true_by_tests (Some d) mapping is (inr r) =
      law.proved (mapped_by mapping) symbols d.items formed kept complete (ap (with_mapping f net) is) r.reads
      (no_fault (circuit_proof_fault (mapped_by mapping) d.items) r.tested)

  true_by_mapping : (line_of : MapPlace → ℕ) (proof : Option Dqp) (mapped : Result Mapping MapError) →
      mapping_of f net symbols ≡ mapped
      → BehindMapping line_of proof (with_mapping f net mapped) ValidTrue → IsSkolemCircuit f net symbols
  true_by_mapping line_of proof (Err fault) is r = search (arith, true_is_no_refusal)
  true_by_mapping line_of proof (Ok mapping) is r = true_by_tests proof mapping is r

  true_by_proof : (line_of : MapPlace → ℕ) (read : Result (Option Dqp) CertRefusal) →
      BehindProof line_of read (candidate_of f net symbols) ValidTrue → IsSkolemCircuit f net symbols
  true_by_proof line_of (Err refusal) r = absurd (true_is_no_refusal refusal.line (Text refusal.name) r)
  true_by_proof line_of (Ok proof) r = true_by_mapping line_of proof (mapping_of f net symbols) refl r

true_is_no_derivation : (fault : Option ProofFault) → ValidTrue ≡ answer_of_derivation ValidFalse fault → ⊥
true_is_no_derivation None same = cc
true_is_no_derivation (Some (underived id)) same = cc
true_is_no_derivation (Some unfinished) same = cc

true_is_no_refutation : (f : Dqbf) (read : Result Dqr CertRefusal) → ValidTrue ≡ answer_of_refutation f read → ⊥
true_is_no_refutation f (Ok d) same = true_is_no_derivation (refutation_fault f d) same
true_is_no_refutation f (Err refusal) same = true_is_no_refusal refusal.line (Text refusal.name) same

-- what the laws of the binary form give
pub record BinaryLaw : Type 0 where
  pub exact : (text : List ℕ) (first : ℕ) (read : ReadCircuit) → SpellsBinary text first read ↔
      (scan_binary text first ≡ Ok read)
  pub lawful : (text : List ℕ) (first : ℕ) (read : ReadCircuit) → SpellsBinary text first read →
      IsNetlist read.file.circuit
  pub acyclic : (text : List ℕ) (first : ℕ) (read : ReadCircuit) → SpellsBinary text first read →
      AllGrounded read.file.circuit
  pub outputs_mean : (text : List ℕ) (first : ℕ) (read : ReadCircuit) → SpellsBinary text first read →
      All (HasMeaning read.file.circuit) read.file.circuit.outputs

pub binary_complete : BinaryLaw → (text : List ℕ) (first : ℕ) (read : ReadCircuit) → SpellsBinary text first read →
    IsComplete read.file.circuit
binary_complete law text first read spelled =
    let grounded = law.acyclic text first read spelled in
    record {
      gates = grounded;
      outputs = λ k d below. meaning_grounded read.file.circuit _ grounded
          (law.outputs_mean text first read spelled k d below);
    }

spelled_netlist : BinaryLaw → (text : List ℕ) (kind : Result Kind CertRefusal) (file : AagFile) →
    SpellsFile text kind file → IsNetlist file.circuit × IsComplete file.circuit
spelled_netlist law text (Ok (CircuitText at h)) file spelled = search (arith, spelled_complete)
spelled_netlist law text (Ok (BinaryText at h)) file (line, spelled) =
    let read : ReadCircuit = record { file = file; comment_line = line } in
    (law.lawful (drop at text) h read spelled, binary_complete law (drop at text) h read spelled)
spelled_netlist law text (Ok (Refutation at h)) file impossible = absurd impossible
spelled_netlist law text (Ok (Definitions at h)) file impossible = absurd impossible
spelled_netlist law text (Err refusal) file impossible = absurd impossible

circuit_by_scan : TestsLaw → BinaryLaw → (f : Dqbf) (text : List ℕ) (at h : ℕ) →
    certificate_kind text ≡ Ok (BinaryText at h) → IsWellFormed f → (scanned : Result ReadCircuit LineFault) →
    scan_binary (drop at text) h ≡ scanned → IsBinaryJudgement f h scanned ValidTrue → HoldsSkolemCircuit f text
circuit_by_scan law binary f text at h is formed (Err fault) scan r = search (arith, true_is_no_refusal)
circuit_by_scan law binary f text at h is formed (Ok read) scan r =
    search (
      arith,
      (true_by_proof law f read.file.circuit read.file.symbols formed),
      (binary_complete binary (drop at text) h read),
    )

circuit_by_kind : TestsLaw → BinaryLaw → (kind : Result Kind CertRefusal) (f : Dqbf) (text : List ℕ) →
    certificate_kind text ≡ kind → IsWellFormed f → IsJudgementOf f text kind ValidTrue → HoldsSkolemCircuit f text
circuit_by_kind law binary (Ok (CircuitText at h)) f text is formed (inl r) = search (arith, true_is_no_refusal)
circuit_by_kind law binary (Ok (CircuitText at h)) f text is formed (inr r) =
    search (
      arith,
      (true_by_proof law f r.file.circuit r.file.symbols formed r.spelled.lawful (spelled_complete (drop at text) r.file r.spelled)),
      (spelled_complete (drop at text) r.file r.spelled),
    )
circuit_by_kind law binary (Ok (BinaryText at h)) f text is formed r = search (arith, circuit_by_scan)
circuit_by_kind law binary (Ok (Refutation at h)) f text is formed r = search (arith, true_is_no_refutation)
circuit_by_kind law binary (Ok (Definitions at h)) f text is formed r = search (arith, never_true)
circuit_by_kind law binary (Err refusal) f text is formed r = search (arith, true_is_no_refusal)

pub accepted_circuit : TestsLaw → BinaryLaw → (f : Dqbf) (text : List ℕ) → IsWellFormed f →
    IsJudgement f text ValidTrue → HoldsSkolemCircuit f text
accepted_circuit law binary f text formed r = circuit_by_kind law binary (certificate_kind text) f text refl formed r

pub accepted_is_true : TestsLaw → BinaryLaw → (f : Dqbf) (text : List ℕ) → IsWellFormed f →
    IsJudgement f text ValidTrue → IsTrueFormula f
accepted_is_true law binary f text formed r =
    let h = accepted_circuit law binary f text formed r in
    let net = spelled_netlist binary text (certificate_kind text) h.file h.spelled in
    law.is_true f h.file.circuit h.file.symbols formed.prefix net.0 net.1 h.skolem

-- what isn't said of circuits
record IsForeign (answer : Judgement) : Type 0 where
  no_refusal : (line : ℕ) (name : CertificateFault) → answer ≡ Refused line name → ⊥
  no_read : (y x : ℕ) → answer ≡ UndeclaredRead y x → ⊥
  no_proof : (fault : Option ProofFault) → answer ≡ answer_of_derivation ValidTrue fault → ⊥
  no_rows : (c : Candidate) → IsTestedByRows c.formula c.circuit answer → ⊥

module _ (answer : Judgement) (is : IsForeign answer) where
  foreign_by_tests : (proof : Option Dqp) (c : Candidate) → IsTested proof c answer → ⊥
  foreign_by_tests proof c (inl r) = is.no_read r.existential r.universal r.is
  foreign_by_tests None c (inr r) = is.no_rows c r.tested
  foreign_by_tests (Some d) c (inr r) = is.no_proof (circuit_proof_fault c d.items) r.tested

  foreign_by_mapping : (line_of : MapPlace → ℕ) (proof : Option Dqp) (mapped : Result Candidate MapError) →
      BehindMapping line_of proof mapped answer → ⊥
  foreign_by_mapping line_of proof (Err fault) r = is.no_refusal (line_of fault.at) (BadMapping fault.name) r
  foreign_by_mapping line_of proof (Ok c) r = foreign_by_tests proof c r

  foreign_by_proof : (line_of : MapPlace → ℕ) (read : Result (Option Dqp) CertRefusal)
      (mapped : Result Candidate MapError) → BehindProof line_of read mapped answer → ⊥
  foreign_by_proof line_of (Err refusal) mapped r = is.no_refusal refusal.line (Text refusal.name) r
  foreign_by_proof line_of (Ok proof) mapped r = foreign_by_mapping line_of proof mapped r

  foreign_by_scan : (f : Dqbf) (h : ℕ) (scanned : Result ReadCircuit LineFault) →
      IsBinaryJudgement f h scanned answer → ⊥
  foreign_by_scan f h (Err fault) r = is.no_refusal fault.line (Circuit fault.name) r
  foreign_by_scan f h (Ok read) r = search (arith, foreign_by_proof)

  foreign_by_file : (f : Dqbf) (h : ℕ) (text : List ℕ) →
      IsCircuitRefusal h text answer ⊎ IsCircuitAnswer f h text answer → ⊥
  foreign_by_file f h text (inl r) = is.no_refusal r.fault.line (Circuit r.fault.name) r.is
  foreign_by_file f h text (inr r) = search (arith, foreign_by_proof)

false_is_no_read : (y x : ℕ) → ValidFalse ≡ UndeclaredRead y x → ⊥
false_is_no_read y x same = cc

false_is_no_proof : (fault : Option ProofFault) → ValidFalse ≡ answer_of_derivation ValidTrue fault → ⊥
false_is_no_proof None same = cc
false_is_no_proof (Some (underived id)) same = cc
false_is_no_proof (Some unfinished) same = cc

false_is_foreign : IsForeign ValidFalse
false_is_foreign = record {
  no_refusal = false_is_no_refusal;
  no_read = false_is_no_read;
  no_proof = false_is_no_proof;
  no_rows = λ c impossible. impossible;
}

false_by_derivation : RefutationLaw → (f : Dqbf) (d : Dqr) → IsWellFormed f → (fault : Option ProofFault) →
    refutation_fault f d ≡ fault
    → ValidFalse ≡ answer_of_derivation ValidFalse fault → IsFalseFormula f
false_by_derivation law f d formed None is same = law f d formed is
false_by_derivation law f d formed (Some (underived id)) is same = cc
false_by_derivation law f d formed (Some unfinished) is same = cc

false_by_refutation : RefutationLaw → (f : Dqbf) → IsWellFormed f → (read : Result Dqr CertRefusal) →
    ValidFalse ≡ answer_of_refutation f read → IsFalseFormula f
false_by_refutation law f formed (Ok d) same = false_by_derivation law f d formed (refutation_fault f d) refl same
false_by_refutation law f formed (Err refusal) same = absurd (false_is_no_refusal refusal.line (Text refusal.name) same)

false_by_kind : RefutationLaw → (kind : Result Kind CertRefusal) (f : Dqbf) (text : List ℕ) → IsWellFormed f →
    IsJudgementOf f text kind ValidFalse → IsFalseFormula f
false_by_kind law (Ok (CircuitText at h)) f text formed r = search (arith, foreign_by_file, false_is_foreign)
false_by_kind law (Ok (BinaryText at h)) f text formed r = search (arith, foreign_by_scan, false_is_foreign)
false_by_kind law (Ok (Refutation at h)) f text formed r = search (arith, false_by_refutation)
false_by_kind law (Ok (Definitions at h)) f text formed r = search (arith, never_false)
false_by_kind law (Err refusal) f text formed r = absurd (false_is_no_refusal refusal.line (Text refusal.name) r)

pub accepted_is_false : RefutationLaw → (f : Dqbf) (text : List ℕ) → IsWellFormed f → IsJudgement f text ValidFalse →
    IsFalseFormula f
accepted_is_false law f text formed r = false_by_kind law (certificate_kind text) f text formed r

-- definitions
counts_are_no_refusal : (counts : DefinedCounts) (line : ℕ) (name : CertificateFault) →
    ValidDefinitions counts ≡ Refused line name → ⊥
counts_are_no_refusal counts line name same = cc

counts_are_no_read : (counts : DefinedCounts) (y x : ℕ) → ValidDefinitions counts ≡ UndeclaredRead y x → ⊥
counts_are_no_read counts y x same = cc

counts_are_no_proof : (counts : DefinedCounts) (fault : Option ProofFault) →
    ValidDefinitions counts ≡ answer_of_derivation ValidTrue fault → ⊥
counts_are_no_proof counts None same = cc
counts_are_no_proof counts (Some (underived id)) same = cc
counts_are_no_proof counts (Some unfinished) same = cc

counts_are_foreign : (counts : DefinedCounts) → IsForeign (ValidDefinitions counts)
counts_are_foreign counts = record {
  no_refusal = counts_are_no_refusal counts;
  no_read = counts_are_no_read counts;
  no_proof = counts_are_no_proof counts;
  no_rows = λ c impossible. impossible;
}

counts_are_no_derivation : (counts : DefinedCounts) (fault : Option ProofFault) →
    ValidDefinitions counts ≡ answer_of_derivation ValidFalse fault → ⊥
counts_are_no_derivation counts None same = cc
counts_are_no_derivation counts (Some (underived id)) same = cc
counts_are_no_derivation counts (Some unfinished) same = cc

counts_are_no_refutation : (f : Dqbf) (counts : DefinedCounts) (read : Result Dqr CertRefusal) →
    ValidDefinitions counts ≡ answer_of_refutation f read → ⊥
counts_are_no_refutation f counts (Ok d) same = counts_are_no_derivation counts (refutation_fault f d) same
counts_are_no_refutation f counts (Err refusal) same = search (arith, counts_are_no_refusal)

blocks_by_kind : ReadTextsAreSpelled → AcceptedTextsAreRight → (kind : Result Kind CertRefusal) (f : Dqbf)
    (text : List ℕ) (counts : DefinedCounts) → certificate_kind text ≡ kind → IsWellFormed f →
    IsJudgementOf f text kind (ValidDefinitions counts) → HoldsRightDefinitions f text counts
blocks_by_kind grammar law (Ok (CircuitText at h)) f text counts is formed r =
    absurd (foreign_by_file (ValidDefinitions counts) (counts_are_foreign counts) f h (drop at text) r)
blocks_by_kind grammar law (Ok (BinaryText at h)) f text counts is formed r =
    absurd (foreign_by_scan (ValidDefinitions counts) (counts_are_foreign counts) f h (scan_binary (drop at text) h) r)
blocks_by_kind grammar law (Ok (Refutation at h)) f text counts is formed r = search (arith, counts_are_no_refutation)
blocks_by_kind grammar law (Ok (Definitions at h)) f text counts is formed r = search (arith, accepted_blocks)
blocks_by_kind grammar law (Err refusal) f text counts is formed r = search (arith, counts_are_no_refusal)

pub accepted_definitions : ReadTextsAreSpelled → AcceptedTextsAreRight → (f : Dqbf) (text : List ℕ)
    (counts : DefinedCounts) → IsWellFormed f → IsJudgement f text (ValidDefinitions counts) →
    HoldsRightDefinitions f text counts
accepted_definitions grammar law f text counts formed r = search (arith, blocks_by_kind)
