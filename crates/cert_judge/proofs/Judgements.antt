-- Only one thing is said of a certificate.
use Rattle.std.proofs.Common.{◌≡◌, ◌⊎◌, ℕ, ◌<◌, true, false, inl, inr, List, length, Option, None, Some, Result, Ok, Err, refl, sym, ◌∙◌, subst, arith}
use Rattle.std.specs.Prelude.{drop}
use Rattle.std.proofs.lemmas.Bool.{cases_order}
use Rattle.std.proofs.lemmas.List.Sums.{list_all-from_AllPass}
use Rattle.dq_lits.specs.Formula.{Existential, Dqbf}
use Rattle.dq_lits.specs.Literal.{clause_true}
use Rattle.aiger_text.specs.FirstFault.{IsFirstFault}
use Rattle.aiger_text.specs.Grammar.{SpellsCircuit}
use Rattle.aiger_text.specs.Scan.{LineFault}
use Rattle.aiger_text.specs.declared.files.AagFile.{AagFile}
use Rattle.skolem_checker.specs.Checks.{Candidate, existential_at, ReadsDeclaredBefore, IsFirstRead, IsFirstUndeclared, IsFirstBad, RowHolds, RowFails}
use Rattle.skolem_checker.specs.SkolemCircuit.{MappedCircuit}
use Rattle.skolem_checker.specs.declared.mapping.MapError.{MapError}
use Rattle.skolem_checker.specs.declared.mapping.MapPlace.{MapPlace}
use Rattle.aiger_text.specs.declared.files.ReadCircuit.{ReadCircuit}
use Rattle.aig_binary.specs.Scan.{scan_binary}
use Rattle.cert_text.specs.Kind.{certificate_kind}
use Rattle.cert_text.specs.declared.circuit_proofs.Dqp.{Dqp}
use Rattle.cert_text.specs.declared.faults.CertRefusal.{CertRefusal}
use Rattle.cert_text.specs.declared.kinds.Kind.{Kind}
use Rattle.cert_text.specs.declared.kinds.Kind.TheVariants.{Circuit as CircuitText, BinaryCircuit as BinaryText, Refutation, Definitions}
use Rattle.cert_judge.specs.Judgement.{IsTestedByRows, IsTestedBy, HasUndeclaredRead, PassesReads, IsTested, BehindMapping, BehindProof, IsCircuitJudgement, IsBinaryJudgement, IsCircuitRefusal, IsCircuitAnswer, IsJudgementOf, IsJudgement}
use Rattle.defined_checker.specs.Forced.{TextsAreJudgedOnce}
use Rattle.cert_judge.specs.declared.answers.Judgement.{Judgement}
use Rattle.cert_judge.specs.declared.answers.Judgement.TheVariants.{Refused, UndeclaredRead, BadRow, Unproved, UnderivedStep, NoEmptyClause, ValidTrue, ValidFalse, BadBlock, ValidDefinitions}
use Rattle.cert_judge.proofs.DefinitionAnswers.{one_definitions_answer}

read_is_declared : (Reads : ℕ → ℕ → Type 0) (f : Dqbf) (y : Existential) (x end : ℕ) (r : IsFirstRead Reads f y x)
    → r.place < end → ReadsDeclaredBefore Reads f y end → ⊥
read_is_declared Reads f y x end r below declared = search arith

one_read : (Reads : ℕ → ℕ → Type 0) (f : Dqbf) (y : Existential) (x w : ℕ) → IsFirstRead Reads f y x →
    IsFirstRead Reads f y w → x ≡ w
one_read Reads f y x w r s = search (arith, cases_order, read_is_declared)

undeclared_is_declared : (Reads : ℕ → ℕ → Type 0) (f : Dqbf) (y x : ℕ) (r : IsFirstUndeclared Reads f y x) (end : ℕ) →
    r.place < end
    → ((p : ℕ) → p < end → ReadsDeclaredBefore Reads f (existential_at f p) (length f.universals)) → ⊥
undeclared_is_declared Reads f y x r end below declared = search (arith, read_is_declared)

one_undeclared : (Reads : ℕ → ℕ → Type 0) (f : Dqbf) (y x z w : ℕ) → IsFirstUndeclared Reads f y x →
    IsFirstUndeclared Reads f z w → (y ≡ z) × (x ≡ w)
one_undeclared Reads f y x z w r s = search (arith, cases_order, one_read, undeclared_is_declared)

row_is_one : (f : Dqbf) (c : MappedCircuit) (k : ℕ) → RowHolds f c k → RowFails f c k → ⊥
row_is_one f c k holds fails =
    let true_there = list_all-from_AllPass (clause_true fails.assignment) f.matrix
    (holds fails.assignment fails.row fails.follows) in
    let both : true ≡ false = sym true_there ∙ fails.clause_false in
    cc

one_bad : (Holds Fails : ℕ → Type 0) (end k j : ℕ) → ((i : ℕ) → Holds i → Fails i → ⊥)
    → IsFirstBad Holds Fails end (Err k) → IsFirstBad Holds Fails end (Err j) → k ≡ j
one_bad Holds Fails end k j exclude (k_below, k_before, k_fails) (j_below, j_before, j_fails) =
    search (arith, cases_order)

read_and_passes : (c : Candidate) (proof : Option Dqp) (a b : Judgement) → HasUndeclaredRead c a →
    PassesReads proof c b → ⊥
read_and_passes c proof a b r s = search (arith, undeclared_is_declared)

one_undeclared_read : (c : Candidate) (a b : Judgement) → HasUndeclaredRead c a → HasUndeclaredRead c b → a ≡ b
one_undeclared_read c a b r s = search (arith, one_undeclared)

one_by_rows : (f : Dqbf) (c : MappedCircuit) (a b : Judgement) → IsTestedByRows f c a → IsTestedByRows f c b → a ≡ b
one_by_rows f c (Refused line name) b impossible _ = absurd impossible
one_by_rows f c (UndeclaredRead y x) b impossible _ = absurd impossible
one_by_rows f c (UnderivedStep id) b impossible _ = absurd impossible
one_by_rows f c NoEmptyClause b impossible _ = absurd impossible
one_by_rows f c ValidFalse b impossible _ = absurd impossible
one_by_rows f c (BadBlock fault) b impossible _ = absurd impossible
one_by_rows f c (ValidDefinitions counts) b impossible _ = absurd impossible
one_by_rows f c (BadRow k) b r s = bad_row_is b s
  where
    bad_row_is : (b : Judgement) → IsTestedByRows f c b → BadRow k ≡ b
    bad_row_is (Refused line name) impossible = absurd impossible
    bad_row_is (UndeclaredRead y x) impossible = absurd impossible
    bad_row_is (UnderivedStep id) impossible = absurd impossible
    bad_row_is NoEmptyClause impossible = absurd impossible
    bad_row_is ValidFalse impossible = absurd impossible
    bad_row_is (BadBlock fault) impossible = absurd impossible
    bad_row_is (ValidDefinitions counts) impossible = absurd impossible
    bad_row_is (BadRow j) (_, s) = search (arith, one_bad, row_is_one)
    bad_row_is (Unproved n) (many, same) = let few = r.0 in absurd (omega (arith, few, many, same))
    bad_row_is ValidTrue (_, s) = absurd (row_is_one f c k (s k r.1.0) r.1.2)
one_by_rows f c (Unproved n) b r s = search arith
one_by_rows f c ValidTrue b r s = valid_is b s
  where
    valid_is : (b : Judgement) → IsTestedByRows f c b → ValidTrue ≡ b
    valid_is (Refused line name) impossible = absurd impossible
    valid_is (UndeclaredRead y x) impossible = absurd impossible
    valid_is (UnderivedStep id) impossible = absurd impossible
    valid_is NoEmptyClause impossible = absurd impossible
    valid_is ValidFalse impossible = absurd impossible
    valid_is (BadBlock fault) impossible = absurd impossible
    valid_is (ValidDefinitions counts) impossible = absurd impossible
    valid_is (BadRow j) (_, s) = absurd (row_is_one f c j (r.1 j s.0) s.2)
    valid_is (Unproved n) (many, same) = let few = r.0 in absurd (omega (arith, few, many, same))
    valid_is ValidTrue _ = refl

one_tested_by : (proof : Option Dqp) (c : Candidate) (a b : Judgement) → IsTestedBy proof c a →
    IsTestedBy proof c b → a ≡ b
one_tested_by (Some d) c a b r s = r ∙ sym s
one_tested_by None c a b r s = one_by_rows c.formula c.circuit a b r s

one_tested : (proof : Option Dqp) (c : Candidate) (a b : Judgement) → IsTested proof c a → IsTested proof c b → a ≡ b
one_tested proof c a b (inl r) (inl s) = one_undeclared_read c a b r s
one_tested proof c a b (inl r) (inr s) = absurd (read_and_passes c proof a b r s)
one_tested proof c a b (inr r) (inl s) = absurd (read_and_passes c proof b a s r)
one_tested proof c a b (inr r) (inr s) = one_tested_by proof c a b r.tested s.tested

one_behind_mapping : (line_of : MapPlace → ℕ) (proof : Option Dqp) (mapped : Result Candidate MapError)
    (a b : Judgement) → BehindMapping line_of proof mapped a → BehindMapping line_of proof mapped b → a ≡ b
one_behind_mapping line_of proof (Err fault) a b r s = r ∙ sym s
one_behind_mapping line_of proof (Ok c) a b r s = one_tested proof c a b r s

one_behind_proof : (line_of : MapPlace → ℕ) (read : Result (Option Dqp) CertRefusal)
    (mapped : Result Candidate MapError) (a b : Judgement) → BehindProof line_of read mapped a →
    BehindProof line_of read mapped b → a ≡ b
one_behind_proof line_of (Err refusal) mapped a b r s = r ∙ sym s
one_behind_proof line_of (Ok proof) mapped a b r s = one_behind_mapping line_of proof mapped a b r s

one_circuit_judgement : (f : Dqbf) (h : ℕ) (text : List ℕ) (file : AagFile) (a b : Judgement) →
    IsCircuitJudgement f h text file a → IsCircuitJudgement f h text file b → a ≡ b
one_circuit_judgement f h text file a b = search (arith, one_behind_proof)

one_binary_judgement : (f : Dqbf) (h : ℕ) (scanned : Result ReadCircuit LineFault) (a b : Judgement) →
    IsBinaryJudgement f h scanned a → IsBinaryJudgement f h scanned b → a ≡ b
one_binary_judgement f h (Err fault) a b r s = r ∙ sym s
one_binary_judgement f h (Ok read) a b r s = search (arith, one_behind_proof)

-- what the law of the circuits' grammar gives
pub record CircuitLaw : Type 0 where
  pub unique : (text : List ℕ) (f g : AagFile) → SpellsCircuit text f → SpellsCircuit text g → f ≡ g
  pub never_both : (text : List ℕ) (first : ℕ) (file : AagFile) (fault : LineFault) → SpellsCircuit text file →
      ¬ IsFirstFault text first fault
  pub one_fault : (text : List ℕ) (first : ℕ) (f g : LineFault) → IsFirstFault text first f →
      IsFirstFault text first g → f ≡ g

by_file_or_fault : CircuitLaw → (f : Dqbf) (h : ℕ) (text : List ℕ) (a b : Judgement) →
    IsCircuitRefusal h text a ⊎ IsCircuitAnswer f h text a →
    IsCircuitRefusal h text b ⊎ IsCircuitAnswer f h text b → a ≡ b
by_file_or_fault law f h text a b (inl r) (inl s) = search arith
by_file_or_fault law f h text a b (inl r) (inr s) = absurd (law.never_both text h s.file r.fault s.spelled r.is_first)
by_file_or_fault law f h text a b (inr r) (inl s) = absurd (law.never_both text h r.file s.fault r.spelled s.is_first)
by_file_or_fault law f h text a b (inr r) (inr s) =
    one_circuit_judgement f h text s.file a b
    (subst (λ (file : AagFile). IsCircuitJudgement f h text file a)
    (law.unique text r.file s.file r.spelled s.spelled) r.is) s.is

by_kind : CircuitLaw → TextsAreJudgedOnce → (kind : Result Kind CertRefusal) (f : Dqbf) (text : List ℕ)
    (a b : Judgement) →
    IsJudgementOf f text kind a → IsJudgementOf f text kind b → a ≡ b
by_kind law once (Ok (CircuitText at h)) f text a b r s = by_file_or_fault law f h (drop at text) a b r s
by_kind law once (Ok (BinaryText at h)) f text a b r s = one_binary_judgement f h (scan_binary (drop at text) h) a b r s
by_kind law once (Ok (Refutation at h)) f text a b r s = r ∙ sym s
by_kind law once (Ok (Definitions at h)) f text a b r s = one_definitions_answer once f (drop at text) h a b r s
by_kind law once (Err refusal) f text a b r s = r ∙ sym s

pub one_judgement : CircuitLaw → TextsAreJudgedOnce → (f : Dqbf) (text : List ℕ) (a b : Judgement) →
    IsJudgement f text a →
    IsJudgement f text b → a ≡ b
one_judgement law once f text a b r s = by_kind law once (certificate_kind text) f text a b r s
