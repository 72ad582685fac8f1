-- The checker accepts circuits with their proofs as they are written.
use Rattle.std.proofs.Common.{◌≡◌, ◌≤◌, inr, ℕ, Bool, cond, true, false, sym, ap, subst, arith, List, [], ◌∷◌, ◌++◌, length, refl, Option, None, Some, Result, Ok, codes}
use Rattle.std.specs.List.{All, Contains}
use Rattle.std.proofs.lemmas.List.{length-map}
use Rattle.std.proofs.lemmas.List.Elements.{All-get_or}
use Rattle.dq_lits.specs.Formula.{Dqbf}
use Rattle.circuit_plain.specs.Netlist.{Netlist}
use Rattle.dq_text.specs.Line.{TextLine}
use Rattle.aiger_text.specs.Canonical.{canonical_circuit}
use Rattle.aiger_text.specs.Grammar.{SpellsCircuit}
use Rattle.aiger_text.specs.Scan.{LineFault}
use Rattle.aiger_text.specs.Spellable.{IsSpellable}
use Rattle.aiger_text.specs.declared.files.AagFile.{AagFile}
use Rattle.aiger_text.specs.declared.files.ReadCircuit.{ReadCircuit}
use Rattle.aig_binary.specs.Grammar.{EndsOn, SpellsBinary}
use Rattle.aig_binary.specs.Scan.{scan_binary}
use Rattle.aig_binary.specs.Written.{binary_text, IsBinaryFile}
use Rattle.cert_text.specs.Canonical.{canonical_proof}
use Rattle.cert_text.specs.CircuitProof.{circuit_proof_of}
use Rattle.cert_text.specs.Header.{max_count}
use Rattle.cert_text.specs.ProofGrammar.{IsDqpOf}
use Rattle.cert_text.specs.declared.circuit_proofs.Dqp.{Dqp}
use Rattle.cert_text.specs.declared.faults.CertRefusal.{CertRefusal}
use Rattle.cert_text.specs.declared.kinds.Kind.TheVariants.{Circuit as CircuitText, BinaryCircuit as BinaryText}
use Rattle.proof_checker.specs.ProvedCircuit.{IsProvedCircuit}
use Rattle.skolem_checker.specs.Checks.{Candidate, candidate_of, with_mapping, ReadsDeclared}
use Rattle.skolem_checker.specs.SkolemCircuit.{MappedCircuit, ReadsUniversal}
use Rattle.skolem_checker.specs.declared.mapping.MapPlace.{MapPlace}
use Rattle.cert_export.specs.ExportedCircuit.{IsWritable}
use Rattle.cert_judge.specs.Judgement.{line_ends, mapping_line, binary_mapping_line, proof_in, proof_on, answer_of_derivation, BehindProof, BehindMapping, IsTested, IsCircuitAnswer, IsBinaryJudgement, IsJudgement, IsJudgementOf}
use Rattle.dq_runs.specs.Printed.{line}
use Rattle.cert_judge.specs.declared.answers.Judgement.TheVariants.{ValidTrue}
use Rattle.ordered_gates.specs.Circuits.{is_sorted, ordered_file, ordered_item, ordered_proof}
use Rattle.ordered_gates.specs.Laws.{OrderedProofsStand, OrderedLinesAreNumbered, OrderedFilesAreBinary}
use Rattle.proof_deletions.specs.Laws.{DeletionsChangeNoFault, DeletionsAreAllowed}
use Rattle.verdict_texts.specs.Accepted.{ProvedCircuitsAreAccepted}
use Rattle.verdict_texts.specs.Forms.{written_items}
use Rattle.verdict_texts.specs.Verdicts.{with_proof}
use Rattle.verdict_texts.proofs.WrittenForms.{with_items, written_circuit, written_proof_allowed, few_before}
use Rattle.verdict_texts.proofs.Beginnings.{header_at, header_number, circuit_kind, binary_kind, proof_begins}

-- what the laws of the canonical texts give
abbrev pub CanonicalSpells : Type 0
CanonicalSpells = (file : AagFile) → IsSpellable file → SpellsCircuit (canonical_circuit file) file

abbrev pub BinarySpells : Type 0
BinarySpells = (file : AagFile) (first : ℕ) → IsBinaryFile file → (line : Option ℕ)
    × SpellsBinary (binary_text file) first (record { file = file; comment_line = line })

abbrev pub SpelledIsScanned : Type 0
SpelledIsScanned = (text : List ℕ) (first : ℕ) (read : ReadCircuit) → SpellsBinary text first read →
    scan_binary text first ≡ Ok read

abbrev pub ReadsProofBack : Type 0
ReadsProofBack = (f : Dqbf) (net : Netlist) (d : Dqp) (first : ℕ) → IsDqpOf f net d →
    circuit_proof_of f net (canonical_proof d) first ≡ Ok d

-- ---- the tests

reads_all : (f : Dqbf) (c : MappedCircuit) → All (λ y. (x : ℕ) → ReadsUniversal c y.variable x → Contains y.sees x)
    f.existentials
    → ReadsDeclared (ReadsUniversal c) f
reads_all f c declared p below q under reads = search (arith, All-get_or)

proof_found : (f : Dqbf) (h ends : ℕ) (net : Netlist) (d : Dqp) →
    ((first : ℕ) → circuit_proof_of f net (canonical_proof d) first ≡ Ok d)
    → proof_in f h ends net (Some (canonical_proof d)) ≡ Ok (Some d)
proof_found f h ends net d back = search (arith, proof_begins)

proof_found_on : (f : Dqbf) (net : Netlist) (d : Dqp) (number : ℕ) →
    ((first : ℕ) → circuit_proof_of f net (canonical_proof d) first ≡ Ok d)
    → proof_on f net (Some (canonical_proof d)) (Some number) ≡ Ok (Some d)
proof_found_on f net d number back = search (arith, proof_begins)

tested : (f : Dqbf) (line_of : MapPlace → ℕ) (read : Result (Option Dqp) CertRefusal) (file : AagFile) (d : Dqp)
    (p : IsProvedCircuit f file d) → read ≡ Ok (Some d) →
    BehindProof line_of read (candidate_of f file.circuit file.symbols) ValidTrue
tested f line_of read file d p found =
    let circuit : MappedCircuit = record { netlist = file.circuit; mapping = p.skolem.mapping } in
    let c : Candidate = record { formula = f; circuit = circuit } in
    let good : IsTested (Some d) c ValidTrue = inr (record {
      reads = reads_all f circuit p.skolem.reads_declared;
      tested = sym (ap (answer_of_derivation ValidTrue) p.derives);
    }) in
    subst (λ r. BehindProof line_of r (candidate_of f file.circuit file.symbols) ValidTrue) (sym found)
    (subst (λ mapped. BehindMapping line_of (Some d) mapped ValidTrue)
    (sym (ap (with_mapping f file.circuit) p.skolem.maps)) good)

-- ---- in ASCII

true_judgement : (bare : Bool) (f : Dqbf) (text : List ℕ) → IsCircuitAnswer f (header_number bare) text ValidTrue
    → IsJudgementOf f (cond bare [] (line (codes "s TRUE")) ++ text)
    (Ok (CircuitText (header_at bare 7) (header_number bare))) ValidTrue
true_judgement true f text is = inr is
true_judgement false f text is = inr is

ascii_accepted : CanonicalSpells → ReadsProofBack → (f : Dqbf) (file : AagFile) (d : Dqp) (bare : Bool) →
    IsProvedCircuit f file d → IsWritable file → file.circuit.max_var ≤ max_count → IsDqpOf f file.circuit d →
    IsJudgement f (cond bare [] (line (codes "s TRUE")) ++ canonical_circuit (with_proof file d)) ValidTrue
ascii_accepted spells back f file d bare proved writable small allowed =
    let whole = with_proof file d in
    let h = header_number bare in
    let found = proof_found f h (line_ends (canonical_circuit whole)) file.circuit d
    (λ first. back f file.circuit d first allowed) in
    let answer : IsCircuitAnswer f h (canonical_circuit whole) ValidTrue = record {
      file = whole;
      spelled = spells whole (writable (Some (canonical_proof d)) small);
      is = tested f (mapping_line h file.circuit) _ file d proved found;
    } in
    subst (λ kind. IsJudgementOf f (cond bare [] (line (codes "s TRUE")) ++ canonical_circuit whole) kind ValidTrue)
    (sym (circuit_kind bare _))
    (true_judgement bare f (canonical_circuit whole) answer)

-- ---- in the binary form

binary_judgement : (bare : Bool) (f : Dqbf) (text : List ℕ) →
    IsBinaryJudgement f (header_number bare) (scan_binary text (header_number bare)) ValidTrue
    → IsJudgementOf f (cond bare [] (line (codes "s TRUE")) ++ text)
    (Ok (BinaryText (header_at bare 7) (header_number bare))) ValidTrue
binary_judgement true f text is = is
binary_judgement false f text is = is

-- a comment has a line
no_line : (lines : List TextLine) (comment : List ℕ) → EndsOn lines (Some comment) None → ⊥
no_line [] comment ends = ends
no_line (l ∷ lines) comment ends = ends

read_so : (f : Dqbf) (h : ℕ) (file : AagFile) (d : Dqp) (number : Option ℕ) (lines : List TextLine) →
    EndsOn lines (Some (canonical_proof d)) number → IsProvedCircuit f file d → IsDqpOf f file.circuit d →
    ReadsProofBack →
    BehindProof (binary_mapping_line h) (proof_on f file.circuit (Some (canonical_proof d)) number)
    (candidate_of f file.circuit file.symbols) ValidTrue
read_so f h file d None lines ends proved allowed back = absurd (no_line lines (canonical_proof d) ends)
read_so f h file d (Some number) lines ends proved allowed back = search (arith, proof_found_on)

binary_accepted : BinarySpells → SpelledIsScanned → ReadsProofBack → (f : Dqbf) (file : AagFile) (d : Dqp)
    (bare : Bool) → IsProvedCircuit f file d → IsBinaryFile (with_proof file d) → IsDqpOf f file.circuit d →
    IsJudgement f (cond bare [] (line (codes "s TRUE")) ++ binary_text (with_proof file d)) ValidTrue
binary_accepted spells scanned back f file d bare proved binary allowed =
    let whole = with_proof file d in
    let h = header_number bare in
    let spelled = spells whole h binary in
    let read : ReadCircuit = record { file = whole; comment_line = spelled.0 } in
    let answer : IsBinaryJudgement f h (scan_binary (binary_text whole) h) ValidTrue =
    subst (λ (r : Result ReadCircuit LineFault). IsBinaryJudgement f h r ValidTrue)
    (sym (scanned (binary_text whole) h read spelled.1))
    (read_so f h file d spelled.0 spelled.1.comment_lines spelled.1.comment proved allowed back) in
    subst (λ kind. IsJudgementOf f (cond bare [] (line (codes "s TRUE")) ++ binary_text whole) kind ValidTrue)
    (sym (binary_kind bare _))
    (binary_judgement bare f (binary_text whole) answer)

-- ---- in each form

pub circuits_accepted : CanonicalSpells → BinarySpells → SpelledIsScanned → ReadsProofBack → DeletionsChangeNoFault →
    DeletionsAreAllowed → OrderedProofsStand → OrderedLinesAreNumbered → OrderedFilesAreBinary →
    ProvedCircuitsAreAccepted
circuits_accepted spells binary scanned back same laws stand numbered files f file proof form proved are writable
    sorted allowed within = by_form form.binary refl within.items
  where
    in_ascii : length (written_items form proof.items) ≤ max_count → IsJudgement f
        (cond form.bare [] (line (codes "s TRUE")) ++ canonical_circuit (with_proof file (with_items form proof)))
        ValidTrue
    in_ascii few =
        ascii_accepted spells back f file (with_items form proof) form.bare
        (written_circuit same f file proof form proved are) writable within.variables
        (written_proof_allowed laws f file.circuit proof form are few allowed)

    in_order : is_sorted file.circuit ≡ true →
        length (written_items form (ordered_proof file.circuit proof).items) ≤ max_count → IsJudgement f
        (cond form.bare [] (line (codes "s TRUE"))
        ++ binary_text (with_proof (ordered_file file) (with_items form (ordered_proof file.circuit proof)))) ValidTrue
    in_order are_sorted few =
        let ordered = ordered_proof file.circuit proof in
        let lines = numbered file.circuit.gates proof.items are in
        let fewer = few_before laws form ordered.items lines few in
        let long = length-map proof.items (ordered_item file.circuit.gates) in
        let both = stand f file proof proved (allowed (omega (arith, fewer, long))) in
        let d = with_items form ordered in
        binary_accepted binary scanned back f (ordered_file file) d form.bare
        (written_circuit same f (ordered_file file) ordered form both.0 lines)
        (files.binary (with_proof file d) (writable (Some (canonical_proof d)) within.variables) are_sorted)
        (written_proof_allowed laws f (ordered_file file).circuit ordered form lines few (λ _. both.1))

    by_form : (b : Bool) → form.binary ≡ b →
        length (written_items form (cond b (ordered_proof file.circuit proof) proof).items) ≤ max_count →
        IsJudgement f (cond form.bare [] (line (codes "s TRUE")) ++ cond b
        (binary_text (with_proof (cond b (ordered_file file) file)
        (with_items form (cond b (ordered_proof file.circuit proof) proof))))
        (canonical_circuit (with_proof (cond b (ordered_file file) file)
        (with_items form (cond b (ordered_proof file.circuit proof) proof))))) ValidTrue
    by_form true e few = in_order (sorted e) few
    by_form false e few = in_ascii few
