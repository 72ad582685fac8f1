-- What an answer reaches that decides that a formula is true can be exported.
use Rattle.std.proofs.Common.{◌≡◌, nat_le, ℕ, zero, suc, ◌+◌, ◌*◌, ◌≤◌, ◌<◌, Bool, true, false, List, [], ◌∷◌, map, length, length-append, get_or, slice_index, Option, None, Some, refl, sym, ◌∙◌, ap, subst, arith}
use Rattle.std.specs.List.{All, Contains}
use Rattle.std.specs.Option.{option_and_then}
use Rattle.std.proofs.lemmas.Bool.{leb-true, and_parts}
use Rattle.std.proofs.lemmas.List.{take_all, length-map}
use Rattle.std.proofs.lemmas.List.Elements.{All-nil, All-cons, Contains-get_or}
use Rattle.dq_lits.specs.Derivation.{is_tautology, IsDerived, ProofStep}
use Rattle.dq_lits.specs.Formula.{Dqbf, IsWellFormed, HasLawfulPrefix}
use Rattle.dq_lits.specs.Literal.{Literal}
use Rattle.dq_lits.proofs.FormulaVariables.{few_declared}
use Rattle.hint_log.specs.Conditions.{IsId, AreLogged, AreNamed}
use Rattle.hint_log.specs.Entries.{Entry, Given, Learned, Answer, ProofLog, has_id, numbered, clause_of, clause_at, last_id, count, name_of}
use Rattle.hint_log.specs.Growth.{Each}
use Rattle.hint_log.specs.Naming.{numbered_from_one}
use Rattle.hint_log.specs.Origins.{IsOriginsClause, IsFaultRest}
use Rattle.hint_log.specs.ProductiveLog.{IsDerivedByHints}
use Rattle.hint_log.specs.Reached.{Reaches, by_hint, AreReached}
use Rattle.hint_log.specs.declared.origins.Leaf.{Leaf}
use Rattle.hint_log.specs.declared.origins.Origin.{Origin}
use Rattle.hint_log.specs.declared.origins.Origin.TheVariants.{Gate, Fault}
use Rattle.hint_log.proofs.NamedEntries.{number_below}
use Rattle.log_laws.proofs.Found.{each_at, split_at}
use Rattle.log_laws.proofs.Solved.{split_literal}
use Rattle.cert_text.specs.CircuitProof.{is_proof_variable, first_proof_id}
use Rattle.cert_text.specs.Grammar.{AreItems, AreSteps, IsSmallItem}
use Rattle.cert_text.specs.Numbering.{numbered_from}
use Rattle.cert_text.proofs.StepsAlone.{steps_are_items}
use Rattle.rup_core.specs.Items.{derived}
use Rattle.cert_text.specs.ProofGrammar.{IsDqpOf}
use Rattle.cert_text.specs.declared.circuit_proofs.Dqp.{Dqp}
use Rattle.aiger_text.specs.declared.files.AagFile.{AagFile}
use Rattle.circuit_plain.specs.Netlist.{Netlist}
use Rattle.circuit_plain.specs.declared.circuits.Gate.{Gate as FileGate}
use Rattle.proof_checker.specs.ProvedCircuit.{IsProvedCircuit}
use Rattle.cert_export.specs.CircuitPart.{CircuitPart, circuit_renaming, circuit_id, exported_netlist, last_negated, max_number, gate_of, IsCircuitClause}
use Rattle.cert_export.specs.ExportedCircuit.{IsDecidedTrue, CanExportTrue, IsCircuitRenaming, IsWritable, ExportedAnswerIsProved, ExportedFileIsSpellable, is_gate_name}
use Rattle.cert_export.specs.Lines.{is_derived, is_lemma, clause_or_empty, line_clause, line_number, line_steps, derived_ids}
use Rattle.cert_export.specs.Negated.{IsOfCircuit, HasNegatedId, AreLengthsBefore}
use Rattle.cert_export.specs.Netlists.{IsExportable}
use Rattle.cert_export.specs.Parts.{part_of, IsSmall, AreDecided, AreCircuitIds, AreProofSteps, IsExportedCircuit}
use Rattle.cert_export.specs.declared.parts.ExportedPart.{ExportedPart}
use Rattle.cert_export.specs.Renaming.{Renaming, IsInjective, renamed_clause}
use Rattle.cert_export.specs.Written.{CanBeWritten}
use Rattle.cert_export.proofs.CircuitClauses.{circuit_clauses_are_negated_matrix}
use Rattle.cert_export.proofs.CircuitNumbers.{circuit_numbers_are_injective}
use Rattle.cert_export.proofs.LineCounts.{lines_few}
use Rattle.cert_export.proofs.ExportedAnswers.{usable, exported_proof_is_allowed}
use Rattle.cert_export.proofs.ExportedCircuits.{exported_circuit_is_netlist}
use Rattle.cert_export.proofs.Renamings.{renamed_consistent}

abbrev gate_at : Dqbf → List Entry → CircuitPart → ℕ → FileGate
gate_at f entries e v = gate_of (circuit_renaming f entries e) v (name_of entries v)

-- derived clauses stay consistent under an injective renaming
pub derived_consistent : (entries : List Entry) (r : Renaming) → Each IsDerivedByHints entries → IsInjective r →
    (id : ℕ) → is_derived (numbered has_id entries id) ≡ true → is_tautology (line_clause r entries id) ≡ false
derived_consistent entries r lemmas injective id learned = by_entry (numbered has_id entries id) refl learned where
  by_entry : (o : Option Entry) → numbered has_id entries id ≡ o → is_derived o ≡ true →
      is_tautology (renamed_clause r (clause_or_empty (numbered has_id entries id))) ≡ false
  by_entry None at d = cc
  by_entry (Some (Learned c hints)) at d =
      let p = split_at entries id (Learned c hints) at in
      let own : IsDerived (clause_at p.1) c hints = each_at IsDerivedByHints p.0 p.1 (Learned c hints)
      (subst (Each IsDerivedByHints) p.2 lemmas) in
      ap (λ x. is_tautology (renamed_clause r (clause_or_empty x))) at ∙ renamed_consistent r
      (clause_at p.1) injective c hints own
  by_entry (Some (Answer c hints)) at d =
      let p = split_at entries id (Answer c hints) at in
      let own : IsDerived (clause_at p.1) c hints = each_at IsDerivedByHints p.0 p.1 (Answer c hints)
      (subst (Each IsDerivedByHints) p.2 lemmas) in
      ap (λ x. is_tautology (renamed_clause r (clause_or_empty x))) at ∙ renamed_consistent r
      (clause_at p.1) injective c hints own
  by_entry (Some _) at d = cc

module _ (f : Dqbf) (entries : List Entry) (id : ℕ) (ids : List ℕ) (e : CircuitPart)
    (d : AreCircuitIds f entries id ids e) where
  small_numbers : max_number f e < 4611686018427387904
  small_numbers = omega (arith, d.small.few_inputs, d.small.few_gates)

  -- literals of given clauses are named
  pub given_named : ((es : List Entry) (h : ℕ) (c : List Literal) → AreLogged es → clause_at es h ≡ Some c →
      AreNamed es c)
      → (h : ℕ) (origin : Origin) (c : List Literal) → Contains ids h →
      numbered has_id entries h ≡ Some (Given origin c) → AreNamed entries c
  given_named law h origin c inside at = law entries h c d.decided.logged (ap (option_and_then clause_of) at)

  usable_here : (h : ℕ) (origin : Origin) (c : List Literal) → Contains ids h →
      numbered has_id entries h ≡ Some (Given origin c) → IsCircuitClause f e origin c
  usable_here h origin c inside at = usable f entries id e d.decided.logged d.part h origin c
      (d.decided.reached.sound h inside) at

  below_matrix : (h j i : ℕ) (out : Leaf) (c : List Literal) → Contains ids h →
      numbered has_id entries h ≡ Some (Given (Fault j i out) c) → j ≤ length f.matrix
  below_matrix h zero i out c inside at = omega arith
  below_matrix h (suc j) i out c inside at =
      let p = split_at entries h (Given (Fault (suc j) i out) c) at in
      let own : IsOriginsClause f p.1 (Fault (suc j) i out) c =
      d.decided.givens h (Fault (suc j) i out) c (d.decided.reached.sound h inside) at p.0 p.1 p.2 in
      let rest : IsFaultRest f p.1 own.group (suc j) i out own.rest = own.rest_is in
      let l = split_literal (numbered_from_one f.matrix (suc j)) i rest.literal rest.literal_is in
      (number_below f.matrix (suc j) l.0 l.1).1

  known : (h : ℕ) (origin : Origin) (c : List Literal) → Contains ids h →
      numbered has_id entries h ≡ Some (Given origin c) → HasNegatedId f.matrix e.gates origin
  known h origin c inside at =
      let mine = usable_here h origin c inside at in
      let base = circuit_clauses_are_negated_matrix f entries e d.decided.well_formed d.decided.logged d.decided.inputs
      d.part.part h origin c at (mine, d.decided.givens h origin c (d.decided.reached.sound h inside) at) in
      (of_circuit origin mine at, base.1) where
        of_circuit : (o : Origin) → IsCircuitClause f e o c → numbered has_id entries h ≡ Some (Given o c) →
            IsOfCircuit f.matrix e.gates o
        of_circuit (Gate v i) mine at = mine
        of_circuit (Fault j i out) mine at = below_matrix h j i out c inside at
        of_circuit _ mine at = absurd mine

  pub can_be_written : (r : Renaming) → IsCircuitRenaming f entries e ids r →
      CanBeWritten r (HasNegatedId f.matrix e.gates) entries ids
  can_be_written r names = record {
    ascending = d.decided.reached.ascending;
    are_ids = d.decided.are_ids;
    closed = λ at hint hints inside own among. d.decided.reached.complete hint
        (by_hint at hint hints (d.decided.reached.sound at inside) own among);
    known = known;
    consistent = λ h inside learned. derived_consistent entries r d.decided.lemmas_are_derived
        (λ v w n a b. circuit_numbers_are_injective f entries e d.decided.logged v w n (names.right v n a)
        (names.right w n b)) h learned;
  }

  -- the ids' base
  pub last_is : (gates clauses : ℕ) (before : List ℕ) → AreLengthsBefore f.matrix before → gates ≡ length e.gates →
      clauses ≡ length f.matrix → 3 * gates + slice_index before clauses + 1 ≡ last_negated f.matrix e.gates
  last_is gates clauses before lengths gates_is clauses_is = search (arith, take_all)

  pub last_small : last_negated f.matrix e.gates ≤ 100000000000000000
  last_small = omega (arith, d.small.few_gates, d.few_literals)

  pub are_proof_steps : (r : Renaming) (last : ℕ) (steps : List ProofStep) → IsCircuitRenaming f entries e ids r →
      last ≡ last_negated f.matrix e.gates →
      steps ≡ line_steps r (circuit_id f e) entries (line_number last (derived_ids entries ids))
      (derived_ids entries ids) → AreProofSteps f entries e ids steps
  are_proof_steps r last steps names last_is written = search arith

pub exportable : (f : Dqbf) (entries : List Entry) (id : ℕ) (ids : List ℕ) (p : ExportedPart) →
    AreCircuitIds f entries id ids (part_of p) → IsExportable f entries p
exportable f entries id ids p d = record {
  logged = d.decided.logged;
  part = d.part.part;
  netlist = exported_circuit_is_netlist f entries (part_of p) d.decided.logged d.decided.inputs d.part.part
      (small_numbers f entries id ids (part_of p) d);
  small = d.small;
}

-- the ids of a decided answer
pub decided_ids : (f : Dqbf) (log : ProofLog) (id : ℕ) (ids : List ℕ) → IsWellFormed f → f.variables ≤ 1000000 →
    length f.matrix ≤ 10000000 → CanExportTrue f log.entries id → AreLogged log.entries →
    ((es : List Entry) (at i : ℕ) → AreLogged es → IsId es at → Reaches es at i → IsId es i) → IsId log.entries id →
    AreReached log.entries id ids → AreDecided f log.entries id ids
decided_ids f log id ids well few_variables few_clauses can logged reached_are_ids is_id are = record {
  well_formed = well;
  few_variables = few_variables;
  few_clauses = few_clauses;
  logged = logged;
  inputs = can.inputs;
  givens = can.givens;
  lemmas_are_derived = can.lemmas_are_derived;
  decided = can.decided;
  reached = are;
  are_ids = λ k d below. reached_are_ids log.entries id (get_or ids k d) logged is_id
      (are.sound (get_or ids k d) (Contains-get_or ids k d below));
}

pub decided_id : (f : Dqbf) (entries : List Entry) (id : ℕ) → IsDecidedTrue f entries id → IsId entries id
decided_id f entries id decided =
    let last : id ≡ last_id decided.earlier + 1 = decided.last ∙ ap last_id decided.answered in
    record { from_one = omega (arith, last); last = omega (arith, decided.last) }

pub small_part : (f : Dqbf) (gates : List ℕ) → HasLawfulPrefix f → f.variables ≤ 1000000 → length f.matrix ≤ 10000000 →
    length gates ≤ 10000000000000000 → IsSmall f gates
small_part f gates prefix few_variables few_clauses few_gates = search (arith, length-append, few_declared)

-- lines with small numbers
small_lines : (is_variable : ℕ → Bool) (first : ℕ) (steps : List ProofStep) → AreSteps is_variable first steps →
    first + length steps ≤ 1000000000000000000 → ((v : ℕ) → is_variable v ≡ true → v < 1000000000000000000) →
    All IsSmallItem (map derived steps)
small_lines is_variable first [] are few vars = All-nil IsSmallItem
small_lines is_variable first (s ∷ ss) are few vars =
    search (arith, All-cons, (small_lines is_variable (first + 1) ss are.1))

module _ (f : Dqbf) (entries : List Entry) (id : ℕ) (ids : List ℕ) (file : AagFile) (proof : Dqp)
    (x : IsExportedCircuit f entries id ids file proof) where
  abbrev decided : AreDecided f entries id ids
  decided = x.from.decided

  pub is_proved : ExportedAnswerIsProved → IsProvedCircuit f file proof
  is_proved law =
      law f entries id x.part ids x.lines.1.0 file proof decided.well_formed decided.logged decided.inputs
      decided.givens decided.lemmas_are_derived x.from.part decided.reached x.lines.1.1
      (small_numbers f entries id ids x.part x.from)
      (omega (arith, decided.few_variables)) x.written.circuit x.written.symbols
      (x.lines.2 ∙ ap (map derived) x.lines.1.2)

  pub is_few : length proof.items ≤ count is_lemma entries
  is_few = search (arith, length-map, lines_few)

  number_is : file.circuit.max_var ≡ max_number f x.part
  number_is = ap (λ (n : Netlist). n.max_var) x.written.circuit

  gates_are : length file.circuit.gates ≡ length x.part.gates
  gates_are = ap (λ (n : Netlist). length n.gates) x.written.circuit ∙ length-map x.part.gates
      (gate_at f entries x.part)

  pub is_writable : ExportedFileIsSpellable → IsWritable file
  is_writable law comment few =
      let long = length-append f.universals (map (λ y. y.variable) f.existentials) in
      let mapped = length-map f.existentials (λ y. y.variable) in
      let vars = decided.few_variables in
      law f entries x.part (record { circuit = file.circuit; symbols = file.symbols; comment = comment })
      decided.well_formed.prefix (omega (arith, vars)) decided.logged decided.inputs x.from.part.part
      x.written.circuit x.written.symbols (omega (arith, few, number_is))
      (omega (arith, few_declared f decided.well_formed.prefix, long, mapped, vars))

  steps_allowed : AreSteps (is_proof_variable f file.circuit) (first_proof_id f file.circuit) x.lines.0
  steps_allowed =
      let allowed = exported_proof_is_allowed f entries id x.part ids x.lines.1.0 decided.well_formed decided.logged
      decided.inputs decided.givens x.from.part decided.reached x.lines.1.1 in
      subst (λ (n : Netlist). AreSteps (is_proof_variable f n) (first_proof_id f n) x.lines.0) (sym x.written.circuit)
      (subst (AreSteps (is_proof_variable f (exported_netlist f entries x.part))
      (first_proof_id f (exported_netlist f entries x.part))) (sym x.lines.1.2) allowed)

  first_small : first_proof_id f file.circuit ≤ 100000000000000001
  first_small = omega (arith, last_small f entries id ids x.part x.from, gates_are)

  pub is_allowed : length proof.items ≤ 1000000000 → IsDqpOf f file.circuit proof
  is_allowed few = record {
    few_items = few;
    items = subst (AreItems (is_proof_variable f file.circuit) (numbered_from (first_proof_id f file.circuit)))
        (sym x.lines.2)
        (steps_are_items (is_proof_variable f file.circuit) (numbered_from (first_proof_id f file.circuit)) x.lines.0
        steps_allowed);
    small = subst (All IsSmallItem) (sym x.lines.2) (small_lines (is_proof_variable f file.circuit)
        (first_proof_id f file.circuit) x.lines.0 steps_allowed
        (omega (arith, first_small, few, ap length x.lines.2 ∙ length-map x.lines.0 derived)) variables);
  } where
    variables : (v : ℕ) → is_proof_variable f file.circuit v ≡ true → v < 1000000000000000000
    variables v h =
        let up = leb-true v (file.circuit.max_var + length f.matrix)
        (and_parts (nat_le 1 v) (nat_le v (file.circuit.max_var + length f.matrix)) h).1 in
        omega (arith, up, number_is, x.from.small.few_inputs, x.from.small.few_gates, x.from.small.few_clauses)

  pub few_gates : length file.circuit.gates ≤ count is_gate_name entries
  few_gates = omega (arith, gates_are, x.few_gates)

  pub numbers_are : file.circuit.max_var ≡ length f.universals + length file.circuit.gates
  numbers_are = omega (arith, gates_are, number_is)
