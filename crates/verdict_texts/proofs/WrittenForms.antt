-- Proofs as they are written are what they were.
use Rattle.std.proofs.Common.{◌≡◌, ◌∙◌, ◌*◌, ◌≤◌, Bool, cond, true, false, refl, sym, ap, subst, arith, List, [], ◌∷◌, map, length, None}
use Rattle.std.specs.List.{All}
use Rattle.std.proofs.lemmas.List.Elements.{All-map}
use Rattle.dq_lits.specs.Derivation.{LiveClauses, ProofStep}
use Rattle.dq_lits.specs.Expansion.{instance_at}
use Rattle.dq_lits.specs.Formula.{Dqbf}
use Rattle.rup_core.specs.Items.{ProofItem, derived, gone, items_fault}
use Rattle.aiger_text.specs.declared.files.AagFile.{AagFile}
use Rattle.circuit_plain.specs.Netlist.{Netlist}
use Rattle.cert_text.specs.Grammar.{IsDqrOf}
use Rattle.cert_text.specs.Header.{max_count}
use Rattle.cert_text.specs.Items.{HasLineId}
use Rattle.cert_text.specs.ProofGrammar.{IsDqpOf}
use Rattle.cert_text.specs.declared.circuit_proofs.Dqp.{Dqp}
use Rattle.cert_text.specs.declared.refutations.Dqr.{Dqr}
use Rattle.proof_checker.specs.ProvedCircuit.{IsProvedCircuit}
use Rattle.refutation_checker.specs.Refutation.{normal_step, normal_item, refutation_fault}
use Rattle.proof_deletions.specs.Deletions.{deleting_from, with_deletions, lines_of, first_number, AreNumberedLines}
use Rattle.proof_deletions.specs.Laws.{DeletionsChangeNoFault, DeletionsAreAllowed, ChangedLinesDeleteAlike, on_line}
use Rattle.verdict_texts.specs.Forms.{written_items, written_refutation}
use Rattle.verdict_texts.specs.declared.forms.Form.{Form}

-- ---- a fault

deleting_same : DeletionsChangeNoFault → (live : LiveClauses) (items : List ProofItem) → AreNumberedLines items →
    items_fault false live (with_deletions items) ≡ items_fault false live items
deleting_same same live items are = search arith

written_fault : DeletionsChangeNoFault → (b : Bool) (live : LiveClauses) (items : List ProofItem) →
    AreNumberedLines items →
    items_fault false live (cond b (with_deletions items) items) ≡ items_fault false live items
written_fault same true live items are = deleting_same same live items are
written_fault same false live items are = refl

-- a proof with its lines as they are written
abbrev pub with_items : Form → Dqp → Dqp
with_items form proof = record { items = written_items form proof.items }

pub written_circuit : DeletionsChangeNoFault → (f : Dqbf) (file : AagFile) (proof : Dqp) (form : Form) →
    IsProvedCircuit f file proof → AreNumberedLines proof.items → IsProvedCircuit f file (with_items form proof)
written_circuit same f file proof form p are = record {
  netlist = p.netlist;
  complete = p.complete;
  skolem = p.skolem;
  derives = written_fault same form.deletes _ proof.items are ∙ p.derives;
}

normal_lines : (f : Dqbf) (rows : List (List Bool)) (items : List ProofItem) →
    map (normal_item f rows) items ≡ map (on_line (normal_step f rows)) items
normal_lines f rows [] = refl
normal_lines f rows (derived step ∷ items) = search (arith, (normal_lines f rows items))
normal_lines f rows (gone ids ∷ items) = ap (λ is. gone ids ∷ is) (normal_lines f rows items)

derived_lines : (g : ProofStep → ProofStep) (steps : List ProofStep) →
    map derived (map g steps) ≡ map (on_line g) (map derived steps)
derived_lines g [] = refl
derived_lines g (step ∷ steps) = ap (λ is. derived (g step) ∷ is) (derived_lines g steps)

deleting_refutation : DeletionsChangeNoFault → ChangedLinesDeleteAlike → (f : Dqbf) (rows : List (List Bool))
    (items : List ProofItem) → AreNumberedLines items →
    items_fault false (instance_at f rows) (map (normal_item f rows) (with_deletions items))
    ≡ items_fault false (instance_at f rows) (map (normal_item f rows) items)
deleting_refutation same alike f rows items are =
    let g = normal_step f rows in
    let steps = lines_of items in
    let first = first_number steps in
    let live = instance_at f rows in
    ap (items_fault false live)
    (normal_lines f rows (deleting_from first steps) ∙ sym (alike g (λ step. (refl, refl)) first steps))
    ∙ same false live first (map g steps)
    ∙ ap (items_fault false live)
    (derived_lines g steps ∙ ap (map (on_line g)) (sym are.lines) ∙ sym (normal_lines f rows items))

refutation_by : DeletionsChangeNoFault → ChangedLinesDeleteAlike → (b : Bool) (f : Dqbf) (rows : List (List Bool))
    (items : List ProofItem) → AreNumberedLines items →
    items_fault false (instance_at f rows) (map (normal_item f rows) (cond b (with_deletions items) items))
    ≡ items_fault false (instance_at f rows) (map (normal_item f rows) items)
refutation_by same alike true f rows items are = deleting_refutation same alike f rows items are
refutation_by same alike false f rows items are = refl

pub written_refutes : DeletionsChangeNoFault → ChangedLinesDeleteAlike → (f : Dqbf) (d : Dqr) (form : Form) →
    AreNumberedLines d.items → refutation_fault f d ≡ None → refutation_fault f (written_refutation form d) ≡ None
written_refutes same alike f d form are none = refutation_by same alike form.deletes f d.rows d.items are ∙ none

-- ---- what a text can hold

-- numbered lines have ids
pub have_line_ids : (items : List ProofItem) → AreNumberedLines items → All HasLineId items
have_line_ids items are = subst (All HasLineId) (sym are.lines)
    (All-map HasLineId derived (lines_of items) are.from_one)

no_fewer_by : DeletionsAreAllowed → (b : Bool) (items : List ProofItem) → AreNumberedLines items →
    length items ≤ length (cond b (with_deletions items) items)
no_fewer_by laws true items are = laws.no_fewer items are
no_fewer_by laws false items are = omega arith

few_by : DeletionsAreAllowed → (b : Bool) (items : List ProofItem) → length
    (cond b (with_deletions items) items) ≤ 2 * length items
few_by laws true items = laws.few items
few_by laws false items = omega arith

pub written_few : DeletionsAreAllowed → (form : Form) (items : List ProofItem) →
    length (written_items form items) ≤ 2 * length items
written_few laws form items = few_by laws form.deletes items

pub few_before : DeletionsAreAllowed → (form : Form) (items : List ProofItem) → AreNumberedLines items →
    length (written_items form items) ≤ max_count → length items ≤ max_count
few_before laws form items are few = search (arith, no_fewer_by)

proof_by : DeletionsAreAllowed → (b : Bool) (f : Dqbf) (net : Netlist) (items : List ProofItem) →
    AreNumberedLines items →
    length (cond b (with_deletions items) items) ≤ max_count → IsDqpOf f net (record { items = items }) →
    IsDqpOf f net (record { items = cond b (with_deletions items) items })
proof_by laws true f net items are few allowed = search arith
proof_by laws false f net items are few allowed = allowed

pub written_proof_allowed : DeletionsAreAllowed → (f : Dqbf) (net : Netlist) (proof : Dqp) (form : Form) →
    AreNumberedLines proof.items → length (written_items form proof.items) ≤ max_count →
    (length proof.items ≤ max_count → IsDqpOf f net proof) → IsDqpOf f net (with_items form proof)
written_proof_allowed laws f net proof form are few allowed = search (arith, proof_by, few_before)

refutation_allowed_by : DeletionsAreAllowed → (b : Bool) (f : Dqbf) (d : Dqr) → AreNumberedLines d.items →
    length (cond b (with_deletions d.items) d.items) ≤ max_count → IsDqrOf f d →
    IsDqrOf f (record { rows = d.rows; items = cond b (with_deletions d.items) d.items })
refutation_allowed_by laws true f d are few allowed = search arith
refutation_allowed_by laws false f d are few allowed = allowed

pub written_refutation_allowed : DeletionsAreAllowed → (f : Dqbf) (d : Dqr) (form : Form) → AreNumberedLines d.items →
    length (written_items form d.items) ≤ max_count → (length d.items ≤ max_count → IsDqrOf f d) →
    IsDqrOf f (written_refutation form d)
written_refutation_allowed laws f d form are few allowed = search (arith, refutation_allowed_by, few_before)
