-- A proof's fault is the same over the ordered circuit.
use Rattle.std.proofs.Common.{◌≡◌, ◌==◌, ◌+◌, ◌*◌, ◌<◌, ◌∙◌, ◌++◌, ℕ, zero, suc, Bool, cond, true, false, List, [], ◌∷◌, map, length, Option, Some, refl, ap, arith}
use Rattle.std.specs.List.{AllByRecursion, flat_map, slice_get}
use Rattle.std.specs.Option.{option_and_then}
use Rattle.dq_lits.specs.Formula.{Dqbf}
use Rattle.dq_lits.specs.Literal.{Literal}
use Rattle.dq_lits.specs.Derivation.{LiveClauses, ClauseStatus, falsified, unit, stuck, status_of, fault_by, hint_fault, line_fault, with_clause, ProofFault, fault_of_step, is_empty}
use Rattle.circuit_plain.specs.Netlist.{Netlist}
use Rattle.circuit_plain.specs.declared.circuits.Gate.{Gate}
use Rattle.rup_core.specs.Items.{ProofItem, derived, gone, without_clauses, items_fault}
use Rattle.cert_text.specs.NegatedMatrix.{opposite_of, gate_clauses, without_constants, negated_matrix}
use Rattle.ordered_gates.specs.Circuits.{is_turned, ordered_gate, ordered_netlist, turned_place, turned_id, ordered_item}
use Rattle.ordered_gates.proofs.SwappedClauses.{swapped}
use Rattle.ordered_gates.proofs.TurnedIds.{AreBehind, turned_same, among_same}
use Rattle.ordered_gates.proofs.Twins.{turned}

-- ---- the clauses

-- the clause at a place behind those of the gates, or of these
abbrev clause_in : List Gate → List (List ℕ) → ℕ → Option (List Literal)
clause_in gates rest place = option_and_then without_constants (slice_get (flat_map gate_clauses gates ++ rest) place)

same_status : (trues : List Literal) (rest : List (List ℕ)) (gates : List Gate) (place : ℕ) →
    status_of trues (clause_in (map ordered_gate gates) rest (turned_place gates place))
    ≡ status_of trues (clause_in gates rest place)
same_status trues rest [] place = refl
same_status trues rest (g ∷ gates) zero = search arith
same_status trues rest (g ∷ gates) (suc zero) = search arith
same_status trues rest (g ∷ gates) (suc (suc zero)) = by_bit (is_turned g) where
  by_bit : (b : Bool) → status_of trues (clause_in (cond b (turned g) g ∷ map ordered_gate gates) rest 2)
      ≡ status_of trues (clause_in (g ∷ gates) rest 2)
  by_bit true = swapped trues (2 * g.variable) (opposite_of g.right) (opposite_of g.left)
  by_bit false = refl
same_status trues rest (g ∷ gates) (suc (suc (suc place))) = same_status trues rest gates place

-- clauses that stand alike, whatever is true, under turned ids
abbrev pub StandAlike : List Gate → LiveClauses → LiveClauses → Type 0
StandAlike gates live other =
    (id : ℕ) (trues : List Literal) → status_of trues (other (turned_id gates id)) ≡ status_of trues (live id)

pub negated_alike : (f : Dqbf) (net : Netlist) (circuit_literal : ℕ → ℕ) →
    StandAlike net.gates (negated_matrix f net circuit_literal) (negated_matrix f (ordered_netlist net) circuit_literal)
negated_alike f net circuit_literal zero trues = refl
negated_alike f net circuit_literal (suc place) trues = search (arith, same_status)

-- ---- the lines

module _ (gates : List Gate) where
  hints_same : (live other : LiveClauses) (trues : List Literal) (place : ℕ) (hints : List ℕ) →
      StandAlike gates live other →
      hint_fault other trues place (map (turned_id gates) hints) ≡ hint_fault live trues place hints
  hints_same live other trues place [] alike = refl
  hints_same live other trues place (hint ∷ hints) alike =
      ap (λ status. fault_by status place (map (turned_id gates) hints)
      (λ l. hint_fault other (l ∷ trues) (place + 1) (map (turned_id gates) hints))) (alike hint trues)
      ∙ by_status (status_of trues (live hint)) hints (λ l. hints_same live other (l ∷ trues) (place + 1) hints alike)
    where
      by_status : (status : ClauseStatus) (later : List ℕ) →
          ((l : Literal) → hint_fault other (l ∷ trues) (place + 1) (map (turned_id gates) later)
          ≡ hint_fault live (l ∷ trues) (place + 1) later)
          → fault_by status place (map (turned_id gates) later)
          (λ l. hint_fault other (l ∷ trues) (place + 1) (map (turned_id gates) later))
          ≡ fault_by status place later (λ l. hint_fault live (l ∷ trues) (place + 1) later)
      by_status falsified [] same = refl
      by_status falsified (_ ∷ _) same = refl
      by_status (unit l) later same = same l
      by_status stuck later same = refl

  line_same : (live other : LiveClauses) (literals : List Literal) (hints : List ℕ) → StandAlike gates live other →
      line_fault other literals (map (turned_id gates) hints) ≡ line_fault live literals hints
  line_same live other literals hints alike = search (arith, hints_same)

  with_line : (live other : LiveClauses) (line : ℕ) (literals : List Literal) → 3 * length gates < line →
      StandAlike gates live other → StandAlike gates (with_clause live line literals) (with_clause other line literals)
  with_line live other line literals behind alike id trues =
      ap (λ (b : Bool). status_of trues (cond b (Some literals) (other (turned_id gates id))))
      (turned_same gates id line behind)
      ∙ by_bit (id == line)
    where
      by_bit : (b : Bool) → status_of trues (cond b (Some literals) (other (turned_id gates id)))
          ≡ status_of trues (cond b (Some literals) (live id))
      by_bit true = refl
      by_bit false = alike id trues

  without_ids : (live other : LiveClauses) (ids : List ℕ) → AreBehind (3 * length gates) ids →
      StandAlike gates live other → StandAlike gates (without_clauses live ids) (without_clauses other ids)
  without_ids live other ids behind alike id trues = search (arith, among_same)

  -- lines and deletions of lines
  abbrev pub IsBehind : ProofItem → Type 0
  IsBehind (derived step) = 3 * length gates < step.id
  IsBehind (gone ids) = AreBehind (3 * length gates) ids

  pub items_same : (finished : Bool) (live other : LiveClauses) (items : List ProofItem) →
      AllByRecursion IsBehind items → StandAlike gates live other →
      items_fault finished other (map (ordered_item gates) items) ≡ items_fault finished live items
  items_same finished live other [] behind alike = refl
  items_same finished live other (derived step ∷ items) (here, behind) alike =
      ap (λ (o : Option ℕ). fault_of_step o step.id (items_fault (is_empty step.literals)
      (with_clause other step.id step.literals) (map (ordered_item gates) items)))
      (line_same live other step.literals step.hints alike)
      ∙ ap (λ (o : Option ProofFault). fault_of_step (line_fault live step.literals step.hints) step.id o)
      (items_same (is_empty step.literals) (with_clause live step.id step.literals)
      (with_clause other step.id step.literals) items behind
      (with_line live other step.id step.literals here alike))
  items_same finished live other (gone ids ∷ items) (here, behind) alike =
      items_same finished (without_clauses live ids) (without_clauses other ids) items behind
      (without_ids live other ids here alike)
