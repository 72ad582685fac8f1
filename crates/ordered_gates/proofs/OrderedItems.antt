-- What a text can hold as a proof over a circuit, it can hold over the ordered one.
use Rattle.std.proofs.Common.{◌≡◌, ◌∙◌, ◌+◌, ◌*◌, ◌<◌, ◌≤◌, ◌==◌, ℕ, Bool, true, not, List, [], ◌∷◌, map, length, refl, sym, ap, subst, arith}
use Rattle.std.specs.List.{All, AllByRecursion, range_with_len, sum_by}
use Rattle.std.proofs.lemmas.Bool.{and_parts, eqb-true, true≢false}
use Rattle.std.proofs.lemmas.List.{length-map}
use Rattle.std.proofs.lemmas.List.Elements.{All-map, All-weaker}
use Rattle.dq_lits.specs.Derivation.{ProofStep}
use Rattle.dq_lits.specs.Formula.{Dqbf}
use Rattle.circuit_plain.specs.Netlist.{Netlist}
use Rattle.circuit_plain.specs.declared.circuits.Gate.{Gate}
use Rattle.rup_core.specs.Items.{ProofItem, derived, gone}
use Rattle.cert_text.specs.CircuitProof.{first_proof_id}
use Rattle.cert_text.specs.Grammar.{IsSmallItem, AreItems}
use Rattle.cert_text.specs.Numbering.{Numbering, numbered_from, with_next, without, are_live, without_all}
use Rattle.cert_text.specs.ProofGrammar.{IsDqpOf}
use Rattle.cert_text.specs.declared.circuit_proofs.Dqp.{Dqp}
use Rattle.proof_deletions.specs.Deletions.{lines_of, first_number, AreNumberedLines}
use Rattle.ordered_gates.specs.Circuits.{ordered_gate, ordered_item, ordered_netlist, ordered_proof, turned_id}
use Rattle.ordered_gates.proofs.TurnedIds.{AreBehind, id_turned}
use Rattle.ordered_gates.proofs.TurnedFaults.{IsBehind}

module _ (gates : List Gate) where
  -- ids that come next, and those that may be deleted, are behind those of the gates
  pub record IsBehindGates (n : Numbering) : Type 0 where
    pub next : 3 * length gates < n.next
    pub live : (id : ℕ) → n.live id ≡ true → 3 * length gates < id

  hint_before : (hint next : ℕ) → 3 * length gates < next → (1 ≤ hint) × (hint < next) →
      (1 ≤ turned_id gates hint) × (turned_id gates hint < next)
  hint_before hint next behind (some, less) = search (arith, id_turned)

  -- ---- what is deleted

  live_without : (n : Numbering) (id other : ℕ) → (without n id).live other ≡ true → n.live other ≡ true
  live_without n id other live = (and_parts (not (other == id)) (n.live other) live).1

  without_behind : (n : Numbering) (id : ℕ) → IsBehindGates n → IsBehindGates (without n id)
  without_behind n id is = search (arith, live_without)

  all_without_behind : (n : Numbering) (ids : List ℕ) → IsBehindGates n → IsBehindGates (without_all n ids)
  all_without_behind n [] is = is
  all_without_behind n (id ∷ ids) is = all_without_behind (without n id) ids (without_behind n id is)

  deleted_behind : (n : Numbering) (ids : List ℕ) → IsBehindGates n → are_live n ids ≡ true →
      AreBehind (3 * length gates) ids
  deleted_behind n [] is live = tt
  deleted_behind n (id ∷ ids) is live =
      let both = and_parts (n.live id) (are_live (without n id) ids) live in
      (is.live id both.0, deleted_behind (without n id) ids (without_behind n id is) both.1)

  -- ---- the items

  next_behind : (n : Numbering) → IsBehindGates n → IsBehindGates (with_next n)
  next_behind n is = search (arith, eqb-true)

  pub items_behind : (is_variable : ℕ → Bool) (n : Numbering) (items : List ProofItem) → IsBehindGates n →
      AreItems is_variable n items → AllByRecursion (IsBehind gates) items
  items_behind is_variable n [] is are = tt
  items_behind is_variable n (derived step ∷ items) is (here, are) = (
    (omega (arith, here.numbered, is.next)),
    items_behind is_variable (with_next n) items (next_behind n is) are,
  )
  items_behind is_variable n (gone ids ∷ items) is (here, are) = (
    deleted_behind n ids is here.live,
    items_behind is_variable (without_all n ids) items (all_without_behind n ids is) are,
  )

  pub ordered_are_items : (is_variable : ℕ → Bool) (n : Numbering) (items : List ProofItem) → IsBehindGates n →
      AreItems is_variable n items → AreItems is_variable n (map (ordered_item gates) items)
  ordered_are_items is_variable n [] is are = tt
  ordered_are_items is_variable n (derived step ∷ items) is (here, are) = (
    record {
      numbered = here.numbered;
      on_variables = here.on_variables;
      hints_before = All-map (λ hint. (1 ≤ hint) × (hint < n.next)) (turned_id gates) step.hints
          (All-weaker (λ hint. (1 ≤ hint) × (hint < n.next))
          (λ hint. (1 ≤ turned_id gates hint) × (turned_id gates hint < n.next))
          (λ hint before. hint_before hint n.next is.next before) step.hints here.hints_before);
    },
    ordered_are_items is_variable (with_next n) items (next_behind n is) are,
  )
  ordered_are_items is_variable n (gone ids ∷ items) is (here, are) =
      (here, ordered_are_items is_variable (without_all n ids) items (all_without_behind n ids is) are)

  small_item : (item : ProofItem) → IsSmallItem item → IsSmallItem (ordered_item gates item)
  small_item (derived step) small = record { id = small.id; variables = small.variables }
  small_item (gone ids) small = small

  pub ordered_are_small : (items : List ProofItem) → All IsSmallItem items →
      All IsSmallItem (map (ordered_item gates) items)
  ordered_are_small items small = search (arith, All-map, All-weaker, small_item)

pub begin_behind : (f : Dqbf) (net : Netlist) → IsBehindGates net.gates (numbered_from (first_proof_id f net))
begin_behind f net = record { next = omega arith; live = λ id live. absurd (true≢false (sym live)) }

same_first : (f : Dqbf) (net : Netlist) → first_proof_id f (ordered_netlist net) ≡ first_proof_id f net
same_first f net = ap (λ n. 3 * n + sum_by length f.matrix + 1 + 1) (length-map net.gates ordered_gate)

pub ordered_allowed : (f : Dqbf) (net : Netlist) (proof : Dqp) → IsDqpOf f net proof →
    IsDqpOf f (ordered_netlist net) (ordered_proof net proof)
ordered_allowed f net proof is =
    search (arith, length-map, same_first, ordered_are_items, begin_behind, ordered_are_small)

-- ---- numbered lines

module _ (gates : List Gate) where
  abbrev on_step : ProofStep → ProofStep
  on_step step = record step { hints = map (turned_id gates) step.hints }

  lines_ordered : (steps : List ProofStep) →
      map (ordered_item gates) (map derived steps) ≡ map derived (map on_step steps)
  lines_ordered [] = refl
  lines_ordered (step ∷ steps) = ap (λ items. derived (on_step step) ∷ items) (lines_ordered steps)

  lines_derived : (steps : List ProofStep) → lines_of (map derived steps) ≡ steps
  lines_derived [] = refl
  lines_derived (step ∷ steps) = ap (λ rest. step ∷ rest) (lines_derived steps)

  same_ids : (steps : List ProofStep) → map (λ step. step.id) (map on_step steps) ≡ map (λ step. step.id) steps
  same_ids [] = refl
  same_ids (step ∷ steps) = ap (λ ids. step.id ∷ ids) (same_ids steps)

  same_number : (steps : List ProofStep) → first_number (map on_step steps) ≡ first_number steps
  same_number [] = refl
  same_number (step ∷ steps) = refl

  ordered_steps : (items : List ProofItem) → AreNumberedLines items →
      map (ordered_item gates) items ≡ map derived (map on_step (lines_of items))
  ordered_steps items are = ap (map (ordered_item gates)) are.lines ∙ lines_ordered (lines_of items)

  steps_are : (items : List ProofItem) → AreNumberedLines items →
      lines_of (map (ordered_item gates) items) ≡ map on_step (lines_of items)
  steps_are items are = ap lines_of (ordered_steps items are) ∙ lines_derived (map on_step (lines_of items))

  pub ordered_numbered : (items : List ProofItem) → AreNumberedLines items →
      AreNumberedLines (map (ordered_item gates) items)
  ordered_numbered items are = record {
    lines = ordered_steps items are ∙ ap (map derived) (sym (steps_are items are));
    numbered = ap (map (λ step. step.id)) (steps_are items are) ∙ same_ids (lines_of items) ∙ are.numbered
        ∙ ap (λ first. range_with_len first (length (lines_of items)))
        (sym (same_number (lines_of items)) ∙ ap first_number (sym (steps_are items are)))
        ∙ ap (range_with_len (first_number (lines_of (map (ordered_item gates) items))))
        (sym (length-map (lines_of items) on_step) ∙ ap length (sym (steps_are items are)));
    from_one = subst (All (λ step. 1 ≤ step.id)) (sym (steps_are items are))
        (All-map (λ step. 1 ≤ step.id) on_step (lines_of items) are.from_one);
  }
