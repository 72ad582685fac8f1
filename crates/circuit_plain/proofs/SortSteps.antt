-- The steps of a sort of the gates.
use Rattle.std.proofs.Common.{◌≡◌, ◌≢◌, ℕ, ◌+◌, ◌<◌, ◌≤◌, ◌⊎◌, ◌↔◌, ◌==◌, inl, inr, Bool, true, false, ◌&&◌, ◌||◌, eqb, List, [], ◌∷◌, ◌++◌, map, length, get_or, take, refl, sym, ap, ◌∙◌, subst, arith, below_more}
use Rattle.std.specs.Prelude.{All, Contains, slice_index}
use Rattle.std.specs.List.{list_any}
use Rattle.std.proofs.lemmas.Bool.{cases_eq, cases_lt, and_from, and_parts, or_cases, false≢true, both_ways, eqb-true, eq-eqb}
use Rattle.std.proofs.Math.Bool.{or-true, or-false}
use Rattle.std.proofs.lemmas.Bool.Decides.{Decides-eqb, nat_tests}
use Rattle.std.proofs.lemmas.List.{get_or_default, get_or-map, length-map, length_push, take_at, take-append-le, get_or_append_left, get_or_push, map_push}
use Rattle.std.proofs.lemmas.List.Elements.{All-push, All-head, All-tail, Contains-append_left, Contains-push}
use Rattle.std.proofs.lemmas.List.Quantifiers.{all_pairs_push}
use Rattle.std.proofs.lemmas.Map.Made.{IsDistinct-from_AllPairs}
use Rattle.std.proofs.lemmas.Map.Steps.{length-le_from_distinct_below}
use Rattle.circuit_plain.specs.declared.circuits.Gate.{Gate}
use Rattle.circuit_plain.specs.Ground.{IsFirstUngrounded}
use Rattle.circuit_plain.specs.Netlist.{Netlist, IsNetlist, variable_of_gate, gate_at, literal_variable}
use Rattle.circuit_plain.specs.Order.{IsSettled, AreSidesSettled, IsOrder}
use Rattle.circuit_plain.specs.Steps.{IsPartialOrder, IsDraft, IsPassed, IsClosed}
use Rattle.circuit_plain.proofs.EvaluationLaws.{settled_cases, Contains-map, gate_read}
use Rattle.circuit_plain.proofs.NetlistLaws.{same_place, gate_fits, input_apart, gate_at_member}
use Rattle.circuit_plain.proofs.OrderLaws.{settled_ground, grounded_settled}

-- what a set holds after an insert
abbrev pub Adds : (ℕ → Bool) → (ℕ → Bool) → ℕ → Type 0
Adds old new key = (v : ℕ) → new v ≡ (old v || (key == v))

apart : (k q : ℕ) → k ≢ q → (k == q) ≡ false
apart k q other = grind (arith, nat_tests)

pub inserted : (old new : ℕ → Bool) (key : ℕ) (P : ℕ → Type 0) → Adds old new key
    → ((v : ℕ) → (old v ≡ true) ↔ P v) → (v : ℕ) → (new v ≡ true) ↔ (P v ⊎ (key ≡ v))
inserted old new key P updates holds v =
    let now_is = updates v in
    elim (cases_eq key v) [
      | inl same ↦
          let on : new v ≡ true = now_is ∙ ap (λ b. old v || b) (eq-eqb key v same) ∙ or-true (old v) in
          (λ _. inr same, λ _. on)
      | inr other ↦
          let kept : new v ≡ old v =
          now_is ∙ ap (λ b. old v || b) (apart key v other) ∙ or-false (old v) in (
            λ on. inl ((holds v).0 (sym kept ∙ on)),
            λ h. elim h [ inl before ↦ kept ∙ (holds v).1 before | inr here ↦ absurd (other here) ],
          )
    ]

-- the constant and the inputs before a place
abbrev pub IsLeafBefore : Netlist → ℕ → ℕ → Type 0
IsLeafBefore net n v = (v ≡ 0) ⊎ ((k : ℕ) × (k < n) × (slice_index net.inputs k ≡ v))

pub leaves_more : (net : Netlist) (old new : ℕ → Bool) (n v : ℕ) → v ≡ slice_index net.inputs n → Adds old new v
    → ((w : ℕ) → (old w ≡ true) ↔ IsLeafBefore net n w)
    → (w : ℕ) → (new w ≡ true) ↔ IsLeafBefore net (n + 1) w
leaves_more net old new n v read updates so_far w =
    let h = inserted old new v (IsLeafBefore net n) updates so_far w in (
      λ on. elim (h.0 on) [
        | inl (inl z) ↦ inl z
        | inl (inr (k, below, is)) ↦ inr (k, omega arith, is)
        | inr here ↦ inr (n, omega arith, sym read ∙ here)
      ],
      λ leaf. elim leaf [
        | inl z ↦ h.1 (inl (inl z))
        | inr (k, below, is) ↦
            elim (cases_eq k n) [
              | inl same ↦ h.1 (inr (read ∙ (ap (slice_index net.inputs) (sym same) ∙ is)))
              | inr other ↦ h.1 (inl (inr (k, omega arith, is)))
            ]
      ],
    )

pub leaves_draft : (net : Netlist) (settled : ℕ → Bool) (n : ℕ) → n ≡ length net.inputs
    → ((w : ℕ) → (settled w ≡ true) ↔ IsLeafBefore net n w) → IsDraft net [] settled
leaves_draft net settled n whole leaves = record {
  partial = record {
    in_range = λ k d k_in. absurd (omega arith);
    each_once = λ i j d below j_in. absurd (omega arith);
    follows = λ k k_in. absurd (omega arith);
  };
  exact = λ v. (
    λ on. elim ((leaves v).0 on) [
      | inl z ↦ inl z
      | inr (k, below, is) ↦
          let k_in : k < length net.inputs = omega arith in
          inr (inl (k, k_in, get_or_default net.inputs k v 0 k_in ∙ is))
    ],
    λ h. elim h [
      | inl z ↦ (leaves v).1 (inl z)
      | inr (inl (k, k_in, is)) ↦ (leaves v).1 (inr (k, omega arith, get_or_default net.inputs k 0 v k_in ∙ is))
      | inr (inr (k, k_in, _)) ↦ absurd (omega arith)
    ],
  );
}

-- one more gate at the end of a draft
settled_more : (net : Netlist) (places : List ℕ) (p v : ℕ) → IsSettled net places v → IsSettled net (places ++ p ∷ []) v
settled_more net places p v settled =
    elim settled [
      | inl z ↦ inl z
      | inr (inl i) ↦ inr (inl i)
      | inr (inr among) ↦
          inr (inr (rw map_push (Contains-append_left (map (λ q. variable_of_gate (gate_at net q)) places) _ v among)))
    ]

settled_last : (net : Netlist) (places : List ℕ) (p v : ℕ) → (gate_at net p).variable ≡ v →
    IsSettled net (places ++ p ∷ []) v
settled_last net places p v e =
    inr (inr (Contains-map (λ q. variable_of_gate (gate_at net q)) (places ++ p ∷ []) p v (Contains-push places p) e))

partial_push : (net : Netlist) (places : List ℕ) (p : ℕ) → p < length net.gates → IsPartialOrder net places
    → ¬ IsSettled net places (gate_at net p).variable → AreSidesSettled net places (gate_at net p) →
    IsPartialOrder net (places ++ p ∷ [])
partial_push net places p p_in partial fresh ready = record {
  in_range = All-push (λ q. q < length net.gates) places p partial.in_range p_in;
  each_once = all_pairs_push (λ a b. a ≢ b) places p partial.each_once
      (λ k d k_in same. fresh (inr (inr
      (Contains-map (λ q. variable_of_gate (gate_at net q)) places p _
      (k, k_in, get_or_default places k p d k_in ∙ same) refl))));
  follows = λ k k_in.
      let long : length (places ++ p ∷ []) ≡ length places + 1 = length_push places p in
      elim (cases_lt k (length places)) [
        | inl below ↦
            let front : take k (places ++ p ∷ []) ≡ take k places = take-append-le k places (p ∷ []) (omega arith) in
            let at : slice_index (places ++ p ∷ []) k ≡ slice_index places k =
            get_or_append_left places (p ∷ []) 0 k below in
            rw (front, at) (partial.follows k below)
        | inr above ↦
            let last : length places ≡ k = omega arith in
            let front : take k (places ++ p ∷ []) ≡ places = take_at places (p ∷ []) k last in
            let at : slice_index (places ++ p ∷ []) k ≡ p = get_or_push places p 0 k last in
            rw (front, at) ready
      ];
}

pub draft_push : (net : Netlist) (places after : List ℕ) (settled new : ℕ → Bool) (p v : ℕ) → p < length net.gates
    → v ≡ (gate_at net p).variable → IsDraft net places settled → settled v ≡ false
    → AreSidesSettled net places (gate_at net p) → after ≡ places ++ p ∷ [] → Adds settled new v → IsDraft net after new
draft_push net places after settled new p v p_in is draft off ready after_is updates =
    let fresh : ¬ IsSettled net places (gate_at net p).variable =
    λ h. both_ways (settled v) off ((draft.exact v).1 (subst (IsSettled net places) (sym is) h)) in
    rw after_is (record {
      partial = partial_push net places p p_in draft.partial fresh ready;
      exact = λ w.
          let h = inserted settled new v (IsSettled net places) updates draft.exact w in (
            λ on. elim (h.0 on) [
              | inl before ↦ settled_more net places p w before
              | inr here ↦
                  settled_last net places p w (sym is ∙ here)
            ],
            λ s. elim (settled_cases net places p w s) [
              | inl before ↦ h.1 (inl before)
              | inr here ↦
                  h.1 (inr (is ∙ here))
            ],
          );
    })

-- a try of one gate; g is the gate read
module _ (net : Netlist) (gates : List Gate) (places : List ℕ) (settled : ℕ → Bool) (g : Gate) (p : ℕ)
    (same : net.gates ≡ gates)
    (p_in : p < length net.gates) (read : g ≡ get_or gates p g) (draft : IsDraft net places settled) where
  pub stuck_gate : (settled (literal_variable g.left) && settled (literal_variable g.right)) ≡ false
      → IsPassed net places p
  stuck_gate off =
      let g_is : g ≡ gate_at net p = gate_read net gates g p same p_in read in
      inr (λ ready.
      let sides : AreSidesSettled net places g = subst (λ (h : Gate). AreSidesSettled net places h) (sym g_is) ready in
      both_ways (settled (literal_variable g.left) && settled (literal_variable g.right)) off
      (and_from _ _ ((draft.exact _).1 sides.0) ((draft.exact _).1 sides.1)))

  pub put_gate : (after : List ℕ) (new : ℕ → Bool) → settled g.variable ≡ false
      → (settled (literal_variable g.left) && settled (literal_variable g.right)) ≡ true
      → after ≡ places ++ p ∷ [] → Adds settled new g.variable → IsDraft net after new
  put_gate after new off on after_is updates =
      let g_is : g ≡ gate_at net p = gate_read net gates g p same p_in read in
      let both = and_parts (settled (literal_variable g.left)) (settled (literal_variable g.right)) on in
      let ready : AreSidesSettled net places g = ((draft.exact _).0 both.0, (draft.exact _).0 both.1) in
      draft_push net places after settled new p g.variable p_in (ap variable_of_gate g_is) draft off
      (subst (λ (h : Gate). AreSidesSettled net places h) g_is ready) after_is updates

-- the places of a draft are no more than the gates
any_below : (n q : ℕ) (xs : List ℕ) → All (λ p. p < n) xs → list_any (eqb q) xs ≡ true → q < n
any_below n q [] below on = absurd (false≢true on)
any_below n q (x ∷ xs) below on =
    elim (or_cases (eqb q x) (list_any (eqb q) xs) on) [
      | inl here ↦ rw (eqb-true q x here) (All-head (λ p. p < n) x xs below)
      | inr later ↦ any_below n q xs (All-tail (λ p. p < n) x xs below) later
    ]

pub length-draft : (net : Netlist) (places : List ℕ) → IsPartialOrder net places → length places ≤ length net.gates
length-draft net places partial =
    length-le_from_distinct_below places (length net.gates)
    (IsDistinct-from_AllPairs Decides-eqb places partial.each_once)
    (λ q on. any_below (length net.gates) q places partial.in_range on)

-- a round of tries, as far as a place
pub record RoundSoFar (net : Netlist) (start places : List ℕ) (settled : ℕ → Bool) (added : Bool) (n : ℕ) : Type 0 where
  pub draft : IsDraft net places settled
  pub no_less : length start ≤ length places
  pub grown : added ≡ true → length start < length places
  pub still : added ≡ false → (p : ℕ) → p < n → IsPassed net places p

pub round_grown : (net : Netlist) (start places after : List ℕ) (settled new : ℕ → Bool) (added : Bool) (n : ℕ)
    → RoundSoFar net start places settled added n → IsDraft net after new → length after ≡ length places + 1
    → RoundSoFar net start after new true (n + 1)
round_grown net start places after settled new added n so_far draft longer =
    let no_less = so_far.no_less in
    record {
      draft = draft;
      no_less = omega arith;
      grown = λ _. omega arith;
      still =
          λ off. absurd (false≢true (sym off));
    }

pub round_passed : (net : Netlist) (start places after : List ℕ) (settled new : ℕ → Bool) (added : Bool) (n : ℕ)
    → RoundSoFar net start places settled added n → IsDraft net after new → after ≡ places → IsPassed net places n
    → RoundSoFar net start after new added (n + 1)
round_passed net start places after settled new added n so_far draft same passed =
    record {
      draft = draft;
      no_less = rw same so_far.no_less;
      grown = λ on. rw same (so_far.grown on);
      still = λ off. rw same (below_more (IsPassed net places) n (so_far.still off) passed);
    }

-- a settled gate stands in the draft
put_place : (net : Netlist) (places : List ℕ) (p : ℕ) → IsNetlist net → IsPartialOrder net places → p < length net.gates
    → IsSettled net places (gate_at net p).variable → Contains places p
put_place net places p kept partial p_in settled =
    let f : ℕ → ℕ = λ q. variable_of_gate (gate_at net q) in
    let member : Contains net.gates (gate_at net p) = gate_at_member net p p_in in
    elim settled [
      | inl z ↦ absurd (omega (arith, (gate_fits net kept (gate_at net p) member).variable.0))
      | inr (inl i) ↦ absurd (input_apart net kept (gate_at net p).variable (gate_at net p) i member refl)
      | inr (inr (k, k_in, is)) ↦
          let short : k < length places = rw length-map at k_in in
          let q : ℕ = slice_index places k in
          let value : f q ≡ f p = sym (get_or-map f places k 0 _ short) ∙ is in
          let same : q ≡ p = same_place variable_of_gate net.gates q p _ kept.gates_once
          (partial.in_range k 0 short) p_in value in
          (k, short, get_or_default places k p 0 short ∙ same)
    ]

-- the end of a sort
pub whole_order : (net : Netlist) (places : List ℕ) → IsNetlist net → IsPartialOrder net places
    → ((p : ℕ) → p < length net.gates → IsSettled net places (gate_at net p).variable) → IsOrder net places
whole_order net places kept partial settled = record {
  in_range = partial.in_range;
  each_once = partial.each_once;
  whole = λ p p_in. put_place net places p kept partial p_in (settled p p_in);
  follows = partial.follows;
}

item_variable : (net : Netlist) (items : List Gate) (n : ℕ) (none : Gate) → items ≡ net.gates → n < length items
    → (get_or items n none).variable ≡ (gate_at net n).variable
item_variable net items n none same n_in =
    let n_below : n < length net.gates = rw same at n_in in
    ap (λ (gs : List Gate). (get_or gs n none).variable) same ∙ ap variable_of_gate
    (get_or_default net.gates n none _ n_below)

-- a gate whose variable the set does not hold
pub not_put : (net : Netlist) (items : List Gate) (places : List ℕ) (settled : ℕ → Bool) (n : ℕ) (none : Gate) →
    items ≡ net.gates
    → n < length items → IsDraft net places settled → settled (get_or items n none).variable ≡ false
    → ¬ IsSettled net places (gate_at net n).variable
not_put net items places settled n none same n_in draft off h =
    let e : (get_or items n none).variable ≡ (gate_at net n).variable = item_variable net items n none same n_in in
    both_ways (settled (get_or items n none).variable) off ((draft.exact _).1 (subst (IsSettled net places) (sym e) h))

pub is_put : (net : Netlist) (items : List Gate) (places : List ℕ) (settled : ℕ → Bool) (n : ℕ) (none : Gate) →
    items ≡ net.gates
    → n < length items → IsDraft net places settled → settled (get_or items n none).variable ≡ true
    → IsSettled net places (gate_at net n).variable
is_put net items places settled n none same n_in draft on =
    subst (IsSettled net places) (item_variable net items n none same n_in) ((draft.exact _).0 on)

pub first_outside : (net : Netlist) (places : List ℕ) (n : ℕ) → IsPartialOrder net places → IsClosed net places →
    n < length net.gates
    → ((p : ℕ) → p < n → IsSettled net places (gate_at net p).variable) →
    ¬ IsSettled net places (gate_at net n).variable
    → IsFirstUngrounded net n
first_outside net places n partial closed n_in settled missing = record {
  in_range = n_in;
  outside = λ grounded. missing (grounded_settled net places closed grounded);
  first = λ p below. settled_ground net places partial _ (settled p below);
}
