-- The steps of a walk from marked variables.
use Rattle.std.proofs.Common.{◌≡◌, ℕ, ◌+◌, ◌<◌, ◌≤◌, ◌⊎◌, inl, inr, Bool, true, false, List, map, length, get_or, set, take, refl, sym, ap, ◌∙◌, subst, arith}
use Rattle.std.specs.Prelude.{Contains, slice_index}
use Rattle.std.proofs.lemmas.Bool.{cases_eq, false≢true}
use Rattle.std.proofs.lemmas.List.{get_or_default, get_or-map, get_or-take, length-map, length-take, get_or-set_same, get_or-set_other, length-set}
use Rattle.dq_lits.specs.Row.{bit_of}
use Rattle.circuit_plain.specs.declared.circuits.Gate.{Gate}
use Rattle.circuit_plain.specs.Steps.{MarksReach}
use Rattle.circuit_plain.specs.Netlist.{Netlist, IsNetlist, variable_of_gate, gate_at, literal_variable}
use Rattle.circuit_plain.specs.Order.{IsSettled, IsOrder}
use Rattle.circuit_plain.specs.Reach.{Reaches, itself, left, right}
use Rattle.circuit_plain.proofs.EvaluationLaws.{gate_read, literal_in_row}
use Rattle.circuit_plain.proofs.NetlistLaws.{same_place, gate_fits, input_apart, gate_at_member}

reach_trans : {net : Netlist} {u v w : ℕ} → Reaches net u v → Reaches net v w → Reaches net u w
reach_trans itself r = r
reach_trans (left g g_in p) r = left g g_in (reach_trans p r)
reach_trans (right g g_in p) r = right g g_in (reach_trans p r)

-- a write of `true`
set_true_keeps : (m : List Bool) (x v : ℕ) → x < length m → bit_of m v ≡ true → bit_of (set m x true) v ≡ true
set_true_keeps m x v x_in on =
    elim (cases_eq v x) [
      | inl same ↦ rw same (get_or-set_same m x true false x_in)
      | inr other ↦ get_or-set_other m x v true false other ∙ on
    ]

set_true_cases : (m : List Bool) (x v : ℕ) → bit_of (set m x true) v ≡ true → (v ≡ x) ⊎ (bit_of m v ≡ true)
set_true_cases m x v on =
    elim (cases_eq v x) [
      | inl same ↦ inl same
      | inr other ↦ inr (sym (get_or-set_other m x v true false other) ∙ on)
    ]

to_itself : (net : Netlist) (u v : ℕ) → u ≡ v → Reaches net u v
to_itself net u v e = subst (λ (z : ℕ). Reaches net u z) e itself

-- where a settled variable stands in the order
record IsEarlier (net : Netlist) (order : List ℕ) (n v : ℕ) : Type 0 where
  at : ℕ
  before : at < n
  in_range : at < length order
  is : (gate_at net (slice_index order at)).variable ≡ v

earlier : (net : Netlist) (order : List ℕ) (n v : ℕ) → Contains
    (map (λ p. variable_of_gate (gate_at net p)) (take n order)) v → IsEarlier net order n v
earlier net order n v (j, j_in, is) =
    let f : ℕ → ℕ = λ p. variable_of_gate (gate_at net p) in
    let short : j < length (take n order) = rw length-map at j_in in
    let bounds : length (take n order) ≤ n × length (take n order) ≤ length order =
    (rw length-take (omega arith), rw length-take (omega arith)) in
    let value : f (get_or (take n order) j 0) ≡ v = sym (get_or-map f (take n order) j 0 v short) ∙ is in
    let moved : get_or (take n order) j 0 ≡ slice_index order j = get_or-take n order j 0 (omega arith) in
    record { at = j; before = omega arith; in_range = omega arith; is = ap f (sym moved) ∙ value }

-- no gate from a place of the order on is settled by the places before it
not_settled : (net : Netlist) (order : List ℕ) (n k : ℕ) → IsNetlist net → IsOrder net order → n ≤ k → k < length order
    → IsSettled net (take n order) (gate_at net (slice_index order k)).variable → ⊥
not_settled net order n k kept ordered above k_in settled =
    let p : ℕ = slice_index order k in
    let p_in : p < length net.gates = ordered.in_range k 0 k_in in
    let member : Contains net.gates (gate_at net p) = gate_at_member net p p_in in
    elim settled [
      | inl z ↦ absurd (omega (arith, (gate_fits net kept (gate_at net p) member).variable.0))
      | inr (inl i) ↦ input_apart net kept (gate_at net p).variable (gate_at net p) i member refl
      | inr (inr among) ↦
          let w = earlier net order n (gate_at net p).variable among in
          let q_in : slice_index order w.at < length net.gates = ordered.in_range w.at 0 w.in_range in
          let same : slice_index order w.at ≡ p =
          same_place variable_of_gate net.gates (slice_index order w.at) p _ kept.gates_once q_in p_in w.is in
          let below : w.at < k = omega (arith, w.before) in
          ordered.each_once w.at k 0 below k_in same
    ]

-- the marks are right as far as the gates from a place of the order on can tell
pub record SidesMarked (net : Netlist) (order : List ℕ) (old marks : ℕ → Bool) (n : ℕ) : Type 0 where
  pub kept : (u : ℕ) → old u ≡ true → marks u ≡ true
  pub sound : (v : ℕ) → marks v ≡ true → (u : ℕ) × (old u ≡ true) × Reaches net u v
  pub closed : (k : ℕ) → n ≤ k → k < length order → marks (gate_at net (slice_index order k)).variable ≡ true
      → (marks (literal_variable (gate_at net (slice_index order k)).left) ≡ true)
      × (marks (literal_variable (gate_at net (slice_index order k)).right) ≡ true)

pub nothing_marked : (net : Netlist) (order : List ℕ) (old : ℕ → Bool) → SidesMarked net order old old (length order)
nothing_marked net order old = record {
  kept = λ u on. on;
  sound = λ v on. (v, on, itself);
  closed = λ k above below on. absurd (omega arith);
}

-- two more marks
pub record Spreads (marks new : ℕ → Bool) (x y : ℕ) : Type 0 where
  pub keeps : (v : ℕ) → marks v ≡ true → new v ≡ true
  pub left_on : new x ≡ true
  pub right_on : new y ≡ true
  pub only : (v : ℕ) → new v ≡ true → (v ≡ y) ⊎ ((v ≡ x) ⊎ (marks v ≡ true))

pub set_spreads : (marks new : List Bool) (x y : ℕ) → x < length marks → y < length marks →
    new ≡ set (set marks x true) y true
    → Spreads (bit_of marks) (bit_of new) x y
set_spreads marks new x y x_in y_marks after =
    let y_in : y < length (set marks x true) = rw length-set y_marks in
    record {
      keeps = λ v old_on. rw after (set_true_keeps (set marks x true) y v y_in (set_true_keeps marks x v x_in old_on));
      left_on = rw after (set_true_keeps (set marks x true) y x y_in (get_or-set_same marks x true false x_in));
      right_on = rw after (get_or-set_same (set marks x true) y true false y_in);
      only = λ v new_on.
          elim (set_true_cases (set marks x true) y v (rw after at new_on)) [
            | inl same ↦ inl same
            | inr before ↦ inr (set_true_cases marks x v before)
          ];
    }

-- one gate, before the gates that were walked
module _ (net : Netlist) (order : List ℕ) (old marks : ℕ → Bool) (n : ℕ) (kept : IsNetlist net)
    (ordered : IsOrder net order)
    (n_in : n < length order) (so_far : SidesMarked net order old marks (n + 1)) where
  pub mark_gate : (new : ℕ → Bool) → marks (gate_at net (slice_index order n)).variable ≡ true
      → Spreads marks new (literal_variable (gate_at net (slice_index order n)).left)
      (literal_variable (gate_at net (slice_index order n)).right)
      → SidesMarked net order old new n
  mark_gate new on spreads =
      let g : Gate = gate_at net (slice_index order n) in
      let member : Contains net.gates g = gate_at_member net (slice_index order n) (ordered.in_range n 0 n_in) in
      let ready = ordered.follows n n_in in
      let source = so_far.sound g.variable on in
      record {
        kept = λ u old_on. spreads.keeps u (so_far.kept u old_on);
        sound = λ v new_on.
            elim (spreads.only v new_on) [
              | inl same ↦ (source.0, source.1, reach_trans source.2 (right g member (to_itself net _ v (sym same))))
              | inr (inl same) ↦ (
                source.0,
                source.1,
                reach_trans source.2
                    (left g member (to_itself net _ v (sym same))),
              )
              | inr (inr before) ↦ so_far.sound v before
            ];
        closed = λ k above k_in new_on.
            let h : Gate = gate_at net (slice_index order k) in
            elim (cases_eq k n) [
              | inl same ↦
                  let e : gate_at net (slice_index order n) ≡ h =
                  ap (λ (j : ℕ). gate_at net (slice_index order j)) (sym same) in (
                    subst (λ (z : Gate). new (literal_variable z.left) ≡ true) e spreads.left_on,
                    subst (λ (z : Gate). new (literal_variable z.right) ≡ true) e spreads.right_on,
                  )
              | inr other ↦
                  elim (spreads.only h.variable new_on) [
                    | inl same ↦ absurd (not_settled net order n k kept ordered above k_in
                        (subst (λ (z : ℕ). IsSettled net (take n order) z) (sym same) ready.1))
                    | inr (inl same) ↦ absurd (not_settled net order n k kept ordered above k_in
                        (subst (λ (z : ℕ). IsSettled net (take n order) z) (sym same) ready.0))
                    | inr (inr before) ↦
                        let sides = so_far.closed k (omega arith) k_in before in
                        (spreads.keeps _ sides.0, spreads.keeps _ sides.1)
                  ]
            ];
      }

  -- where it isn't marked, nothing changes
  pub pass_gate : (new : ℕ → Bool) → marks (gate_at net (slice_index order n)).variable ≡ false →
      ((v : ℕ) → new v ≡ marks v)
      → SidesMarked net order old new n
  pass_gate new off same = record {
    kept = λ u old_on. same u ∙ so_far.kept u old_on;
    sound = λ v new_on. so_far.sound v (sym (same v) ∙ new_on);
    closed = λ k above k_in new_on.
        elim (cases_eq k n) [
          | inl here ↦ absurd (false≢true (sym off ∙ ap (λ (j : ℕ). marks (gate_at net (slice_index order j)).variable)
              (sym here) ∙ sym (same _) ∙ new_on))
          | inr other ↦
              let sides = so_far.closed k (omega arith) k_in (sym (same _) ∙ new_on) in
              (same _ ∙ sides.0, same _ ∙ sides.1)
        ];
  }

-- the turn of the walk; g is the gate read
module _ (net : Netlist) (order places : List ℕ) (gates : List Gate) (n : ℕ) (g : Gate)
    (kept : IsNetlist net) (ordered : IsOrder net order) (same_places : places ≡ order) (same_gates : net.gates ≡ gates)
    (below : n < length places) (read : g ≡ get_or gates (get_or places n 0) g) where
  pub walked_gate : (n < length order) × (g ≡ gate_at net (slice_index order n))
  walked_gate =
      let n_in : n < length order = rw same_places at below in
      let e : get_or places n 0 ≡ slice_index order n = ap (λ (xs : List ℕ). get_or xs n 0) same_places in
      let here : g ≡ get_or gates (slice_index order n) g = rw e at read in
      (n_in, gate_read net gates g (slice_index order n) same_gates (ordered.in_range n 0 n_in) here)

  -- its sides have places in a row by variable
  pub sides_within : (m : ℕ) → m ≡ net.max_var + 1 → (literal_variable g.left < m) × (literal_variable g.right < m)
  sides_within m long =
      let at = walked_gate in
      let fits = gate_fits net kept (gate_at net (slice_index order n))
      (gate_at_member net (slice_index order n) (ordered.in_range n 0 at.0)) in (
        subst (λ (z : Gate). literal_variable z.left < m) (sym at.1) (literal_in_row net.max_var _ m fits.left long),
        subst (λ (z : Gate). literal_variable z.right < m) (sym at.1) (literal_in_row net.max_var _ m fits.right long),
      )

  pub walk_on : (old marks new : ℕ → Bool) → SidesMarked net order old marks (n + 1) → marks g.variable ≡ true
      → Spreads marks new (literal_variable g.left) (literal_variable g.right) → SidesMarked net order old new n
  walk_on old marks new so_far on spreads =
      mark_gate net order old marks n kept ordered walked_gate.0 so_far new
      (subst (λ (z : Gate). marks z.variable ≡ true) walked_gate.1 on)
      (subst (λ (z : Gate). Spreads marks new (literal_variable z.left) (literal_variable z.right)) walked_gate.1
      spreads)

  pub walk_past : (old marks new : ℕ → Bool) → SidesMarked net order old marks (n + 1) → marks g.variable ≡ false
      → ((v : ℕ) → new v ≡ marks v) → SidesMarked net order old new n
  walk_past old marks new so_far off same =
      pass_gate net order old marks n kept ordered walked_gate.0 so_far new
      (subst (λ (z : Gate). marks z.variable ≡ false) walked_gate.1 off) same

-- at the end of the walk
closed_gate : (net : Netlist) (order : List ℕ) (old marks : ℕ → Bool) (g : Gate) → IsOrder net order →
    SidesMarked net order old marks 0
    → Contains net.gates g → marks g.variable ≡ true
    → (marks (literal_variable g.left) ≡ true) × (marks (literal_variable g.right) ≡ true)
closed_gate net order old marks g ordered done (p, p_in, is) on =
    let found = ordered.whole p p_in in
    let here : slice_index order found.0 ≡ p = get_or_default order found.0 0 p found.1 ∙ found.2 in
    let gate_is : gate_at net (slice_index order found.0) ≡ g =
    ap (gate_at net) here ∙ (get_or_default net.gates p _ g p_in ∙ is) in
    let sides = done.closed found.0 (omega arith) found.1 (subst (λ (z : Gate). marks z.variable ≡ true)
    (sym gate_is) on) in (
      subst (λ (z : Gate). marks (literal_variable z.left) ≡ true) gate_is sides.0,
      subst (λ (z : Gate). marks (literal_variable z.right) ≡ true) gate_is sides.1,
    )

closed_reach : (net : Netlist) (order : List ℕ) (old marks : ℕ → Bool) → IsOrder net order →
    SidesMarked net order old marks 0
    → {u v : ℕ} → Reaches net u v → marks u ≡ true → marks v ≡ true
closed_reach net order old marks ordered done itself on = on
closed_reach net order old marks ordered done (left g g_in r) on =
    closed_reach net order old marks ordered done r (closed_gate net order old marks g ordered done g_in on).0
closed_reach net order old marks ordered done (right g g_in r) on =
    closed_reach net order old marks ordered done r (closed_gate net order old marks g ordered done g_in on).1

pub marks_reach : (net : Netlist) (order : List ℕ) (old marks : ℕ → Bool) → IsOrder net order →
    SidesMarked net order old marks 0
    → MarksReach net old marks
marks_reach net order old marks ordered done v =
    (done.sound v, λ w. closed_reach net order old marks ordered done w.2 (done.kept w.0 w.1))
