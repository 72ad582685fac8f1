-- A walk from the last gate to the first.
use Rattle.std.proofs.Common.{◌≡◌, ℕ, zero, suc, ◌+◌, ◌-◌, ◌≤◌, ◌<◌, ◌==◌, Bool, true, false, ◌||◌, inl, inr, List, [], ◌∷◌, length, replicate, get_or, slice_get, Some, refl, sym, ap, ◌∙◌, subst, arith}
use Rattle.std.specs.List.{Contains}
use Rattle.std.proofs.lemmas.Bool.{cases_Bool, eqb-true, eq-eqb}
use Rattle.std.proofs.lemmas.List.{length-replicate}
use Rattle.std.proofs.lemmas.Option.{slice_get-get_or, slice_get_within}
use Rattle.dq_lits.specs.Formula.{Dqbf}
use Rattle.dq_lits.specs.Row.{bit_of}
use Rattle.circuit_plain.specs.Netlist.{Netlist, literal_variable, left_variable, right_variable}
use Rattle.circuit_plain.specs.Reach.{Reaches, itself, left, right}
use Rattle.circuit_plain.specs.declared.circuits.Gate.{Gate}
use Rattle.number_tables.specs.Numbers.{has_number}
use Rattle.cert_text.specs.AllowedDefinitions.{IsDefinitionOf}
use Rattle.cert_text.specs.DefinitionBlocks.{Definition}
use Rattle.defined_checker.specs.DefinitionReads.{IsRead, definition_netlist}
use Rattle.defined_checker.specs.Walking.{IsWalked, Keeps, Noted}
use Rattle.defined_checker.specs.declared.leaves.Cone.{Cone}
use Rattle.defined_checker.proofs.ReadDefinitions.{left_reached, right_reached}
use Rattle.defined_checker.proofs.SmallGates.{gate_at}

-- a number that is listed
pub is_listed : (ns : List ℕ) (v : ℕ) → has_number ns v ≡ true → Contains ns v
is_listed [] v h = cc
is_listed (n ∷ ns) v h =
    elim (cases_Bool (n == v)) [
      | inl here ↦ (0, omega arith, eqb-true n v here)
      | inr other ↦
          let r = is_listed ns v (ap (λ b. b || has_number ns v) (sym other) ∙ h) in
          (suc r.0, omega (arith, r.1), r.2)
    ]

pub has_listed : (ns : List ℕ) (v : ℕ) → Contains ns v → has_number ns v ≡ true
has_listed ns v there = by ns there.0 there.1 there.2
  where
    by : (ns : List ℕ) (k : ℕ) → k < length ns → get_or ns k v ≡ v → has_number ns v ≡ true
    by [] k below is = absurd (omega (arith, below))
    by (n ∷ ns) zero below is = ap (λ b. b || has_number ns v) (eq-eqb n v is)
    by (n ∷ ns) (suc k) below is = or_right (n == v) (has_number ns v) (by ns k (omega (arith, below)) is)
      where
        or_right : (a b : Bool) → b ≡ true → (a || b) ≡ true
        or_right true b h = refl
        or_right false b h = h

-- what was noted stays noted
pub noted_kept : (last : ℕ) (old new : Cone) (variable v : ℕ) → Keeps last old new variable → Noted last old v →
    Noted last new v
noted_kept last old new variable v keeps noted = search arith

module _ (f : Dqbf) (d : Definition) where
  abbrev last : ℕ
  last = f.variables

  abbrev net : Netlist
  net = definition_netlist f d

  abbrev out : ℕ
  out = literal_variable d.output

  -- with one more variable of the cone, which lies below the gates that were passed
  pub walked_kept : (from : ℕ) (old new : Cone) (variable : ℕ) → IsWalked f d from old → Keeps last old new variable →
      Reaches net out variable → variable < last + 1 + from → IsWalked f d from new
  walked_kept from old new variable walked keeps reached low = search (arith, noted_kept)

  -- the next gate is in the cone, and its sides are noted
  pub passed_gate : (place : ℕ) (cone : Cone) (g : Gate) → IsWalked f d (place + 1) cone →
      slice_get d.gates place ≡ Some g → Noted last cone (left_variable g) → Noted last cone (right_variable g) →
      IsWalked f d place cone
  passed_gate place cone g walked there low high = record {
    as_many = walked.as_many;
    leaves = walked.leaves;
    gates = walked.gates;
    output = walked.output;
    sides = λ k h behind is marked. elim (cases_Bool (k == place)) [
      | inl here ↦
          let same : k ≡ place = eqb-true k place here in
          let one : g ≡ h = some_is g h (sym there ∙ ap (slice_get d.gates) (sym same) ∙ is) in
          subst (λ x. Noted last cone (left_variable x) × Noted last cone (right_variable x)) one (low, high)
      | inr other ↦ walked.sides k h (after k place behind other) is marked
    ];
  }
    where
      some_is : (a b : Gate) → Some a ≡ Some b → a ≡ b
      some_is a b h = cc

      after : (k p : ℕ) → p ≤ k → (k == p) ≡ false → p + 1 ≤ k
      after k p le other = omega (arith, le, λ (same : k ≡ p). apart (sym other ∙ eq-eqb k p same))
        where
          apart : false ≡ true → ⊥
          apart h = cc

  no_bit : (n k : ℕ) → bit_of (replicate n false) k ≡ false
  no_bit zero k = refl
  no_bit (suc n) zero = refl
  no_bit (suc n) (suc k) = no_bit n k

  -- only the output is noted
  pub walk_begins : (gates : List Bool) (cone : Cone) → gates ≡ replicate (length d.gates) false →
      Keeps last (record { gates = gates; leaves = [] }) cone out → Noted last cone out →
      length gates ≡ length d.gates → IsWalked f d (length d.gates) cone
  walk_begins gates cone none keeps noted many = record {
    as_many = keeps.as_many ∙ many;
    leaves = λ v is. elim (keeps.leaves_new v is) [
      | inl before ↦ absurd (apart before)
      | inr own ↦ record {
        from_one = own.1.0;
        of_formula = own.1.1;
        reached = subst (Reaches net out) (sym own.0) itself;
      }
    ];
    gates = λ k is. elim (keeps.gates_new k is) [
      | inl before ↦ absurd (apart (sym (no_bit (length d.gates) k) ∙ ap (λ bits. bit_of bits k) (sym none) ∙ before))
      | inr own ↦ subst (Reaches net out) own itself
    ];
    output = noted;
    sides = λ k g behind there is. absurd (past k g behind (slice_get_within d.gates k g there));
  }
    where
      apart : false ≡ true → ⊥
      apart h = cc

      past : (k : ℕ) (g : Gate) → length d.gates ≤ k → k < length d.gates → ⊥
      past k g behind below = absurd (omega (arith, behind, below))

  -- the walk is at its end
  module _ (cone : Cone) (walked : IsWalked f d 0 cone) (lawful : IsDefinitionOf f d) where
    one_marked : (g : Gate) (k : ℕ) → k < length d.gates → get_or d.gates k g ≡ g → Noted last cone g.variable →
        Noted last cone (left_variable g) × Noted last cone (right_variable g)
    one_marked g k below is noted =
        let at = gate_at f (last + 1) d.gates lawful.gates k g g below (sym is) in
        let numbered : g.variable ≡ last + 1 + k = at.numbered in
        elim noted [
          | inl none ↦ absurd (omega (arith, none, numbered))
          | inr some ↦ elim some [
            | inl leaf ↦ absurd (omega (arith, leaf.1.0, numbered))
            | inr gate ↦
                let place : g.variable - last - 1 ≡ k = omega (arith, numbered) in
                walked.sides k g (omega arith) (slice_get-get_or d.gates k g below ∙ ap Some is)
                (ap (bit_of cone.gates) (sym place) ∙ gate.1)
          ]
        ]

    all_noted : (v x : ℕ) → Noted last cone v → Reaches net v x → Noted last cone x
    all_noted v x noted itself = noted
    all_noted v x noted (left g there r) =
        all_noted (left_variable g) x (one_marked g there.0 there.1 there.2 noted).0 r
    all_noted v x noted (right g there r) =
        all_noted (right_variable g) x (one_marked g there.0 there.1 there.2 noted).1 r

    pub leaf_found : (v : ℕ) → IsRead f d v → has_number cone.leaves v ≡ true
    leaf_found v read = search (arith, all_noted)

pub walk_first : (f : Dqbf) (d : Definition) (last many : ℕ) (gates : List Bool) (leaves : List ℕ) (cone : Cone) →
    last ≡ f.variables → many ≡ length d.gates → gates ≡ replicate many false → leaves ≡ [] →
    Keeps last (record { gates = gates; leaves = leaves }) cone (literal_variable d.output) →
    Noted last cone (literal_variable d.output) → IsWalked f d (length d.gates) cone
walk_first f d last many gates leaves cone last_is many_is gates_are none keeps noted =
    walk_begins f d gates cone (gates_are ∙ ap (λ n. replicate n false) many_is)
    (subst (λ n. Keeps n (record { gates = gates; leaves = [] }) cone (literal_variable d.output)) last_is
    (subst (λ ns. Keeps last (record { gates = gates; leaves = ns }) cone (literal_variable d.output)) none keeps))
    (subst (λ n. Noted n cone (literal_variable d.output)) last_is noted)
    (ap length gates_are ∙ length-replicate many false ∙ many_is)

-- the next gate is in the cone, and both of its sides were noted
pub visited : (f : Dqbf) (d : Definition) (place : ℕ) (g : Gate) (old mid new : Cone) (first second : ℕ) →
    IsDefinitionOf f d → place < length d.gates → g ≡ get_or d.gates place g → IsWalked f d (place + 1) old →
    bit_of old.gates place ≡ true → first ≡ f.variables → second ≡ f.variables →
    Keeps first old mid (left_variable g) → Noted first mid (left_variable g) →
    Keeps second mid new (right_variable g) → Noted second new (right_variable g) → IsWalked f d place new
visited f d place g old mid new first second lawful below is walked marked first_is second_is keeps_left noted_left
    keeps_right noted_right =
    let at = gate_at f (f.variables + 1) d.gates lawful.gates place g g below is in
    let numbered : g.variable ≡ f.variables + 1 + place = at.numbered in
    let low : left_variable g < f.variables + 1 + place = at.left_before in
    let high : right_variable g < f.variables + 1 + place = at.right_before in
    let in_net : Contains d.gates g = (place, below, sym is) in
    let here : Reaches (definition_netlist f d) (literal_variable d.output) g.variable =
    subst (Reaches (definition_netlist f d) (literal_variable d.output)) (sym numbered) (walked.gates place marked) in
    let left_kept : Keeps f.variables old mid (left_variable g) =
    subst (λ n. Keeps n old mid (left_variable g)) first_is keeps_left in
    let right_kept : Keeps f.variables mid new (right_variable g) =
    subst (λ n. Keeps n mid new (right_variable g)) second_is keeps_right in
    let once = walked_kept f d (place + 1) old mid (left_variable g) walked left_kept
    (left_reached (definition_netlist f d) (literal_variable d.output) g in_net here) (omega (arith, low)) in
    let twice = walked_kept f d (place + 1) mid new (right_variable g) once right_kept
    (right_reached (definition_netlist f d) (literal_variable d.output) g in_net here) (omega (arith, high)) in
    passed_gate f d place new g twice (slice_get-get_or d.gates place g below ∙ ap Some (sym is))
    (noted_kept f.variables mid new (right_variable g) (left_variable g) right_kept
    (subst (λ n. Noted n mid (left_variable g)) first_is noted_left))
    (subst (λ n. Noted n new (right_variable g)) second_is noted_right)
