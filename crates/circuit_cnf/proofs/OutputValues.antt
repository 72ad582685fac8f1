-- The outputs' values at a row.
use Rattle.std.proofs.Common.{◌≡◌, ℕ, zero, suc, ◌+◌, ◌≤◌, ◌<◌, ◌==◌, Bool, true, false, not, cond, List, [], ◌∷◌, map, length, get_or, slice_index, position, Some, None, refl, sym, ◌∙◌, ap, subst, arith, nat_lt}
use Rattle.std.specs.List.{position_or_len}
use Rattle.std.proofs.lemmas.Bool.{false≢true, eq-eqb, ne_eqb, leb-true, ltb-false}
use Rattle.std.proofs.lemmas.List.{ext_get_or, get_or-map, length-append, get_or_append_left, get_or-append-add}
use Rattle.std.proofs.lemmas.Option.{slice_get_within, slice_get-get_or}
use Rattle.list_laws.proofs.Sequences.{mapped_long}
use Rattle.dq_lits.specs.Formula.{Dqbf, Existential, HasLawfulPrefix, declared}
use Rattle.dq_lits.specs.Literal.{Literal, clause_true}
use Rattle.hint_log.specs.Naming.{round_assignment}
use Rattle.dq_lits.specs.Expansion.{row_assignment}
use Rattle.dq_lits.specs.Row.{bit_of}
use Rattle.aig_graph.specs.declared.nodes.Node.{Node}
use Rattle.aig_graph.specs.declared.nodes.Node.TheVariants.{Constant, Input, Gate}
use Rattle.aig_graph.specs.declared.nodes.Sides.{Sides}
use Rattle.aig_graph.specs.Graph.{AigGraph, with_sign, value_by, gate_value, node_value}
use Rattle.aig_graph.specs.Outputs.{output_node, outputs_of}
use Rattle.circuit_cnf.specs.Failing.{FailuresRefuteRows, IsFalseClause, IsFailure}
use Rattle.circuit_cnf.proofs.PrefixPlaces.{assigned_at, bit_past, found_at, nowhere}

-- the first place at which a test passes
pub first_place : {X : Type 0} (p : X → Bool) (xs : List X) (i : ℕ) (d : X) → i < length xs → p (get_or xs i d) ≡ true →
    ((k : ℕ) → k < i → p (get_or xs k d) ≡ false) → position_or_len p xs ≡ i
first_place p [] i d below here others = absurd (omega (arith, below))
first_place p (x ∷ xs) zero d below here others = ap (λ b. cond (not b) (1 + position_or_len p xs) 0) here
first_place p (x ∷ xs) (suc i) d below here others =
    let later = first_place p xs i d (omega (arith, below)) here (λ k small. others (suc k) (omega (arith, small))) in
    let one : 1 + i ≡ suc i = omega arith in
    ap (λ b. cond (not b) (1 + position_or_len p xs) 0) (others 0 (omega arith)) ∙ ap (λ n. 1 + n) later ∙ one

pub no_place : {X : Type 0} (p : X → Bool) (xs : List X) (d : X) →
    ((k : ℕ) → k < length xs → p (get_or xs k d) ≡ false) → position_or_len p xs ≡ length xs
no_place p [] d others = refl
no_place p (x ∷ xs) d others =
    let later = no_place p xs d (λ k small. others (suc k) (omega (arith, small))) in
    let one : 1 + length xs ≡ suc (length xs) = omega arith in
    ap (λ b. cond (not b) (1 + position_or_len p xs) 0) (others 0 (omega arith)) ∙ ap (λ n. 1 + n) later ∙ one

past_end : (xs : List ℕ) (i : ℕ) → length xs ≤ i → get_or xs i 0 ≡ 0
past_end [] i past = refl
past_end (x ∷ xs) zero past = absurd (omega (arith, past))
past_end (x ∷ xs) (suc i) past = past_end xs i (omega (arith, past))

-- the inputs of a row
row_is : (f : Dqbf) (row : List Bool) (i : ℕ) → HasLawfulPrefix f → length row ≡ length f.universals →
    bit_of row i ≡ row_assignment f row (slice_index f.universals i)
row_is f row i lawful long = by (nat_lt i (length f.universals)) refl where
  us : List ℕ
  us = f.universals

  v : ℕ
  v = get_or f.universals i 0

  there : (k : ℕ) → k < length us → get_or (declared f) k 0 ≡ get_or us k 0
  there k below = get_or_append_left us (map (λ y. y.variable) f.existentials) 0 k below

  whole : length us ≤ length (declared f)
  whole = let e = length-append us (map (λ (y : Existential). y.variable) f.existentials) in omega (arith, e)

  by : (b : Bool) → nat_lt i (length us) ≡ b → bit_of row i ≡ row_assignment f row v
  by true e =
      let below : i < length us = leb-true (suc i) (length us) e in
      let place = first_place (λ u. u == v) us i 0 below (eq-eqb v v refl) (λ k small.
      let inside : k < length us = omega (arith, small, below) in
      let differ = lawful.declared_once k i 0 small (omega (arith, below, whole)) in
      ne_eqb (get_or us k 0) v (λ same. differ (there k inside ∙ same ∙ sym (there i below)))) in
      sym (assigned_at us row v long ∙ ap (bit_of row) place)
  by false e =
      let past : length us ≤ i = let p = ltb-false i (length us) e in omega (arith, p) in
      let zero_is : v ≡ 0 = past_end us i past in
      let place = no_place (λ u. u == v) us 0 (λ k inside.
      let low = (lawful.in_range k 0 (omega (arith, inside, whole))).0 in
      ne_eqb (get_or us k 0) v (λ same. (let z : get_or us k 0 ≡ 0 = same ∙ zero_is in let one : 1 ≤ get_or us k 0 =
      subst (λ x. 1 ≤ x) (there k inside) low in omega (arith, z, one)))) in
      bit_past row i (omega (arith, past, long)) ∙ sym (assigned_at us row v long ∙ ap (bit_of row) place ∙ bit_past row
      (length us) (omega (arith, long)))

-- values depend on the inputs alone
value_same : (m n g h : ℕ → Bool) → ((i : ℕ) → m i ≡ n i) → ((i : ℕ) → g i ≡ h i) → (node : Node) →
    value_by m g node ≡ value_by n h node
value_same m n g h inputs gates (Constant b) = refl
value_same m n g h inputs gates (Input i negated) = ap (with_sign negated) (inputs i)
value_same m n g h inputs gates (Gate i negated) = ap (with_sign negated) (gates i)

gate_same : (m n : ℕ → Bool) → ((i : ℕ) → m i ≡ n i) → (gates : List Sides) (g : ℕ) →
    gate_value m gates g ≡ gate_value n gates g
gate_same m n inputs [] g = refl
gate_same m n inputs (s ∷ gates) g =
    search (arith, value_same, (gate_same m n inputs gates), (gate_same m n inputs gates g))

pub node_same : (graph : AigGraph) (m n : ℕ → Bool) → ((i : ℕ) → m i ≡ n i) → (node : Node) →
    node_value graph m node ≡ node_value graph n node
node_same graph m n inputs node = search (arith, value_same, gate_same)

pub values_same : (graph : AigGraph) (m n : ℕ → Bool) → ((i : ℕ) → m i ≡ n i) → (nodes : List Node) →
    map (node_value graph m) nodes ≡ map (node_value graph n) nodes
values_same graph m n inputs [] = refl
values_same graph m n inputs (x ∷ xs) = search (arith, node_same, (values_same graph m n inputs xs))

abbrev pub nobody : Existential
nobody = record { variable = 0; sees = [] }

-- an existential stands at its place
module _ (f : Dqbf) (i : ℕ) (lawful : HasLawfulPrefix f) (below : i < length f.existentials) where
  abbrev ys : List Existential
  ys = f.existentials

  abbrev vs : List ℕ
  vs = map (λ y. y.variable) f.existentials

  long : (xs : List Existential) → length (map (λ y. y.variable) xs) ≡ length xs
  long [] = refl
  long (x ∷ xs) = let e = long xs in omega (arith, e)

  variable_at : (k : ℕ) → k < length ys → get_or (declared f) (length f.universals + k) 0 ≡
      (get_or ys k nobody).variable
  variable_at k inside = get_or-append-add f.universals vs k 0 ∙ get_or-map (λ y. y.variable) ys k nobody 0 inside

  differ : (k : ℕ) → k < i → ((get_or f.existentials k nobody).variable ==
      (get_or f.existentials i nobody).variable) ≡ false
  differ k small =
      let inside : k < length ys = omega (arith, small, below) in
      let whole = length-append f.universals vs in
      let count = long f.existentials in
      let apart = lawful.declared_once (length f.universals + k) (length f.universals + i) 0 (omega (arith, small))
      (omega (arith, below, whole, count)) in
      ne_eqb (get_or ys k nobody).variable (get_or ys i nobody).variable
      (λ same. apart (variable_at k inside ∙ same ∙ sym (variable_at i below)))

  place : position_or_len (λ z. z.variable == (get_or f.existentials i nobody).variable) f.existentials ≡ i
  place = first_place (λ z. z.variable == (get_or ys i nobody).variable) ys i nobody below
      (eq-eqb (get_or ys i nobody).variable (get_or ys i nobody).variable refl) differ

  pub node_at : (nodes : List Node) → output_node f nodes (get_or f.existentials i nobody) ≡ get_or nodes i
      (Constant false)
  node_at nodes = ap (λ k. get_or nodes k (Constant false)) place

  -- and among the variables, but not among the universals
  pub existential_place : position (λ y. y == (get_or f.existentials i nobody).variable)
      (map (λ y. y.variable) f.existentials) ≡ Some i
  existential_place =
      let v = (get_or f.existentials i nobody).variable in
      let count = long f.existentials in
      let inside : i < length vs = omega (arith, below, count) in
      found_at (λ y. y == v) vs i (first_place (λ y. y == v) vs i 0 inside
      (eq-eqb (get_or vs i 0) v (get_or-map (λ y. y.variable) ys i nobody 0 below)) (λ k small.
      let there : k < length ys = omega (arith, small, below) in
      ap (λ w. w == v) (get_or-map (λ y. y.variable) ys k nobody 0 there) ∙ differ k small)) inside

  pub no_universal : position (λ u. u == (get_or f.existentials i nobody).variable) f.universals ≡ None
  no_universal =
      let v = (get_or f.existentials i nobody).variable in
      let us = f.universals in
      let whole = length-append us vs in
      let count = long f.existentials in
      nowhere (λ u. u == v) us (no_place (λ u. u == v) us 0 (λ k inside.
      let apart = lawful.declared_once k (length us + i) 0 (omega (arith, inside))
      (omega (arith, below, whole, count)) in
      ne_eqb (get_or us k 0) v (λ same. apart (get_or_append_left us vs 0 k inside ∙ same ∙ sym
      (variable_at i below)))))

pub output_values : (f : Dqbf) (graph : AigGraph) (nodes : List Node) (row : List Bool) → HasLawfulPrefix f →
    length nodes ≡ length f.existentials → length row ≡ length f.universals →
    map (node_value graph (bit_of row)) nodes ≡ map (λ y. (outputs_of f graph nodes y).value (row_assignment f row))
    f.existentials
output_values f graph nodes row lawful count long =
    ext_get_or false (map here nodes) (map there f.existentials)
    (mapped_long here nodes ∙ count ∙ sym (mapped_long there f.existentials)) (λ i small.
    let at : i < length nodes = let e = mapped_long here nodes in omega (arith, small, e) in
    let below : i < length f.existentials = omega (arith, at, count) in
    get_or-map here nodes i (Constant false) false at
    ∙ node_same graph (bit_of row) (λ k. row_assignment f row (slice_index f.universals k))
    (λ k. row_is f row k lawful long) (get_or nodes i (Constant false))
    ∙ ap (node_value graph (λ k. row_assignment f row (slice_index f.universals k)))
    (sym (node_at f i lawful below nodes))
    ∙ sym (get_or-map there f.existentials i nobody false below)) where
      here : Node → Bool
      here = node_value graph (bit_of row)

      there : Existential → Bool
      there y = (outputs_of f graph nodes y).value (row_assignment f row)

pub failure_is : (f : Dqbf) (graph : AigGraph) (nodes : List Node) (row values : List Bool) (j : ℕ) →
    HasLawfulPrefix f → length nodes ≡ length f.existentials → length row ≡ length f.universals →
    values ≡ map (node_value graph (bit_of row)) nodes → IsFalseClause f row values j →
    IsFailure f (outputs_of f graph nodes) row values j
failure_is f graph nodes row values j lawful count long are false_there =
    search (arith, (output_values f graph nodes row lawful count long))

-- where every clause is true there is no failure
pub no_failure : (f : Dqbf) (graph : AigGraph) (nodes : List Node) (row values : List Bool) → HasLawfulPrefix f →
    length nodes ≡ length f.existentials → length row ≡ length f.universals →
    values ≡ map (node_value graph (bit_of row)) nodes → ((k : ℕ) → k < length f.matrix →
    clause_true (round_assignment f row values) (get_or f.matrix k []) ≡ true) →
    (other : List Bool) (j : ℕ) → IsFailure f (outputs_of f graph nodes) row other j → ⊥
no_failure f graph nodes row values lawful count long are all other zero failure = let e = failure.clause_is in cc
no_failure f graph nodes row values lawful count long are all other (suc i) failure =
    let nothing : List Literal = [] in
    let within = slice_get_within f.matrix i failure.clause failure.clause_is in
    let here : Some (get_or f.matrix i nothing) ≡ Some failure.clause =
    sym (slice_get-get_or f.matrix i nothing within) ∙ failure.clause_is in
    let clause : get_or f.matrix i nothing ≡ failure.clause = cc in
    let same : other ≡ values = failure.values_are ∙ sym (are ∙ output_values f graph nodes row lawful count long) in
    false≢true (sym failure.is_false ∙ ap (λ vs. clause_true (round_assignment f row vs) failure.clause) same ∙ ap
    (clause_true (round_assignment f row values)) (sym clause) ∙ all i within)

pub failures_refute_rows : FailuresRefuteRows
failures_refute_rows f output entries row values j failure untried = search (arith, mapped_long)
