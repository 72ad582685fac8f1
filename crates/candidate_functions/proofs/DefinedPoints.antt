-- A definition has the points' bits at the pairs of the rows.
use Rattle.std.proofs.Common.{◌≡◌, ℕ, ◌+◌, ◌-◌, ◌<◌, ◌≤◌, Bool, false, cond, List, ◌++◌, map, length, get_or, slice_get, slice_index, nat_lt, Option, None, Some, sym, ◌∙◌, ap, subst, inl, inr, ◌⊎◌, arith}
use Rattle.std.specs.List.{All, Contains}
use Rattle.std.proofs.Math.ListN.{get_or-append}
use Rattle.std.proofs.lemmas.Bool.{cases_Bool, cases_lt, lt-ltb, le-ltb}
use Rattle.std.proofs.lemmas.List.{get_or-append-add, get_or-map, get_or_past, length-map}
use Rattle.std.proofs.lemmas.List.Elements.{All-contains, Contains-get_or, Contains-append_left, Contains-append_right}
use Rattle.std.proofs.lemmas.Option.{slice_get_within, get_or_from_slice_get, slice_get-get_or}
use Rattle.list_laws.proofs.Members.{element_at, all_from_contains, one_mapped}
use Rattle.dq_lits.specs.Literal.{Assignment}
use Rattle.dq_lits.specs.Formula.{Existential, Dqbf, is_universal, existential_of, HasLawfulPrefix}
use Rattle.dq_lits.specs.Henkin.{MatrixHolds}
use Rattle.dq_lits.specs.Expansion.{row_assignment, pair_number, instance_clause, InstanceHolds}
use Rattle.dq_lits.proofs.FormulaVariables.{find_sound}
use Rattle.dq_formula.specs.Prefix.{IsLawful}
use Rattle.dq_formula.proofs.Places.{has-contains}
use Rattle.aig_graph.specs.Graph.{AigGraph, node_value, node_support}
use Rattle.aig_graph.specs.Outputs.{node_output}
use Rattle.aig_graph.specs.declared.nodes.Node.{Node}
use Rattle.expansion.specs.Table.{PointBits, ArePoints}
use Rattle.candidate_functions.specs.AtRow.{IsAtRow}
use Rattle.candidate_functions.specs.Candidates.{SeesRow, AgreesAtPairs}
use Rattle.candidate_functions.proofs.AtRows.{contains_mapped, apart, AtRow, clause_holds}
use Rattle.candidate_functions.proofs.DeclaredPlaces.{all_mapped}
use Rattle.definition_order.proofs.Declared.{variable, sees_universals}
use Rattle.defining_nodes.specs.Definitions.{input_variable, defining_output, IsDefinition}
use Rattle.definition_order.specs.Order.{IsShared, MayRead}
use Rattle.aig_graph.proofs.Supported.{node_same}
use Rattle.aig_graph.specs.Substituting.{first_inputs, values_put_in, IsPutIn}
use Rattle.aig_graph.specs.declared.nodes.Node.TheVariants.{Constant}
use Rattle.list_laws.proofs.Elements.{map_agree}

abbrev existential_value : Dqbf → List (List Bool) → List Bool → Assignment → Option Existential → Bool
existential_value f rows row m None = false
existential_value f rows row m (Some y) = m (pair_number f rows row y)

-- the row, and the model's bits at its pairs
abbrev pub at_row : Dqbf → List (List Bool) → List Bool → Assignment → Assignment
at_row f rows row m v = cond (is_universal f v) (row_assignment f row v)
    (existential_value f rows row m (existential_of f v))

pub is_at_row : (f : Dqbf) → HasLawfulPrefix f → (rows : List (List Bool)) (row : List Bool) (m : Assignment) →
    AtRow f rows row m (at_row f rows row m)
is_at_row f lawful rows row m = record {
  universal = λ v h. ap (λ b. cond b (row_assignment f row v) (existential_value f rows row m (existential_of f v))) h;
  existential = λ v y found.
      let no_universal : is_universal f v ≡ false = elim (cases_Bool (is_universal f v))
      [ inl h ↦ absurd (apart f lawful v y found h) | inr h ↦ h ] in
      ap (λ b. cond b (row_assignment f row v) (existential_value f rows row m (existential_of f v))) no_universal ∙ ap
      (existential_value f rows row m) found;
}

-- where the instances of a row hold, a definition has the model's bit at its pair
pub defined_at_pair : (f : Dqbf) (ranks : List ℕ) (graph : AigGraph) (y : Existential) (node : Node) →
    existential_of f y.variable ≡ Some y → IsDefinition f ranks graph y node →
    (rows : List (List Bool)) (row : List Bool) (model : Assignment) →
    All (λ clause. InstanceHolds model (instance_clause f rows row clause)) f.matrix →
    (m : Assignment) → IsAtRow f rows row model m → model (pair_number f rows row y) ≡
    (defining_output f graph node).value m
defined_at_pair f ranks graph y node own is rows row model instances m t =
    sym (t.existential y.variable y own) ∙ is.defines m (λ j e inside. clause_holds f rows row model m t
    (get_or f.matrix j e) (instances j e inside))

pub same_bits_seen : (m n : Assignment) (xs : List ℕ) (x : ℕ) → map m xs ≡ map n xs → Contains xs x → m x ≡ n x
same_bits_seen m n xs x same (k, below, is) =
    search (arith, (get_or-map m xs k x (m x) below), (get_or-map n xs k x (m x) below))

-- an existential of which less is seen sees the row too
pub sees_row_too : (f : Dqbf) (y z : Existential) (row : List Bool) (m : Assignment) → All (Contains y.sees) z.sees →
    SeesRow f y row m → SeesRow f z row m
sees_row_too f y z row m no_more sees = map_agree m (row_assignment f row) z.sees
    (λ x among. same_bits_seen m (row_assignment f row) y.sees x sees
    (All-contains (Contains y.sees) z.sees x no_more among))

pub none_at_zero : (f : Dqbf) → IsLawful f → (v : ℕ) → v ≡ 0 →
    Contains f.universals v ⊎ ((z : Existential) × (existential_of f v ≡ Some z)) → ⊥
none_at_zero f lawful v none (inl universal) =
    let range = All-contains (λ w. (1 ≤ w) × (w ≤ f.variables))
    (f.universals ++ map variable f.existentials) v lawful.prefix.in_range
    (Contains-append_left f.universals (map variable f.existentials) v universal) in
    omega (arith, range.0)
none_at_zero f lawful v none (inr (z, found)) =
    let own = find_sound v f.existentials z found in
    let among = Contains-append_right f.universals (map variable f.existentials) z.variable
    (contains_mapped f.existentials z own.0) in
    let range = All-contains (λ w. (1 ≤ w) × (w ≤ f.variables))
    (f.universals ++ map variable f.existentials) z.variable lawful.prefix.in_range among in
    omega (arith, range.0, own.1)

-- what a definition's node reads: a universal that is seen, or a shared existential's input
abbrev pub IsUniversalInput : Dqbf → Existential → ℕ → Type 0
IsUniversalInput f y i = (i < length f.universals) × Contains y.sees (slice_index f.universals i)

pub record IsSharedInput (f : Dqbf) (ranks : List ℕ) (y : Existential) (i : ℕ) : Type 0 where
  pub place : ℕ
  pub existential : Existential
  pub behind : i ≡ length f.universals + place
  pub at : slice_get f.existentials place ≡ Some existential
  pub shared : IsShared f ranks y existential

module _ (f : Dqbf) (ranks : List ℕ) (lawful : IsLawful f) (y : Existential)
    (own : existential_of f y.variable ≡ Some y) where
  abbrev us : List ℕ
  us = f.universals

  abbrev vs : List ℕ
  vs = map variable f.existentials

  first_variable : (i : ℕ) → i < length us → input_variable f i ≡ slice_index us i
  first_variable i below = get_or-append us vs 0 i below

  last_variable : (k : ℕ) (z : Existential) → slice_get f.existentials k ≡ Some z →
      input_variable f (length us + k) ≡ z.variable
  last_variable k z at =
      get_or-append-add us vs k 0 ∙ get_or-map variable f.existentials k z 0 (slice_get_within f.existentials k z at)
      ∙ ap variable (get_or_from_slice_get f.existentials k z z at)

  universal_read : (i : ℕ) → i < length us → MayRead f ranks y (input_variable f i) → IsUniversalInput f y i
  universal_read i below (inl seen) = (below, subst (Contains y.sees) (first_variable i below) seen)
  universal_read i below (inr (z, found, shared)) =
      absurd (apart f lawful.prefix (slice_index us i) z (subst (λ v. existential_of f v ≡ Some z)
      (first_variable i below) found) (has-contains us (slice_index us i) (Contains-get_or us i 0 below)))

  seen_universal : (v : ℕ) → Contains y.sees v → Contains us v
  seen_universal v seen = All-contains (Contains us) y.sees v (sees_universals f lawful y.variable y own) seen

  existential_read : (k : ℕ) (z : Existential) → slice_get f.existentials k ≡ Some z →
      MayRead f ranks y (input_variable f (length us + k)) → IsShared f ranks y z
  existential_read k z at may = by (subst (MayRead f ranks y) (last_variable k z at) may) where
    known : existential_of f z.variable ≡ Some z
    known = All-contains (λ e. existential_of f e.variable ≡ Some e) f.existentials z lawful.named
        (element_at f.existentials k z at)

    by : MayRead f ranks y z.variable → IsShared f ranks y z
    by (inl seen) = absurd (apart f lawful.prefix z.variable z known
        (has-contains us z.variable (seen_universal z.variable seen)))
    by (inr (e, found, shared)) = (let same : Some e ≡ Some z = sym found ∙ known in let is : e ≡ z = cc in
        subst (IsShared f ranks y) is shared)

  pub reads_as : (i : ℕ) → MayRead f ranks y (input_variable f i) → IsUniversalInput f y i ⊎ IsSharedInput f ranks y i
  reads_as i may = elim (cases_lt i (length us)) [
    | inl below ↦ inl (universal_read i below may)
    | inr past ↦ inr (behind (i - length us) (omega arith))
  ] where
    nothing : (k : ℕ) → i ≡ length us + k → length f.existentials ≤ k → input_variable f i ≡ 0
    nothing k is past = ap (input_variable f) is ∙ get_or-append-add us vs k 0 ∙ get_or_past vs k 0
        (let long = length-map f.existentials variable in omega arith)

    of_read : MayRead f ranks y (input_variable f i) → Contains us (input_variable f i) ⊎
        ((z : Existential) × (existential_of f (input_variable f i) ≡ Some z))
    of_read (inl seen) = inl (seen_universal (input_variable f i) seen)
    of_read (inr (z, found, shared)) = inr (z, found)

    behind : (k : ℕ) → i ≡ length us + k → IsSharedInput f ranks y i
    behind k is = elim (cases_lt k (length f.existentials)) [
      | inl below ↦ (
          let z = get_or f.existentials k y in
          let at = slice_get-get_or f.existentials k y below in
          record {
            place = k;
            existential = z;
            behind = is;
            at = at;
            shared =
                existential_read k z at (subst (λ j. MayRead f ranks y (input_variable f j)) is may);
          })
      | inr past ↦ absurd (none_at_zero f lawful (input_variable f i) (nothing k is past) (of_read may))
    ]

-- a definition's node, where outputs are put in
module _ (f : Dqbf) (ranks : List ℕ) (lawful : IsLawful f) (y : Existential)
    (own : existential_of f y.variable ≡ Some y) (g : AigGraph) (d : Node) (nodes : List Node)
    (is : IsDefinition f ranks g y d)
    (inputs : g.inputs ≡ length f.universals + length f.existentials)
    (long : length nodes ≡ length f.existentials) where
  abbrev output : ℕ → Node
  output q = get_or nodes q (Constant false)

  first_is : first_inputs g nodes ≡ length f.universals
  first_is = omega arith

  may_read : (i : ℕ) → Contains (node_support g d) i → IsUniversalInput f y i ⊎ IsSharedInput f ranks y i
  may_read i has = reads_as f ranks lawful y own i (one_mapped (MayRead f ranks y) (input_variable f)
      (node_support g d) i is.reads has)

  module _ (m w : Assignment) (seen : (x : ℕ) → Contains y.sees x → m x ≡ w x)
      (shared : (q : ℕ) (z : Existential) → slice_get f.existentials q ≡ Some z → IsShared f ranks y z →
      w z.variable ≡ (node_output f g (output q)).value m) where
    abbrev own_inputs : ℕ → Bool
    own_inputs i = m (slice_index f.universals i)

    picked : (b : Bool) (i : ℕ) → nat_lt i (first_inputs g nodes) ≡ b →
        values_put_in g nodes own_inputs i ≡ cond b (own_inputs i)
        (node_value g own_inputs (output (i - first_inputs g nodes)))
    picked b i e = ap (λ c. cond c (own_inputs i) (node_value g own_inputs (output (i - first_inputs g nodes)))) e

    input_same : (i : ℕ) → IsUniversalInput f y i ⊎ IsSharedInput f ranks y i →
        values_put_in g nodes own_inputs i ≡ w (input_variable f i)
    input_same i (inl (below, sees)) = search (arith, lt-ltb, first_is, first_variable)
    input_same i (inr s) =
        let past : first_inputs g nodes ≤ i = (let e = s.behind in let b = first_is in omega arith) in
        let place : i - first_inputs g nodes ≡ s.place = (let e = s.behind in let b = first_is in omega arith) in
        picked false i (le-ltb i (first_inputs g nodes) past) ∙ ap (λ k. node_value g own_inputs (output k)) place ∙ sym
        (shared s.place s.existential s.at s.shared)
        ∙ ap w (sym (ap (input_variable f) s.behind ∙ last_variable f ranks lawful y own s.place s.existential s.at))

    pub value_put_in : node_value g (values_put_in g nodes own_inputs) d ≡ (defining_output f g d).value w
    value_put_in =
        node_same (values_put_in g nodes own_inputs) (λ i. w (input_variable f i)) g d
        (all_from_contains (λ i. values_put_in g nodes own_inputs i ≡ w (input_variable f i)) (node_support g d)
        (λ i has. input_same i (may_read i has)))

  module _ (h : AigGraph) (made : Node) (put : IsPutIn g h d nodes made)
      (reads : (q : ℕ) (z : Existential) → slice_get f.existentials q ≡ Some z → IsShared f ranks y z →
      All (Contains z.sees) (node_output f g (output q)).support) where
    read_seen : (i : ℕ) → Contains (node_support h made) i → Contains y.sees (slice_index f.universals i)
    read_seen i has = elim (put.reads i has) [
      | inl kept ↦ elim (may_read i kept.0) [
        | inl u ↦ u.1
        | inr s ↦ absurd (let below = kept.1 in let e = s.behind in let b = first_is in omega arith)
      ]
      | inr r ↦ elim (may_read (first_inputs g nodes + r.place) r.put_in) [
        | inl u ↦ absurd (let below = u.0 in let b = first_is in omega arith)
        | inr s ↦ (
            let place : r.place ≡ s.place = (let e = s.behind in let b = first_is in omega arith) in
            let sub : r.sub ≡ output s.place = sym (get_or_from_slice_get nodes r.place r.sub (Constant false) r.at)
            ∙ ap output place in
            let read = subst (λ n. Contains (node_support g n) i) sub r.reads in
            All-contains (Contains y.sees) s.existential.sees (slice_index f.universals i) s.shared.sees_no_more
            (one_mapped (Contains s.existential.sees) (slice_index f.universals) (node_support g (output s.place)) i
            (reads s.place s.existential s.at s.shared) read))
      ]
    ]

    pub made_reads : All (Contains y.sees) (node_output f h made).support
    made_reads = all_mapped (Contains y.sees) (slice_index f.universals) (node_support h made) read_seen

    pub made_at_pairs : (rows : List (List Bool)) (points : PointBits) → ArePoints f rows points →
        Contains f.existentials y
        → ((q : ℕ) (z : Existential) → slice_get f.existentials q ≡ Some z → IsShared f ranks y z →
        AgreesAtPairs f rows points z (node_output f g (output q)))
        → AgreesAtPairs f rows points y (node_output f h made)
    made_at_pairs rows points are among agree k row m at sees =
        put.value (λ i. m (slice_index f.universals i)) ∙ value_put_in m n same shared ∙ sym (is.defines n matrix)
        ∙ t.existential y.variable y own ∙ sym (point y among)
      where
        n : Assignment
        n = at_row f rows row are.model

        t : AtRow f rows row are.model n
        t = is_at_row f lawful.prefix rows row are.model

        matrix : MatrixHolds f n
        matrix j e inside =
            let here : get_or rows k row ≡ row = get_or_from_slice_get rows k row row at in
            let instances = subst (λ r. All (λ clause. InstanceHolds are.model (instance_clause f rows r clause))
            f.matrix) here (are.holds_there k row (slice_get_within rows k row at)) in
            clause_holds f rows row are.model n t (get_or f.matrix j e) (instances j e inside)

        same : (x : ℕ) → Contains y.sees x → m x ≡ n x
        same x seen = same_bits_seen m (row_assignment f row) y.sees x sees seen ∙ sym
            (t.universal x (has-contains f.universals x (seen_universal f ranks lawful y own x seen)))

        point : (z : Existential) → Contains f.existentials z →
            points (k + 1) z.variable ≡ are.model (pair_number f rows row z)
        point z inside = All-contains (λ e. points (k + 1) e.variable ≡ are.model (pair_number f rows row e))
            f.existentials z (are.bits k row at) inside

        shared : (q : ℕ) (z : Existential) → slice_get f.existentials q ≡ Some z → IsShared f ranks y z →
            n z.variable ≡ (node_output f g (output q)).value m
        shared q z there is_shared =
            let known = All-contains (λ e. existential_of f e.variable ≡ Some e) f.existentials z lawful.named
            (element_at f.existentials q z there) in
            t.existential z.variable z known ∙ sym (point z (element_at f.existentials q z there)) ∙ sym
            (agree q z there is_shared k row m at (sees_row_too f y z row m is_shared.sees_no_more sees))
