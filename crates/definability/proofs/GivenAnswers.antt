-- What an answer to a question says of an existential: of its definition, and of its definition
-- under conditions.
use Rattle.std.proofs.Common.{◌≡◌, ◌≢◌, ◌<◌, ℕ, Bool, true, false, true≢false, not, inl, inr, List, [], ◌∷◌, filter, length, get_or, slice_get, slice_index, Some, IsSome, sym, ◌∙◌, ap, subst, arith}
use Rattle.std.specs.List.{All, Contains}
use Rattle.std.proofs.lemmas.Bool.{cases_Bool}
use Rattle.std.proofs.lemmas.List.Elements.{All-contains, All-head, All-map, All-nil, Contains-get_or}
use Rattle.std.proofs.lemmas.Option.{get_or_from_slice_get, slice_get_within, slice_get-get_or}
use Rattle.list_laws.proofs.Elements.{kept_there}
use Rattle.list_laws.proofs.Truths.{not_true}
use Rattle.dq_lits.specs.Derivation.{is_tautology}
use Rattle.dq_lits.specs.Formula.{Dqbf, Existential, declared, existential_of}
use Rattle.dq_lits.specs.Literal.{Assignment, Literal, positive, negative, variable_of, is_negative, literal_true}
use Rattle.dq_lits.specs.Row.{bit_of}
use Rattle.dq_formula.specs.Prefix.{IsLawful, existential_variables}
use Rattle.hint_log.specs.Naming.{round_assignment}
use Rattle.aig_graph.specs.Graph.{AigGraph, node_support}
use Rattle.aig_graph.specs.declared.nodes.Node.{Node}
use Rattle.aig_graph.proofs.Supported.{node_same}
use Rattle.defining_nodes.specs.Definitions.{IsDefinition, input_variable}
use Rattle.definition_order.specs.Order.{MayRead}
use Rattle.definition_order.proofs.Declared.{some_existential}
use Rattle.definability.specs.Defining.{IsFreePair}
use Rattle.definability.specs.Dividing.{IsQuestion, IsDefinitionAt, IsPairAt, IsAnswerAt}
use Rattle.definability.specs.Guessing.{IsConditionalDefinition, IsConditionalPair, IsGuess}
use Rattle.definability.specs.Conditions.{MeetsLiterals, has_copies}
use Rattle.definability.specs.Copies.{is_copied_at}
use Rattle.definability.specs.Seeing.{AreCopiedPlaces}
use Rattle.definability.specs.declared.defining.Pair.{Pair}
use Rattle.definability.specs.declared.guessing.Guess.{Guess}
use Rattle.definability.specs.declared.guessing.Guess.TheVariants.{Node as NodeFound, Pair as PairFound}
use Rattle.definability.proofs.KeptPlaces.{all_flagged, bit_at, copied_within, declared_cases, declared_copies, flag_past, has_copies_sound, has_no_copies, in_filter, kept_consistent, of_filter}
use Rattle.definability.proofs.MetConditions.{existential_has_copies}
use Rattle.definability.proofs.FreePairs.{all_parts, universal_value}
use Rattle.definability.proofs.SearchAnswers.{existential_declared, found_variable}
use Rattle.definition_order.proofs.Firsts.{universals_apart}

-- whether a condition is kept
abbrev kept_test : Dqbf → List Bool → Literal → Bool
kept_test f flags l = has_copies f flags (variable_of l)

-- a question may be asked where the places are those of a set that have copies, and the conditions
-- that are kept
pub posed_of : (f : Dqbf) → IsLawful f → (flags : List Bool) (set : Existential → ℕ → Type 0) (v : ℕ)
    (conditions kept : List Literal) (places : List ℕ) → length flags ≡ length f.universals →
    IsSome (existential_of f v) →
    ((y : Existential) → existential_of f v ≡ Some y → AreCopiedPlaces (declared f) (set y) flags places) →
    All (λ l. Contains (declared f) (variable_of l)) conditions →
    is_tautology conditions ≡ false → All (λ l. variable_of l ≢ v) conditions →
    kept ≡ filter (λ l. has_copies f flags (variable_of l)) conditions → IsQuestion f flags places v kept
posed_of f lawful flags set v conditions kept places as_many is are bound consistent others kept_are =
    subst (IsQuestion f flags places v) (sym kept_are) (record {
      places_within = some_existential f v (All (λ k. k < length (declared f)) places) is
          (λ y found. copied_within (declared f) (set y) flags places (are y found));
      places_copied = some_existential f v (All (λ k. is_copied_at flags k ≡ true) places) is
          (λ y found. all_flagged flags places (are y found).copied);
      is_declared = existential_declared f v is;
      is_copied = existential_has_copies f lawful flags v as_many is;
      are_declared = λ k d lt. All-contains (λ l. Contains (declared f) (variable_of l)) conditions _ bound
          (of_filter (kept_test f flags) conditions (get_or (filter (kept_test f flags) conditions) k d)
          (Contains-get_or (filter (kept_test f flags) conditions) k d lt)).0;
      are_copied = λ k d lt. has_copies_sound f flags as_many (variable_of (get_or (filter (kept_test f flags) conditions) k d))
          (universals_apart f lawful.prefix) (of_filter (kept_test f flags) conditions (get_or (filter (kept_test f flags) conditions) k d)
          (Contains-get_or (filter (kept_test f flags) conditions) k d lt)).1;
      consistent = kept_consistent (kept_test f flags) conditions consistent;
      others = λ k d lt. All-contains (λ l. variable_of l ≢ v) conditions _ others
          (of_filter (kept_test f flags) conditions (get_or (filter (kept_test f flags) conditions) k d)
          (Contains-get_or (filter (kept_test f flags) conditions) k d lt)).0;
    })

-- without conditions, over what a definition may read
pub is_defined : (f : Dqbf) (ranks : List ℕ) (graph : AigGraph) (v : ℕ) (y : Existential) (places : List ℕ)
    (node : Node) (flags : List Bool) → existential_of f v ≡ Some y →
    AreCopiedPlaces (declared f) (MayRead f ranks y) flags places → IsDefinitionAt f places v [] graph node → IsDefinition f ranks graph y node
is_defined f ranks graph v y places node flags found are at = record {
  is_node = at.is_node;
  reads = All-map (MayRead f ranks y) (input_variable f) (node_support graph node) (λ k d lt.
      let i = get_or (node_support graph node) k d in
      let r = are.sound i (at.reads i (Contains-get_or (node_support graph node) k d lt)) in
      subst (MayRead f ranks y) (sym (get_or_from_slice_get (declared f) i r.0 0 r.1)) r.2);
  defines = λ m holds_there. ap m (found_variable f v y found) ∙ at.defines m holds_there
      (All-nil (λ l. literal_true m l ≡ true));
}

-- where a universal has no copies, both rows have the same bit
module _ (f : Dqbf) (lawful : IsLawful f) (flags others : List Bool) (places : List ℕ) (v : ℕ)
    (conditions : List Literal) (pair : Pair) (at : IsPairAt f flags others places v conditions pair)
    (as_many : length flags ≡ length f.universals) where
  place_of_rest : (k x : ℕ) → slice_get (declared f) k ≡ Some x → is_copied_at flags k ≡ false →
      slice_get f.universals k ≡ Some x
  place_of_rest k x at_k none = search (arith, declared_cases, true≢false, flag_past)

  value_of_rest : (row values : List Bool) → ((k : ℕ) → is_copied_at flags k ≡ false → bit_of row k ≡ bit_of others k) →
      (k x : ℕ) → slice_get f.universals k ≡ Some x → is_copied_at flags k ≡ false →
      round_assignment f row values x ≡ bit_of others k
  value_of_rest row values rest k x at_k none =
      universal_value f row values x (k, slice_get_within f.universals k x at_k, get_or_from_slice_get f.universals k x x at_k)
      ∙ bit_at f.universals row k x (universals_apart f lawful.prefix) at_k ∙ rest k none

  pub agree_everywhere : (set : ℕ → Type 0) → AreCopiedPlaces (declared f) set flags places → (x : ℕ) → set x →
      round_assignment f pair.row1 pair.values1 x ≡ round_assignment f pair.row2 pair.values2 x
  agree_everywhere set are x is = search (arith, place_of_rest, value_of_rest)

  signed_true : (m : Assignment) (l : Literal) → m (variable_of l) ≡ not (is_negative l) → literal_true m l ≡ true
  signed_true m (positive w) is = is
  signed_true m (negative w) is = ap not is

  -- what was left out of the conditions is true by these bits
  module _ (whole : List Literal) (kept_are : conditions ≡ filter (λ l. has_copies f flags (variable_of l)) whole)
      (meets : MeetsLiterals f whole (length whole) others) where
    meets_all : (row values : List Bool) →
        ((k : ℕ) → is_copied_at flags k ≡ false → bit_of row k ≡ bit_of others k) →
        All (λ l. literal_true (round_assignment f row values) l ≡ true) conditions →
        All (λ l. literal_true (round_assignment f row values) l ≡ true) whole
    meets_all row values rest kept j d lt =
        let m = round_assignment f row values in
        let l = get_or whole j d in
        elim (cases_Bool (has_copies f flags (variable_of l))) [
          | inl has ↦ All-contains (λ k. literal_true m k ≡ true) conditions l kept
              (subst (λ ls. Contains ls l) (sym kept_are)
              (in_filter (λ k. has_copies f flags (variable_of k)) whole l (Contains-get_or whole j d lt) has))
          | inr none ↦ search (arith, has_no_copies, signed_true, value_of_rest, slice_get-get_or)
        ]

    pub first_meets_all : All (λ l. literal_true (round_assignment f pair.row1 pair.values1) l ≡ true) conditions →
        All (λ l. literal_true (round_assignment f pair.row1 pair.values1) l ≡ true) whole
    first_meets_all = meets_all pair.row1 pair.values1 at.first_rest

    pub second_meets_all : All (λ l. literal_true (round_assignment f pair.row2 pair.values2) l ≡ true) conditions →
        All (λ l. literal_true (round_assignment f pair.row2 pair.values2) l ≡ true) whole
    second_meets_all = meets_all pair.row2 pair.values2 at.second_rest

module _ (f : Dqbf) (flags others : List Bool) (places : List ℕ) (v : ℕ) (conditions : List Literal) (pair : Pair)
    (at : IsPairAt f flags others places v conditions pair) where
  abbrev m1 : Assignment
  m1 = round_assignment f pair.row1 pair.values1

  abbrev m2 : Assignment
  m2 = round_assignment f pair.row2 pair.values2

  first_parts : All (λ l. literal_true m1 l ≡ true) conditions × All (λ l. literal_true m1 l ≡ true) (positive v ∷ [])
  first_parts = all_parts (λ l. literal_true m1 l ≡ true) conditions (positive v ∷ []) at.first_true

  second_parts : All (λ l. literal_true m2 l ≡ true) conditions × All (λ l. literal_true m2 l ≡ true) (negative v ∷ [])
  second_parts = all_parts (λ l. literal_true m2 l ≡ true) conditions (negative v ∷ []) at.second_true

  pub true_there : m1 v ≡ true
  true_there = All-head (λ l. literal_true m1 l ≡ true) (positive v) [] first_parts.1

  pub false_there : m2 v ≡ false
  false_there = not_true (m2 v) (All-head (λ l. literal_true m2 l ≡ true) (negative v) [] second_parts.1)

pub is_free : (f : Dqbf) → IsLawful f → (flags others : List Bool) (ranks : List ℕ) (v : ℕ) (y : Existential)
    (places : List ℕ) (pair : Pair) → length flags ≡ length f.universals →
    existential_of f v ≡ Some y → AreCopiedPlaces (declared f) (MayRead f ranks y) flags places →
    IsPairAt f flags others places v [] pair → IsFreePair f ranks y pair
is_free f lawful flags others ranks v y places pair as_many found are at = record {
  first = at.first;
  second = at.second;
  agree = agree_everywhere f lawful flags others places v [] pair at as_many (MayRead f ranks y) are;
  is_true = ap (round_assignment f pair.row1 pair.values1) (found_variable f v y found)
      ∙ true_there f flags others places v [] pair at;
  is_false = ap (round_assignment f pair.row2 pair.values2) (found_variable f v y found)
      ∙ false_there f flags others places v [] pair at;
}

module _ (f : Dqbf) (lawful : IsLawful f) (flags others : List Bool) (graph : AigGraph) (v : ℕ) (y : Existential)
    (places : List ℕ) (whole conditions : List Literal) (as_many : length flags ≡ length f.universals)
    (found : existential_of f v ≡ Some y) (are : AreCopiedPlaces f.universals (Contains y.sees) flags places)
    (kept_are : conditions ≡ filter (λ l. has_copies f flags (variable_of l)) whole)
    (meets : MeetsLiterals f whole (length whole) others) where
  fewer : (m : Assignment) → All (λ l. literal_true m l ≡ true) whole → All (λ l. literal_true m l ≡ true) conditions
  fewer m all = subst (All (λ l. literal_true m l ≡ true)) (sym kept_are) (λ k d lt.
      let kept = filter (λ l. has_copies f flags (variable_of l)) whole in
      All-contains (λ l. literal_true m l ≡ true) whole (get_or kept k d) all
      (of_filter (λ l. has_copies f flags (variable_of l)) whole (get_or kept k d) (Contains-get_or kept k d lt)).0)

  -- conditions or none, over what the existential sees
  conditional_definition : (node : Node) → IsDefinitionAt f places v conditions graph node →
      IsConditionalDefinition f graph y whole node
  conditional_definition node at = record {
    is_node = at.is_node;
    reads = All-map (Contains y.sees) (slice_index f.universals) (node_support graph node) (λ k d lt.
        let i = get_or (node_support graph node) k d in
        let r = are.sound i (at.reads i (Contains-get_or (node_support graph node) k d lt)) in
        subst (Contains y.sees) (sym (get_or_from_slice_get f.universals i r.0 0 r.1)) r.2);
    defines = λ m holds_there meets_whole.
        ap m (found_variable f v y found) ∙ at.defines m holds_there (fewer m meets_whole)
        ∙ node_same (λ i. m (input_variable f i)) (λ i. m (slice_index f.universals i)) graph node (λ k d lt.
        let i = get_or (node_support graph node) k d in
        ap m (same_variable i (at.reads i (Contains-get_or (node_support graph node) k d lt))));
  }
    where
      same_variable : (i : ℕ) → Contains places i → input_variable f i ≡ slice_index f.universals i
      same_variable i among =
          let r = are.sound i among in
          get_or_from_slice_get (declared f) i r.0 0 (kept_there f.universals (existential_variables f) i r.0 r.1) ∙ sym
          (get_or_from_slice_get f.universals i r.0 0 r.1)

  conditional_pair : (pair : Pair) → IsPairAt f flags others places v conditions pair →
      IsConditionalPair f y whole pair
  conditional_pair pair at = record {
    first = at.first;
    second = at.second;
    agree = agree_everywhere f lawful flags others places v conditions pair at as_many (Contains y.sees)
        (declared_copies f (Contains y.sees) flags places are);
    first_meets = first_meets_all f lawful flags others places v conditions pair at as_many whole kept_are meets
        (first_parts f flags others places v conditions pair at).0;
    second_meets = second_meets_all f lawful flags others places v conditions pair at as_many whole kept_are meets
        (second_parts f flags others places v conditions pair at).0;
    is_true = ap (round_assignment f pair.row1 pair.values1) (found_variable f v y found)
        ∙ true_there f flags others places v conditions pair at;
    is_false = ap (round_assignment f pair.row2 pair.values2) (found_variable f v y found)
        ∙ false_there f flags others places v conditions pair at;
  }

  pub is_guess : (guess : Guess) → IsAnswerAt f flags others places v conditions graph guess →
      IsGuess f graph y whole guess
  is_guess (NodeFound node) at = conditional_definition node at
  is_guess (PairFound pair) at = conditional_pair pair at
