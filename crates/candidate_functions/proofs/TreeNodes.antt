-- Nodes over what an existential sees.
use Rattle.std.proofs.Common.{◌≡◌, ℕ, ◌+◌, ◌-◌, ◌<◌, ◌≤◌, Bool, false, List, [], ◌∷◌, ◌++◌, length, get_or, set, slice_get, slice_index, Option, None, Some, sym, ◌∙◌, ap, subst, inl, inr, arith}
use Rattle.std.specs.List.{All, Contains}
use Rattle.std.proofs.lemmas.Bool.{cases_lt}
use Rattle.std.proofs.lemmas.List.{get_or_past, get_or-map, length-map, length-set, length_push, get_or_push}
use Rattle.std.proofs.Math.ListN.{get_or-append}
use Rattle.std.proofs.lemmas.List.Elements.{All-set, All-contains}
use Rattle.std.proofs.lemmas.Option.{slice_get_within, slice_get_cases}
use Rattle.list_laws.proofs.Members.{mapped_from, element_at, only_one}
use Rattle.dq_lits.specs.Formula.{Existential, Dqbf, existential_of}
use Rattle.dq_formula.specs.Prefix.{IsLawful}
use Rattle.dq_formula.proofs.Places.{place, has-contains}
use Rattle.dq_formula.proofs.Sorted.{get_or-place, place-below}
use Rattle.aig_graph.specs.Graph.{AigGraph, IsNode, node_support}
use Rattle.aig_graph.specs.Made.{Extends, IsChosen}
use Rattle.aig_graph.specs.declared.nodes.Node.{Node}
use Rattle.aig_graph.specs.declared.nodes.Node.TheVariants.{Constant, Input}
use Rattle.aig_graph.proofs.LargerGraphs.{grown_twice}
use Rattle.definition_order.proofs.Declared.{existential_at, sees_universals}
use Rattle.candidate_functions.specs.Candidates.{definition_of, IsGuess, AreGuesses}
use Rattle.candidate_functions.specs.Pairs.{universal_places, IsByRules, AreByRules}
use Rattle.candidate_functions.specs.Trees.{IsOver}
use Rattle.candidate_functions.proofs.DeclaredPlaces.{all_mapped}
use Rattle.candidate_functions.proofs.LargerGraphs.{rule_node_stays}
use Rattle.list_laws.proofs.Options.{none_is_some}

pub over_stays : (old new : AigGraph) → Extends old new → (places : List ℕ) (n : Node) → IsOver old places n →
    IsOver new places n
over_stays old new h places n is = search arith

pub constant_over : (g : AigGraph) (places : List ℕ) (b : Bool) → IsOver g places (Constant b)
constant_over g places b = search arith

pub all_over_stay : (old new : AigGraph) → Extends old new → (places : List ℕ) (nodes : List Node) →
    All (IsOver old places) nodes → All (IsOver new places) nodes
all_over_stay old new h places nodes are k d lt = over_stays old new h places (get_or nodes k d) (are k d lt)

pub at_over : (g : AigGraph) (places : List ℕ) (nodes : List Node) → All (IsOver g places) nodes → (k : ℕ) →
    IsOver g places (get_or nodes k (Constant false))
at_over g places nodes are k = search (arith, cases_lt, get_or_past, constant_over)

-- where a universal that is seen stands
pub place_among : (f : Dqbf) (seen : List ℕ) (x p : ℕ) → Contains seen x → p ≡ place f.universals x →
    Contains (universal_places f seen) p
place_among f seen x p (k, below, at) is = (
  k,
  rw (length-map seen (place f.universals)) below,
  get_or-map (place f.universals) seen k x p below ∙ ap
      (place f.universals) at ∙ sym is,
)

pub place_within : (f : Dqbf) (seen : List ℕ) (x p : ℕ) → All (Contains f.universals) seen → Contains seen x →
    p ≡ place f.universals x → p < length f.universals
place_within f seen x p all among is = subst (λ q. q < length f.universals) (sym is)
    (place-below f.universals x (has-contains f.universals x (All-contains (Contains f.universals) seen x all among)))

pub chosen_over : (old new : AigGraph) (places : List ℕ) (p : ℕ) (t e n : Node) → Contains places p →
    IsOver old places t → IsOver old places e
    → IsChosen old new (Input p false) t e n → IsOver new places n
chosen_over old new places p t e n among over other chosen = record {
  is_node = chosen.is_node;
  reads = λ i has. elim (chosen.reads i has) [
    | inl c ↦ subst (Contains places) (only_one p i c) among
    | inr rest ↦ search arith
  ];
}

-- how far a walk from the last branch to the first has come
pub record TreeSoFar (old new : AigGraph) (places : List ℕ) (at : ℕ) (nodes : List Node) : Type 0 where
  pub grown : Extends old new
  pub within : at ≤ length nodes
  pub over : All (IsOver new places) nodes

put_over : (g : AigGraph) (places : List ℕ) (nodes : List Node) (p : ℕ) (n : Node) → All (IsOver g places) nodes →
    IsOver g places n → All (IsOver g places) (set nodes p n)
put_over g places nodes p n are is = All-set (IsOver g places) nodes p n is are

pub tree_more : (old mid new : AigGraph) (places : List ℕ) (at : ℕ) (nodes : List Node) (n : Node) → 0 < at →
    TreeSoFar old mid places at nodes → Extends mid new → IsOver new places n
    → TreeSoFar old new places (at - 1) (set nodes (at - 1) n)
tree_more old mid new places at nodes n some far grown is =
    search (
      arith,
      (grown_twice old mid new far.grown grown),
      (length-set nodes (at - 1) n),
      (put_over new places nodes (at - 1) n (all_over_stay mid new grown places nodes far.over) is),
      (all_over_stay mid new grown places nodes far.over),
    )

-- without rules nothing is said of its values
pub unruled : (f : Dqbf) → IsLawful f → (v : ℕ) (y : Existential) → existential_of f v ≡ Some y →
    (g : AigGraph) (places : List ℕ) → places ≡ universal_places f y.sees
    → (n : Node) → IsOver g places n → IsByRules f g [] y n
unruled f lawful v y found g places are n is = record {
  is_node = is.is_node;
  value = λ m bit first. absurd (none_is_some first);
  reads = all_mapped (Contains y.sees) (slice_index f.universals) (node_support g n) (λ i has.
      let from = mapped_from (place f.universals) y.sees i (subst (λ ps. Contains ps i) are (is.reads i has)) in
      let x = from.0 in
      let among = All-contains (Contains f.universals) y.sees x (sees_universals f lawful v y found) from.1 in
      let there : get_or f.universals i 0 ≡ x = ap (λ q. get_or f.universals q 0) (sym from.2)
      ∙ get_or-place f.universals x 0 (has-contains f.universals x among) in
      subst (Contains y.sees) (sym there) from.1);
}

-- a guess that is given at a place
pub guess_there : (f : Dqbf) → IsLawful f → (g : AigGraph) (guesses : List (Option Node)) (p : ℕ) (y : Existential)
    (n : Node) → AreGuesses f g guesses → slice_get f.existentials p ≡ Some y
    → get_or guesses p None ≡ Some n → IsByRules f g [] y n
guess_there f lawful g guesses p y n are at is = record {
  is_node = guess.is_node;
  value = λ m bit first. absurd (none_is_some first);
  reads = guess.reads;
} where
  guess : IsGuess f g y n
  guess = All-contains (λ z. (m : Node) → definition_of f guesses z ≡ Some m → IsGuess f g z m) f.existentials y are
      (element_at f.existentials p y at) n
      (ap (λ k. get_or guesses k None) (existential_at f lawful.prefix p y at) ∙ is)

-- the guess of an existential is a node
pub guess_is_node : (f : Dqbf) → IsLawful f → (g : AigGraph) (guesses : List (Option Node)) (p : ℕ) (n : Node) →
    AreGuesses f g guesses → p < length f.existentials → get_or guesses p None ≡ Some n → IsNode g n
guess_is_node f lawful g guesses p n are below is =
    search (arith, (slice_get_cases f.existentials p), (guess_there f lawful g guesses p))

-- the nodes of the first existentials
pub record NodesSoFar (f : Dqbf) (old new : AigGraph) (count : ℕ) (nodes : List Node) : Type 0 where
  pub grown : Extends old new
  pub one_each : length nodes ≡ count
  pub each : (p : ℕ) (y : Existential) → p < count → slice_get f.existentials p ≡ Some y →
      IsByRules f new [] y (get_or nodes p (Constant false))

pub node_more : (f : Dqbf) (old mid new : AigGraph) (count : ℕ) (nodes : List Node) (n : Node) →
    NodesSoFar f old mid count nodes → Extends mid new
    → ((y : Existential) → slice_get f.existentials count ≡ Some y → IsByRules f new [] y n) →
    NodesSoFar f old new (count + 1) (nodes ++ n ∷ [])
node_more f old mid new count nodes n far grown is = record {
  grown = grown_twice old mid new far.grown grown;
  one_each = length_push nodes n ∙ ap (λ k. k + 1) far.one_each;
  each = λ p y below at. elim (cases_lt p count) [
    | inl early ↦ search (arith, get_or-append, rule_node_stays, far.one_each, far.each)
    | inr late ↦ search (arith, get_or_push)
  ];
}

pub all_nodes : (f : Dqbf) (old new : AigGraph) (count : ℕ) (nodes : List Node) → count ≡ length f.existentials →
    NodesSoFar f old new count nodes → AreByRules f new [] nodes
all_nodes f old new count nodes all far = record {
  one_each = far.one_each ∙ all;
  each = λ p y at. far.each p y (let w = slice_get_within f.existentials p y at in omega (arith, w, all)) at;
}
