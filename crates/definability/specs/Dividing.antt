-- What is asked of two copies at once, and what an answer rests on that shows a definition, for
-- private contracts: clauses of the first copy on one side, and of the second copy and of equations
-- on the other.
use Rattle.std.specs.Prelude.{◌≡◌, ◌≢◌, ◌⊎◌, ◌<◌, ℕ, Bool, true, false, List, [], ◌∷◌, ◌++◌, map, length, Some, IsSome, slice_get, slice_index_or}
use Rattle.std.specs.List.{All, Contains}
use Rattle.dq_lits.specs.Literal.{Assignment, Literal, positive, negative, variable_of, is_negative, literal_true}
use Rattle.dq_lits.specs.Derivation.{holds, is_tautology}
use Rattle.dq_lits.specs.Formula.{Dqbf, declared}
use Rattle.dq_lits.specs.Henkin.{MatrixHolds}
use Rattle.dq_lits.specs.Row.{bit_of}
use Rattle.defining_nodes.specs.Definitions.{input_variable}
use Rattle.hint_log.specs.Conditions.{IsId}
use Rattle.hint_log.specs.Entries.{Entry, clause_at, name_of}
use Rattle.hint_log.specs.Growth.{Each}
use Rattle.hint_log.specs.Naming.{named_literal, name_literal, AreNamedAs, round_assignment}
use Rattle.hint_log.specs.Origins.{link_names}
use Rattle.hint_log.specs.ProductiveLog.{IsDerivedByHints}
use Rattle.hint_log.specs.declared.names.Name.TheVariants.{Selector, Copy as CopyOf}
use Rattle.aig_graph.specs.Graph.{AigGraph, IsNode, node_value, node_support}
use Rattle.aig_graph.specs.declared.nodes.Node.{Node}
use Rattle.aig_graph.specs.declared.nodes.Node.TheVariants.{Input}
use Rattle.interpolants.specs.Interpolant.{Partition, partition, node_of, is_on_a, IsReachedGiven, IsOther}
use Rattle.oracle.specs.Calls.{IsModelUnder, assumed}
use Rattle.oracle.specs.declared.groups.Group.{Group}
use Rattle.definability.specs.Copies.{copies_of, copy_names, is_copied_at, IsCopied, IsCopyGiven}
use Rattle.definability.specs.Defining.{IsSample}
use Rattle.definability.specs.declared.defining.Pair.{Pair}
use Rattle.definability.specs.declared.guessing.Guess.{Guess}
use Rattle.definability.specs.declared.guessing.Guess.TheVariants.{Node as NodeFound, Pair as PairFound}
use Rattle.definability.specs.declared.definability.Definability.{Definability}
use Rattle.definability.specs.declared.asking.Asked.{Asked}

-- what may be asked of a variable, where the copies agree at these places: conditions that agree
-- with one another and say nothing of it; all these variables have copies
pub record IsQuestion (f : Dqbf) (flags : List Bool) (places : List ℕ) (v : ℕ)
    (conditions : List Literal) : Type 0 where
  pub places_within : All (λ k. k < length (declared f)) places
  pub places_copied : All (λ k. is_copied_at flags k ≡ true) places
  pub is_declared : Contains (declared f) v
  pub is_copied : IsCopied f flags v
  pub are_declared : All (λ l. Contains (declared f) (variable_of l)) conditions
  pub are_copied : All (λ l. IsCopied f flags (variable_of l)) conditions
  pub consistent : is_tautology conditions ≡ false
  pub others : All (λ l. variable_of l ≢ v) conditions

-- the conditions, and a literal of the variable
abbrev pub asked_of : List Literal → Literal → List Literal
asked_of conditions l = conditions ++ l ∷ []

-- the copies of what is asked: the conditions in both, the variable true in the first and false in
-- the second
pub record IsAsked (entries : List Entry) (v : ℕ) (conditions : List Literal)
    (asked : Asked) : Type 0 where
  pub first : AreNamedAs entries asked.first.items (copy_names 1 (asked_of conditions (positive v)))
  pub second : AreNamedAs entries asked.second.items
      (copy_names 2 (asked_of conditions (negative v)))

-- a variable that stands at one of the places
abbrev pub IsRead : Dqbf → List ℕ → ℕ → Type 0
IsRead f places x = (k : ℕ) × (slice_get (declared f) k ≡ Some x) × Contains places k

-- one half of an equation between the two copies of a variable that stands at one of the places, in
-- a group
pub record IsLinkGiven (entries : List Entry) (f : Dqbf) (places : List ℕ)
    (clause : List Literal) : Type 0 where
  pub group : ℕ
  pub rest : List Literal
  pub variable : ℕ
  pub part : ℕ
  pub is_group : name_of entries group ≡ Some (Selector group)
  pub clause_is : clause ≡ negative group ∷ rest
  pub read : IsRead f places variable
  pub which : (part ≡ 1) ⊎ (part ≡ 2)
  pub named : AreNamedAs entries rest (link_names variable part)

abbrev pub IsSelectorLiteral : List Entry → Literal → Type 0
IsSelectorLiteral entries l = (g : ℕ) × (l ≡ positive g) × (name_of entries g ≡ Some (Selector g))

-- a copy of one of these literals
pub record IsCopyLiteral (entries : List Entry) (side : ℕ) (literals : List Literal)
    (l : Literal) : Type 0 where
  pub original : Literal
  pub among : holds literals original ≡ true
  pub named : name_literal entries l
      ≡ Some (named_literal (CopyOf side (variable_of original)) (is_negative original))

-- the variable is true in the first copy and false in the second, and the conditions are true in
-- both
pub record Divides (f : Dqbf) (places : List ℕ) (v : ℕ) (conditions : List Literal)
    (q : Partition) : Type 0 where
  pub a_given : (at : ℕ) (clause : List Literal) → IsReachedGiven q at clause
      → is_on_a q clause ≡ true → IsCopyGiven q.entries f 1 clause
  pub b_given : (at : ℕ) (clause : List Literal) → IsReachedGiven q at clause
      → is_on_a q clause ≡ false
      → IsCopyGiven q.entries f 2 clause ⊎ IsLinkGiven q.entries f places clause
  pub assumed : (l : Literal) → holds q.a_side l ≡ true
      → IsSelectorLiteral q.entries l
      ⊎ IsCopyLiteral q.entries 1 (asked_of conditions (positive v)) l
  pub others : (l : Literal) → IsOther q l
      → IsSelectorLiteral q.entries l
      ⊎ IsCopyLiteral q.entries 2 (asked_of conditions (negative v)) l

-- a shared variable is the first copy of one that stands at one of the places, and its node that
-- input
pub record IsSharedCopy (f : Dqbf) (places : List ℕ) (entries : List Entry) (graph : AigGraph)
    (v : ℕ) (n : Node) : Type 0 where
  pub place : ℕ
  pub named : name_of entries v ≡ Some (CopyOf 1 (input_variable f place))
  pub value : (inputs : ℕ → Bool) → node_value graph inputs n ≡ inputs place
  pub support : (i : ℕ) → Contains (node_support graph n) i → i ≡ place
  pub read : Contains places place

pub record AreSharedCopies (f : Dqbf) (places : List ℕ) (entries : List Entry) (graph : AigGraph)
    (shared : List (ℕ × Node)) : Type 0 where
  pub are : (v : ℕ) (n : Node) → node_of shared v ≡ Some n
      → IsSharedCopy f places entries graph v n
  pub all : (v x : ℕ) → name_of entries v ≡ Some (CopyOf 1 x) → IsRead f places x
      → IsSome (node_of shared v)

-- the answer shows that the variable has a definition under the conditions
pub record ShowsDefinition (f : Dqbf) (places : List ℕ) (v : ℕ) (conditions : List Literal)
    (p : Definability) (first : List Literal) (entries : List Entry) (id : ℕ) : Type 0 where
  pub is_id : IsId entries id
  pub derived : Each IsDerivedByHints entries
  pub divides : (shared : List (ℕ × Node))
      → Divides f places v conditions
      (partition entries id (assumed p.first.groups.items first) shared)

-- the groups that are to be active: those of both copies, and of the equations at some places
pub record AreActive (p : Definability) (places : List ℕ) (active : List Group) : Type 0 where
  pub links : List Group
  pub active_is : active ≡ p.first.groups.items ++ (p.second.groups.items ++ links)
  pub sound : (g : Group) → Contains links g
      → (k : ℕ) × Contains places k × (slice_get p.links.items k ≡ Some g)
  pub complete : (k : ℕ) (g : Group) → Contains places k → slice_get p.links.items k ≡ Some g
      → Contains links g

-- the values of these literals' variables
abbrev pub values_at : Assignment → List Literal → List Bool
values_at values lits = map (λ l. values (variable_of l)) lits

-- a row has the values of these literals' variables where these are copies, and else the bits of
-- another row
pub record AreBits (values : Assignment) (flags others : List Bool) (lits : List Literal)
    (row : List Bool) : Type 0 where
  pub long : length row ≡ length lits
  pub copied : (k : ℕ) (l : Literal) → is_copied_at flags k ≡ true → slice_get lits k ≡ Some l
      → bit_of row k ≡ values (variable_of l)
  pub rest : (k : ℕ) → is_copied_at flags k ≡ false → bit_of row k ≡ bit_of others k

-- those of these literals that are copies are told of
abbrev pub AreTold : (ℕ → Type 0) → List Bool → List Literal → Type 0
AreTold told flags lits =
    (k : ℕ) (l : Literal) → is_copied_at flags k ≡ true → slice_get lits k ≡ Some l
    → told (variable_of l)

-- the values of both copies, with these bits of the universals that have none
pub record IsPairOf (p : Definability) (others : List Bool) (values : Assignment)
    (pair : Pair) : Type 0 where
  pub row1 : AreBits values p.copied.items others p.first.universals.items pair.row1
  pub values1 : pair.values1 ≡ values_at values p.first.existentials.items
  pub row2 : AreBits values p.copied.items others p.second.universals.items pair.row2
  pub values2 : pair.values2 ≡ values_at values p.second.existentials.items

-- the values make the copies true, and the equations at some places, and these literals
pub record ModelsCopies (p : Definability) (places : List ℕ) (asked : List Literal) (values : Assignment)
    (entries : List Entry) : Type 0 where
  pub active : List Group
  pub are_active : AreActive p places active
  pub model : IsModelUnder values (clause_at entries) (assumed active asked)

-- the first copies of the variables at these places, with their inputs
abbrev pub shared_pairs : Definability → List ℕ → List (ℕ × Node)
shared_pairs p places =
    map (λ k. (variable_of (slice_index_or (copies_of p.first) k (positive 0)), Input k false))
    places

-- the node reads inputs at the places alone, and wherever the matrix and the conditions are true,
-- the variable has its value
pub record IsDefinitionAt (f : Dqbf) (places : List ℕ) (v : ℕ) (conditions : List Literal)
    (graph : AigGraph) (node : Node) : Type 0 where
  pub is_node : IsNode graph node
  pub reads : (i : ℕ) → Contains (node_support graph node) i → Contains places i
  pub defines : (m : Assignment) → MatrixHolds f m → All (λ l. literal_true m l ≡ true) conditions
      → m v ≡ node_value graph (λ i. m (input_variable f i)) node

-- two samples that agree at the places, in which the conditions are true, and the variable is true
-- and false; universals without copies have these bits in both
pub record IsPairAt (f : Dqbf) (flags others : List Bool) (places : List ℕ) (v : ℕ)
    (conditions : List Literal) (pair : Pair) : Type 0 where
  pub first : IsSample f pair.row1 pair.values1
  pub second : IsSample f pair.row2 pair.values2
  pub agree : (x : ℕ) → IsRead f places x
      → round_assignment f pair.row1 pair.values1 x ≡ round_assignment f pair.row2 pair.values2 x
  pub first_true : All (λ l. literal_true (round_assignment f pair.row1 pair.values1) l ≡ true)
      (asked_of conditions (positive v))
  pub second_true : All (λ l. literal_true (round_assignment f pair.row2 pair.values2) l ≡ true)
      (asked_of conditions (negative v))
  pub first_rest : (k : ℕ) → is_copied_at flags k ≡ false → bit_of pair.row1 k ≡ bit_of others k
  pub second_rest : (k : ℕ) → is_copied_at flags k ≡ false → bit_of pair.row2 k ≡ bit_of others k

-- what is found for the question is right
abbrev pub IsAnswerAt : Dqbf → List Bool → List Bool → List ℕ → ℕ → List Literal → AigGraph → Guess
    → Type 0
IsAnswerAt f flags others places v conditions graph (NodeFound node) =
    IsDefinitionAt f places v conditions graph node
IsAnswerAt f flags others places v conditions graph (PairFound pair) =
    IsPairAt f flags others places v conditions pair
