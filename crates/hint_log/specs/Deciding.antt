-- Which answers decide a formula, and that learned clauses and answers keep the selectors that they
-- rest on.
use Rattle.std.specs.Prelude.{◌≡◌, ℕ, true, List, ◌∷◌, Some}
use Rattle.std.specs.List.{All, Contains}
use Rattle.std.specs.Option.{option_map}
use Rattle.dq_lits.specs.Literal.{Literal, negative, variable_of}
use Rattle.dq_lits.specs.Formula.{Dqbf, Existential}
use Rattle.dq_lits.specs.Derivation.{holds}
use Rattle.hint_log.specs.Entries.{has_id, numbered, name_of, Entry, Given, Learned, Answer}
use Rattle.hint_log.specs.Reached.{Reaches}
use Rattle.hint_log.specs.declared.names.Name.TheVariants.{Selector, Input, And}
use Rattle.hint_log.specs.declared.origins.Leaf.{Leaf}
use Rattle.hint_log.specs.declared.origins.Leaf.TheVariants.{Constant, Literal as LeafLiteral}
use Rattle.hint_log.specs.declared.origins.Origin.{Origin}
use Rattle.hint_log.specs.declared.origins.Origin.TheVariants.{Instance, Gate, Fault}
use Rattle.hint_log.specs.Growth.{Each}
use Rattle.hint_log.specs.Origins.{matrix_literal}

-- an id that hints reach
pub record ReachesGiven (earlier : List Entry) (hints : List ℕ) (origin : Origin)
    (clause : List Literal) : Type 0 where
  pub hint : ℕ
  pub id : ℕ
  pub hinted : Contains hints hint
  pub reached : Reaches earlier hint id
  pub is_given : numbered has_id earlier id ≡ Some (Given origin clause)

-- the clause holds the negated selector of each given clause that it rests on
abbrev pub HoldsSelectors : List Entry → List Literal → List ℕ → Type 0
HoldsSelectors earlier clause hints =
    (origin : Origin) (group : ℕ) (rest : List Literal)
    → ReachesGiven earlier hints origin (negative group ∷ rest)
    → holds clause (negative group) ≡ true

abbrev pub HoldsReachedSelectors : List Entry → Entry → Type 0
HoldsReachedSelectors earlier (Learned clause hints) = HoldsSelectors earlier clause hints
HoldsReachedSelectors earlier (Answer clause hints) = HoldsSelectors earlier clause hints
HoldsReachedSelectors earlier _ = Unit {0}

abbrev pub KeepsSelectors : List Entry → Type 0
KeepsSelectors entries = Each HoldsReachedSelectors entries

-- negated selectors alone
abbrev pub AreNegatedSelectors : List Entry → List Literal → Type 0
AreNegatedSelectors earlier clause =
    All (λ l. (l ≡ negative (variable_of l))
    × (name_of earlier (variable_of l) ≡ Some (Selector (variable_of l)))) clause

-- the inputs that a literal of a circuit reaches through gates
pub data ReadsInput (entries : List Entry) : Literal → ℕ → Type 0 where
  itself : (l : Literal) (x : ℕ) → name_of entries (variable_of l) ≡ Some (Input x)
      → ReadsInput entries l x
  left : (l a b : Literal) (x : ℕ) → name_of entries (variable_of l) ≡ Some (And a b)
      → ReadsInput entries a x → ReadsInput entries l x
  right : (l a b : Literal) (x : ℕ) → name_of entries (variable_of l) ≡ Some (And a b)
      → ReadsInput entries b x → ReadsInput entries l x

abbrev pub LeafReads : List Entry → Leaf → ℕ → Type 0
LeafReads entries (Constant b) x = ⊥
LeafReads entries (LeafLiteral l) x = ReadsInput entries l x

abbrev pub IsInstance : Origin → Type 0
IsInstance (Instance k j) = Unit {0}
IsInstance _ = ⊥

-- a gate's clause, or one of the group's faults
abbrev pub IsCircuitGiven : ℕ → Origin → List Literal → Type 0
IsCircuitGiven group (Gate v i) clause = Unit {0}
IsCircuitGiven group (Fault j i leaf) clause =
    (rest : List Literal) × (clause ≡ negative group ∷ rest)
IsCircuitGiven group _ clause = ⊥

-- an answer that rests on instances alone shows that the formula is false
pub record DecidesFalse (earlier : List Entry) (clause : List Literal)
    (hints : List ℕ) : Type 0 where
  pub selectors : AreNegatedSelectors earlier clause
  pub instances : (origin : Origin) (c : List Literal) → ReachesGiven earlier hints origin c
      → IsInstance origin

-- an answer that rests on gates and on the faults of one group
pub record RestsOnCircuit (earlier : List Entry) (clause : List Literal)
    (hints : List ℕ) : Type 0 where
  pub selectors : AreNegatedSelectors earlier clause
  pub group : ℕ
  pub circuit : (origin : Origin) (c : List Literal) → ReachesGiven earlier hints origin c
      → IsCircuitGiven group origin c

-- the leaf of an existential in the faults that the hints reach
pub record IsFaultLeaf (f : Dqbf) (earlier : List Entry) (hints : List ℕ) (y : Existential)
    (leaf : Leaf) : Type 0 where
  pub j : ℕ
  pub i : ℕ
  pub clause : List Literal
  pub reached : ReachesGiven earlier hints (Fault j i leaf) clause
  pub own : option_map variable_of (matrix_literal f j i) ≡ Some y.variable

-- such an answer shows that the formula is true, where the existentials read only inputs that they
-- see
pub record DecidesTrue (f : Dqbf) (earlier : List Entry) (clause : List Literal)
    (hints : List ℕ) : Type 0 where
  pub rests : RestsOnCircuit earlier clause hints
  pub reads : All
      (λ y. (leaf : Leaf) → IsFaultLeaf f earlier hints y leaf → (x : ℕ) → LeafReads earlier leaf x
      → Contains y.sees x) f.existentials

abbrev pub DecidesNothing : Dqbf → List Entry → Entry → Type 0
DecidesNothing f earlier (Answer clause hints) =
    (DecidesFalse earlier clause hints → ⊥) × (DecidesTrue f earlier clause hints → ⊥)
DecidesNothing f earlier _ = Unit {0}

abbrev pub IsUndecided : Dqbf → List Entry → Type 0
IsUndecided f entries = Each (DecidesNothing f) entries
