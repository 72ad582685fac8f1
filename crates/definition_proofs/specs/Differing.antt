-- Clauses by which the first copy of an existential and an output over first copies differ, for
-- private contracts.
use Rattle.std.specs.Prelude.{◌≡◌, ◌⊎◌, ℕ, Bool, true, false, List, ◌∷◌, Option, None, Some}
use Rattle.std.specs.List.{Contains}
use Rattle.std.specs.Option.{option_map}
use Rattle.dq_lits.specs.Literal.{Literal, positive, negative, variable_of}
use Rattle.dq_lits.specs.Formula.{Dqbf, existential_of}
use Rattle.hint_log.specs.Entries.{Entry, Given, ProofLog, with_entry, name_of}
use Rattle.hint_log.specs.Origins.{with_sign, leaf_with_sign, leaf_clause, IsTermLeaf}
use Rattle.hint_log.specs.declared.names.Name.{Name}
use Rattle.hint_log.specs.declared.names.Name.TheVariants.{Copy as CopyOf, Term}
use Rattle.hint_log.specs.declared.origins.Leaf.{Leaf}
use Rattle.hint_log.specs.declared.origins.Origin.{Origin}
use Rattle.hint_log.specs.declared.origins.Origin.TheVariants.{TermGate, Differ}
use Rattle.log_laws.specs.Engines.{IsInGroup}
use Rattle.oracle.specs.Calls.{IsMade}
use Rattle.oracle.specs.declared.groups.Group.{Group}
use Rattle.definability.specs.Copies.{group_variable}
use Rattle.definability.specs.Growing.{GrewIn, HasFewFaults}
use Rattle.definition_proofs.specs.declared.differing.Difference.{Difference}

abbrev pub part_number : Bool → ℕ
part_number false = 1
part_number true = 2

-- the literals of the clause: the existential's copy or its negation, and the output's
abbrev pub differing : ℕ → Leaf → Bool → Option (List Literal)
differing copy leaf second =
    option_map (λ tail. with_sign second copy ∷ tail) (leaf_clause (leaf_with_sign second leaf))

-- a clause is given to a group, where there is one
abbrev pub IsPut : ProofLog → ProofLog → Origin → ℕ → Option (List Literal) → Type 0
IsPut old new origin group None = new ≡ old
IsPut old new origin group (Some rest) =
    new ≡ with_entry old (Given origin (negative group ∷ rest))

abbrev pub IsDifferenceOf : ℕ → Leaf → Origin → Type 0
IsDifferenceOf y leaf (Differ x out part) = (x ≡ y) × (out ≡ leaf)
IsDifferenceOf y leaf _ = ⊥

-- an existential's first copy, and an output over first copies
pub record IsDifference (entries : List Entry) (d : Difference) : Type 0 where
  pub positive_copy : d.copy ≡ positive (variable_of d.copy)
  pub copy_is : name_of entries (variable_of d.copy) ≡ Some (CopyOf 1 d.existential)
  pub leaf_is : IsTermLeaf entries d.output

abbrev pub IsExistential : Dqbf → ℕ → Type 0
IsExistential f y = existential_of f y ≡ None → ⊥

-- no clause of this kind was given for the existential
abbrev pub AreUndiffered : ℕ → List Entry → Type 0
AreUndiffered y entries =
    (leaf : Leaf) (part : ℕ) (c : List Literal) → Contains entries (Given (Differ y leaf part) c)
    → ⊥

-- both clauses stand in the group, where they are clauses
abbrev pub HasDifference : List Entry → ℕ → Difference → Type 0
HasDifference entries group d =
    (second : Bool) (rest : List Literal)
    → differing (variable_of d.copy) d.output second ≡ Some rest
    → Contains entries
    (Given (Differ d.existential d.output (part_number second)) (negative group ∷ rest))

-- the group has no clauses of other origins
abbrev pub HasDifferenceAlone : List Entry → ℕ → Difference → Type 0
HasDifferenceAlone entries group d =
    (origin : Origin) (rest : List Literal)
    → Contains entries (Given origin (negative group ∷ rest))
    → IsDifferenceOf d.existential d.output origin

-- what leaves the gates over first copies in a group as they stand
pub record LeavesTerms (group : ℕ) (old new : List Entry) : Type 0 where
  pub names : (v : ℕ) (n : Name) → name_of old v ≡ Some n → name_of new v ≡ Some n
  pub terms : (v : ℕ) (a b : Literal) → name_of new v ≡ Some (Term a b)
      → name_of old v ≡ Some (Term a b)
  pub copies : (v x : ℕ) → name_of new v ≡ Some (CopyOf 1 x) → name_of old v ≡ Some (CopyOf 1 x)
  pub entries : (e : Entry) → Contains old e → Contains new e
  pub gates : (v i : ℕ) (c : List Literal) → Contains new (Given (TermGate v i) c)
      → Contains old (Given (TermGate v i) c)
  pub in_group : (origin : Origin) (rest : List Literal)
      → Contains new (Given origin (negative group ∷ rest))
      → Contains old (Given origin (negative group ∷ rest))

-- clauses of the existential's difference were given to a group, and nothing else
pub record AreDiffering (group : ℕ) (d : Difference) (old new : ProofLog) : Type 0 where
  pub grew : (f : Dqbf) → IsExistential f d.existential → GrewIn f group old new
  pub names : (v : ℕ) → name_of new.entries v ≡ name_of old.entries v
  pub entries : (e : Entry) → Contains old.entries e → Contains new.entries e
  pub givens : (origin : Origin) (c : List Literal) → Contains new.entries (Given origin c)
      → Contains old.entries (Given origin c)
      ⊎ (IsDifferenceOf d.existential d.output origin × IsInGroup group c)
  pub few : HasFewFaults new.entries

-- a new group has these clauses alone, and gates over first copies in other groups stand
pub record IsDifferenceGiven (d : Difference) (old new : ProofLog) (g : Group) : Type 0 where
  pub made : IsMade new.entries g
  pub given : HasDifference new.entries (group_variable g) d
  pub alone : HasDifferenceAlone new.entries (group_variable g) d
  pub leaves : (group : ℕ) (n : Name) → name_of old.entries group ≡ Some n
      → LeavesTerms group old.entries new.entries
