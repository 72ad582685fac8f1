-- Two copies of the matrix in a log, and equations between the copies of each variable, all in
-- groups of their own (A. Padoa, 1900). Universals that stand in no clause need no copies.
use Rattle.std.specs.Prelude.{◌≡◌, ◌⊎◌, ◌==◌, ℕ, Bool, true, false, List, ◌∷◌, ◌++◌, map, length, set, Some, slice_get, slice_index_or}
use Rattle.std.specs.List.{All, Contains}
use Rattle.dq_lits.specs.Literal.{Literal, negative, variable_of, is_negative}
use Rattle.dq_lits.specs.Formula.{Dqbf, declared}
use Rattle.dq_formula.specs.Prefix.{existential_variables}
use Rattle.hint_log.specs.Entries.{Entry, Given, name_of}
use Rattle.hint_log.specs.Growth.{Each}
use Rattle.hint_log.specs.Naming.{NamedLiteral, named_literal, name_literal, AreNamedAs}
use Rattle.hint_log.specs.Origins.{link_names}
use Rattle.hint_log.specs.ProductiveLog.{MatchesOrigin}
use Rattle.hint_log.specs.declared.names.Name.TheVariants.{Selector, Copy as CopyOf}
use Rattle.hint_log.specs.declared.origins.Origin.{Origin}
use Rattle.hint_log.specs.declared.origins.Origin.TheVariants.{Copy, Link}
use Rattle.log_laws.specs.Engines.{IsInGroup}
use Rattle.oracle.specs.Calls.{IsMade}
use Rattle.oracle.specs.declared.groups.Group.{Group}
use Rattle.definability.specs.declared.copies.MatrixCopy.{MatrixCopy}
use Rattle.definability.specs.declared.copies.Twins.{Twins}
use Rattle.definability.specs.declared.definability.Definability.{Definability}

abbrev pub is_copy_of : ℕ → Origin → Bool
is_copy_of side (Copy s j) = s == side
is_copy_of side _ = false

abbrev pub is_link_of : ℕ → Origin → Bool
is_link_of x (Link v i) = v == x
is_link_of x _ = false

abbrev pub group_variable : Group → ℕ
group_variable g = variable_of g.selector

-- each given clause of the group has an origin that passes the test, and is its origin's
abbrev pub IsGroupGiven : Dqbf → (Origin → Bool) → ℕ → List Entry → Entry → Type 0
IsGroupGiven f test group earlier (Given origin clause) =
    IsInGroup group clause → (test origin ≡ true) × MatchesOrigin f earlier (Given origin clause)
IsGroupGiven f test group earlier _ = Unit {0}

-- a clause of the group with this origin, on variables of these names
pub record IsGivenIn (entries : List Entry) (group : ℕ) (origin : Origin)
    (names : List NamedLiteral) : Type 0 where
  pub rest : List Literal
  pub given : Contains entries (Given origin (negative group ∷ rest))
  pub named : AreNamedAs entries rest names

-- positive literals on the copies of these variables
abbrev pub AreCopiesOf : List Entry → ℕ → List ℕ → List Literal → Type 0
AreCopiesOf entries side variables copies =
    AreNamedAs entries copies (map (λ v. named_literal (CopyOf side v) false) variables)

-- both copies of a variable are named for it
abbrev pub AreTwins : List Entry → Twins → Type 0
AreTwins entries twins = (name_literal entries twins.first
    ≡ Some (named_literal (CopyOf 1 twins.variable) false))
    × (name_literal entries twins.second ≡ Some (named_literal (CopyOf 2 twins.variable) false))

-- the copies of the universals, and then those of the existentials
abbrev pub copies_of : MatrixCopy → List Literal
copies_of copy = copy.universals.items ++ copy.existentials.items

-- the copy has other places for its variables
pub record IsBlank (f : Dqbf) (old new : MatrixCopy) : Type 0 where
  pub groups : new.groups ≡ old.groups
  pub universals : length new.universals.items ≡ length f.universals
  pub existentials : length new.existentials.items ≡ length f.existentials

-- another literal stands at a place
pub record IsPut (place : ℕ) (l : Literal) (old new : MatrixCopy) : Type 0 where
  pub groups : new.groups ≡ old.groups
  pub universals : length new.universals.items ≡ length old.universals.items
  pub existentials : length new.existentials.items ≡ length old.existentials.items
  pub copies : copies_of new ≡ set (copies_of old) place l

abbrev pub copy_names : ℕ → List Literal → List NamedLiteral
copy_names side clause =
    map (λ l. named_literal (CopyOf side (variable_of l)) (is_negative l)) clause

-- whether the variable at a place among the declared ones, universals first, has copies: a flag
-- says so of a universal, and existentials have them
abbrev pub is_copied_at : List Bool → ℕ → Bool
is_copied_at flags k = slice_index_or flags k true

-- the variable has copies wherever it stands
abbrev pub IsCopied : Dqbf → List Bool → ℕ → Type 0
IsCopied f flags v = (k : ℕ) → slice_get (declared f) k ≡ Some v → is_copied_at flags k ≡ true

-- positive literals on the copies of those of these variables that have copies, and others at the
-- places of the rest
pub record AreCopies (entries : List Entry) (side : ℕ) (flags : List Bool) (variables : List ℕ)
    (copies : List Literal) : Type 0 where
  pub long : length copies ≡ length variables
  pub named : (k v : ℕ) (l : Literal) → is_copied_at flags k ≡ true
      → slice_get variables k ≡ Some v → slice_get copies k ≡ Some l
      → name_literal entries l ≡ Some (named_literal (CopyOf side v) false)

-- a clause of the matrix on one side's copies, in a group
pub record IsCopyGiven (entries : List Entry) (f : Dqbf) (side : ℕ)
    (clause : List Literal) : Type 0 where
  pub group : ℕ
  pub rest : List Literal
  pub original : List Literal
  pub is_group : name_of entries group ≡ Some (Selector group)
  pub clause_is : clause ≡ negative group ∷ rest
  pub original_is : Contains f.matrix original
  pub copied : AreNamedAs entries rest (copy_names side original)

-- each given clause of the group is a copy of some clause of the matrix on this side
abbrev pub IsSideGiven : Dqbf → ℕ → ℕ → List Entry → Entry → Type 0
IsSideGiven f side group earlier (Given origin clause) =
    IsInGroup group clause → (is_copy_of side origin ≡ true) × IsCopyGiven earlier f side clause
IsSideGiven f side group earlier _ = Unit {0}

-- one of the groups has the copy of a clause
pub record IsCopiedIn (entries : List Entry) (groups : List Group) (side : ℕ)
    (clause : List Literal) : Type 0 where
  pub group : Group
  pub among : Contains groups group
  pub origin : Origin
  pub given : IsGivenIn entries (group_variable group) origin (copy_names side clause)

-- one side's variables are named, and its groups have all clauses of the matrix on them, and no
-- others
pub record IsMatrixCopy (f : Dqbf) (side : ℕ) (flags : List Bool) (copy : MatrixCopy)
    (entries : List Entry) : Type 0 where
  pub made : All (IsMade entries) copy.groups.items
  pub universals : AreCopies entries side flags f.universals copy.universals.items
  pub existentials : AreCopiesOf entries side (existential_variables f) copy.existentials.items
  pub own : (g : Group) → Contains copy.groups.items g
      → Each (IsSideGiven f side (group_variable g)) entries
  pub whole : (clause : List Literal) → Contains f.matrix clause
      → IsCopiedIn entries copy.groups.items side clause

-- the group has both clauses of the equation between the copies of a variable, and no others
pub record IsLink (f : Dqbf) (x : ℕ) (group : Group) (entries : List Entry) : Type 0 where
  pub made : IsMade entries group
  pub own : Each (IsGroupGiven f (is_link_of x) (group_variable group)) entries
  pub whole : (i : ℕ) → (i ≡ 1) ⊎ (i ≡ 2)
      → IsGivenIn entries (group_variable group) (Link x i) (link_names x i)

-- the copies, of which the variables of all clauses have some, and an equation for each variable
-- that has copies; clauses have no numbers here
pub record IsDefinability (f : Dqbf) (p : Definability) (entries : List Entry) : Type 0 where
  pub as_many_flags : length p.copied.items ≡ length f.universals
  pub covered : (clause : List Literal) → Contains f.matrix clause
      → All (λ l. IsCopied f p.copied.items (variable_of l)) clause
  pub first : IsMatrixCopy f 1 p.copied.items p.first entries
  pub second : IsMatrixCopy f 2 p.copied.items p.second entries
  pub as_many : length p.links.items ≡ length (declared f)
  pub links_made : All (IsMade entries) p.links.items
  pub links : (i x : ℕ) (g : Group) → is_copied_at p.copied.items i ≡ true
      → slice_get (declared f) i ≡ Some x → slice_get p.links.items i ≡ Some g
      → IsLink f x g entries

-- every universal has copies, as every existential does
abbrev pub IsWhole : Dqbf → Definability → Type 0
IsWhole f p = (v : ℕ) → IsCopied f p.copied.items v

-- the groups of the copies: the active ones of both sides, and those of the equations
abbrev pub all_groups : Definability → List Group
all_groups p = p.first.groups.items ++ (p.second.groups.items ++ p.links.items)

abbrev pub groups_of : Definability → List ℕ
groups_of p = map group_variable (all_groups p)
