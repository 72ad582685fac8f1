-- What was given of the copies in a session, in which clauses come and go in frames: which clauses,
-- by side, in which groups, and which parts of the copies of each universal.
use Rattle.std.specs.Prelude.{◌≡◌, ℕ, zero, suc, ◌+◌, ◌-◌, ◌≤◌, ◌<◌, Bool, true, List, ◌∷◌, ◌++◌, map, length, Option, None, Some, slice_get, slice_index_or, [], false}
use Rattle.std.specs.List.{All, Contains}
use Rattle.dq_lits.specs.Literal.{Literal, variable_of}
use Rattle.dq_lits.specs.Formula.{Dqbf, declared}
use Rattle.hint_log.specs.Entries.{Entry, Named, Given}
use Rattle.hint_log.specs.Growth.{Each}
use Rattle.hint_log.specs.Naming.{named_literal, name_literal, numbered_from_one}
use Rattle.hint_log.specs.Origins.{link_names}
use Rattle.hint_log.specs.ProductiveLog.{MatchesOrigin}
use Rattle.hint_log.specs.ProductiveSession.{frame_of}
use Rattle.hint_log.specs.declared.names.Name.{Name}
use Rattle.hint_log.specs.declared.names.Name.TheVariants.{Copy as CopyOf}
use Rattle.hint_log.specs.declared.origins.Origin.TheVariants.{Copy, Link}
use Rattle.log_laws.specs.Engines.{IsInGroup}
use Rattle.oracle.specs.Calls.{IsMade}
use Rattle.oracle.specs.declared.groups.Group.{Group}
use Rattle.definability.specs.Copies.{IsCopied, IsGivenIn, copy_names, group_variable, is_copied_at}
use Rattle.definability.specs.declared.frames.Sides.{Sides}
use Rattle.definability.specs.declared.definability.Definability.{Definability}

-- a side's copies of universals and of existentials, in order of declaration
pub record SideCopies : Type 0 where
  pub universals : List Literal
  pub existentials : List Literal

-- the copies of both sides; which universals have copies, and how many parts of the declared
-- variables' copies there are; the groups of equations; on how many sides each clause was given, by
-- its number from 1 on; each frame's groups, by its number; and the frames' groups that are active
pub record StoreState : Type 0 where
  pub first : SideCopies
  pub second : SideCopies
  pub copied : List Bool
  pub parts : List ℕ
  pub links : List Group
  pub given : List ℕ
  pub frames : List (Option Sides)
  pub active : List Group

abbrev pub store_of : Definability → StoreState
store_of p = record {
  first = record {
    universals = p.first.universals.items;
    existentials = p.first.existentials.items;
  };
  second = record {
    universals = p.second.universals.items;
    existentials = p.second.existentials.items;
  };
  copied = p.copied.items;
  parts = p.parts.items;
  links = p.links.items;
  given = p.given.items;
  frames = p.frames.items;
  active = p.first.groups.items ++ p.second.groups.items;
}

-- how many parts a declared variable has, by its place: its first copy, its second, the group of
-- their equation, and the equation's two clauses
abbrev pub parts_in : List ℕ → ℕ → ℕ
parts_in parts k = slice_index_or parts k 5

abbrev pub parts_at : StoreState → ℕ → ℕ
parts_at s k = parts_in s.parts k

-- a side's copies of the declared variables, by place
abbrev pub all_copies : SideCopies → List Literal
all_copies c = c.universals ++ c.existentials

abbrev pub copies_on : SideCopies → SideCopies → ℕ → List Literal
copies_on first second (suc zero) = all_copies first
copies_on first second (suc (suc zero)) = all_copies second
copies_on first second _ = []

abbrev pub side_copies : StoreState → ℕ → List Literal
side_copies s side = copies_on s.first s.second side

-- the first side gets a clause first
pub record IsGivenOn (given : List ℕ) (side j : ℕ) : Type 0 where
  pub from_one : 1 ≤ side
  pub within : side ≤ slice_index_or given (j - 1) 0

abbrev pub HasGiven : StoreState → ℕ → ℕ → Type 0
HasGiven s side j = IsGivenOn s.given side j

abbrev pub side_group : ℕ → Sides → Option Group
side_group (suc zero) sides = Some sides.first
side_group (suc (suc zero)) sides = Some sides.second
side_group _ sides = None

-- whose a group is: a side's and a frame's, or the equation's at a place
pub data Slot : Type 0 where
  of_frame : ℕ → ℕ → Slot
  of_link : ℕ → Slot

abbrev pub IsSlotGroup : List (Option Sides) → List ℕ → List Group → Slot → Group → Type 0
IsSlotGroup frames parts links (of_frame side frame) g =
    (sides : Sides) × (slice_get frames frame ≡ Some (Some sides)) × (side_group side sides ≡ Some g)
IsSlotGroup frames parts links (of_link k) g = (3 ≤ parts_in parts k) × (slice_get links k ≡ Some g)

abbrev pub HasGroup : StoreState → Slot → Group → Type 0
HasGroup s slot g = IsSlotGroup s.frames s.parts s.links slot g

abbrev pub both_groups : List (Option Sides) → List ℕ
both_groups [] = []
both_groups (None ∷ frames) = both_groups frames
both_groups (Some sides ∷ frames) =
    group_variable sides.first ∷ group_variable sides.second ∷ both_groups frames

-- the numbers of all groups that were made, those of closed frames too
abbrev pub store_groups : StoreState → List ℕ
store_groups s = both_groups s.frames ++ map group_variable s.links

abbrev pub copy_groups : Definability → List ℕ
copy_groups p = store_groups (store_of p)

-- who is named as a copy has that copy among its parts
abbrev pub IsNamedByParts : Dqbf → List ℕ → Name → Type 0
IsNamedByParts all parts (CopyOf side x) =
    (k : ℕ) → slice_get (declared all) k ≡ Some x → side ≤ parts_in parts k
IsNamedByParts all parts _ = Unit {0}

abbrev pub IsStoredName : Dqbf → StoreState → Name → Type 0
IsStoredName all s n = IsNamedByParts all s.parts n

-- a copy is right by all that was numbered, and stands in the group of its clause's frame
pub record IsCopyEntry (all : Dqbf) (numbered : List ℕ) (frames : List (Option Sides))
    (sides : List ℕ) (earlier : List Entry) (side j : ℕ) (c : List Literal) : Type 0 where
  pub right : MatchesOrigin all earlier (Given (Copy side j) c)
  pub given : IsGivenOn sides side j
  pub group : Group
  pub has_group : IsSlotGroup frames [] [] (of_frame side (frame_of numbered j)) group
  pub in_group : IsInGroup (group_variable group) c

abbrev pub IsStoredCopy : Dqbf → List ℕ → StoreState → List Entry → ℕ → ℕ → List Literal → Type 0
IsStoredCopy all numbered s earlier side j c =
    IsCopyEntry all numbered s.frames s.given earlier side j c

-- half of an equation is right, and stands in the equation's group
pub record IsLinkEntry (all : Dqbf) (parts : List ℕ) (links : List Group) (earlier : List Entry)
    (x i : ℕ) (c : List Literal) : Type 0 where
  pub right : MatchesOrigin all earlier (Given (Link x i) c)
  pub place : ℕ
  pub variable_is : slice_get (declared all) place ≡ Some x
  pub done : i + 3 ≤ parts_in parts place
  pub group : Group
  pub group_is : slice_get links place ≡ Some group
  pub in_group : IsInGroup (group_variable group) c

abbrev pub IsStoredLink : Dqbf → StoreState → List Entry → ℕ → ℕ → List Literal → Type 0
IsStoredLink all s earlier x i c = IsLinkEntry all s.parts s.links earlier x i c

abbrev pub IsInNoGroup : StoreState → List Literal → Type 0
IsInNoGroup s c = (slot : Slot) (g : Group) → HasGroup s slot g → IsInGroup (group_variable g) c → ⊥

-- the groups hold copies and equations, and nothing else
abbrev pub IsEntryOf : Dqbf → List ℕ → List (Option Sides) → List ℕ → List Group → List ℕ
    → List Entry → Entry → Type 0
IsEntryOf all numbered frames parts links given earlier (Named v n) = IsNamedByParts all parts n
IsEntryOf all numbered frames parts links given earlier (Given (Copy side j) c) =
    IsCopyEntry all numbered frames given earlier side j c
IsEntryOf all numbered frames parts links given earlier (Given (Link x i) c) =
    IsLinkEntry all parts links earlier x i c
IsEntryOf all numbered frames parts links given earlier (Given origin c) =
    (slot : Slot) (g : Group) → IsSlotGroup frames parts links slot g
    → IsInGroup (group_variable g) c → ⊥
IsEntryOf all numbered frames parts links given earlier e = Unit {0}

abbrev pub IsStoreEntry : Dqbf → List ℕ → StoreState → List Entry → Entry → Type 0
IsStoreEntry all numbered s earlier e =
    IsEntryOf all numbered s.frames s.parts s.links s.given earlier e

-- a clause's copy stands on a side, and its variables have copies
pub record IsGivenAt (all : Dqbf) (numbered : List ℕ) (copied : List Bool)
    (frames : List (Option Sides)) (entries : List Entry) (side j : ℕ) : Type 0 where
  pub clause : List Literal
  pub clause_is : numbered_from_one all.matrix j ≡ Some clause
  pub covered : All (λ l. IsCopied all copied (variable_of l)) clause
  pub group : Group
  pub has_group : IsSlotGroup frames [] [] (of_frame side (frame_of numbered j)) group
  pub given : IsGivenIn entries (group_variable group) (Copy side j) (copy_names side clause)

abbrev pub IsGivenThere : Dqbf → List ℕ → StoreState → List Entry → ℕ → ℕ → Type 0
IsGivenThere all numbered s entries side j = IsGivenAt all numbered s.copied s.frames entries side j

-- lists for the universals, the existentials, and the declared variables
pub record AreLong (all : Dqbf) (one other : SideCopies) (copied : List Bool) (counts : List ℕ)
    (groups : List Group) : Type 0 where
  pub parts : length counts ≡ length (declared all)
  pub flags : length copied ≡ length all.universals
  pub first : length one.universals ≡ length all.universals
  pub second : length other.universals ≡ length all.universals
  pub first_existentials : length one.existentials ≡ length all.existentials
  pub second_existentials : length other.existentials ≡ length all.existentials
  pub links : length groups ≡ length (declared all)

abbrev pub HasPlaces : Dqbf → StoreState → Type 0
HasPlaces all s = AreLong all s.first s.second s.copied s.parts s.links

-- the variables' copies that count are named, and so many halves of their equations given
pub record AreParts (all : Dqbf) (first second : SideCopies) (parts : List ℕ) (links : List Group)
    (entries : List Entry) : Type 0 where
  pub copies : (side k x : ℕ) (l : Literal) → side ≤ parts_in parts k
      → slice_get (declared all) k ≡ Some x → slice_get (copies_on first second side) k ≡ Some l
      → name_literal entries l ≡ Some (named_literal (CopyOf side x) false)
  pub equations : (k x i : ℕ) (g : Group) → i + 3 ≤ parts_in parts k → 1 ≤ i → i ≤ 2
      → slice_get (declared all) k ≡ Some x → slice_get links k ≡ Some g
      → IsGivenIn entries (group_variable g) (Link x i) (link_names x i)

abbrev pub HasParts : Dqbf → StoreState → List Entry → Type 0
HasParts all s entries = AreParts all s.first s.second s.parts s.links entries

-- the groups were made, and are different
pub record AreGroups (frames : List (Option Sides)) (parts : List ℕ) (equations : List Group)
    (entries : List Entry) : Type 0 where
  pub made : (slot : Slot) (g : Group) → IsSlotGroup frames parts equations slot g → IsMade entries g
  pub links : (k : ℕ) (g : Group) → slice_get equations k ≡ Some g → IsMade entries g
  pub apart : (a b : Slot) (g h : Group) → IsSlotGroup frames parts equations a g
      → IsSlotGroup frames parts equations b h → group_variable g ≡ group_variable h → a ≡ b

abbrev pub AreStoreGroups : StoreState → List Entry → Type 0
AreStoreGroups s entries = AreGroups s.frames s.parts s.links entries

-- the store after these entries, where `all` has every clause that was numbered, and `numbered` the
-- frame of each; those of the first so many variables that count as copied have all parts
pub record IsStoreTo (count : ℕ) (all : Dqbf) (numbered : List ℕ) (s : StoreState)
    (entries : List Entry) : Type 0 where
  pub places : HasPlaces all s
  pub whole : (k : ℕ) → k < count → is_copied_at s.copied k ≡ true → 5 ≤ parts_at s k
  pub parts : HasParts all s entries
  pub groups : AreStoreGroups s entries
  pub givens : (side j : ℕ) → 1 ≤ j → HasGiven s side j
      → IsGivenThere all numbered s entries side j
  pub own : Each (IsStoreEntry all numbered s) entries
  pub active : (g : Group) → Contains s.active g → Contains (both_groups s.frames) (group_variable g)

-- where copies of existentials may still be missing
abbrev pub IsPartialStore : Dqbf → List ℕ → StoreState → List Entry → Type 0
IsPartialStore all numbered s entries = IsStoreTo (length all.universals) all numbered s entries

abbrev pub IsStore : Dqbf → List ℕ → StoreState → List Entry → Type 0
IsStore all numbered s entries = IsStoreTo (length (declared all)) all numbered s entries

abbrev pub IsCopyStore : Dqbf → List ℕ → Definability → List Entry → Type 0
IsCopyStore all numbered p entries = IsStore all numbered (store_of p) entries
