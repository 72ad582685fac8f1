-- How the copies of a file are made, for private contracts.
use Rattle.std.specs.Prelude.{◌≡◌, ◌≤◌, ℕ, true, false, [], ◌∷◌, All, List, length, replicate, None, Some, slice_get}
use Rattle.std.specs.List.{range_with_len}
use Rattle.dq_lits.specs.Formula.{Dqbf, declared}
use Rattle.hint_log.specs.Entries.{Entry, ProofLog, name_of}
use Rattle.hint_log.specs.Growth.{Grew}
use Rattle.log_laws.specs.Engines.{copies, IsAddedBy}
use Rattle.oracle.specs.declared.groups.Group.{Group}
use Rattle.definability.specs.Copies.{IsDefinability, groups_of, is_copied_at}
use Rattle.definability.specs.Following.{AreComplete, AreGiven, IsFollowing, CanGiveCopies}
use Rattle.definability.specs.Growing.{HasCopied}
use Rattle.definability.specs.Store.{StoreState, HasGiven, IsCopyStore, copy_groups, parts_at, store_of}
use Rattle.definability.specs.declared.frames.Sides.{Sides}
use Rattle.definability.specs.declared.definability.Definability.{Definability}

-- no place for anything
pub record HasNothing (p : Definability) : Type 0 where
  pub first_groups : p.first.groups.items ≡ []
  pub second_groups : p.second.groups.items ≡ []

-- places for the copies of all declared variables, none of which has any, and for all clauses; a
-- spare group where equations will have theirs
pub record HasNoCopies (f : Dqbf) (spare : Group) (p : Definability) : Type 0 where
  pub first : length p.first.universals.items ≡ length f.universals
  pub second : length p.second.universals.items ≡ length f.universals
  pub first_existentials : length p.first.existentials.items ≡ length f.existentials
  pub second_existentials : length p.second.existentials.items ≡ length f.existentials
  pub copied : p.copied.items ≡ replicate (length f.universals) false
  pub parts : p.parts.items ≡ replicate (length (declared f)) 0
  pub links : p.links.items ≡ replicate (length (declared f)) spare
  pub given : p.given.items ≡ replicate (length f.matrix) 0
  pub frames : p.frames.items ≡ None ∷ []
  pub first_groups : p.first.groups.items ≡ []
  pub second_groups : p.second.groups.items ≡ []

-- the variables from a place on have copies
pub record AreCopiedFrom (from : ℕ) (p : Definability) : Type 0 where
  pub complete : (k : ℕ) → from ≤ k → 5 ≤ parts_at (store_of p) k
  pub flags : (k : ℕ) → from ≤ k → is_copied_at p.copied.items k ≡ true

-- the first so many clauses were given on both sides
abbrev pub AreGivenBefore : StoreState → ℕ → Type 0
AreGivenBefore s count = (j : ℕ) → 1 ≤ j → j ≤ count → HasGiven s 2 j

-- all clauses of a formula were given, in the frame 0
pub record IsAllGiven (f : Dqbf) (from : ℕ) (p : Definability) : Type 0 where
  pub copied : AreCopiedFrom from p
  pub given : AreGivenBefore (store_of p) (length f.matrix)
  pub opened : (sides : Sides) × (slice_get p.frames.items 0 ≡ Some (Some sides))
  pub frames : length p.frames.items ≡ 1

-- what a call asks for that gives clauses in the frame 0
pub record CanGiveFile (f : Dqbf) (p : Definability) (entries : List Entry) : Type 0 where
  pub standing : CanGiveCopies f (replicate (length f.matrix) 0) f (store_of p) entries
  pub complete : AreComplete f (store_of p)
  pub given : length p.given.items ≡ length f.matrix
  pub opened : (sides : Sides) × (slice_get p.frames.items 0 ≡ Some (Some sides))

-- what a call leaves that gives clauses in the frame 0
pub record HasMoreGiven (f : Dqbf) (p : Definability) (old : ProofLog) (q : Definability) (new : ProofLog) : Type 0 where
  pub follows : IsFollowing f (replicate (length f.matrix) 0) (store_of p) old (store_of q) new
  pub long : length q.given.items ≡ length p.given.items
  pub frames : q.frames ≡ p.frames
  pub first_groups : q.first.groups ≡ p.first.groups
  pub second_groups : q.second.groups ≡ p.second.groups

-- the groups of the frame 0 are the active ones
pub record IsFileActive (p q : Definability) : Type 0 where
  pub same : q ≡ record p {
    first = record p.first { groups = q.first.groups };
    second = record p.second { groups = q.second.groups };
  }
  pub sides : Sides
  pub opened : slice_get p.frames.items 0 ≡ Some (Some sides)
  pub first : q.first.groups.items ≡ sides.first ∷ []
  pub second : q.second.groups.items ≡ sides.second ∷ []

-- what the log got
pub record IsFileMade (f : Dqbf) (old new : ProofLog) : Type 0 where
  pub grew : (group : ℕ) → Grew (IsAddedBy f copies group true old.entries) old new
  pub only : HasCopied old.entries new.entries

-- the copies of a file, of which the variables from a place on have some
pub record AreFileCopies (f : Dqbf) (from : ℕ) (old new : ProofLog) (p : Definability) : Type 0 where
  pub made : IsDefinability f p new.entries
  pub fresh : All (λ g. name_of old.entries g ≡ None) (groups_of p)
  pub all_active : copy_groups p ≡ groups_of p
  pub store : IsCopyStore f (replicate (length f.matrix) 0) p new.entries
  pub given : AreGiven (store_of p) (range_with_len 1 (length f.matrix))
  pub flags : (k : ℕ) → from ≤ k → is_copied_at p.copied.items k ≡ true
