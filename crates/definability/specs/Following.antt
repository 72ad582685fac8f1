-- Copies that follow a session.
use Rattle.std.specs.Prelude.{◌≡◌, ◌⊎◌, ℕ, ◌≤◌, ◌<◌, Bool, true, false, List, [], Option, map, length, None, Some, slice_get}
use Rattle.std.specs.List.{All, Contains}
use Rattle.dq_lits.specs.Formula.{Dqbf}
use Rattle.dq_lits.specs.Literal.{Literal, variable_of}
use Rattle.hint_log.specs.Entries.{Entry, ProofLog, name_of, Named, Given}
use Rattle.hint_log.specs.Growth.{Grew}
use Rattle.hint_log.specs.Live.{formula_of, AreNumbers}
use Rattle.hint_log.specs.Naming.{numbered_from_one}
use Rattle.hint_log.specs.ProductiveLog.{fault_groups, fault_room}
use Rattle.hint_log.specs.ProductiveSession.{frame_of}
use Rattle.log_laws.specs.Engines.{copies}
use Rattle.log_laws.specs.Sessions.{IsAddedLive}
use Rattle.oracle.specs.declared.groups.Group.{Group}
use Rattle.definability.specs.Copies.{IsCopied, is_copied_at}
use Rattle.definability.specs.Growing.{HasFewFaults, is_copy_name, is_copy_origin}
use Rattle.definability.specs.Store.{StoreState, IsSlotGroup, store_groups, store_of, parts_at, HasGiven, HasGroup, of_frame, IsCopyStore, IsPartialStore}
use Rattle.definability.specs.declared.following.LiveClause.{LiveClause}
use Rattle.definability.specs.declared.frames.Sides.{Sides}
use Rattle.definability.specs.declared.definability.Definability.{Definability}

-- a formula of some of the clauses that were numbered, by their numbers and frames; a frame is live
-- with all its clauses so far
pub record IsLiveFormula (all : Dqbf) (numbered : List ℕ) (f : Dqbf) (live frames : List ℕ) : Type 0 where
  pub formula_is : f ≡ formula_of all live
  pub numbers : AreNumbers all live
  pub frames_are : frames ≡ map (frame_of numbered) live
  pub together : (j : ℕ) → 1 ≤ j → j ≤ length all.matrix → Contains frames (frame_of numbered j)
      → Contains live j

-- both copies of these clauses were given
abbrev pub AreGiven : StoreState → List ℕ → Type 0
AreGiven s live = All (HasGiven s 2) live

-- a group is one of those that there were, or was made since
abbrev pub AreOldOrNew : StoreState → StoreState → List Entry → Type 0
AreOldOrNew old new entries =
    (g : ℕ) → Contains (store_groups new) g
    → Contains (store_groups old) g ⊎ (name_of entries g ≡ None)

-- a copy or a selector that is named, or a clause on copies that is given
abbrev pub is_copy_entry : Entry → Bool
is_copy_entry (Named v n) = is_copy_name n
is_copy_entry (Given origin c) = is_copy_origin origin
is_copy_entry _ = false

-- such an entry, which is lawful in a session
abbrev pub IsCopyAdded : Dqbf → List ℕ → List Entry → List Entry → Entry → Type 0
IsCopyAdded all groups old earlier e =
    IsAddedLive all copies groups true old earlier e × (is_copy_entry e ≡ true)

-- the store stands, what was added to the log is lawful, and no faults were
pub record IsFollowing (all : Dqbf) (numbered : List ℕ) (old : StoreState) (old_log : ProofLog)
    (new : StoreState) (new_log : ProofLog) : Type 0 where
  pub grew : Grew (IsCopyAdded all (store_groups old) old_log.entries) old_log new_log
  pub new_groups : AreOldOrNew old new old_log.entries
  pub names : (v : ℕ) → name_of new_log.entries v ≡ None → name_of old_log.entries v ≡ None
  pub faults : fault_groups new_log.entries ≡ fault_groups old_log.entries
  pub room : fault_room new_log.entries ≡ fault_room old_log.entries
  pub store : IsPartialStore all numbered new new_log.entries
  pub given : (side j : ℕ) → HasGiven old side j → HasGiven new side j
  pub parts : (k : ℕ) → parts_at old k ≤ parts_at new k
  pub copied : (k : ℕ) → is_copied_at old.copied k ≡ true → is_copied_at new.copied k ≡ true

-- what a part of the work asks for: the store stands, the formula has its prefix, and a clause more
-- may be given
pub record CanGiveCopies (all : Dqbf) (numbered : List ℕ) (f : Dqbf) (s : StoreState)
    (entries : List Entry) : Type 0 where
  pub store : IsPartialStore all numbered s entries
  pub universals : all.universals ≡ f.universals
  pub existentials : all.existentials ≡ f.existentials
  pub few : HasFewFaults entries

abbrev pub CanFollow : Dqbf → Definability → List Entry → Type 0
CanFollow f p entries =
    (all : Dqbf) × (numbered : List ℕ) × CanGiveCopies all numbered f (store_of p) entries

-- what a call leaves that makes copies of variables: whatever the store was, it follows, and what
-- was given and the groups of clauses are as before
pub record HasMore (f : Dqbf) (p : Definability) (old : ProofLog) (q : Definability) (new : ProofLog) : Type 0 where
  pub follows : (all : Dqbf) (numbered : List ℕ) → CanGiveCopies all numbered f (store_of p) old.entries
      → IsFollowing all numbered (store_of p) old (store_of q) new
  pub given : q.given ≡ p.given
  pub frames : q.frames ≡ p.frames
  pub first_groups : q.first.groups ≡ p.first.groups
  pub second_groups : q.second.groups ≡ p.second.groups

-- whatever the store was in which a formula's clauses were numbered, it follows
abbrev pub FollowsLive : Dqbf → List ℕ → List ℕ → Definability → ProofLog → Definability → ProofLog → Type 0
FollowsLive f live frames p old q new =
    (all : Dqbf) (numbered : List ℕ) → IsCopyStore all numbered p old.entries
    → IsLiveFormula all numbered f live frames
    → IsFollowing all numbered (store_of p) old (store_of q) new

-- a clause of a formula by its place there, its number among all, and its frame
pub record IsLiveClause (all : Dqbf) (numbered : List ℕ) (f : Dqbf) (clause : LiveClause) : Type 0 where
  pub from_one : 1 ≤ clause.number
  pub within : clause.place < length f.matrix
  pub clause_is : numbered_from_one all.matrix clause.number ≡ slice_get f.matrix clause.place
  pub frame_is : clause.frame ≡ frame_of numbered clause.number

-- all existentials have copies
abbrev pub AreComplete : Dqbf → StoreState → Type 0
AreComplete all s = (k : ℕ) → length all.universals ≤ k → 5 ≤ parts_at s k

-- what a call asks for that gives a clause
pub record IsReceiving (all : Dqbf) (numbered : List ℕ) (f : Dqbf) (s : StoreState)
    (clause : LiveClause) (entries : List Entry) : Type 0 where
  pub standing : CanGiveCopies all numbered f s entries
  pub complete : AreComplete all s
  pub live : IsLiveClause all numbered f clause

abbrev pub CanReceive : Dqbf → Definability → LiveClause → List Entry → Type 0
CanReceive f p clause entries =
    (all : Dqbf) × (numbered : List ℕ) × IsReceiving all numbered f (store_of p) clause entries

-- whatever the store was that could get the clause, it follows
abbrev pub Receives : Dqbf → Definability → ProofLog → LiveClause → Definability → ProofLog → Type 0
Receives f p old clause q new =
    (all : Dqbf) (numbered : List ℕ)
    → IsReceiving all numbered f (store_of p) clause old.entries
    → IsFollowing all numbered (store_of p) old (store_of q) new

-- the clause has a place in the store's lists, its frame has groups, and its variables have copies
pub record IsPrepared (f : Dqbf) (p : Definability) (clause : LiveClause) : Type 0 where
  pub room : clause.number ≤ length p.given.items
  pub opened : (sides : Sides) × (slice_get p.frames.items clause.frame ≡ Some (Some sides))
  pub covered : (c : List Literal) → slice_get f.matrix clause.place ≡ Some c
      → All (λ l. IsCopied f p.copied.items (variable_of l)) c

-- the groups of these frames on a side, and no others
pub record AreGroupsOf (opened : List (Option Sides)) (side : ℕ) (frames : List ℕ)
    (groups : List Group) : Type 0 where
  pub sound : (g : Group) → Contains groups g
      → (F : ℕ) × Contains frames F × IsSlotGroup opened [] [] (of_frame side F) g
  pub complete : (F : ℕ) → Contains frames F
      → (g : Group) × IsSlotGroup opened [] [] (of_frame side F) g × Contains groups g

abbrev pub AreActiveGroups : StoreState → ℕ → List ℕ → List Group → Type 0
AreActiveGroups s side frames groups = AreGroupsOf s.frames side frames groups

-- so far
pub record AreActiveSoFar (s : StoreState) (side : ℕ) (frames : List ℕ) (i : ℕ)
    (groups : List Group) : Type 0 where
  pub sound : (g : Group) → Contains groups g
      → (F : ℕ) × Contains frames F × HasGroup s (of_frame side F) g
  pub complete : (k F : ℕ) → k < i → slice_get frames k ≡ Some F
      → (g : Group) × HasGroup s (of_frame side F) g × Contains groups g

-- each of these frames has its groups
abbrev pub AreOpen : StoreState → List ℕ → Type 0
AreOpen s frames =
    (F : ℕ) → Contains frames F → (sides : Sides) × (slice_get s.frames F ≡ Some (Some sides))
