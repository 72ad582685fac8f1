-- A log of productive work for a session: searches one after another, each over some of the
-- clauses that were numbered by then. Instances and copies, which outlive a search, have the
-- numbers of their clauses among all; faults and rounds, which belong to a search, count within its
-- own formula.
use Rattle.std.specs.Prelude.{◌≡◌, ◌↔◌, ℕ, ◌-◌, List, [], ◌∷◌, None, Some, slice_index_or}
use Rattle.std.specs.List.{Contains}
use Rattle.dq_lits.specs.Literal.{Literal, negative}
use Rattle.dq_lits.specs.Formula.{Dqbf}
use Rattle.hint_log.specs.Entries.{Entry, Given, Answer, Begun, name_of}
use Rattle.hint_log.specs.Growth.{Each}
use Rattle.hint_log.specs.Deciding.{DecidesFalse, DecidesTrue, ReachesGiven}
use Rattle.hint_log.specs.Live.{live_numbers, live_formula, before_beginning, AreNumbers}
use Rattle.hint_log.specs.ProductiveLog.{MatchesOrigin, IsDerivedByHints, IsNewLemma, RefutesNewRow, FollowsModel, IsNotRepeated}
use Rattle.hint_log.specs.declared.origins.Origin.{Origin}
use Rattle.hint_log.specs.declared.origins.Origin.TheVariants.{Instance, Fault, Copy}

-- the group was made since the last search began
abbrev pub IsSinceBeginning : List Entry → ℕ → Type 0
IsSinceBeginning earlier group = name_of (before_beginning earlier) group ≡ None

-- point 1: every given clause is its origin's, a fault by the search's own formula
abbrev pub MatchesLiveOrigin : Dqbf → List Entry → Entry → Type 0
MatchesLiveOrigin all earlier (Given (Fault j i leaf) clause) =
    MatchesOrigin (live_formula all earlier) earlier (Given (Fault j i leaf) clause)
MatchesLiveOrigin all earlier (Begun live) = AreNumbers all live
MatchesLiveOrigin all earlier e = MatchesOrigin all earlier e

-- point 4, of the search's own formula
abbrev pub RefutesNewLiveRow : Dqbf → List Entry → Entry → Type 0
RefutesNewLiveRow all earlier e = RefutesNewRow (live_formula all earlier) earlier e

-- point 5, of the search's own formula
abbrev pub FollowsLiveModel : Dqbf → List Entry → Entry → Type 0
FollowsLiveModel all earlier e = FollowsModel (live_formula all earlier) earlier e

-- two given clauses have one group exactly where these facts are equal
abbrev pub ShareGroup : List Entry → Origin → Origin → Type 0 → Type 0
ShareGroup entries o o' alike =
    (group group' : ℕ) (rest rest' : List Literal)
    → Contains entries (Given o (negative group ∷ rest))
    → Contains entries (Given o' (negative group' ∷ rest')) → (group ≡ group') ↔ alike

-- the frame of a clause, by its number
abbrev pub frame_of : List ℕ → ℕ → ℕ
frame_of frames j = slice_index_or frames (j - 1) 0

-- instances have one group where their clauses are of one frame; copies, where they are of one side
-- too; and no group has both
pub record AreGroupedByFrames (frames : List ℕ) (entries : List Entry) : Type 0 where
  pub instances : (k j k' j' : ℕ)
      → ShareGroup entries (Instance k j) (Instance k' j') (frame_of frames j ≡ frame_of frames j')
  pub copies : (side j side' j' : ℕ)
      → ShareGroup entries (Copy side j) (Copy side' j')
      ((frame_of frames j ≡ frame_of frames j') × (side ≡ side'))
  pub apart : (k j side j' : ℕ) → ShareGroup entries (Instance k j) (Copy side j') ⊥

-- all that was numbered, each with its frame
pub record IsProductiveSession (all : Dqbf) (frames : List ℕ) (entries : List Entry) : Type 0 where
  pub givens_match_origins : Each (MatchesLiveOrigin all) entries
  pub lemmas_are_derived : Each IsDerivedByHints entries
  pub lemmas_are_new : Each IsNewLemma entries
  pub rounds_refute_new_rows : Each (RefutesNewLiveRow all) entries
  pub rounds_follow_a_model : Each (FollowsLiveModel all) entries
  pub givens_are_not_repeated : Each IsNotRepeated entries
  pub groups_are_frames : AreGroupedByFrames frames entries

-- an answer that rests on instances of live clauses alone shows that the search's formula is false
pub record DecidesLiveFalse (earlier : List Entry) (clause : List Literal)
    (hints : List ℕ) : Type 0 where
  pub decides : DecidesFalse earlier clause hints
  pub live : (numbers : List ℕ) (k j : ℕ) (c : List Literal) → live_numbers earlier ≡ Some numbers
      → ReachesGiven earlier hints (Instance k j) c → Contains numbers j

-- one that rests on the faults of a group that the search made, and on gates, that it is true
pub record DecidesLiveTrue (all : Dqbf) (earlier : List Entry) (clause : List Literal)
    (hints : List ℕ) : Type 0 where
  pub decides : DecidesTrue (live_formula all earlier) earlier clause hints
  pub current : IsSinceBeginning earlier decides.rests.group

-- the answers since the last search began
abbrev pub IsUndecidedSince : Dqbf → List Entry → Type 0
IsUndecidedSince all [] = Unit {0}
IsUndecidedSince all (Begun live ∷ earlier) = Unit {0}
IsUndecidedSince all (Answer clause hints ∷ earlier) =
    (DecidesLiveFalse earlier clause hints → ⊥)
    × (DecidesLiveTrue all earlier clause hints → ⊥)
    × IsUndecidedSince all earlier
IsUndecidedSince all (_ ∷ earlier) = IsUndecidedSince all earlier
