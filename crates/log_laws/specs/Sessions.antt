-- What the log of a session tells of the formulas of its searches.
use Rattle.std.specs.Prelude.{◌≡◌, ◌↔◌, ◌⊎◌, ℕ, ◌≤◌, ◌^◌, ◌∷◌, [], Bool, true, List, length, None, Some}
use Rattle.std.specs.List.{Contains}
use Rattle.dq_lits.specs.Literal.{Literal}
use Rattle.dq_lits.specs.Formula.{Dqbf, IsWellFormed}
use Rattle.dq_lits.specs.Henkin.{IsTrueFormula, IsFalseFormula}
use Rattle.hint_log.specs.Conditions.{AreLogged}
use Rattle.hint_log.specs.Deciding.{IsUndecided}
use Rattle.hint_log.specs.Entries.{Entry, Named, Given, Answer, Round, Begun, ProofLog, name_of, rounds_of}
use Rattle.hint_log.specs.Growth.{Each, Grew}
use Rattle.hint_log.specs.Live.{live_numbers, before_beginning, live_formula}
use Rattle.hint_log.specs.ProductiveLog.{IsDerivedByHints, IsProductiveLog, IsNotRepeated}
use Rattle.hint_log.specs.Naming.{rows_of}
use Rattle.hint_log.specs.declared.names.Name.{Name}
use Rattle.hint_log.specs.declared.origins.Origin.{Origin}
use Rattle.hint_log.specs.ProductiveSession.{MatchesLiveOrigin, RefutesNewLiveRow, FollowsLiveModel, IsUndecidedSince, DecidesLiveFalse, DecidesLiveTrue, AreGroupedByFrames, IsProductiveSession}
use Rattle.log_laws.specs.Engines.{Engine, circuits, origin_engine, IsInGroup, IsNamedBy, IsAddedBy}
use Rattle.log_laws.specs.Meaning.{HasAnswer}

-- what makes answers right
pub record IsSoundSession (all : Dqbf) (entries : List Entry) : Type 0 where
  pub logged : AreLogged entries
  pub givens_match_origins : Each (MatchesLiveOrigin all) entries
  pub lemmas_are_derived : Each IsDerivedByHints entries

-- an answer decides the formula of its own search
abbrev pub DecidedLiveFalseIsFalse : Type 0
DecidedLiveFalseIsFalse =
    (all : Dqbf) (entries : List Entry) (live : List ℕ) → IsSoundSession all entries
    → (answer : HasAnswer DecidesLiveFalse entries) → live_numbers answer.earlier ≡ Some live
    → IsWellFormed (live_formula all answer.earlier)
    → IsFalseFormula (live_formula all answer.earlier)

abbrev pub DecidedLiveTrueIsTrue : Type 0
DecidedLiveTrueIsTrue =
    (all : Dqbf) (entries : List Entry) → IsSoundSession all entries
    → (answer : HasAnswer (DecidesLiveTrue all) entries)
    → IsWellFormed (live_formula all answer.earlier)
    → IsTrueFormula (live_formula all answer.earlier)

-- over all searches there are at most as many rounds as rows of the universals
abbrev pub SessionRoundsAreFew : Type 0
SessionRoundsAreFew =
    (all : Dqbf) (entries : List Entry) → Each (RefutesNewLiveRow all) entries
    → rounds_of entries ≤ 2 ^ length all.universals

-- where no search began, a log is a session's exactly where it is productive, and its answers
-- decide the same
abbrev pub PlainLogsAreSessions : Type 0
PlainLogsAreSessions =
    (all : Dqbf) (frames : List ℕ) (entries : List Entry) → live_numbers entries ≡ None
    → (IsProductiveLog all entries → AreGroupedByFrames frames entries
    → IsProductiveSession all frames entries)
    × (IsProductiveSession all frames entries → IsProductiveLog all entries)
    × (IsUndecided all entries ↔ IsUndecidedSince all entries)

-- a given clause of an engine goes into one of its standing groups or into one that was made since
abbrev pub IsInOneOf : List ℕ → List Entry → List Literal → Type 0
IsInOneOf groups old clause =
    (g : ℕ) × IsInGroup g clause × (Contains groups g ⊎ (name_of old g ≡ None))

-- what an engine's call gives in a session
pub record IsGivenLive (all : Dqbf) (engine : Engine) (groups : List ℕ) (old earlier : List Entry)
    (origin : Origin) (clause : List Literal) : Type 0 where
  pub own : origin_engine origin ≡ engine
  pub in_group : IsInOneOf groups old clause
  pub matches_origin : MatchesLiveOrigin all earlier (Given origin clause)
  pub not_repeated : IsNotRepeated earlier (Given origin clause)

-- what it adds to a log in which `old` stood before
abbrev pub IsAddedLive : Dqbf → Engine → List ℕ → Bool → List Entry → List Entry → Entry → Type 0
IsAddedLive all engine groups silent old earlier (Named v name) =
    IsNamedBy all engine earlier v name
IsAddedLive all engine groups silent old earlier (Given origin clause) =
    IsGivenLive all engine groups old earlier origin clause
IsAddedLive all engine groups silent old earlier (Answer clause hints) =
    silent ≡ true
    → (DecidesLiveFalse earlier clause hints → ⊥) × (DecidesLiveTrue all earlier clause hints → ⊥)
IsAddedLive all engine groups silent old earlier (Round _ _ _) = ⊥
IsAddedLive all engine groups silent old earlier (Begun _) = ⊥
IsAddedLive all engine groups silent old earlier _ = Unit {0}

-- what such a call leaves
pub record LeavesSession (all : Dqbf) (engine : Engine) (groups : List ℕ) (silent : Bool)
    (old new : List Entry) : Type 0 where
  pub origins : Each (MatchesLiveOrigin all) old → Each (MatchesLiveOrigin all) new
  pub new_rows : Each (RefutesNewLiveRow all) old → Each (RefutesNewLiveRow all) new
  pub models : Each (FollowsLiveModel all) old → Each (FollowsLiveModel all) new
  pub givens : Each IsNotRepeated old → Each IsNotRepeated new
  pub decisions : silent ≡ true → IsUndecidedSince all old → IsUndecidedSince all new
  pub rows : rows_of new ≡ rows_of old
  pub names : (v : ℕ) (name : Name) → name_of old v ≡ Some name → name_of new v ≡ Some name
  pub live : live_numbers new ≡ live_numbers old
  pub before : before_beginning new ≡ before_beginning old

abbrev pub EnginesLeaveSessions : Type 0
EnginesLeaveSessions =
    (all : Dqbf) (engine : Engine) (groups : List ℕ) (silent : Bool) (old new : ProofLog)
    → Grew (IsAddedLive all engine groups silent old.entries) old new
    → LeavesSession all engine groups silent old.entries new.entries

-- the circuits' engine speaks of the search's formula; what it adds is right in the session
abbrev pub CircuitsAddLive : Type 0
CircuitsAddLive =
    (all : Dqbf) (group : ℕ) (silent : Bool) (old new : ProofLog)
    → Grew (IsAddedBy (live_formula all old.entries) circuits group silent old.entries) old new
    → Grew (IsAddedLive all circuits (group ∷ []) silent old.entries) old new
