-- How a log is kept: what each entry is, in order of time, and the names, the clauses, the rounds
-- and the beginnings in lists of their own.
use Rattle.std.specs.Prelude.{◌≡◌, ℕ, ◌+◌, ◌≤◌, ◌<◌, ◌^◌, true, false, List, [], ◌∷◌, ◌++◌, reverse, take, length, slice_index}
use Rattle.std.specs.List.{AllByRecursion}
use Rattle.dq_lits.specs.Literal.{Literal, positive, negative}
use Rattle.hint_log.specs.declared.kinds.EntryKind.{EntryKind}
use Rattle.hint_log.specs.declared.kinds.EntryKind.TheVariants.{Naming, Clause, Failure, Beginning}
use Rattle.hint_log.specs.declared.kinds.ClauseKind.{ClauseKind}
use Rattle.hint_log.specs.declared.kinds.ClauseKind.TheVariants.{OfInstance, OfGate, OfFalseFault, OfTrueFault, OfPositiveFault, OfNegativeFault, OfCopy, OfLink, OfTermGate, OfFalseDiffer, OfTrueDiffer, OfPositiveDiffer, OfNegativeDiffer, OfLemma, OfAnswer}
use Rattle.hint_log.specs.declared.kinds.KeptRound.{KeptRound}
use Rattle.hint_log.specs.declared.names.Name.{Name}
use Rattle.hint_log.specs.declared.origins.Leaf.TheVariants.{Constant, Literal as LeafLiteral}
use Rattle.hint_log.specs.declared.origins.Origin.TheVariants.{Instance, Gate, Fault, Copy, Link, TermGate, Differ}
use Rattle.hint_log.specs.Entries.{Entry, Named, Given, Learned, Answer, Round, Begun, steps_of}
use Rattle.hint_log.specs.Conditions.{AreLogged}

-- a clause's kind, its literals, and its hints or its origin's numbers
pub record KeptClause : Type 0 where
  pub kind : ClauseKind
  pub literals : List Literal
  pub numbers : List ℕ

-- the entry of a kind with these literals and numbers
abbrev pub entry_by : ClauseKind → List Literal → List ℕ → Entry
entry_by OfInstance literals ns = Given (Instance (slice_index ns 0) (slice_index ns 1)) literals
entry_by OfGate literals ns = Given (Gate (slice_index ns 0) (slice_index ns 1)) literals
entry_by OfFalseFault literals ns =
    Given (Fault (slice_index ns 0) (slice_index ns 1) (Constant false)) literals
entry_by OfTrueFault literals ns =
    Given (Fault (slice_index ns 0) (slice_index ns 1) (Constant true)) literals
entry_by OfPositiveFault literals ns =
    Given (Fault (slice_index ns 0) (slice_index ns 1) (LeafLiteral (positive (slice_index ns 2))))
    literals
entry_by OfNegativeFault literals ns =
    Given (Fault (slice_index ns 0) (slice_index ns 1) (LeafLiteral (negative (slice_index ns 2))))
    literals
entry_by OfCopy literals ns = Given (Copy (slice_index ns 0) (slice_index ns 1)) literals
entry_by OfLink literals ns = Given (Link (slice_index ns 0) (slice_index ns 1)) literals
entry_by OfTermGate literals ns = Given (TermGate (slice_index ns 0) (slice_index ns 1)) literals
entry_by OfFalseDiffer literals ns =
    Given (Differ (slice_index ns 0) (Constant false) (slice_index ns 1)) literals
entry_by OfTrueDiffer literals ns =
    Given (Differ (slice_index ns 0) (Constant true) (slice_index ns 1)) literals
entry_by OfPositiveDiffer literals ns =
    Given (Differ (slice_index ns 0) (LeafLiteral (positive (slice_index ns 2))) (slice_index ns 1))
    literals
entry_by OfNegativeDiffer literals ns =
    Given (Differ (slice_index ns 0) (LeafLiteral (negative (slice_index ns 2))) (slice_index ns 1))
    literals
entry_by OfLemma literals hints = Learned literals hints
entry_by OfAnswer literals hints = Answer literals hints

-- how many numbers a kind has, and that the number of a literal's variable is one
abbrev pub HasNumbers : ClauseKind → List ℕ → Type 0
HasNumbers OfLemma ns = Unit {0}
HasNumbers OfAnswer ns = Unit {0}
HasNumbers OfPositiveFault ns =
    (3 ≤ length ns) × (1 ≤ slice_index ns 2) × (slice_index ns 2 < 2 ^ 62)
HasNumbers OfNegativeFault ns =
    (3 ≤ length ns) × (1 ≤ slice_index ns 2) × (slice_index ns 2 < 2 ^ 62)
HasNumbers OfPositiveDiffer ns =
    (3 ≤ length ns) × (1 ≤ slice_index ns 2) × (slice_index ns 2 < 2 ^ 62)
HasNumbers OfNegativeDiffer ns =
    (3 ≤ length ns) × (1 ≤ slice_index ns 2) × (slice_index ns 2 < 2 ^ 62)
HasNumbers _ ns = 2 ≤ length ns

abbrev pub HasOwnNumbers : KeptClause → Type 0
HasOwnNumbers c = HasNumbers c.kind c.numbers

abbrev pub clause_entry : KeptClause → Entry
clause_entry c = entry_by c.kind c.literals c.numbers

abbrev pub round_entry : KeptRound → Entry
round_entry r = Round r.row r.values r.clause

-- the clauses by their parts
abbrev pub kept_clauses : List ClauseKind → List (List Literal) → List (List ℕ) → List KeptClause
kept_clauses (k ∷ kinds) (c ∷ literals) (ns ∷ numbers) =
    record { kind = k; literals = c; numbers = ns } ∷ kept_clauses kinds literals numbers
kept_clauses _ _ _ = []

-- variables that are named one after the other
abbrev pub names_from : ℕ → List Name → List (ℕ × Name)
names_from v [] = []
names_from v (name ∷ names) = (v, name) ∷ names_from (v + 1) names

-- the entries, newest first, from what is kept, newest first
abbrev pub interleaved : List EntryKind → List (ℕ × Name) → List KeptClause → List KeptRound
    → List (List ℕ) → List Entry
interleaved (Naming ∷ kinds) ((v, name) ∷ names) clauses rounds lives =
    Named v name ∷ interleaved kinds names clauses rounds lives
interleaved (Clause ∷ kinds) names (c ∷ clauses) rounds lives =
    clause_entry c ∷ interleaved kinds names clauses rounds lives
interleaved (Failure ∷ kinds) names clauses (r ∷ rounds) lives =
    round_entry r ∷ interleaved kinds names clauses rounds lives
interleaved (Beginning ∷ kinds) names clauses rounds (live ∷ lives) =
    Begun live ∷ interleaved kinds names clauses rounds lives
interleaved _ _ _ _ _ = []

-- each entry has what it is in the list of its kind, and nothing else is there
abbrev pub AreInterleaved : List EntryKind → List (ℕ × Name) → List KeptClause → List KeptRound
    → List (List ℕ) → Type 0
AreInterleaved [] [] [] [] [] = Unit {0}
AreInterleaved (Naming ∷ kinds) (_ ∷ names) clauses rounds lives =
    AreInterleaved kinds names clauses rounds lives
AreInterleaved (Clause ∷ kinds) names (_ ∷ clauses) rounds lives =
    AreInterleaved kinds names clauses rounds lives
AreInterleaved (Failure ∷ kinds) names clauses (_ ∷ rounds) lives =
    AreInterleaved kinds names clauses rounds lives
AreInterleaved (Beginning ∷ kinds) names clauses rounds (_ ∷ lives) =
    AreInterleaved kinds names clauses rounds lives
AreInterleaved _ _ _ _ _ = ⊥

abbrev pub newest_of : List (List ℕ) → List ℕ
newest_of [] = []
newest_of (live ∷ _) = live

-- the live numbers of each beginning, newest first, from how many of the last ones stay and which
-- are added, newest first too
abbrev pub live_lists : List ℕ → List (List ℕ) → List (List ℕ)
live_lists (stays ∷ counts) (more ∷ added) =
    (take stays (newest_of (live_lists counts added)) ++ more) ∷ live_lists counts added
live_lists _ _ = []

abbrev pub kept_lives : List ℕ → List (List ℕ) → List (List ℕ)
kept_lives counts added = live_lists (reverse counts) (reverse added)

abbrev pub log_entries : List EntryKind → List (ℕ × Name) → List ClauseKind → List (List Literal)
    → List (List ℕ) → List KeptRound → List (List ℕ) → List Entry
log_entries kinds names clause_kinds literals numbers rounds lives =
    interleaved (reverse kinds) (reverse names)
    (reverse (kept_clauses clause_kinds literals numbers)) (reverse rounds) lives

pub record IsKept (limit steps : ℕ) (kinds : List EntryKind) (names : List (ℕ × Name))
    (clause_kinds : List ClauseKind) (literals : List (List Literal))
    (numbers : List (List ℕ)) (rounds : List KeptRound) (lives : List (List ℕ)) : Type 0 where
  pub interleaved : AreInterleaved (reverse kinds) (reverse names)
      (reverse (kept_clauses clause_kinds literals numbers)) (reverse rounds) lives
  pub literals_long : length literals ≡ length clause_kinds
  pub numbers_long : length numbers ≡ length clause_kinds
  pub numbers_are : AllByRecursion HasOwnNumbers (kept_clauses clause_kinds literals numbers)
  pub steps_are : steps
      ≡ steps_of (log_entries kinds names clause_kinds literals numbers rounds lives)
  pub within : steps ≤ limit
  pub logged : AreLogged (log_entries kinds names clause_kinds literals numbers rounds lives)
