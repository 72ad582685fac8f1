-- Words of private contracts: what a turn's calls need of the search, and what they leave of it.
use Rattle.std.specs.Prelude.{◌≡◌, ◌-◌, ◌≤◌, ◌<◌, ◌++◌, ◌∷◌, [], ℕ, Bool, true, List, length, None, Some, Result, OnErr, IsErrOf}
use Rattle.std.specs.List.{All}
use Rattle.dq_lits.specs.Formula.{Dqbf, IsWellFormed}
use Rattle.dq_formula.specs.Prefix.{existential_variables}
use Rattle.expansion.specs.Table.{TableState, PointState, ArePoints, point_bits}
use Rattle.aig_graph.specs.declared.nodes.Node.{Node}
use Rattle.aig_graph.specs.Graph.{AigGraph}
use Rattle.hint_log.specs.Entries.{Entry, Given, Begun, ProofLog, name_of, steps_of, beginnings_of}
use Rattle.hint_log.specs.Live.{live_numbers, before_beginning}
use Rattle.hint_log.specs.Naming.{rows_of}
use Rattle.hint_log.specs.ProductiveLog.{fault_groups, fault_room}
use Rattle.hint_log.specs.ProductiveSession.{IsUndecidedSince}
use Rattle.hint_log.specs.declared.origins.Origin.TheVariants.{Fault}
use Rattle.hint_log.specs.declared.stops.Stop.{Stop}
use Rattle.hint_log.specs.declared.stops.Stop.TheVariants.{Limit}
use Rattle.log_laws.specs.Engines.{IsInGroup}
use Rattle.circuit_cnf.specs.declared.checkers.Checker.{Checker}
use Rattle.circuit_cnf.specs.Checking.{IsChecker}
use Rattle.dq_session.specs.Databases.{DatabaseState, all_of, frames_of, live_of, now_of, IsDatabase}
use Rattle.definability.specs.Copies.{IsDefinability}
use Rattle.definability.specs.Store.{IsCopyStore}
use Rattle.definability.specs.declared.definability.Definability.{Definability}
use Rattle.known_functions.specs.Searching.{HasInputs}
use Rattle.known_functions.specs.Forcing.{AreKnownIn}
use Rattle.known_functions.specs.declared.definitions.Definitions.{Definitions}
use Rattle.repair_loop.specs.SearchStates.{IsKept, AreApart, IsDatabaseAfter}
use Rattle.repair_loop.specs.Searching.{AreBuilt}
use Rattle.repair_loop.specs.Stopping.{IsStoppedAtLimit}

-- the faults that were given since the last search began are in groups that were made since these
-- entries
abbrev pub AreFaultsNew : List Entry → List Entry → Type 0
AreFaultsNew before [] = Unit {0}
AreFaultsNew before (Begun live ∷ earlier) = Unit {0}
AreFaultsNew before (Given (Fault j i leaf) clause ∷ earlier) =
    ((group : ℕ) → IsInGroup group clause → name_of before group ≡ None)
    × AreFaultsNew before earlier
AreFaultsNew before (_ ∷ earlier) = AreFaultsNew before earlier

-- a search over the live clauses began, and is under way; where it is ready for questions, all of
-- them have copies
pub record IsUnderWay (f : Dqbf) (b : DatabaseState) (c : Checker) (p : Definability) (ready : Bool)
    (entries : List Entry) : Type 0 where
  pub formula : IsWellFormed f
  pub now_is : f ≡ now_of b
  pub live : live_numbers entries ≡ Some (live_of b)
  pub kept : IsKept (all_of b) entries
  pub database : IsDatabase b entries
  pub checked : IsChecker b.file c entries
  pub copied : ready ≡ true → IsDefinability f p entries
  pub stored : IsCopyStore (all_of b) (frames_of b) p entries
  pub apart : AreApart b c p
  pub faults : length (fault_groups entries) ≤ fault_room entries
  pub new_faults : AreFaultsNew (before_beginning entries) entries

-- its database has the rows of all rounds, and nothing was decided yet
pub record IsOpen (f : Dqbf) (b : DatabaseState) (c : Checker) (p : Definability) (ready : Bool)
    (entries : List Entry) : Type 0 where
  pub way : IsUnderWay f b c p ready entries
  pub rows : rows_of entries ≡ b.table.rows
  pub undecided : IsUndecidedSince (all_of b) entries

-- before a turn
pub record IsSearch (f : Dqbf) (graph : AigGraph) (b : DatabaseState) (c : Checker) (p : Definability) (ready : Bool)
    (entries : List Entry) : Type 0 where
  pub here : IsOpen f b c p ready entries
  pub inputs : HasInputs f graph
  pub room : length (fault_groups entries) < fault_room entries

-- after a round, before its row is added
pub record IsRoundLogged (f : Dqbf) (b : DatabaseState) (c : Checker) (p : Definability) (ready : Bool) (row : List Bool)
    (entries : List Entry) : Type 0 where
  pub way : IsUnderWay f b c p ready entries
  pub rows : rows_of entries ≡ b.table.rows ++ row ∷ []
  pub undecided : IsUndecidedSince (all_of b) entries
  pub row_length : length row ≡ length f.universals
  pub room : length (fault_groups entries) < fault_room entries

-- no step was lost, and no search began
pub record LogGrew (old new : ProofLog) : Type 0 where
  pub more : List Entry
  pub grown : new.entries ≡ more ++ old.entries
  pub none : beginnings_of more ≡ 0
  pub steps : steps_of old.entries ≤ steps_of new.entries
  pub limit : new.limit ≡ old.limit

-- whatever came of a call, the search is under way as before
pub record HasGoneOn (f : Dqbf) (b after : DatabaseState) (c d : Checker) (p : Definability) (ready : Bool)
    (old new : ProofLog) : Type 0 where
  pub way : IsUnderWay f after d p ready new.entries
  pub database : IsDatabaseAfter b after
  pub grew : LogGrew old new

-- whatever came of a search, its log keeps its points
pub record HasEnded (b after : DatabaseState) (old new : ProofLog) : Type 0 where
  pub kept : IsKept (all_of b) new.entries
  pub new_faults : AreFaultsNew (before_beginning new.entries) new.entries
  pub database : IsDatabaseAfter b after
  pub grew : LogGrew old new

-- where a call stopped, nothing is decided; where it stopped at the limit, no step was left, and
-- one could be taken, and the database has the rows of all rounds
pub record IsStoppedAs {T : Type 0} (f : Dqbf) (b : DatabaseState) (log : ProofLog)
    (result : Result T Stop) : Type 0 where
  pub undecided : OnErr result (IsUndecidedSince (all_of b) log.entries)
  pub limit : IsErrOf result Limit → IsStoppedAtLimit f log
  pub rows : IsErrOf result Limit → rows_of log.entries ≡ b.table.rows

-- a round at this row was logged, which was a step
pub record IsNewRound (f : Dqbf) (b : DatabaseState) (c : Checker) (p : Definability) (ready : Bool) (row : List Bool)
    (old new : ProofLog) : Type 0 where
  pub logged : IsRoundLogged f b c p ready row new.entries
  pub step : steps_of old.entries < steps_of new.entries
  pub within : steps_of old.entries < old.limit

-- a model of the instances under a table's rows
pub record IsModel (f : Dqbf) (t : TableState) (points : PointState) : Type 0 where
  pub whole : All (λ row. length row ≡ length f.universals) t.rows
  pub variables : points.variables ≡ existential_variables f
  pub rows : length points.rows ≡ length t.rows
  pub are_points : ArePoints f t.rows (point_bits points)

-- candidates that may be judged
pub record AreProposed (f : Dqbf) (graph : AigGraph) (b : DatabaseState) (c : Checker) (p : Definability) (ready : Bool)
    (d : Definitions) (outputs : List Node) (entries : List Entry) : Type 0 where
  pub search : IsSearch f graph b c p ready entries
  pub known : AreKnownIn f graph d
  pub candidates : AreBuilt f graph b.table.rows outputs

-- behind a round without a verdict the next one may come: its row is in the database, and a step
-- was taken
pub record IsNextRound (f : Dqbf) (graph : AigGraph) (b after : DatabaseState) (c d : Checker) (p : Definability)
    (ready : Bool) (known : Definitions) (old new : ProofLog) : Type 0 where
  pub search : IsSearch f graph after d p ready new.entries
  pub known_there : AreKnownIn f graph known
  pub went : HasGoneOn f b after c d p ready old new
  pub step : new.limit - steps_of new.entries < old.limit - steps_of old.entries
