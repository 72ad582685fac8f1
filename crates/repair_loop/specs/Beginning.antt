-- How a search begins.
use Rattle.std.specs.Prelude.{◌≡◌, ◌⊎◌, List}
use Rattle.hint_log.specs.Entries.{Entry, ProofLog}
use Rattle.hint_log.specs.Live.{last_live, before_beginning}
use Rattle.hint_log.specs.ProductiveSession.{IsUndecidedSince}
use Rattle.circuit_cnf.specs.declared.checkers.Checker.{Checker}
use Rattle.circuit_cnf.specs.Checking.{IsChecker}
use Rattle.dq_session.specs.Databases.{DatabaseState, all_of, frames_of, live_of, IsDatabase}
use Rattle.definability.specs.Store.{IsCopyStore}
use Rattle.definability.specs.declared.definability.Definability.{Definability}
use Rattle.repair_loop.specs.declared.search_states.SearchState.{SearchState}
use Rattle.repair_loop.specs.SearchStates.{IsKept, AreApart, HasBegun}
use Rattle.repair_loop.specs.Turning.{AreFaultsNew}

-- whatever came of a call, the log keeps its points, and the engines stand
pub record IsLoopInvariant (b : DatabaseState) (c : Checker) (p : Definability) (entries : List Entry) : Type 0 where
  pub kept : IsKept (all_of b) entries
  pub database : IsDatabase b entries
  pub checked : IsChecker b.file c entries
  pub stored : IsCopyStore (all_of b) (frames_of b) p entries
  pub apart : AreApart b c p

-- a search began, nothing is decided, and no fault was given
pub record HasBegunUndecided (b : DatabaseState) (old new : ProofLog) : Type 0 where
  pub begun : HasBegun (live_of b) old.entries new.entries
  pub undecided : IsUndecidedSince (all_of b) new.entries
  pub new_faults : AreFaultsNew (before_beginning new.entries) new.entries

-- a search began, or memory was wanting for that
pub record HasStarted (b : DatabaseState) (after : SearchState) (old new : ProofLog) : Type 0 where
  pub standing : IsLoopInvariant b after.checker after.definability new.entries
  pub began : HasBegunUndecided b old new ⊎ (new ≡ old)
  pub named : after.begun.items ≡ last_live new.entries
  pub limit : new.limit ≡ old.limit
