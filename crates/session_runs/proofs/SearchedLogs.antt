-- A session's log behind a search.
use Rattle.std.proofs.Common.{◌≡◌, ◌⊎◌, inl, inr, ◌∷◌, [], List, ℕ, Result, Ok, Err, arith}
use Rattle.hint_log.specs.Entries.{Entry, Given, Round, ProofLog}
use Rattle.hint_log.specs.Growth.{Each}
use Rattle.hint_log.specs.ProductiveSession.{IsProductiveSession}
use Rattle.hint_log.specs.declared.origins.Origin.TheVariants.{Fault}
use Rattle.hint_log.specs.declared.stops.Stop.{Stop}
use Rattle.hint_log.specs.declared.stops.Stop.TheVariants.{Memory, Limit}
use Rattle.dq_lits.specs.Formula.{Dqbf}
use Rattle.aig_graph.specs.Graph.{AigGraph}
use Rattle.oracle.specs.Searched.{IsSearched}
use Rattle.dq_session.specs.Databases.{DatabaseState, all_of, live_of}
use Rattle.repair_loop.specs.SearchStates.{CanBeginSearch, IsKept, HasBegun, IsOfSearch as IsOfItsSearch}
use Rattle.repair_loop.specs.declared.search_states.SearchState.{SearchState}
use Rattle.session_runs.specs.LargerSessions.{IsOfSearch}
use Rattle.session_runs.specs.SessionFiles.{IsWorkOver}
use Rattle.session_runs.specs.Invariant.{IsSoFar}
use Rattle.session_runs.proofs.SearchEnds.{of-search-behind}

-- faults and rounds are of a search, in either word
pub same-searched : (es : List Entry) → Each IsOfItsSearch es → Each IsOfSearch es
same-searched [] each = tt
same-searched (Given (Fault j i leaf) c ∷ es) each = (each.0, same-searched es each.1)
same-searched (Round row values j ∷ es) each = (each.0, same-searched es each.1)
same-searched (Given _ c ∷ es) each = (tt, same-searched es each.1)
same-searched (_ ∷ es) each = (tt, same-searched es each.1)

-- a session's log is of work
pub session-work : (all : Dqbf) (frames : List ℕ) (es : List Entry) → IsProductiveSession all frames es
    → IsWorkOver all es
session-work all frames es session = search arith

pub ready-so-far : (b : DatabaseState) (d : SearchState) (g : AigGraph) (es : List Entry) → CanBeginSearch b d g es → IsSoFar b es
ready-so-far b d g es ready = search (arith, session-work, same-searched)

-- a search began, where there is a verdict
pub surely : {X : Type 0} {A B : Type 0} (r : Result X Stop) (x : X) → r ≡ Ok x → A ⊎ ((r ≡ Err Memory) × B) → A
surely r x is (inl h) = h
surely r x is (inr (err, same)) = cc

pub surely-at : {X A B : Type 0} (r : Result X Stop) (stop : Stop) → r ≡ Err stop → (stop ≡ Memory → ⊥)
    → A ⊎ ((r ≡ Err Memory) × B) → A
surely-at r stop is other (inl h) = h
surely-at {X} r stop is other (inr (err, same)) = search arith

pub so-far-behind : {A : Type 0} (b : DatabaseState) (d : SearchState) (g : AigGraph) (old new : ProofLog)
    → CanBeginSearch b d g old.entries → IsKept (all_of b) new.entries → IsSearched new.entries
    → HasBegun (live_of b) old.entries new.entries ⊎ (A × (new ≡ old)) → IsSoFar b new.entries
so-far-behind b d g old new ready kept searched began = search (arith, of-search-behind, same-searched)

pub limit-other : Limit ≡ Memory → ⊥
limit-other same = cc
