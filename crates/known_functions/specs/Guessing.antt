-- Words of private contracts: when a definition may be asked for, under which conditions, and what
-- is left by a call that asks.
use Rattle.std.specs.Prelude.{◌≡◌, ◌≢◌, ℕ, false, List}
use Rattle.aig_graph.specs.Graph.{AigGraph}
use Rattle.aig_graph.specs.Made.{Extends}
use Rattle.std.specs.List.{All, Contains}
use Rattle.dq_lits.specs.Derivation.{is_tautology}
use Rattle.dq_lits.specs.Formula.{Dqbf, IsWellFormed, declared}
use Rattle.dq_lits.specs.Literal.{Literal, variable_of}
use Rattle.hint_log.specs.Entries.{Entry, ProofLog}
use Rattle.hint_log.specs.Growth.{Grew}
use Rattle.definability.specs.Copies.{IsDefinability}
use Rattle.definability.specs.declared.definability.Definability.{Definability}
use Rattle.known_functions.specs.Searching.{IsAsked, HasInputs}
use Rattle.known_functions.specs.declared.definitions.Definitions.{Definitions}

-- literals on declared variables that contradict neither one another nor say anything of one
-- variable
pub record AreConditions (f : Dqbf) (y : ℕ) (lits : List Literal) : Type 0 where
  pub declared : All (λ l. Contains (declared f) (variable_of l)) lits
  pub consistent : is_tautology lits ≡ false
  pub others : All (λ l. variable_of l ≢ y) lits

-- a call that asks leaves what is known as it is
pub record LeavesKnown (old new : Definitions) : Type 0 where
  pub ranks : new.ranks.items ≡ old.ranks.items
  pub nodes : new.nodes.items ≡ old.nodes.items
  pub rules : new.rules.items ≡ old.rules.items
  pub guesses : new.guesses.items ≡ old.guesses.items

-- copies of the formula's matrix stand ready
pub record MayAsk (f : Dqbf) (graph : AigGraph) (copies : Definability) (entries : List Entry) : Type 0 where
  pub formula : IsWellFormed f
  pub definability : IsDefinability f copies entries
  pub inputs : HasInputs f graph

-- and they still do behind a call, which adds to the log what questions add, and leaves its limit and
-- what stands in the graph
pub record HasAsked (f : Dqbf) (graph grown : AigGraph) (copies : Definability)
    (old new : ProofLog) : Type 0 where
  pub may : MayAsk f grown copies new.entries
  pub grew : Grew (IsAsked f) old new
  pub extends : Extends graph grown
