-- Engines before a further turn or row.
use Rattle.std.specs.Prelude.{◌≡◌, ◌+◌, ◌≤◌, ◌<◌, List, [], length}
use Rattle.dq_lits.specs.Formula.{Dqbf}
use Rattle.hint_log.specs.Entries.{Entry, rounds_of}
use Rattle.hint_log.specs.ProductiveLog.{fault_groups, fault_room}
use Rattle.aig_graph.specs.Graph.{AigGraph}
use Rattle.circuit_cnf.specs.Checking.{IsChecker}
use Rattle.circuit_cnf.specs.declared.checkers.Checker.{Checker}
use Rattle.expansion.specs.Table.{TableState, IsFullTable}
use Rattle.definability.specs.Copies.{IsDefinability}
use Rattle.definability.specs.declared.definability.Definability.{Definability}

-- every turn so far had its round
pub record IsOpen (f : Dqbf) (graph : AigGraph) (checker : Checker)
    (entries : List Entry) : Type 0 where
  pub inputs : graph.inputs ≡ length f.universals
  pub checked : IsChecker f checker entries
  pub faults : length (fault_groups entries) < fault_room entries

-- the table's rows are those of all rounds, and no circuit was judged beside it
pub record IsTableOfRounds (f : Dqbf) (t : TableState) (entries : List Entry) : Type 0 where
  pub table : IsFullTable f t entries
  pub no_faults : fault_groups entries ≡ []

-- the copies are linked
pub record IsLinked (f : Dqbf) (graph : AigGraph) (p : Definability) (entries : List Entry) : Type 0 where
  pub inputs : graph.inputs ≡ length f.universals + length f.existentials
  pub definability : IsDefinability f p entries
