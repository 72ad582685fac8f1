-- Calls that ask for definitions, one behind the other.
use Rattle.std.proofs.Common.{ℕ, true, arith}
use Rattle.aig_graph.specs.Graph.{AigGraph}
use Rattle.aig_graph.specs.Made.{Extends}
use Rattle.aig_graph.proofs.LargerGraphs.{grown_twice, extends-refl}
use Rattle.dq_lits.specs.Formula.{Dqbf}
use Rattle.hint_log.specs.Entries.{ProofLog}
use Rattle.hint_log.specs.Growth.{Grew}
use Rattle.log_laws.specs.Engines.{copies, IsAddedBy}
use Rattle.log_laws.proofs.LargerLogs.{grown_by_none, grown_then}
use Rattle.definability.specs.Copies.{IsDefinability}
use Rattle.definability.specs.Growing.{HasSameGivens}
use Rattle.definability.specs.declared.definability.Definability.{Definability}
use Rattle.known_functions.specs.Guessing.{MayAsk, HasAsked}
use Rattle.known_functions.proofs.AskedEntries.{asked_alone}

pub nothing_asked : (f : Dqbf) (graph : AigGraph) (p : Definability) (log : ProofLog) → MayAsk f graph p log.entries →
    HasAsked f graph graph p log log
nothing_asked f graph p log may = search (arith, grown_by_none, extends-refl)

pub grown_asked : (f : Dqbf) (graph grown : AigGraph) (p : Definability) (log : ProofLog) → MayAsk f graph p log.entries →
    Extends graph grown → HasAsked f graph grown p log log
grown_asked f graph grown p log may extends = search (arith, grown_by_none)

pub asked_then : (f : Dqbf) (graph middle grown : AigGraph) (p : Definability) (old log new : ProofLog) →
    HasAsked f graph middle p old log →
    HasAsked f middle grown p log new → HasAsked f graph grown p old new
asked_then f graph middle grown p old log new one other = search (arith, grown_then, grown_twice)

pub asked_by : (f : Dqbf) (graph grown : AigGraph) (p : Definability) (old new : ProofLog) → MayAsk f graph p old.entries →
    ((group : ℕ) → Grew (IsAddedBy f copies group true old.entries) old new) →
    HasSameGivens old.entries new.entries → IsDefinability f p new.entries →
    Extends graph grown → HasAsked f graph grown p old new
asked_by f graph grown p old new may grew same copied extends = search (arith, asked_alone)
