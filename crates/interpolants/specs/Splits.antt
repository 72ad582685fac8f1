-- A split answer as a partition, and its local variables.
use Rattle.std.specs.Prelude.{ℕ, Bool, List}
use Rattle.dq_lits.specs.Literal.{Literal}
use Rattle.aig_graph.specs.declared.nodes.Node.{Node}
use Rattle.interpolants.specs.Interpolant.{Partition, partition}
use Rattle.interpolants.specs.Sides.{split, locals}
use Rattle.interpolants.specs.declared.splits.Answer.{Answer}
use Rattle.interpolants.specs.declared.splits.Split.{Split}

-- an answer, divided by these assumptions, with these nodes of shared variables
abbrev pub divided : Answer → List Literal → List (ℕ × Node) → Partition
divided answer a_side shared = partition answer.log.now.entries answer.id a_side shared

abbrev pub partition_of : Split → Partition
partition_of s = split s.log.now.entries s.id s.side.now s.shared.now

abbrev pub local_of : Split → ℕ → Bool
local_of s = locals s.side.now s.shared.now
