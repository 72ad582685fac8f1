use Rattle.std.proofs.Common.{◌≡◌, ◌≤◌, map, length}
use Rattle.std.specs.List.{range_with_len}
use Rattle.dq_session.specs.Changes.{file_live}
use Rattle.dq_session.proofs.databases.file_clauses.Given as goal

abbrev pub invariant-loop-j : goal.invariant-loop-j
invariant-loop-j l = (l.j ≤ length l.f.matrix) × (l.live.items ≡ map file_live (range_with_len 1 l.j))
