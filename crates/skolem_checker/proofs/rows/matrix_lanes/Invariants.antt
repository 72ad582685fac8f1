use Rattle.std.proofs.Common.{◌≡◌, ◌<◌, ℕ, take, length}
use Rattle.std.specs.List.{list_all}
use Rattle.dq_lits.specs.Literal.{clause_true}
use Rattle.circuit_plain.specs.Blocks.{lane_bit, block_bits}
use Rattle.skolem_checker.specs.Tables.{circuit_assignment}
use Rattle.skolem_checker.proofs.rows.matrix_lanes.Given as goal

abbrev pub invariant-loop-j : goal.invariant-loop-j
invariant-loop-j l = record {
  four : length l.hold ≡ 4;
  bits : (i b : ℕ) → i < 4 → b < 64 → lane_bit l.hold i b
      ≡ list_all (clause_true (circuit_assignment l.literals (block_bits l.values i b))) (take l.j l.f.matrix);
}
