use Rattle.std.proofs.Common.{◌≡◌, ◌<◌, ℕ, take, length}
use Rattle.std.specs.List.{list_any}
use Rattle.dq_lits.specs.Literal.{literal_true}
use Rattle.circuit_plain.specs.Blocks.{lane_bit, block_bits}
use Rattle.skolem_checker.specs.Tables.{circuit_assignment}
use Rattle.skolem_checker.proofs.rows.clause_lanes.Given as goal

abbrev pub invariant-loop-literal : goal.invariant-loop-literal
invariant-loop-literal l = record {
  four : length l.holds ≡ 4;
  bits : (i b : ℕ) → i < 4 → b < 64 → lane_bit l.holds i b
      ≡ list_any (literal_true (circuit_assignment l.literals (block_bits l.values i b)))
      (take l.literal-index l.clause);
}
