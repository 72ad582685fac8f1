use Rattle.std.specs.List.{All}
use Rattle.repair_loop.specs.Constants.{IsConstant}
use Rattle.repair_loop.proofs.signs.Signs.constants.Given as goal

abbrev pub invariant-loop-place : goal.invariant-loop-place
invariant-loop-place l = All IsConstant l.nodes.items
