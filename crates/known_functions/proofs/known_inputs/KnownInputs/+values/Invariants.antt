use Rattle.std.proofs.Common.{◌+◌, ◌*◌}
use Rattle.known_functions.proofs.known_inputs.KnownInputs.+values.Given as goal

abbrev pub decreases-value_below : goal.decreases-value_below
decreases-value_below l = 2 * l.depth

abbrev pub decreases-gate : goal.decreases-gate
decreases-gate l = 2 * l.depth + 1
