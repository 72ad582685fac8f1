-- A table's part of the log, its group and its rows stay where others add to the log.
use Rattle.std.proofs.Common.{arith}
use Rattle.expansion.specs.Preservation.{RoundsLeaveTables}

pub round_left : RoundsLeaveTables
round_left f t row values j earlier full = search arith
