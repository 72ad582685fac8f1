use Rattle.std.proofs.Common.{arith}
use Rattle.definition_order.proofs.Declared.{declared_at}
use Rattle.gate_definitions.proofs.coverage.sight.Goals as goal

pub seen-requires : goal.seen-requires
seen-requires c = search (arith, declared_at)
