use Rattle.circuit_plain.proofs.OrderLaws.{orders_ground}
use Rattle.circuit_plain.proofs.laws.orders_ground.Goals as goal

pub returns : goal.returns
returns c = orders_ground
