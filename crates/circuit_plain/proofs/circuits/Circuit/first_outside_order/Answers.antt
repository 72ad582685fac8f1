use Rattle.std.proofs.Common.{◌<◌, get_or, sym, ap, inr, Err, subst}
use Rattle.std.proofs.lemmas.List.{get_or-map, length-map}
use Rattle.circuit_plain.specs.Netlist.{variable_of_gate}
use Rattle.circuit_plain.proofs.OrderLaws.{orders_ground}
use Rattle.circuit_plain.proofs.circuits.Circuit.first_outside_order.Goals as goal

pub returns-in-Ok : goal.returns-in-Ok
returns-in-Ok c k d below =
    let net = c.args.self.now in
    let v = (get_or net.gates k d).variable in
    let there = subst (λ n. k < n) (sym (length-map net.gates variable_of_gate)) below in
    let is = get_or-map variable_of_gate net.gates k d v below in
    orders_ground net c.in-Ok._order v c.in-Ok.ensures.ok (inr (inr (k, there, is)))

pub returns-in-Err-Cyclic : goal.returns-in-Err-Cyclic
returns-in-Err-Cyclic c = c.in-Err-Cyclic.ensures.cyclic c.in-Err-Cyclic.place (ap Err c.in-Err-Cyclic.field-0-is)
