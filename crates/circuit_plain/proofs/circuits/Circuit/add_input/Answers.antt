use Rattle.circuit_plain.proofs.NetlistLaws.{keeps_input}
use Rattle.circuit_plain.proofs.circuits.Circuit.add_input.Goals as goal

pub invariant_of-self-2 : goal.invariant_of-self-2
invariant_of-self-2 c =
    rw c.in_ok-push.ensures.items (keeps_input _ c.args.var c.self.invariant
    (rw (← c.self.view_is) at c.requires.in_range) (rw (← c.self.view_is) at c.requires.undefined))
