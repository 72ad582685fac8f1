use Rattle.circuit_plain.proofs.NetlistLaws.{keeps_gate}
use Rattle.circuit_plain.proofs.circuits.Circuit.add_gate.Goals as goal

pub invariant_of-self-2 : goal.invariant_of-self-2
invariant_of-self-2 c =
    rw c.in_ok-push.ensures.items (keeps_gate _ _ c.self.invariant
    (record {
      variable = rw (← c.self.view_is) at c.requires.in_range;
      left = rw (← c.self.view_is) at c.requires.a_in_range;
      right = rw (← c.self.view_is) at c.requires.b_in_range;
    })
    (rw (← c.self.view_is) at c.requires.undefined))
