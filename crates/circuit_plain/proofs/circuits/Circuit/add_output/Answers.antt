use Rattle.circuit_plain.proofs.NetlistLaws.{keeps_output}
use Rattle.circuit_plain.proofs.circuits.Circuit.add_output.Goals as goal

pub invariant_of-self-2 : goal.invariant_of-self-2
invariant_of-self-2 c =
    rw c.in_ok-push.ensures.items (keeps_output _ c.args.lit c.self.invariant (rw (← c.self.view_is) at c.requires))
