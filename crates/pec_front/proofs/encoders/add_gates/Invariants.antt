use Rattle.std.proofs.Common.{◌*◌, take}
use Rattle.std.specs.List.{flat_map}
use Rattle.cert_text.specs.NegatedMatrix.{gate_clauses}
use Rattle.pec_front.specs.Encoder.{AreAdded}
use Rattle.pec_front.specs.Encoding.{numbered_gate}
use Rattle.pec_front.specs.Numbering.{number_in}
use Rattle.pec_front.proofs.encoders.add_gates.Given as goal

abbrev pub invariant-loop-i : goal.invariant-loop-i
invariant-loop-i l =
    AreAdded l.initial.f l.f
    (flat_map (λ g. gate_clauses (numbered_gate (number_in l.numbering) g)) (take l.i l.numbering.circuit.now.gates))
    (3 * l.i)
