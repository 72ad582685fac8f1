use Rattle.std.proofs.Common.{◌∙◌, arith}
use Rattle.known_functions.proofs.definitions.Definitions.read_gates.Goals as goal
use Rattle.aig_graph.proofs.LargerGraphs.{grown_twice, extends-refl}

pub loop-place-init : goal.loop-place-init
loop-place-init c = record { extends = extends-refl c.args.graph.now; known = c.requires.known }

pub read_gate-requires-clause-inputs : goal.read_gate-requires-clause-inputs
read_gate-requires-clause-inputs c = c.loop-place.invariant.extends.inputs ∙ c.requires.inputs

pub returns-in_err-read_gate-clause-extends : goal.returns-in_err-read_gate-clause-extends
returns-in_err-read_gate-clause-extends c = search (arith, grown_twice)

pub loop-place-preserved : goal.loop-place-preserved
loop-place-preserved c = record {
  extends = grown_twice c.args.graph.now c.loop-place.graph c.read_gate.new.graph c.loop-place.invariant.extends
      c.read_gate.ensures.extends;
  known = c.in_ok-read_gate.ensures.known;
}
