use Rattle.std.proofs.Common.{arith}
use Rattle.dqdimacs_reader.specs.MachineState.{reading_of, literal_on}
use Rattle.dqdimacs_reader.proofs.XorSteps.{stands, xor_state, xor_ready}
use Rattle.dqdimacs_reader.proofs.steps.take_xor_literal.Goals as goal

pub returns-clause-state : goal.returns-clause-state
returns-clause-state c =
    let m = c.args.machine.now in
    let l = literal_on c.args.negative c.args.v in
    xor_state m.stage (reading_of m) m.dependent m.dependencies.items m.literals c.add.new.self c.args.v
    c.literal_of-literal.result l c.literal_of-literal.ensures c.requires.stage
    (stands c.args.negative c.args.v) c.if-v-eq0.false c.requires.passed c.requires.ready c.add.result c.add.ensures.ok

pub returns-clause-ready : goal.returns-clause-ready
returns-clause-ready c = search (arith, xor_ready)
