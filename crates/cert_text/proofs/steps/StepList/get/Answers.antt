use Rattle.std.proofs.Common.{◌<◌, length, ap, arith}
use Rattle.cert_text.proofs.KeptSteps.{length-steps_from, step_got}
use Rattle.cert_text.proofs.steps.StepList.get.Goals as goal

pub index-requires : goal.index-requires
index-requires c = search (arith, length-steps_from)

pub get-requires : goal.get-requires
get-requires c = search (arith, length-steps_from)

pub get-requires-2 : goal.get-requires-2
get-requires-2 c = search (arith, length-steps_from)

pub returns : goal.returns
returns c =
    let l = c.self.inside in
    let size = length-steps_from l.ids.items l.literals l.hints c.self.invariant in
    let below : c.args.place < length l.ids.items = omega (arith, c.requires, size, ap length c.self.view_is) in
    step_got l.ids.items l.literals l.hints c.args.place c.args.self.now c.index.result.now c.get.result.now
    c.get-2.result.now
    c.self.invariant below c.self.view_is c.index.ensures c.get.ensures c.get-2.ensures
