use Rattle.std.proofs.Common.{get_or, subst, arith, rules}
use Rattle.std.specs.List.{AllZip}
use Rattle.std.proofs.lemmas.List.{get_or_default, take_all}
use Rattle.lifted_proofs.specs.Goals.{IsAskedIn}
use Rattle.lifted_proofs.proofs.AskedGoals.{adds-none}
use Rattle.lifted_proofs.proofs.SettledGoals.{step-asked}
use Rattle.lifted_proofs.proofs.goals.Plan.ask_all.Goals as goal

pub loop-j-init : goal.loop-j-init
loop-j-init c = adds-none c.requires.plan (c.requires.row, search rules)

pub loop-j-preserved : goal.loop-j-preserved
loop-j-preserved c =
    let places = c.args.places.now in
    let j = get_or places c.loop-j.j-index 0 in
    step-asked c.args.table.now c.args.self.now c.loop-j.self c.ask.new.self c.args.lowered c.loop-j.j-index j
    c.in_ok-ask.field-0 places c.loop-j.hints.items c.push.new.self.items c.loop-j.invariant c.in_ok-ask.ensures
    c.loop-j-test.true (get_or_default places c.loop-j.j-index 0 j c.loop-j-test.true) c.in_ok-push.ensures.items

pub returns : goal.returns
returns c =
    let it = c.loop-j.invariant in record {
      plan = it.plan;
      grows = it.grows;
      now = subst (λ js. AllZip (IsAskedIn c.args.table.now c.loop-j.self c.args.lowered) js c.loop-j.hints.items)
          (take_all c.loop-j.j-index c.args.places.now (omega arith)) it.now.1;
    }
