use Rattle.std.proofs.Common.{length, arith}
use Rattle.std.proofs.lemmas.List.{length-map, length_push}
use Rattle.dq_formula.specs.Sets.{IsLeader}
use Rattle.dq_formula.proofs.SetLeaders.{leaders_more}
use Rattle.dq_formula.proofs.formula.Formula.set_leaders.Goals as goal

pub leader_of-requires : goal.leader_of-requires
leader_of-requires c = search (arith, length-map)

pub loop-place-preserved : goal.loop-place-preserved
loop-place-preserved c =
    let f = c.args.self.now in
    let leaders = c.loop-place.leaders.items in
    let many = c.loop-place.invariant.many in
    let last : IsLeader f c.in_ok-latest.latest (length leaders) = rw many c.in_ok-latest.ensures in
    rw c.in_ok-push.ensures.items (record {
      many = omega (arith, length_push leaders c.in_ok-latest.latest, many);
      each = rw many at (leaders_more f leaders c.in_ok-latest.latest
          (rw (← many) at c.loop-place.invariant.each) last);
    })
