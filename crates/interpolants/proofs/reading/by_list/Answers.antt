use Rattle.std.proofs.Common.{arith}
use Rattle.std.proofs.lemmas.Result.{IfOk-weaker}
use Rattle.interpolants.proofs.Alike.{shares_kept, interpolant_kept}
use Rattle.interpolants.proofs.reading.by_list.Goals as goal

pub by_map-requires-clause-shares : goal.by_map-requires-clause-shares
by_map-requires-clause-shares c = search (arith, shares_kept)

pub by_map-requires-clause-nodes : goal.by_map-requires-clause-nodes
by_map-requires-clause-nodes c = search arith

pub returns-clause-interpolant : goal.returns-clause-interpolant
returns-clause-interpolant c =
    search (
      arith,
      (IfOk-weaker c.by_map.result),
      (interpolant_kept c.args.answer.now.log.now.entries c.args.answer.now.id c.args.a_side.now c.args.a_side.now c.args.shared.now c.in_ok-shared.shared),
    )
