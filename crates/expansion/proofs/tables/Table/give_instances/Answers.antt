use Rattle.std.proofs.Common.{arith}
use Rattle.expansion.proofs.GivenInstances.{given_so_far}
use Rattle.expansion.proofs.tables.Table.give_instances.Goals as goal

pub loop-j-preserved : goal.loop-j-preserved
loop-j-preserved g c =
    search (
      arith,
      (given_so_far c.args.new.now.f.now c.args.self.now c.args.new.now.row.now c.args.new.now.variables.now c.loop-j.j c.args.log.now c.loop-j.log c.give_instance.new.log c.loop-j.invariant.2 c.in_ok-give_instance.ensures.given),
    )
