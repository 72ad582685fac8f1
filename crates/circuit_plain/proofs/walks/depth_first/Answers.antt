use Rattle.std.proofs.Common.{◌<◌, length}
use Rattle.std.proofs.lemmas.List.Elements.{All-pop}
use Rattle.circuit_plain.specs.Steps.{task_place}
use Rattle.circuit_plain.proofs.WalkSteps.{leave_gate}
use Rattle.circuit_plain.proofs.walks.depth_first.Goals as goal

pub visit-requires-clause-tasks_in_range : goal.visit-requires-clause-tasks_in_range
visit-requires-clause-tasks_in_range c =
    (All-pop (λ task. task_place task < length c.args.gates.now) c.loop-task.tasks.items c.pop.new.self.items
    c.pop.result
    c.pop.ensures.items c.loop-task.invariant.tasks_in).0

pub loop-task-preserved-in-Continue-branch-4 : goal.loop-task-preserved-in-Continue-branch-4
loop-task-preserved-in-Continue-branch-4 c =
    leave_gate (length c.args.gates.now) c.loop-task.seen.items c.loop-task.places.items _ c.loop-task.tasks.items
    c.pop.new.self.items
    c.pop.result c.in-Some.task c.in-Leave.place c.loop-task.invariant c.pop.ensures.items c.in-Some.is c.in-Leave.is
    c.in_ok-push-in-Leave.ensures.items
