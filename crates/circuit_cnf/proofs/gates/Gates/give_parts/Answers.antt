use Rattle.std.proofs.Common.{◌≡◌, Some, ◌∙◌, ap, arith}
use Rattle.log_laws.proofs.Solved.{sides}
use Rattle.hint_log.specs.declared.names.Name.TheVariants.{And}
use Rattle.circuit_cnf.proofs.KnownGates.{name_in_range}
use Rattle.circuit_cnf.proofs.GateClauses.{part_given}
use Rattle.circuit_cnf.proofs.gates.Gates.give_parts.Goals as goal

pub give_part-requires-clause-from_one : goal.give_part-requires-clause-from_one
give_part-requires-clause-from_one g c =
    let gate = c.args.gate.now in
    let so_far = c.loop-parts.invariant.1 in
    let here = so_far.known.last (record gate { parts = c.loop-parts.parts }) so_far.last in
    (name_in_range c.loop-parts.log.entries gate.variable (And gate.left gate.right)
    (g.met.O.Oracle.searched c.loop-parts.oracle c.loop-parts.log c.loop-parts.invariant.0).logged here.named).0

pub give_part-requires-clause-in_range : goal.give_part-requires-clause-in_range
give_part-requires-clause-in_range g c =
    let gate = c.args.gate.now in
    let so_far = c.loop-parts.invariant.1 in
    let here = so_far.known.last (record gate { parts = c.loop-parts.parts }) so_far.last in
    (name_in_range c.loop-parts.log.entries gate.variable (And gate.left gate.right)
    (g.met.O.Oracle.searched c.loop-parts.oracle c.loop-parts.log c.loop-parts.invariant.0).logged here.named).1

pub give_part-requires-clause-sides : goal.give_part-requires-clause-sides
give_part-requires-clause-sides g c =
    let gate = c.args.gate.now in
    let so_far = c.loop-parts.invariant.1 in
    let here = so_far.known.last (record gate { parts = c.loop-parts.parts }) so_far.last in
    sides c.loop-parts.log.entries gate.variable gate.left gate.right
    (g.met.O.Oracle.searched c.loop-parts.oracle c.loop-parts.log c.loop-parts.invariant.0).logged here.named

pub loop-parts-preserved : goal.loop-parts-preserved
loop-parts-preserved g c =
    search (
      arith,
      (part_given c.args.self.now c.args.log.now c.args.gate.now c.loop-parts.self c.loop-parts.log c.give_part.new.log c.loop-parts.parts c.loop-parts.invariant.1 c.loop-parts-test.true c.in_ok-give_part.ensures.given),
    )

pub returns-clause-last : goal.returns-clause-last
returns-clause-last g c =
    let gate = c.args.gate.now in
    let so_far = c.loop-parts.invariant.1 in
    let here = so_far.known.last (record gate { parts = c.loop-parts.parts }) so_far.last in
    let most = here.few in
    let all : c.loop-parts.parts ≡ 3 = let past = c.loop-parts-test.false in omega (arith, past, most) in
    so_far.last ∙ ap (λ n. Some (record gate { parts = n })) all
