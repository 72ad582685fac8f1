use Rattle.std.proofs.Common.{arith}
use Rattle.circuit_cnf.specs.Saying.{given_after, leaf_in, selector_in}
use Rattle.circuit_cnf.proofs.GroupFaults.{bads_are_at, bads_count, bads_stay, chosen_given}
use Rattle.circuit_cnf.proofs.SaidFaults.{said_then, may_say_on}
use Rattle.circuit_cnf.proofs.fault_clauses.Faults.say.Goals as goal

pub part_faults-requires-clause-bad_count : goal.part_faults-requires-clause-bad_count
part_faults-requires-clause-bad_count g c = search (arith, bads_count)

pub part_faults-requires-clause-bads : goal.part_faults-requires-clause-bads
part_faults-requires-clause-bads g c = search (arith, bads_are_at)

pub some_fault-requires-clause-may : goal.some_fault-requires-clause-may
some_fault-requires-clause-may g c = search (arith, may_say_on)

pub some_fault-requires-clause-bads : goal.some_fault-requires-clause-bads
some_fault-requires-clause-bads g c = search (arith, bads_stay)

pub returns-in_err-some_fault-clause-said : goal.returns-in_err-some_fault-clause-said
returns-in_err-some_fault-clause-said g c = search (arith, said_then)

pub returns-clause-said : goal.returns-clause-said
returns-clause-said g c = search (arith, said_then)

pub returns-clause-given : goal.returns-clause-given
returns-clause-given g c =
    chosen_given c.args.self.now.f.now (selector_in c.args.self.now)
    (leaf_in c.args.self.now) c.args.bads.now (given_after c.args.part.now) c.part_faults.new.log c.some_fault.new.log
    c.in_ok-part_faults.ensures.given c.in_ok-some_fault.ensures.ok
