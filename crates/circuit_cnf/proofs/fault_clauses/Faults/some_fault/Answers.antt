use Rattle.std.proofs.Common.{length, arith}
use Rattle.std.specs.List.{range_with_len}
use Rattle.circuit_cnf.specs.Saying.{selector_in}
use Rattle.circuit_cnf.proofs.SaidFaults.{some_is_said, same_said}
use Rattle.circuit_cnf.proofs.SomeFault.{bads_are_plain}
use Rattle.circuit_cnf.proofs.fault_clauses.Faults.some_fault.Goals as goal

pub add-requires-clause-plain : goal.add-requires-clause-plain
add-requires-clause-plain g c = bads_are_plain c.args.log.now.entries (selector_in c.args.self.now) c.args.bads.now
    (range_with_len 1 (length c.args.self.now.f.now.matrix)) c.requires.bads

pub returns-clause-said : goal.returns-clause-said
returns-clause-said g c =
    search (
      arith,
      (some_is_said c.args.self.now c.args.log.now c.requires.may c.args.bads.now c.add.new.log c.requires.bads),
    )

pub returns-in_err-add-clause-said : goal.returns-in_err-add-clause-said
returns-in_err-add-clause-said g c = search (arith, same_said)
