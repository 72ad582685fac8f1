-- A group whose clauses have their variables may still say what it says of them.
use Rattle.std.proofs.Common.{arith}
use Rattle.hint_log.specs.Entries.{ProofLog}
use Rattle.circuit_cnf.specs.Saying.{MaySay, leaf_in, selector_in}
use Rattle.circuit_cnf.specs.declared.fault_clauses.Faults.{Faults}
use Rattle.circuit_cnf.specs.Faults.{AreNamedAndSaid}
use Rattle.oracle.proofs.MadeGroups.{made_stays}

pub may_say_named : (s : Faults) (old new : ProofLog) → MaySay s old.entries →
    AreNamedAndSaid s.f.now (selector_in s) (leaf_in s) old new → MaySay s new.entries
may_say_named s old new may named = search (arith, made_stays)
