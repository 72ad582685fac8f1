use Rattle.std.proofs.Common.{◌≡◌, ◌+◌, ◌<◌, length, get_or, [], ◌∙◌, subst, arith}
use Rattle.std.proofs.lemmas.List.{get_or_default}
use Rattle.dq_lits.specs.Literal.{positive, variable_of}
use Rattle.circuit_cnf.specs.Faults.{IsFaulted}
use Rattle.circuit_cnf.specs.Saying.{leaf_in, selector_in}
use Rattle.circuit_cnf.proofs.SaidFaults.{nothing_said, may_say_on, said_then, next_clause, part_given}
use Rattle.circuit_cnf.proofs.fault_clauses.Faults.part_faults.Goals as goal

pub loop-j-init : goal.loop-j-init
loop-j-init g c = search (arith, nothing_said)

pub part_fault-requires-clause-may : goal.part_fault-requires-clause-may
part_fault-requires-clause-may g c = search (arith, may_say_on)

pub returns-in_err-part_fault-clause-said : goal.returns-in_err-part_fault-clause-said
returns-in_err-part_fault-clause-said g c = search (arith, said_then)

pub loop-j-preserved : goal.loop-j-preserved
loop-j-preserved g c =
    let f = c.args.self.now.f.now in
    let sel = selector_in c.args.self.now in
    let leaf = leaf_in c.args.self.now in
    let j = c.loop-j.j in
    let below : j < length c.args.bads.now = let test = c.loop-j-test.true in let count = c.requires.bad_count in
    let all = c.clauses-j-end.ensures.value in omega (arith, test, count, all) in
    let bad : c.index-bads-j.result ≡ get_or c.args.bads.now j (positive 0) =
    c.index-bads-j.is ∙ get_or_default c.args.bads.now j c.index-bads-j.result (positive 0) below in (
      c.part_fault.ensures.fit,
      next_clause f sel c.args.bads.now leaf c.args.part.now c.args.log.now c.loop-j.log j c.loop-j.invariant.1
          c.part_fault.new.log c.part_fault.ensures.said
          (λ mine. subst (λ l. IsFaulted f sel (variable_of l) (j + 1) leaf (get_or f.matrix j [])
          c.part_fault.new.log.entries) bad (c.in_ok-part_fault.ensures.given mine)),
    )

pub returns-clause-given : goal.returns-clause-given
returns-clause-given g c = search (arith, part_given)
