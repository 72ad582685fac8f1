use Rattle.std.proofs.Common.{◌≡◌, ◌+◌, ◌<◌, [], length, get_or, sym, ◌∙◌, ap, subst, arith}
use Rattle.std.specs.List.{Contains}
use Rattle.dq_lits.specs.Literal.{variable_of}
use Rattle.dq_lits.specs.Formula.{declared}
use Rattle.circuit_cnf.specs.Faults.{HasFault}
use Rattle.circuit_cnf.specs.Saying.{leaf_in, selector_in}
use Rattle.circuit_cnf.proofs.ClauseFaults.{same_element}
use Rattle.circuit_cnf.proofs.SaidFaults.{nothing_said, may_say_on, said_then, next_fault}
use Rattle.list_laws.proofs.Elements.{found_at}
use Rattle.circuit_cnf.proofs.fault_clauses.Faults.literal_faults.Goals as goal

pub loop-i-init : goal.loop-i-init
loop-i-init g c = search (arith, nothing_said)

pub give_fault-requires-clause-may : goal.give_fault-requires-clause-may
give_fault-requires-clause-may g c = search (arith, may_say_on)

pub give_fault-requires-clause-declared : goal.give_fault-requires-clause-declared
give_fault-requires-clause-declared g c =
    let i = c.loop-i.i in
    let l = c.index-clause-i.result in
    let clause_is = c.clause-clause.ensures in
    let bound = c.requires.may.bound c.args.j [] c.requires.clause i l
    (subst (λ xs. i < length xs) clause_is c.loop-i-test.true) in
    subst (λ k. Contains (declared c.args.self.now.f.now) (variable_of k))
    (sym (c.index-clause-i.is ∙ ap (λ xs. get_or xs i l) clause_is)) bound

pub give_fault-requires-clause-leaf : goal.give_fault-requires-clause-leaf
give_fault-requires-clause-leaf g c = search (arith, same_element)

pub returns-in_err-give_fault-clause-said : goal.returns-in_err-give_fault-clause-said
returns-in_err-give_fault-clause-said g c = search (arith, said_then)

pub loop-i-preserved : goal.loop-i-preserved
loop-i-preserved g c =
    let sel = selector_in c.args.self.now in
    let leaf = leaf_in c.args.self.now in
    let clause = c.clause-clause.result.now in
    let i = c.loop-i.i in
    let l = c.index-clause-i.result in
    let same = same_element clause i c.index-clause-i-in-loop-i.result l c.loop-i-test.true
    c.index-clause-i-in-loop-i.is c.index-clause-i.is in
    let out_is : c.leaf.result ≡ leaf (variable_of l) = c.leaf.ensures ∙ ap leaf
    (c.var.ensures.value ∙ ap variable_of same) in
    let at = found_at clause i l c.loop-i-test.true c.index-clause-i.is in
    let here = subst (λ out. HasFault sel (variable_of c.args.bad) (c.args.j + 1)
    (i + 1) l out c.give_fault.new.log.entries) out_is c.in_ok-give_fault.ensures.given in (
      c.give_fault.ensures.fit,
      next_fault c.args.self.now.f.now sel (variable_of c.args.bad)
          (c.args.j + 1) leaf clause c.args.log.now c.loop-i.log c.give_fault.new.log i l c.loop-i.invariant.1
          c.give_fault.ensures.said at here,
    )
