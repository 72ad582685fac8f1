use Rattle.std.proofs.Common.{◌≡◌, ◌+◌, ◌<◌, [], inr, length, get_or, sym, ◌∙◌, ap, subst, not, false, Some, arith}
use Rattle.std.specs.List.{Contains}
use Rattle.std.proofs.lemmas.Result.{on_ok_weaker}
use Rattle.list_laws.proofs.Elements.{place_within, found_at}
use Rattle.dq_lits.specs.Literal.{is_negative, variable_of}
use Rattle.dq_lits.specs.Formula.{declared}
use Rattle.hint_log.specs.Origins.{leaf_with_sign}
use Rattle.hint_log.specs.declared.origins.Leaf.TheVariants.{Constant}
use Rattle.circuit_cnf.specs.Saying.{leaf_in, selector_in}
use Rattle.circuit_cnf.proofs.ClauseFaults.{same_element}
use Rattle.circuit_cnf.proofs.SaidFaults.{never_bad}
use Rattle.circuit_cnf.proofs.fault_clauses.Faults.clause_faults.Goals as goal

pub give_fault-requires-clause-declared : goal.give_fault-requires-clause-declared
give_fault-requires-clause-declared g c =
    let i = c.in-Some.i in
    let l = c.index-clause-i.result in
    let clause_is = c.clause-clause.ensures in
    let below = place_within c.clause-clause.result.now i c.in-Some.ensures.0 c.in-Some.ensures.1 in
    let bound = c.requires.may.bound c.args.j [] c.requires.clause i l
    (subst (λ xs. i < length xs) clause_is below) in
    subst (λ k. Contains (declared c.args.self.now.f.now) (variable_of k))
    (sym (c.index-clause-i.is ∙ ap (λ xs. get_or xs i l) clause_is)) bound

pub give_fault-requires-clause-leaf : goal.give_fault-requires-clause-leaf
give_fault-requires-clause-leaf g c =
    search (
      arith,
      (place_within c.clause-clause.result.now c.in-Some.i c.in-Some.ensures.0 c.in-Some.ensures.1),
      (same_element c.clause-clause.result.now c.in-Some.i c.index-clause-i-2.result c.index-clause-i.result),
    )

pub returns-clause-given : goal.returns-clause-given
returns-clause-given g c =
    let leaf = leaf_in c.args.self.now in
    let i = c.in-Some.i in
    let l = c.index-clause-i.result in
    let clause = c.clause-clause.result.now in
    let below = place_within clause i c.in-Some.ensures.0 c.in-Some.ensures.1 in
    let same = same_element clause i c.index-clause-i-2.result l below c.index-clause-i-2.is c.index-clause-i.is in
    let out_is : c.leaf.result ≡ leaf (variable_of l) = c.leaf.ensures ∙ ap leaf
    (c.var.ensures.value ∙ ap variable_of same) in
    let both : Some c.in-Some.ensures.0 ≡ Some l = sym c.in-Some.ensures.1
    ∙ found_at clause i l below c.index-clause-i.is in
    let literal : c.in-Some.ensures.0 ≡ l = cc in
    let anyway = subst (λ k. leaf_with_sign (not (is_negative k)) (leaf (variable_of k)) ≡ Constant false) literal
    c.in-Some.ensures.2 in
    on_ok_weaker c.give_fault.result (λ has. inr (never_bad (selector_in c.args.self.now) (variable_of c.args.bad)
    (c.args.j + 1) (i + 1) l c.leaf.result c.give_fault.new.log.entries
    (ap (leaf_with_sign (not (is_negative l))) out_is ∙ anyway) has)) c.give_fault.ensures.given
