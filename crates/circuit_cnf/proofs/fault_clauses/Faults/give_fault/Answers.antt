use Rattle.std.proofs.Common.{◌≡◌, not, false, ◌∷◌, [], sym, ◌∙◌, ap}
use Rattle.dq_lits.specs.Literal.{is_negative, opposite}
use Rattle.hint_log.specs.Entries.{Given, with_entry}
use Rattle.hint_log.specs.declared.origins.Leaf.TheVariants.{Constant, Literal as LeafLiteral}
use Rattle.hint_log.specs.Origins.{leaf_with_sign, leaf_clause}
use Rattle.circuit_cnf.proofs.SaidFaults.{fault_is_said, nothing_said, same_said}
use Rattle.circuit_cnf.proofs.fault_clauses.Faults.give_fault.Goals as goal

pub returns-in-Constant-true-clause-said : goal.returns-in-Constant-true-clause-said
returns-in-Constant-true-clause-said g c = nothing_said c.args.self.now c.args.log.now c.requires.may

pub returns-in_err-add-in-Constant-false-clause-said : goal.returns-in_err-add-in-Constant-false-clause-said
returns-in_err-add-in-Constant-false-clause-said g c = same_said c.args.self.now c.args.log.now c.requires.may
    c.add.new.log c.in_err-add-in-Constant-false.ensures.err

pub returns-in_err-add-in-Literal-clause-said : goal.returns-in_err-add-in-Literal-clause-said
returns-in_err-add-in-Literal-clause-said g c = same_said c.args.self.now c.args.log.now c.requires.may
    c.add-in-Literal.new.log c.in_err-add-in-Literal.ensures.err

pub returns-in_ok-add-in-Constant-false-clause-said : goal.returns-in_ok-add-in-Constant-false-clause-said
returns-in_ok-add-in-Constant-false-clause-said g c =
    let sel = c.args.self.now.group.now.selector in
    let out = c.args.at.leaf in
    let signed : leaf_with_sign (not (is_negative c.args.at.literal)) out ≡ Constant false =
    ap (λ b. leaf_with_sign (not b) out) (sym c.is_neg.ensures) ∙ sym c.in-Constant-false.ensures
    ∙ ap Constant c.in-Constant-false.field-0-test in
    fault_is_said c.args.self.now c.args.log.now c.requires.may c.args.bad c.args.at.literal out c.args.at.clause
    c.args.at.place (c.not.result ∷ []) [] c.add.new.log
    c.requires.clause_from_one c.requires.literal c.requires.declared c.requires.leaf c.requires.bad c.requires.positive
    (ap leaf_clause signed) (ap (λ l. l ∷ []) c.not.ensures)
    (c.in_ok-add-in-Constant-false.ensures.ok ∙ ap (λ o. with_entry c.args.log.now
    (Given o (opposite sel ∷ c.not.result ∷ []))) c.fault-origin.ensures)

pub returns-in_ok-add-in-Literal-clause-said : goal.returns-in_ok-add-in-Literal-clause-said
returns-in_ok-add-in-Literal-clause-said g c =
    let sel = c.args.self.now.group.now.selector in
    let out = c.args.at.leaf in
    let l = c.in-Literal.l in
    let signed : leaf_with_sign (not (is_negative c.args.at.literal)) out ≡ LeafLiteral l =
    ap (λ b. leaf_with_sign (not b) out) (sym c.is_neg.ensures) ∙ sym c.in-Literal.ensures in
    fault_is_said c.args.self.now c.args.log.now c.requires.may c.args.bad c.args.at.literal out c.args.at.clause
    c.args.at.place (c.not-in-Literal.result ∷ l ∷ []) (l ∷ []) c.add-in-Literal.new.log
    c.requires.clause_from_one c.requires.literal c.requires.declared c.requires.leaf c.requires.bad c.requires.positive
    (ap leaf_clause signed) (ap (λ k. k ∷ l ∷ []) c.not-in-Literal.ensures)
    (c.in_ok-add-in-Literal.ensures.ok ∙ ap (λ o. with_entry c.args.log.now
    (Given o (opposite sel ∷ c.not-in-Literal.result ∷ l ∷ []))) c.fault-origin-in-Literal.ensures)
