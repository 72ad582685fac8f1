use Rattle.std.proofs.Common.{map, sym, subst, ◌∙◌, ap}
use Rattle.dq_lits.specs.Row.{bit_of, assignment_of}
use Rattle.dq_formula.specs.Dependencies.{dependencies, IsDependencySet}
use Rattle.dq_formula.proofs.Restrictions.{bit-first}
use Rattle.log_laws.proofs.Found.{variable}
use Rattle.expansion.proofs.ComparedRows.{distinct_universals}
use Rattle.expansion.proofs.orders.seen_bit.Goals as goal

pub returns-then-i-n : goal.returns-then-i-n
returns-then-i-n c =
    let us = c.args.f.now.universals in
    let row = c.args.row.now in
    let distinct = distinct_universals us (map variable c.args.f.now.existentials)
    c.every_formula_is_lawful.ensures.prefix.declared_once in
    let within = subst (IsDependencySet us) c.in-FirstOf.is c.requires.form in
    c.get.ensures ∙ bit-first us row c.in-FirstOf.n c.args.i distinct c.requires.row_length within c.if-i-n.true
    ∙ ap (λ deps. bit_of (map (assignment_of us row) (dependencies us deps)) c.args.i) (sym c.in-FirstOf.is)
