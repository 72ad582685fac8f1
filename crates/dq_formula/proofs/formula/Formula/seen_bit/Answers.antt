use Rattle.std.proofs.Common.{◌≡◌, ◌<◌, get_or, ap, sym, subst, ◌∙◌, length, map, arith}
use Rattle.dq_lits.specs.Row.{bit_of, assignment_of}
use Rattle.dq_formula.specs.Dependencies.{dependencies, listed_universals, IsDependencySet}
use Rattle.dq_formula.proofs.Distinct.{place-listed}
use Rattle.dq_formula.proofs.Restrictions.{bit-first, bit-listed}
use Rattle.dq_formula.proofs.formula.Formula.seen_bit.Goals as goal

pub get-requires-in-Some : goal.get-requires-in-Some
get-requires-in-Some c =
    let us = c.args.self.now.universals in
    let vs = c.in-Listed.vars in
    let x = c.in-Some.x.now in
    let l : c.args.i < length vs = rw (sym c.items.ensures) c.in-Some.ensures.lookup.3.0 in
    let at : x ≡ get_or vs c.args.i x = c.in-Some.ensures.lookup.1 ∙ ap (λ ws. get_or ws c.args.i x) c.items.ensures in
    let kept : vs ≡ listed_universals us vs = subst (IsDependencySet us) c.in-Listed.is c.requires.form in
    rw (c.place_of.ensures.place, c.requires.row_length) (place-listed us vs c.args.i x kept l at)

pub returns-then-i-n : goal.returns-then-i-n
returns-then-i-n c = search (arith, bit-first)

pub returns-in-Some : goal.returns-in-Some
returns-in-Some c =
    let us = c.args.self.now.universals in
    let vs = c.in-Listed.vars in
    let row = c.args.row.now in
    let x = c.in-Some.x.now in
    let l : c.args.i < length vs = rw (sym c.items.ensures) c.in-Some.ensures.lookup.3.0 in
    let at : x ≡ get_or vs c.args.i x = c.in-Some.ensures.lookup.1 ∙ ap (λ ws. get_or ws c.args.i x) c.items.ensures in
    c.get-in-Some.ensures ∙ ap (bit_of row) c.place_of.ensures.place
    ∙ bit-listed us vs row c.args.i x c.requires.row_length l at
    ∙ ap (λ deps. bit_of (map (assignment_of us row) (dependencies us deps)) c.args.i) (sym c.in-Listed.is)
