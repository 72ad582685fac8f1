use Rattle.std.proofs.Common.{map, sym, ◌∙◌, ap, arith}
use Rattle.std.proofs.lemmas.List.{length-map}
use Rattle.dq_lits.specs.Formula.{existential_of}
use Rattle.dq_lits.specs.Expansion.{row_assignment}
use Rattle.dq_formula.specs.Dependencies.{dependencies}
use Rattle.dq_formula.proofs.Distinct.{length-dependencies}
use Rattle.expansion.specs.FirstRows.{bits_cmp}
use Rattle.expansion.proofs.ComparedRows.{set_is, cmp_from_places, cmp_from_difference}
use Rattle.expansion.proofs.orders.compare_on.Goals as goal

pub returns-then-first-second : goal.returns-then-first-second
returns-then-first-second c = search (arith, length-dependencies, set_is, cmp_from_difference, length-map)

pub returns : goal.returns
returns c =
    let us = c.args.f.now.universals in
    let ds = dependencies us c.deps_of-deps.result.now in
    let m = row_assignment c.args.f.now c.args.r1.now in
    let n = row_assignment c.args.f.now c.args.r2.now in
    let many = length-dependencies us c.deps_of-deps.result.now c.deps_of-deps.ensures.form in
    let set = set_is (existential_of c.args.f.now c.args.y) ds c.requires.declared c.deps_of-deps.ensures.set in
    cmp_from_places (map m ds) (map n ds) (length-map ds m ∙ sym (length-map ds n))
    (λ k l. c.loop-i.invariant k (let a = length-map ds m in let test = c.loop-i-test.false in let end =
    c.count-i-end.ensures in omega (arith, l, a, many, test, end)))
    ∙ ap (λ xs. bits_cmp (map m xs) (map n xs)) set
