use Rattle.std.proofs.Common.{◌≡◌, true, length, map, sym, subst, ◌∙◌, arith}
use Rattle.std.proofs.lemmas.List.{length-map}
use Rattle.std.proofs.lemmas.Option.{IfSome_then}
use Rattle.dq_lits.specs.Formula.{Existential, existential_of}
use Rattle.dq_lits.specs.Henkin.{same_bits}
use Rattle.dq_lits.specs.Row.{assignment_of}
use Rattle.dq_formula.specs.Dependencies.{dependencies}
use Rattle.dq_formula.proofs.Distinct.{length-dependencies}
use Rattle.dq_formula.proofs.Restrictions.{same_bits-from_places, same_bits-from_difference}
use Rattle.dq_formula.proofs.formula.Formula.same_on.Goals as goal

pub returns-then-first-second : goal.returns-then-first-second
returns-then-first-second c = search (arith, same_bits-from_difference)

pub returns : goal.returns
returns c =
    let us = c.args.self.now.universals in
    let deps = c.deps_of-deps.result.now in
    let m = assignment_of us c.args.r1.now in
    let n = assignment_of us c.args.r2.now in
    let form = c.deps_of-deps.ensures.form in
    let size : length (map m (dependencies us deps)) ≡ length (map n (dependencies us deps)) =
    length-map (dependencies us deps) m ∙ sym (length-map (dependencies us deps) n) in
    let same : true ≡ same_bits (map m (dependencies us deps)) (map n (dependencies us deps)) =
    sym (same_bits-from_places (map m (dependencies us deps)) (map n (dependencies us deps)) size
    (λ k l. c.loop-i.invariant k (omega (
      arith,
      l,
      length-map (dependencies us deps) m,
      length-dependencies us deps form,
      c.count-i-end.ensures,
      c.loop-i-test.false,
    )))) in
    IfSome_then (existential_of c.args.self.now c.args.y) c.deps_of-deps.ensures.set
    (λ (e : Existential) set. subst (λ ds. true ≡ same_bits (map m ds) (map n ds)) set same)
