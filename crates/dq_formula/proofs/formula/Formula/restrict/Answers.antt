use Rattle.std.proofs.Common.{◌≡◌, ◌≤◌, length, map, subst, arith}
use Rattle.std.proofs.lemmas.List.{length-map}
use Rattle.std.proofs.lemmas.Option.{IfSome_then}
use Rattle.dq_lits.specs.Formula.{Existential, existential_of}
use Rattle.dq_lits.specs.Row.{assignment_of}
use Rattle.dq_formula.specs.Dependencies.{padded, dependencies}
use Rattle.dq_formula.proofs.Distinct.{length-dependencies, dependency_count-le}
use Rattle.dq_formula.proofs.Restrictions.{padded-is}
use Rattle.dq_formula.proofs.formula.Formula.restrict.Goals as goal

pub returns : goal.returns
returns c =
    let us = c.args.self.now.universals in
    let row = c.args.row.now in
    let deps = c.deps_of-deps.result.now in
    let m = assignment_of us row in
    let form = c.deps_of-deps.ensures.form in
    let short : length (map m (dependencies us deps)) ≤ length row =
    omega (
      arith,
      length-map (dependencies us deps) m,
      length-dependencies us deps form,
      dependency_count-le us deps form,
      c.requires.row_length,
    ) in
    let whole : c.loop-i.out ≡ padded (length row) (map m (dependencies us deps)) =
    padded-is (length row) (map m (dependencies us deps)) c.loop-i.out c.loop-i.invariant.size short
    (λ k l. c.loop-i.invariant.written k (omega (
      arith,
      l,
      c.len-i-end.ensures,
      c.requires.out_length,
      c.loop-i-test.false,
    ))) in
    IfSome_then (existential_of c.args.self.now c.args.y) c.deps_of-deps.ensures.set
    (λ (e : Existential) set. subst (λ ds. c.loop-i.out ≡ padded (length row) (map m ds)) set whole)
