use Rattle.std.proofs.Common.{◌+◌, ◌∷◌, [], slice_get, refl, ap, ◌∙◌, arith}
use Rattle.std.specs.Option.{option_and_then}
use Rattle.cert_text.specs.NegatedMatrix.{without_constants}
use Rattle.skolem_checker.specs.Checks.{Candidate}
use Rattle.proof_checker.specs.ClauseLiterals.{formula_clauses}
use Rattle.proof_checker.proofs.MatrixPlaces.{number_below, falsity_found, last_found, none_found}
use Rattle.proof_checker.proofs.ShortenedClauses.{range_clause}
use Rattle.proof_checker.proofs.negated.NegatedMatrix.formula_clause.Goals as goal

pub overflow_mul-entry : goal.overflow_mul-entry
overflow_mul-entry c =
    search (
      arith,
      (number_below (c.self.inside.circuit.netlist.max_var + 1) c.self.inside.formula.now.matrix c.deref-literals.result.now c.args.i c.index-literals-i.result),
    )

pub opposite_of-requires : goal.opposite_of-requires
opposite_of-requires c =
    search (
      arith,
      (number_below (c.self.inside.circuit.netlist.max_var + 1) c.self.inside.formula.now.matrix c.deref-literals.result.now c.args.i c.index-literals-i.result),
    )

pub returns-then-i-literals : goal.returns-then-i-literals
returns-then-i-literals c =
    let n : Candidate = record { formula = c.self.inside.formula.now; circuit = c.self.inside.circuit } in
    let are = c.deref-literals.ensures.value ∙ c.self.invariant.are in
    let k = c.opposite_of.result in
    let l = c.opposite_of-then-i-literals.result in
    c.short.ensures c.args.self.now ∙ c.short_of_two.ensures
    ∙ ap (option_and_then without_constants)
    (falsity_found n c.deref-literals.result.now are c.args.i c.index-literals-i.result k l
    c.literal_under-literal.result (k ∷ l ∷ [])
    (omega (arith, c.if-i-literals.true)) c.index-literals-i.is refl c.opposite_of.ensures.value
    c.opposite_of-then-i-literals.ensures.value
    c.literal_under-literal.ensures.value
    ∙ ap (λ (m : Candidate). slice_get (formula_clauses m) c.args.i) c.self.view_is)

pub returns-then-i-literals-2 : goal.returns-then-i-literals-2
returns-then-i-literals-2 c = search (arith, range_clause, last_found)

pub returns : goal.returns
returns c =
    let n : Candidate = record { formula = c.self.inside.formula.now; circuit = c.self.inside.circuit } in
    let are = c.deref-literals.ensures.value ∙ c.self.invariant.are in
    ap (option_and_then without_constants)
    (none_found n c.deref-literals.result.now are c.args.i (omega
    (arith, c.if-i-literals.false, c.if-i-literals-2.false))
    ∙ ap (λ (m : Candidate). slice_get (formula_clauses m) c.args.i) c.self.view_is)
