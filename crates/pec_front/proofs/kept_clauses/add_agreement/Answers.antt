use Rattle.std.proofs.Common.{ℕ, ◌+◌, ◌*◌, ◌<◌, [], ◌∷◌, sym, ◌∙◌, ap, subst, arith}
use Rattle.list_laws.proofs.Results.{on_ok}
use Rattle.dq_lits.specs.Formula.{Dqbf}
use Rattle.circuit_plain.specs.Netlist.{literal_variable}
use Rattle.pec_front.specs.Kept.{AreWithin}
use Rattle.pec_front.proofs.AddedClauses.{three-within, agreement-added}
use Rattle.pec_front.proofs.kept_clauses.add_agreement.Goals as goal

pub add_clause-requires-2-clause-within : goal.add_clause-requires-2-clause-within
add_clause-requires-2-clause-within c =
    let vs = c.args.f.now.variables in
    let flag : literal_variable (2 * c.args.flag) < vs + 1 = c.requires.within 0 0 (omega arith) in
    let b : literal_variable c.args.b < vs + 1 = c.requires.within 2 0 (omega arith) in
    subst (λ (n : ℕ). AreWithin n (c.opposite_of-differ.result ∷ c.args.a ∷ c.opposite_of-not_b.result ∷ []))
    (ap (λ (f : Dqbf). f.variables) (sym c.in_ok-add_clause.ensures.clauses))
    (three-within vs c.opposite_of-differ.result c.args.a c.opposite_of-not_b.result
    (subst (λ (n : ℕ). n < vs + 1) (sym c.opposite_of-differ.ensures.variable) flag)
    (c.requires.within 1 0 (omega arith))
    (subst (λ (n : ℕ). n < vs + 1) (sym c.opposite_of-not_b.ensures.variable) b))

pub add_clause-requires-4-clause-within : goal.add_clause-requires-4-clause-within
add_clause-requires-4-clause-within c =
    let vs = c.args.f.now.variables in
    let flag : literal_variable (2 * c.args.flag) < vs + 1 = c.requires.within 0 0 (omega arith) in
    let a : literal_variable c.args.a < vs + 1 = c.requires.within 1 0 (omega arith) in
    let b : literal_variable c.args.b < vs + 1 = c.requires.within 2 0 (omega arith) in
    let variables : Dqbf → ℕ = λ f. f.variables in
    subst (λ (n : ℕ). AreWithin n (2 * c.args.flag ∷ c.opposite_of-not_a.result ∷ c.opposite_of-not_b.result ∷ []))
    (sym (ap variables c.in_ok-add_clause-3.ensures.clauses ∙ ap variables c.in_ok-add_clause-2.ensures.clauses
    ∙ ap variables c.in_ok-add_clause.ensures.clauses))
    (three-within vs (2 * c.args.flag) c.opposite_of-not_a.result c.opposite_of-not_b.result flag
    (subst (λ (n : ℕ). n < vs + 1) (sym c.opposite_of-not_a.ensures.variable) a)
    (subst (λ (n : ℕ). n < vs + 1) (sym c.opposite_of-not_b.ensures.variable) b))

pub returns-clause-clauses : goal.returns-clause-clauses
returns-clause-clauses c = search (arith, on_ok, agreement-added)
