use Rattle.std.proofs.Common.{◌≡◌, ◌∙◌, ◌*◌, ◌-◌, ◌/◌, ◌≤◌, ap, arith, length, slice_get, sym}
use Rattle.std.specs.Option.{option_and_then}
use Rattle.cert_text.specs.NegatedMatrix.{without_constants}
use Rattle.defined_checker.specs.Bases.{DefinitionIn, differing}
use Rattle.defined_checker.proofs.SmallGates.{behind_gates, of_gates}
use Rattle.defined_checker.proofs.bases.DefinitionBase.definition_clause.Goals as goal

pub returns-then-i-gates-clause-clause : goal.returns-then-i-gates-clause-clause
returns-then-i-gates-clause-clause c = search (arith, of_gates)

pub returns-then-i-gates-clause-place : goal.returns-then-i-gates-clause-place
returns-then-i-gates-clause-place c = c.short.ensures.place c.args.self.now.formula

pub returns-clause-clause : goal.returns-clause-clause
returns-clause-clause c =
    let d = c.args.self.now.definition in
    let same = ap (λ (x : DefinitionIn). length x.definition.gates) c.self.view_is in
    let many : c.len-gates.result ≡ length d.gates =
    c.len-gates.ensures ∙ c.self.inside.definition.now.gates.ok.0 ∙ same in
    let above : length d.gates ≤ c.args.i / 3 = omega (arith, c.if-i-gates.false, many) in
    c.short-2.ensures.clause c.args.self.now.formula ∙ c.differing_clause.ensures
    ∙ ap (λ n. option_and_then without_constants (slice_get (differing d) (c.args.i - 3 * n))) many
    ∙ sym (ap (option_and_then without_constants) (behind_gates d.gates (differing d) c.args.i above))

pub returns-clause-place : goal.returns-clause-place
returns-clause-place c = c.short-2.ensures.place c.args.self.now.formula
