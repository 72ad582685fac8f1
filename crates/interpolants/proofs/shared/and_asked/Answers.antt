use Rattle.std.proofs.Common.{◌≡◌, Some, None, true, false, ◌&&◌, sym, ◌∙◌, ap, subst}
use Rattle.std.specs.Option.{is_some}
use Rattle.list_laws.proofs.Truths.{and-false}
use Rattle.dq_lits.specs.Literal.{variable_of, opposite}
use Rattle.dq_lits.specs.Derivation.{holds}
use Rattle.dq_lits.proofs.SignedLiterals.{opposite_variable}
use Rattle.interpolants.specs.Interpolant.{node_of}
use Rattle.interpolants.proofs.Steps.{IsLiteralNode, asked_more, asked_past}
use Rattle.interpolants.proofs.shared.and_asked.Goals as goal

pub returns-then-not-has-clause-more : goal.returns-then-not-has-clause-more
returns-then-not-has-clause-more c = λ old clause p part.
    let is : holds c.args.assumed.now (opposite c.args.l) ≡ false =
    ap (holds c.args.assumed.now) (sym c.not.ensures) ∙ sym c.has.ensures ∙ c.if-not-has.true in
    asked_past c.args.shared.now c.args.assumed.now clause old c.args.graph.now c.args.l p c.args.node
    (ap (λ b. b && is_some (node_of c.args.shared.now (variable_of c.args.l))) is) part

pub and-requires-clause-b : goal.and-requires-clause-b
and-requires-clause-b c =
    c.literal_node.ensures.node c.args.graph.now
    (c.requires.nodes (variable_of c.args.l) c.in-Some.n (ap (node_of c.args.shared.now) (sym c.var.ensures.value)
    ∙ sym c.get.ensures ∙ c.in-Some.is))

pub returns-in_ok-made-in-Some-clause-more : goal.returns-in_ok-made-in-Some-clause-more
returns-in_ok-made-in-Some-clause-more c = λ old clause p part.
    let side : holds c.args.assumed.now (opposite c.args.l) ≡ true =
    ap (holds c.args.assumed.now) (sym c.not.ensures) ∙ sym c.has.ensures ∙ c.if-not-has.false in
    let found : node_of c.args.shared.now (variable_of c.args.l) ≡ Some c.in-Some.n =
    ap (node_of c.args.shared.now) (sym c.var.ensures.value) ∙ sym c.get.ensures ∙ c.in-Some.is in
    let same : c.not-in-Some.result ≡ opposite c.args.l = c.not-in-Some.ensures in
    let is : IsLiteralNode c.args.shared.now c.args.graph.now c.not-in-Some.result c.in-Some.n c.literal_node.result =
    record {
      node_is = ap (node_of c.args.shared.now) (ap variable_of same ∙ opposite_variable c.args.l) ∙ found;
      value = c.literal_node.ensures.value c.args.graph.now;
      support = c.literal_node.ensures.support c.args.graph.now;
    } in
    asked_more c.args.shared.now c.args.assumed.now clause old c.args.graph.now c.and.new.self c.args.l p c.args.node
    c.in-Some.n c.literal_node.result c.in_ok-made-in-Some.made
    c.and.ensures.extends c.requires.nodes side found (subst
    (λ k. IsLiteralNode c.args.shared.now c.args.graph.now k c.in-Some.n c.literal_node.result) same is)
    c.in_ok-made-in-Some.ensures.made part

pub returns-in-None-clause-more : goal.returns-in-None-clause-more
returns-in-None-clause-more c = λ old clause p part.
    let none : node_of c.args.shared.now (variable_of c.args.l) ≡ None =
    ap (node_of c.args.shared.now) (sym c.var.ensures.value) ∙ sym c.get.ensures ∙ c.in-None.is in
    asked_past c.args.shared.now c.args.assumed.now clause old c.args.graph.now c.args.l p c.args.node
    (ap (λ o. holds c.args.assumed.now (opposite c.args.l) && is_some o) none ∙ and-false
    (holds c.args.assumed.now (opposite c.args.l))) part
