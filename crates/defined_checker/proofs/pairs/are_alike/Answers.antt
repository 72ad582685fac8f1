use Rattle.std.proofs.Common.{◌≡◌, ◌∙◌, true, false, subst, sym}
use Rattle.std.specs.List.{All}
use Rattle.cert_text.specs.DefinitionsRead.{pair_seen}
use Rattle.defined_checker.specs.Answers.{IsAlikeAt}
use Rattle.defined_checker.proofs.AlikeVariables.{alike_all, alike_some, sees_universals}
use Rattle.defined_checker.proofs.pairs.are_alike.Goals as goal

pub returns-then-are_alike_on : goal.returns-then-are_alike_on
returns-then-are_alike_on c y is =
    let f = c.args.f.now in
    let p = pair_seen c.args.p.now in
    let first = c.are_alike_on.ensures y is in
    let second = c.are_alike_on-then-are_alike_on.ensures y is in (
      λ holds. alike_all f y p
          (sees_universals f f.existentials c.args.p.now.existential y
          c.every_formula_is_lawful.ensures.prefix.sees_universals is)
          (subst (All (IsAlikeAt f y p)) c.universals.ensures (first.0 c.if-are_alike_on.true))
          (subst (All (IsAlikeAt f y p)) c.existentials.ensures (second.0 holds)),
      λ alike. second.1 (alike_some f y p c.existentials.result.now alike),
    )

pub returns-else-are_alike_on : goal.returns-else-are_alike_on
returns-else-are_alike_on c y is =
    let f = c.args.f.now in
    let p = pair_seen c.args.p.now in
    let first = c.are_alike_on.ensures y is in
    let none : c.are_alike_on.result ≡ false = c.if-are_alike_on.false in (
      λ holds. absurd (apart (sym none ∙ holds)),
      λ alike. first.1 (alike_some f y p c.universals.result.now alike),
    )
  where
    apart : false ≡ true → ⊥
    apart h = cc
