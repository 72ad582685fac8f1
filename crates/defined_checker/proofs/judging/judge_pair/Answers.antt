use Rattle.std.proofs.Common.{◌≡◌, ◌∙◌, true, false, sym}
use Rattle.list_laws.proofs.Options.{some_of}
use Rattle.defined_checker.specs.Judging.{pair, separates}
use Rattle.defined_checker.proofs.judging.judge_pair.Goals as goal

pub returns-then-is_free_pair : goal.returns-then-is_free_pair
returns-then-is_free_pair c =
    let y = some_of _ c.requires.existential in
    separates y.1 ((c.is_free_pair.ensures y.0 y.1).0 c.if-is_free_pair.true)

pub returns-else-is_free_pair : goal.returns-else-is_free_pair
returns-else-is_free_pair c =
    let y = some_of _ c.requires.existential in
    let none : c.is_free_pair.result ≡ false = c.if-is_free_pair.false in
    pair y.1 (λ h. apart (sym none ∙ (c.is_free_pair.ensures y.0 y.1).1 h))
  where
    apart : false ≡ true → ⊥
    apart h = cc
