use Rattle.std.proofs.Common.{rules, ◌==◌}
use Rattle.std.specs.List.{position_or_len}
use Rattle.std.proofs.lemmas.Fn.{always_returns_same}
use Rattle.dq_formula.proofs.formula.Formula.finds.Goals as goal

pub returns-clause-found : goal.returns-clause-found
returns-clause-found c =
    c.binary_search_by_key.ensures.position (λ v. position_or_len (λ u. u == v) c.args.self.now.universals)
    (always_returns_same _ _ _ (λ a r f' k. search rules))
