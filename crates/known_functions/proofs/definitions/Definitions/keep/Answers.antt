use Rattle.std.proofs.Common.{sym, subst}
use Rattle.std.specs.List.{All}
use Rattle.std.proofs.lemmas.List.Elements.{All-push}
use Rattle.dq_formula.specs.Rules.{IsRule}
use Rattle.known_functions.proofs.definitions.Definitions.keep.Goals as goal

pub returns-in-Rule-clause-rules : goal.returns-in-Rule-clause-rules
returns-in-Rule-clause-rules c f is all =
    subst (All (IsRule f)) (sym c.in_ok-push-in-Rule.ensures.items)
    (All-push (IsRule f) c.args.self.now.rules.items c.in-Rule.rule all (is c.in-Rule.rule c.in-Rule.is))
