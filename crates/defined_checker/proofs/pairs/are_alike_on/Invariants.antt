use Rattle.std.proofs.Common.{◌≡◌, ℕ, ◌<◌, get_or, Some}
use Rattle.dq_lits.specs.Formula.{Existential, existential_of}
use Rattle.cert_text.specs.DefinitionsRead.{pair_seen}
use Rattle.defined_checker.specs.Answers.{IsAlikeAt}
use Rattle.defined_checker.proofs.pairs.are_alike_on.Given as goal

-- they agree on those that were passed
abbrev pub invariant-loop-variable : goal.invariant-loop-variable
invariant-loop-variable l = (e : Existential) → existential_of l.f l.p.existential ≡ Some e
    → (k : ℕ) → k < l.variable-index → IsAlikeAt l.f e (pair_seen l.p) (get_or l.variables k 0)
