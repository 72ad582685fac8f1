use Rattle.std.proofs.Common.{◌≡◌, Some}
use Rattle.dq_lits.specs.Formula.{Existential, existential_of}
use Rattle.defined_checker.specs.DefinitionReads.{MayDefine}
use Rattle.defined_checker.proofs.LeastForeign.{IsLeastBefore}
use Rattle.defined_checker.proofs.reads.least_foreign.Given as goal

-- the least of those that were passed
abbrev pub invariant-loop-leaf : goal.invariant-loop-leaf
invariant-loop-leaf l = (e : Existential) → existential_of l.f l.y ≡ Some e
    → IsLeastBefore (MayDefine l.f e) l.leaves l.leaf-index l.least
