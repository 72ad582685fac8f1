use Rattle.std.proofs.Common.{sym, ◌∙◌, subst, Option}
use Rattle.dq_lits.specs.Literal.{Literal}
use Rattle.cdcl_scan.specs.Runs.{Shares}
use Rattle.cdcl_scan.proofs.clauses.is_shared.Goals as goal

pub returns-in-Some : goal.returns-in-Some
returns-in-Some c = λ yes. subst (λ (o : Option Literal). Shares o c.args.lits.now) (sym c.in-Some.is)
    (sym c.holds.ensures ∙ yes)
