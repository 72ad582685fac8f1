use Rattle.std.proofs.Common.{subst}
use Rattle.cdcl_core.specs.Runs.{BeginAlike}
use Rattle.cdcl_core.specs.Storage.{Stored}
use Rattle.cdcl_core.proofs.clauses.ClauseStore.start.Goals as goal

pub returns-clause-same : goal.returns-clause-same
returns-clause-same c = subst (λ (v : Stored). BeginAlike v.clauses c.start.result c.args.id) c.self.view_is
    c.start.ensures.same
