use Rattle.cdcl_core.proofs.EqualHeads.{start_alike, start_behind}
use Rattle.cdcl_core.proofs.arenas.Arena.next_start.Goals as goal

pub returns-then-begin_alike : goal.returns-then-begin_alike
returns-then-begin_alike c =
    start_alike c.args.self.now.clauses c.lits.result.now c.args.lits.now c.start.result c.len-last.result
    c.len-last.ensures c.lits.ensures (c.begin_alike.ensures c.if-begin_alike.true)
    c.start.ensures.before c.start.ensures.same

pub returns-else-last-gt0 : goal.returns-else-last-gt0
returns-else-last-gt0 c = start_behind c.args.self.now.clauses c.args.lits.now c.len-last.result c.len-last.ensures
