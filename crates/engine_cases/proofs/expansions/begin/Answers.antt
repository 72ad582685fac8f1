use Rattle.engine_cases.proofs.Rounds.{begun}
use Rattle.engine_cases.proofs.expansions.begin.Goals as goal

pub returns-clause-ready : goal.returns-clause-ready
returns-clause-ready g c =
    begun c.engines_leave_the_rest.ensures c.args.f.now c.requires.formula c.in_ok-table.table c.args.log c.new.new.log
    c.requires.empty c.new.ensures.grew
    c.in_ok-table.ensures.made c.in_ok-table.ensures.rows
