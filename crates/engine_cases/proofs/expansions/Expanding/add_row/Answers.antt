use Rattle.engine_cases.proofs.Rounds.{table_with_round, row_added}
use Rattle.engine_cases.proofs.expansions.Expanding.add_row.Goals as goal

pub returns-clause-ready : goal.returns-clause-ready
returns-clause-ready g c =
    row_added c.engines_leave_the_rest.ensures c.args.f.now c.args.self.now.table c.add_row.new.self c.args.self.now.log
    c.round.new.self c.add_row.new.log
    _ _ _ c.requires.ready c.in_ok-round.ensures.ok c.add_row.ensures.grew c.in_ok-add_row.ensures.table

pub add_row-requires-clause-table : goal.add_row-requires-clause-table
add_row-requires-clause-table g c =
    table_with_round c.rounds_leave_tables.ensures c.args.f.now c.args.self.now.table c.args.self.now.log
    c.round.new.self _ _ _ c.requires.ready c.in_ok-round.ensures.ok
