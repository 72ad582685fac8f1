use Rattle.repair_loop.proofs.searches.Search.judge.Goals as goal

pub failure_at_hand-requires-clause-formula : goal.failure_at_hand-requires-clause-formula
failure_at_hand-requires-clause-formula g c = c.requires.search.here.way.formula

pub failure_at_hand-requires-clause-candidates : goal.failure_at_hand-requires-clause-candidates
failure_at_hand-requires-clause-candidates g c = (c.args.database.now.table.rows, c.requires.candidates)
