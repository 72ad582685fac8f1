use Rattle.std.proofs.Common.{arith}
use Rattle.dq_formula.proofs.BlockSteps.{IsOpened, opened_clauses, opened_arranged}
use Rattle.dq_formula.proofs.blocks.Blocks.open.Goals as goal

is_opened : (c : goal.After-unwrap) → IsOpened c.args.self.now
    (record { places = c.args.self.now.places; full = c.push.new.self; current = c.replace-last.new.dest })
is_opened c = search arith

pub returns-clause-same : goal.returns-clause-same
returns-clause-same c = search (arith, opened_clauses, is_opened)

pub returns-clause-arranged : goal.returns-clause-arranged
returns-clause-arranged c = search (arith, (opened_arranged c.args.self.now), (is_opened c))
