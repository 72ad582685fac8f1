use Rattle.std.proofs.Common.{arith}
use Rattle.dq_formula.specs.Blocks.{blocks_of}
use Rattle.dq_formula.proofs.ClauseBlocks.{length_clauses_at}
use Rattle.dq_formula.proofs.blocks.Blocks.len.Goals as goal

pub returns : goal.returns
returns c = let s = c.args.self.now in omega (
  arith,
  c.len.ensures,
  s.places.ok.0,
  length_clauses_at (blocks_of s) s.places.items,
)
