use Rattle.cert_text.specs.DefinitionsRead.{block_seen}
use Rattle.defined_checker.proofs.TakenBlocks.{tallied_by}
use Rattle.defined_checker.proofs.checks.tally_block.Goals as goal

pub returns-clause-tallied : goal.returns-clause-tallied
returns-clause-tallied c =
    tallied_by c.args.f.now (block_seen c.args.block.now) c.args.tally.now.fault c.args.tally.now.counts
    c.with_block-tally.result c.in_ok-fault.fault c.in_ok-fault.ensures c.with_block-tally.ensures.counts
