use Rattle.dq_text.specs.Line.{lines_from}
use Rattle.cert_text.specs.DefinitionText.{part_up_to}
use Rattle.cert_text.specs.DefinitionsRead.{block_seen}
use Rattle.defined_checker.proofs.checks.take_block.Goals as goal

pub tally_block-requires-clause-lawful : goal.tally_block-requires-clause-lawful
tally_block-requires-clause-lawful c =
    c.definitions_are_lawful.ensures.block c.args.f.now c.args.y
    (lines_from c.args.lines.now.number c.args.lines.now.rest) c.args.lines.now.number
    (part_up_to (block_seen c.in-Ok.block) c.read_block.new.lines) c.in-Ok.ensures

pub returns-in_ok-tally_block-in-Ok-clause-taken : goal.returns-in_ok-tally_block-in-Ok-clause-taken
returns-in_ok-tally_block-in-Ok-clause-taken c =
    (block_seen c.in-Ok.block, (c.in-Ok.ensures, c.in_ok-tally_block-in-Ok.ensures.tallied))
