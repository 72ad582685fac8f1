use Rattle.definition_export.proofs.ExportableDefinitions.{block_of, exported, listable}
use Rattle.definition_export.proofs.blocks.block.Goals as goal

pub block_gates-requires : goal.block_gates-requires
block_gates-requires c =
    listable c.args.numbers.now.f.now c.args.numbers.now.log.now.entries c.args.id c.args.ids.now c.args.y
    c.args.leaf.now c.args.numbers.now.gates.now c.requires

pub returns : goal.returns
returns c =
    block_of c.args.numbers.now.f.now c.args.numbers.now.log.now.entries c.args.y c.args.leaf.now
    c.args.numbers.now.gates.now c.in_ok-steps.steps c.leaf_code-output.result c.in_ok-gates.gates.items
    c.leaf_code-output.ensures c.in_ok-gates.ensures
    (exported c.args.numbers.now.f.now c.args.numbers.now.log.now.entries c.args.id c.args.ids.now c.args.y
    c.args.leaf.now c.args.numbers.now.gates.now c.requires c.in_ok-steps.steps c.in_ok-steps.ensures)
