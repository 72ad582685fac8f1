use Rattle.std.proofs.Common.{◌∙◌, ap}
use Rattle.dq_lits.specs.PackedRow.{unpacked}
use Rattle.dq_lits.proofs.Packed.{unpacked-zero}
use Rattle.dq_lits.proofs.rows.Row.new.Goals as goal

pub returns : goal.returns
returns c =
    ap (unpacked c.args.n) (c.in_ok-words.ensures.items_if_clones_equal (λ y same. same))
    ∙ unpacked-zero c.args.n c.div_ceil.result
