use Rattle.std.proofs.Common.{◌*◌, ◌^◌, length, false, ◌∙◌, arith}
use Rattle.skolem_checker.proofs.RowsLaws.{row_test, rows_more}
use Rattle.skolem_checker.proofs.rows.first_bad_row.Goals as goal

pub overflow_add-result : goal.overflow_add-result
overflow_add-result c =
    let found = c.first_false.ensures.some c.in-Some.row c.in-Some.is in
    record { fits = omega (arith, found.0, c.rows_in_block.ensures.in_range, c.count_rows-rows.ensures.small) }

pub returns-in-Some-clause-first : goal.returns-in-Some-clause-first
returns-in-Some-clause-first c =
    search (
      arith,
      (rows_more c.args.tested.now.formula.now c.args.tested.now.circuit.now c.args.tested.now.literals.now c.args.places.now (256 * c.loop-block.block) c.eval_block_by.new.values c.matrix_lanes-hold.result c.eval_block_by.ensures.valuation c.matrix_lanes-hold.ensures.bits (2 ^ length c.args.tested.now.formula.now.universals) c.in-Some.row),
      (row_test c.args.tested.now.formula.now c.args.tested.now.circuit.now c.args.tested.now.literals.now c.args.places.now (256 * c.loop-block.block) c.eval_block_by.new.values c.matrix_lanes-hold.result c.eval_block_by.ensures.valuation c.matrix_lanes-hold.ensures.bits c.in-Some.row false),
    )

pub loop-block-preserved : goal.loop-block-preserved
loop-block-preserved c = record {
  values_length = c.eval_block_by.ensures.same_length ∙ c.loop-block.invariant.values_length;
  held = λ j j_below j_in.
      rows_more c.args.tested.now.formula.now c.args.tested.now.circuit.now c.args.tested.now.literals.now
      c.args.places.now (256 * c.loop-block.block) c.eval_block_by.new.values
      c.matrix_lanes-hold.result c.eval_block_by.ensures.valuation c.matrix_lanes-hold.ensures.bits
      (2 ^ length c.args.tested.now.formula.now.universals) c.rows_in_block.result
      (omega (arith, c.rows_in_block.ensures.in_range, c.count_rows-rows.ensures.value))
      c.rows_in_block.ensures.in_block
      c.loop-block.invariant.held (c.first_false.ensures.none c.in_default.is) j
      (c.rows_in_block.ensures.all j (omega (arith, j_below)) (omega (arith, j_in, c.count_rows-rows.ensures.value)));
}
