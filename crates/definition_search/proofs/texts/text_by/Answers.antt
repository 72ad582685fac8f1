use Rattle.std.proofs.Common.{◌<◌, length, get_or, refl, ◌∙◌, ap, arith}
use Rattle.std.proofs.lemmas.List.{length-map}
use Rattle.dq_formula.specs.Prefix.{existential_variables}
use Rattle.definition_order.proofs.Declared.{variable}
use Rattle.cert_text.specs.DefinitionsRead.{block_seen}
use Rattle.definition_search.proofs.KeptSearches.{on_then, some_at}
use Rattle.definition_search.proofs.RightBlocks.{block_small}
use Rattle.definition_search.proofs.WrittenTexts.{one_written, all_written}
use Rattle.definition_search.proofs.texts.text_by.Goals as goal

pub write_block-requires : goal.write_block-requires
write_block-requires g c =
    let f = c.args.f.now in
    let vs = existential_variables f in
    let place = c.loop-place.place in
    let many = ap length c.existentials-place-end.ensures ∙ length-map f.existentials variable in
    let test = c.loop-place-test.true in
    let below : place < length f.existentials = omega (arith, test, many) in
    let lawful = c.every_formula_is_lawful.ensures in
    record {
      small = block_small f (get_or vs place 0) (block_seen c.in_ok-block.block) lawful.few_variables
          (c.in_ok-block.ensures.block (get_or vs place 0) (some_at f lawful vs refl place below));
    }

pub loop-place-preserved : goal.loop-place-preserved
loop-place-preserved g c =
    let f = c.args.f.now in
    let vs = existential_variables f in
    let place = c.loop-place.place in
    let many = ap length c.existentials-place-end.ensures ∙ length-map f.existentials variable in
    let test = c.loop-place-test.true in
    let below : place < length f.existentials = omega (arith, test, many) in
    let at = some_at f c.every_formula_is_lawful.ensures vs refl place below in (
      c.block.ensures.fit,
      c.in_ok-block.ensures.search,
      one_written f place (get_or vs place 0) c.loop-place.text.items c.write_block.new.text.items
          (block_seen c.in_ok-block.block) c.loop-place.invariant.2 at
          (c.in_ok-block.ensures.block (get_or vs place 0) at) c.in_ok-write_block.ensures,
      on_then f c.args.log.now c.loop-place.log c.block.new.log c.loop-place.invariant.3 c.block.ensures.goes_on,
    )

pub returns-clause-text : goal.returns-clause-text
returns-clause-text g c =
    let f = c.args.f.now in
    let many = ap length c.existentials-place-end.ensures ∙ length-map f.existentials variable in
    let test = c.loop-place-test.false in
    all_written f c.loop-place.place c.loop-place.text.items (omega (arith, test, many)) c.loop-place.invariant.2

pub returns-in_err-block-clause-goes_on : goal.returns-in_err-block-clause-goes_on
returns-in_err-block-clause-goes_on g c =
    on_then c.args.f.now c.args.log.now c.loop-place.log c.block.new.log c.loop-place.invariant.3 c.block.ensures.goes_on

pub returns-in_err-write_block-clause-goes_on : goal.returns-in_err-write_block-clause-goes_on
returns-in_err-write_block-clause-goes_on g c =
    on_then c.args.f.now c.args.log.now c.loop-place.log c.block.new.log c.loop-place.invariant.3 c.block.ensures.goes_on

pub returns-clause-goes_on : goal.returns-clause-goes_on
returns-clause-goes_on g c = c.loop-place.invariant.3
