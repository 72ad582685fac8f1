use Rattle.std.proofs.Common.{◌+◌, sym, ◌∙◌, arith}
use Rattle.list_laws.proofs.Sequences.{drop_end}
use Rattle.cert_text.specs.Items.{item_seen}
use Rattle.refutation_checker.proofs.JudgedItems.{all_judged, may_come, none_judged, one_judged, settled}
use Rattle.refutation_checker.proofs.checks.judge_all.Goals as goal

pub loop-k-init : goal.loop-k-init
loop-k-init c = search (arith, none_judged)

pub item-requires : goal.item-requires
item-requires c =
    may_come c.args.f.now c.args.rows.now c.loop-k.proving c.args.items.now c.loop-k.k
    (item_seen c.get.result) c.get.ensures c.loop-k.invariant

pub returns-then-is_settled : goal.returns-then-is_settled
returns-then-is_settled c =
    let f = c.args.f.now in
    let rows = c.args.rows.now in
    let items = c.args.items.now in
    settled f rows c.item.new.self items (c.loop-k.k + 1) (sym c.is_settled.ensures ∙ c.if-is_settled.true)
    (one_judged f rows c.loop-k.proving items c.loop-k.k (item_seen c.get.result) c.get.ensures c.loop-k.invariant
    c.item.new.self c.in_ok-item.ensures)

pub loop-k-preserved : goal.loop-k-preserved
loop-k-preserved c = search (arith, one_judged)

pub returns : goal.returns
returns c =
    all_judged c.args.f.now c.args.rows.now c.loop-k.proving c.args.items.now c.loop-k.k
    (drop_end c.args.items.now c.loop-k.k (let end = c.loop-k-test.false in let long = c.len-k-end.ensures.value in
    omega (arith, end, long))) c.loop-k.invariant
