use Rattle.std.proofs.Common.{◌+◌, sym, ◌∙◌, arith}
use Rattle.cert_text.specs.Items.{item_seen}
use Rattle.proof_checker.proofs.DerivedLines.{all_judged, may_come, one_judged, settled}
use Rattle.proof_checker.proofs.checks.judge_all.Goals as goal

pub loop-k-init : goal.loop-k-init
loop-k-init c = search arith

pub item-requires : goal.item-requires
item-requires c =
    may_come c.args.f.now c.args.c.now c.args.proving.now c.loop-k.proving c.args.items.now c.loop-k.k
    (item_seen c.get.result) c.get.ensures c.loop-k.invariant

pub returns-then-is_settled : goal.returns-then-is_settled
returns-then-is_settled c =
    let f = c.args.f.now in
    let net = c.args.c.now in
    let items = c.args.items.now in
    settled f net c.args.proving.now c.item.new.self items (c.loop-k.k + 1)
    (sym c.is_settled.ensures ∙ c.if-is_settled.true)
    (one_judged f net c.args.proving.now c.loop-k.proving items c.loop-k.k (item_seen c.get.result) c.get.ensures
    c.loop-k.invariant c.item.new.self c.in_ok-item.ensures.run c.in_ok-item.ensures.judging)

pub loop-k-preserved : goal.loop-k-preserved
loop-k-preserved c =
    one_judged c.args.f.now c.args.c.now c.args.proving.now c.loop-k.proving c.args.items.now c.loop-k.k
    (item_seen c.get.result) c.get.ensures c.loop-k.invariant c.item.new.self c.in_ok-item.ensures.run
    c.in_ok-item.ensures.judging

pub returns : goal.returns
returns c =
    all_judged c.args.f.now c.args.c.now c.args.proving.now c.loop-k.proving c.args.items.now c.loop-k.k
    (let end = c.loop-k-test.false in let long = c.len-k-end.ensures.value in omega (arith, end, long))
    c.loop-k.invariant
