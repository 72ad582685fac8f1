use Rattle.std.proofs.Common.{◌+◌, ◌<◌, length, sym, ◌∙◌, ap, subst, arith}
use Rattle.std.proofs.lemmas.List.{length-map}
use Rattle.log_laws.proofs.Found.{variable}
use Rattle.expansion.proofs.NamedArbiters.{ArePairsSoFar, pair_more}
use Rattle.expansion.proofs.tables.Table.row_pairs.Goals as goal

pub returns-in_err-push-clause-grew : goal.returns-in_err-push-clause-grew
returns-in_err-push-clause-grew g c =
    let f = c.args.new.now.f.now in
    let place = c.loop-place.place in
    let many = ap length c.existentials-place-end.ensures ∙ length-map f.existentials variable in
    let test = c.loop-place-test.true in
    let below : place < length f.existentials = omega (arith, test, many) in
    let next = c.in_ok-v.ensures.named f c.args.new.now.row.now c.requires.formula c.loop-place.invariant.2.adding
    (c.requires.firsts.1 place below) in
    (pair_more f c.args.self.now c.args.new.now.row.now place c.in_ok-v.v c.loop-place.variables.items c.args.log.now
    c.loop-place.log c.arbiter.new.log c.loop-place.invariant.2 next).grew

pub loop-place-preserved : goal.loop-place-preserved
loop-place-preserved g c =
    let f = c.args.new.now.f.now in
    let place = c.loop-place.place in
    let many = ap length c.existentials-place-end.ensures ∙ length-map f.existentials variable in
    let test = c.loop-place-test.true in
    let below : place < length f.existentials = omega (arith, test, many) in
    let next = c.in_ok-v.ensures.named f c.args.new.now.row.now c.requires.formula c.loop-place.invariant.2.adding
    (c.requires.firsts.1 place below) in (
      c.arbiter.ensures.fit,
      omega (arith, below),
      subst (λ vs. ArePairsSoFar f c.args.self.now c.args.new.now.row.now
          (place + 1) vs c.args.log.now c.arbiter.new.log) (sym c.in_ok-push.ensures.items)
          (pair_more f c.args.self.now c.args.new.now.row.now place c.in_ok-v.v c.loop-place.variables.items
          c.args.log.now c.loop-place.log c.arbiter.new.log c.loop-place.invariant.2 next),
    )

pub returns-clause-adding : goal.returns-clause-adding
returns-clause-adding g c = search (arith, length-map)
