use Rattle.std.proofs.Common.{◌≡◌, ◌∙◌, ◌<◌, map, ap, subst, length, get_or, [], arith}
use Rattle.expansion.specs.Table.{TableState}
use Rattle.expansion.proofs.WrittenBits.{lists_more, lists_all}
use Rattle.expansion.proofs.tables.Table.points.Goals as goal

pub loop-place-preserved : goal.loop-place-preserved
loop-place-preserved g c =
    let values = g.O.Oracle.values c.args.oracle.now in
    let pairs = c.args.self.now.pairs in
    let same : c.self.inside.pairs ≡ pairs = ap (λ (t : TableState). t.pairs) c.self.view_is in
    lists_more values pairs c.loop-place.place c.loop-place.bits c.push.new.self c.in_ok-row_of_values.field-0
    (subst (λ n. c.loop-place.place < n) (c.len-place-end.ensures ∙ ap length same) c.loop-place-test.true)
    c.loop-place.invariant c.in_ok-push.ensures.ok
    (c.in_ok-row_of_values.ensures ∙ ap (map values) (c.get.ensures ∙ ap
    (λ lists. get_or lists c.loop-place.place []) same))

pub returns-clause-bits : goal.returns-clause-bits
returns-clause-bits g c =
    search (
      arith,
      (lists_all (g.O.Oracle.values c.args.oracle.now) c.args.self.now.pairs c.loop-place.place c.loop-place.bits),
    )
