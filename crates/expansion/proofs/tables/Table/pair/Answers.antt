use Rattle.std.proofs.Common.{rules, ◌≡◌, ◌≢◌, ◌<◌, ◌-◌, ◌==◌, ◌∙◌, [], length, get_or, sym, ap, subst, arith}
use Rattle.std.specs.List.{AllPairs, position_or_len}
use Rattle.dq_lits.proofs.Followers.{existentials_once}
use Rattle.expansion.specs.Table.{TableState}
use Rattle.expansion.proofs.GivenInstances.{row_pairs_many}
use Rattle.expansion.proofs.VariableBits.{place_within}
use Rattle.expansion.proofs.tables.Table.pair.Goals as goal

pub place_by_order-requires : goal.place_by_order-requires
place_by_order-requires c =
    let f = c.requires.table.0 in
    let formula = c.requires.table.2 in
    let are = c.deref.ensures.value ∙ ap (λ (s : TableState). s.existentials) c.self.view_is
    ∙ c.requires.table.3.existentials in
    subst (AllPairs (λ v w. v ≢ w)) (sym are)
    (existentials_once f.universals f.existentials formula.prefix.declared_once)

pub offset_bounds-variables-place_by_order : goal.offset_bounds-variables-place_by_order
offset_bounds-variables-place_by_order c =
    let t = c.args.self.now in
    let places = c.place_by_order.ensures ∙ ap (λ xs. position_or_len (λ v. v == c.args.y) xs)
    (c.deref.ensures.value ∙ ap (λ (s : TableState). s.existentials) c.self.view_is) in
    let below = place_within t.existentials c.args.y c.requires.existential in
    let many = row_pairs_many c.requires.table.0 t c.requires.table.1 c.requires.table.3 c.args.k c.requires.from_one
    c.requires.last in
    let same : c.get-variables.result.now ≡ get_or t.pairs (c.args.k - 1) [] =
    c.get-variables.ensures ∙ ap (λ (s : TableState). get_or s.pairs (c.args.k - 1) []) c.self.view_is in
    let long = ap length same ∙ many in
    let inside : c.place_by_order.result < length c.get-variables.result.now = omega (arith, places, below, long) in
    let small = c.get-variables.type_inv.1 in
    search rules

pub bounds-variables-place_by_order : goal.bounds-variables-place_by_order
bounds-variables-place_by_order c =
    let t = c.args.self.now in
    let places = c.place_by_order.ensures ∙ ap (λ xs. position_or_len (λ v. v == c.args.y) xs)
    (c.deref.ensures.value ∙ ap (λ (s : TableState). s.existentials) c.self.view_is) in
    let below = place_within t.existentials c.args.y c.requires.existential in
    let many = row_pairs_many c.requires.table.0 t c.requires.table.1 c.requires.table.3 c.args.k c.requires.from_one
    c.requires.last in
    let same : c.get-variables.result.now ≡ get_or t.pairs (c.args.k - 1) [] =
    c.get-variables.ensures ∙ ap (λ (s : TableState). get_or s.pairs (c.args.k - 1) []) c.self.view_is in
    let long = ap length same ∙ many in
    omega (arith, places, below, long)
