use Rattle.std.proofs.Common.{◌≡◌, ℕ, map, ap, ◌∙◌}
use Rattle.std.proofs.lemmas.Result.{IfOk-weaker}
use Rattle.definition_order.specs.Order.{AreInOrder}
use Rattle.definition_order.proofs.SortedExistentials.{in_order}
use Rattle.definition_order.proofs.existentials_in_order.Goals as goal

pub returns : goal.returns
returns c =
    let f = c.args.f.now in
    IfOk-weaker c.places_of.result (λ places. places.items ≡ map (λ (s : (ℕ × ℕ) × ℕ). s.1) c.deref.result.now)
    (λ places. AreInOrder f c.args.ranks.now places.items)
    (λ places are. in_order f c.args.ranks.now c.every_formula_is_lawful.ensures c.in_ok-sized.sized.items
    c.sort_unstable.new.self.items places.items c.in_ok-sized.ensures c.sort_unstable.ensures.permutation
    c.sort_unstable.ensures.sorted (are ∙ ap (map (λ (s : (ℕ × ℕ) × ℕ). s.1)) c.deref.ensures.value))
    c.places_of.ensures
