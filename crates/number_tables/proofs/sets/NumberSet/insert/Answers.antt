use Rattle.std.proofs.Common.{rules, length, ◌≡◌, ◌==◌, ◌++◌, ◌∷◌, [], ap, sym, ◌∙◌, Some, if◌then◌else◌}
use Rattle.number_tables.specs.Numbers.{has_number, place_of}
use Rattle.number_tables.proofs.NumberPlaces.{unplaced, placed_last}
use Rattle.number_tables.proofs.sets.NumberSet.insert.Goals as goal

pub put-requires : goal.put-requires
put-requires c = c.self.invariant c.args.number ∙ unplaced c.self.inside.numbers.items c.args.number
    (ap (λ ns. has_number ns c.args.number) c.self.view_is ∙ sym c.if-contains.ensures)

pub invariant_of-self-2 : goal.invariant_of-self-2
invariant_of-self-2 c =
    let absent = ap (λ ns. has_number ns c.args.number) c.self.view_is ∙ sym c.if-contains.ensures in
    let items : c.push_reserved.new.self.items ≡ c.self.inside.numbers.items ++ c.args.number ∷ [] =
    c.push_reserved.ensures.items ∙ ap (λ ns. ns ++ c.args.number ∷ []) c.reserve.ensures.items in
    let len : c.len.result ≡ length c.self.inside.numbers.items = search rules in
    λ n.
    c.in_ok-put.ensures.ok n
    ∙ ap (λ place. if c.args.number == n then Some c.len.result else place) (c.self.invariant n)
    ∙ ap (λ p. if c.args.number == n then Some p else place_of c.self.inside.numbers.items n) len
    ∙ sym (placed_last c.self.inside.numbers.items c.args.number n absent)
    ∙ ap (λ ns. place_of ns n) (sym items)
