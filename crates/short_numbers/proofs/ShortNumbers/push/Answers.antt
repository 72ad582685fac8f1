use Rattle.std.proofs.Common.{vec_capacity, ◌<◌, ◌++◌, ◌∷◌, [], ◌∙◌, length, subst, sym, ap, arith}
use Rattle.short_numbers.specs.Numbers.{Numbers}
use Rattle.short_numbers.proofs.Halves.{room_below, high_room_below, with_items, pushed}
use Rattle.short_numbers.proofs.ShortNumbers.push.Goals as goal

pub push_reserved-requires : goal.push_reserved-requires
push_reserved-requires c =
    let s = c.self.inside in
    let room = subst (λ (v : Numbers). length v.items < v.capacity) (sym c.self.view_is) c.requires.room in
    let below = room_below s.is_wide s.low.items s.high.items (vec_capacity s.low) (vec_capacity s.high)
    c.self.invariant room in
    omega (arith, below, s.low.ok.0)

pub push_reserved-requires-then-self : goal.push_reserved-requires-then-self
push_reserved-requires-then-self c =
    let s = c.self.inside in
    let room = subst (λ (v : Numbers). length v.items < v.capacity) (sym c.self.view_is) c.requires.room in
    let below = high_room_below s.is_wide s.low.items s.high.items (vec_capacity s.low) (vec_capacity s.high)
    c.if-self.true c.self.invariant room in
    omega (arith, below, s.high.ok.0)

pub returns-then-self : goal.returns-then-self
returns-then-self c =
    let s = c.self.inside in
    rw (
      c.push_reserved.ensures.items,
      c.push_reserved-then-self.ensures.items,
      c.push_reserved.ensures.capacity,
      c.push_reserved-then-self.ensures.capacity,
    ) (pushed s.is_wide s.low.items s.high.items (vec_capacity s.low)
    (vec_capacity s.high) c.args.number c.if-self.true c.self.invariant
    ∙ ap (λ (v : Numbers). with_items v (v.items ++ c.args.number ∷ [])) c.self.view_is)
