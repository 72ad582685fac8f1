use Rattle.std.proofs.Common.{vec_capacity, ◌∙◌, length, set, ap, arith}
use Rattle.short_numbers.specs.Numbers.{Numbers}
use Rattle.short_numbers.proofs.Halves.{size, long, with_items, was_set}
use Rattle.short_numbers.proofs.ShortNumbers.set.Goals as goal

pub index_mut-requires : goal.index_mut-requires
index_mut-requires c =
    let s = c.self.inside in
    omega (
      arith,
      c.requires.within,
      s.low.ok.0,
      size s.is_wide s.low.items s.high.items c.self.invariant,
      ap (λ (v : Numbers). length v.items) c.self.view_is,
    )

pub index_mut-requires-then-self : goal.index_mut-requires-then-self
index_mut-requires-then-self c =
    let s = c.self.inside in
    omega (
      arith,
      c.requires.within,
      s.high.ok.0,
      size s.is_wide s.low.items s.high.items c.self.invariant,
      long s.is_wide s.low.items s.high.items c.if-self.true c.self.invariant,
      ap (λ (v : Numbers). length v.items) c.self.view_is,
    )

pub returns-then-self : goal.returns-then-self
returns-then-self c =
    let s = c.self.inside in
    was_set s.is_wide s.low.items s.high.items (vec_capacity s.low) (vec_capacity s.high) c.args.place c.args.number
    c.if-self.true c.self.invariant
    ∙ ap (λ (v : Numbers). with_items v (set v.items c.args.place c.args.number)) c.self.view_is
