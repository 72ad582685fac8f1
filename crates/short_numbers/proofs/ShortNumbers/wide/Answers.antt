use Rattle.std.proofs.Common.{◌≡◌, ◌<◌, true, length, get_or, ap, ◌∙◌, arith}
use Rattle.short_numbers.specs.Numbers.{Numbers}
use Rattle.short_numbers.proofs.Halves.{size, long, read, wide_is}
use Rattle.short_numbers.proofs.ShortNumbers.wide.Goals as goal

pub index-requires : goal.index-requires
index-requires c =
    let s = c.self.inside in
    omega (
      arith,
      c.requires.within,
      s.low.ok.0,
      size s.is_wide s.low.items s.high.items c.self.invariant,
      ap (λ (v : Numbers). length v.items) c.self.view_is,
    )

pub index-requires-2 : goal.index-requires-2
index-requires-2 c =
    let s = c.self.inside in
    let is : s.is_wide ≡ true = wide_is s.is_wide (ap (λ (v : Numbers). v.most) c.self.view_is ∙ c.requires.is_wide) in
    omega (
      arith,
      c.requires.within,
      s.high.ok.0,
      size s.is_wide s.low.items s.high.items c.self.invariant,
      long s.is_wide s.low.items s.high.items is c.self.invariant,
      ap (λ (v : Numbers). length v.items) c.self.view_is,
    )

pub returns : goal.returns
returns c =
    let s = c.self.inside in
    let is : s.is_wide ≡ true = wide_is s.is_wide (ap (λ (v : Numbers). v.most) c.self.view_is ∙ c.requires.is_wide) in
    let lt : c.args.place < length s.low.items = omega (
      arith,
      c.requires.within,
      size s.is_wide s.low.items s.high.items c.self.invariant,
      ap (λ (v : Numbers). length v.items) c.self.view_is,
    ) in
    read s.is_wide s.low.items s.high.items c.args.place c.index.result.now c.index-2.result.now is
    c.self.invariant lt c.index.ensures c.index-2.ensures
    ∙ ap (λ (v : Numbers). get_or v.items c.args.place 0) c.self.view_is
