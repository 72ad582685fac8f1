use Rattle.std.proofs.Common.{length, ap, arith}
use Rattle.short_numbers.specs.Numbers.{Numbers}
use Rattle.short_numbers.proofs.Halves.{size}
use Rattle.short_numbers.proofs.ShortNumbers.get.Goals as goal

pub index-requires : goal.index-requires
index-requires c =
    let s = c.self.inside in
    omega (
      arith,
      c.requires,
      s.low.ok.0,
      size s.is_wide s.low.items s.high.items c.self.invariant,
      ap (λ (v : Numbers). length v.items) c.self.view_is,
    )
