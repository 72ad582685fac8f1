use Rattle.std.proofs.Common.{◌≡◌, ◌-◌, ◌++◌, ◌∙◌, length, take, replicate, vec_len, ap, arith}
use Rattle.short_numbers.specs.Numbers.{Numbers}
use Rattle.short_numbers.proofs.Halves.{narrow, filled}
use Rattle.short_numbers.proofs.ShortNumbers.widen.Goals as goal

pub returns-clause-items : goal.returns-clause-items
returns-clause-items c =
    let s = c.self.inside in
    let is = narrow s.is_wide (ap (λ (v : Numbers). v.most) c.self.view_is ∙ c.requires) in
    let n : c.len.result ≡ length s.low.items = omega (arith, c.len.ensures, s.low.ok.0) in
    let none : vec_len c.reserve.new.self ≡ length s.high.items = omega (arith, c.reserve.ensures.len, s.high.ok.0) in
    let more : c.resize.new.self.items ≡ take (length s.low.items) s.high.items
    ++ replicate (length s.low.items - length s.high.items) 0 =
    rw c.unwrap.ensures at c.resize.ensures.items
    ∙ ap (λ xs. take c.len.result xs ++ replicate (c.len.result - vec_len c.reserve.new.self) 0) c.reserve.ensures.items
    ∙ ap (λ k. take c.len.result s.high.items ++ replicate (c.len.result - k) 0) none
    ∙ ap (λ k. take k s.high.items ++ replicate (k - length s.high.items) 0) n in
    filled s.is_wide s.low.items s.high.items c.resize.new.self.items is c.self.invariant more
    ∙ ap (λ (v : Numbers). v.items) c.self.view_is
