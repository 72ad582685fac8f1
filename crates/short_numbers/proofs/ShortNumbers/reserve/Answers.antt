use Rattle.std.proofs.Common.{vec_capacity, ◌≤◌, ◌≡◌, length, cond, subst, sym, ◌∙◌, ap, arith}
use Rattle.list_laws.proofs.Results.{on_err}
use Rattle.short_numbers.specs.Numbers.{Numbers}
use Rattle.short_numbers.proofs.Halves.{full_low, full_high, room_above}
use Rattle.short_numbers.proofs.ShortNumbers.reserve.Goals as goal

pub returns-in_err-reserve-clause-full : goal.returns-in_err-reserve-clause-full
returns-in_err-reserve-clause-full c =
    let s = c.self.inside in
    let full : vec_capacity s.low ≤ length s.low.items = omega (arith, c.in_err-reserve.ensures.full, s.low.ok.0) in
    on_err c.from_residual.result (subst (λ (v : Numbers). v.capacity ≤ length v.items) c.self.view_is
    (full_low s.is_wide s.low.items s.high.items (vec_capacity s.low) (vec_capacity s.high) c.self.invariant full))

pub returns-in_err-reserve-2-clause-full : goal.returns-in_err-reserve-2-clause-full
returns-in_err-reserve-2-clause-full c =
    let s = c.self.inside in
    let full : vec_capacity s.high ≤ length s.high.items = omega (arith, c.in_err-reserve-2.ensures.full, s.high.ok.0) in
    on_err c.from_residual-in_err-reserve-2.result (subst (λ (v : Numbers). v.capacity ≤ length v.items)
    c.self.view_is (full_high s.is_wide s.low.items s.high.items (vec_capacity s.low) (vec_capacity s.high)
    c.if-self.true c.self.invariant full))

pub returns-in_ok-reserve-2-clause-room : goal.returns-in_ok-reserve-2-clause-room
returns-in_ok-reserve-2-clause-room c =
    let s = c.self.inside in
    let low = c.reserve.new.self in
    let high = c.reserve-then-self.new.self in
    let lows : low.items ≡ s.low.items = c.reserve.ensures.items in
    let highs : high.items ≡ s.high.items = c.reserve-then-self.ensures.items in
    let halved : length high.items ≡ cond s.is_wide (length low.items) 0 =
    ap length highs ∙ c.self.invariant ∙ ap (λ xs. cond s.is_wide (length xs) 0) (sym lows) in
    room_above s.is_wide low.items high.items (vec_capacity low) (vec_capacity high) c.if-self.true halved
    (omega (arith, c.in_ok-reserve.ensures.ok, low.ok.0)) (omega (arith, c.in_ok-reserve-2.ensures.ok, high.ok.0))
