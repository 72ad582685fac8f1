use Rattle.std.proofs.Common.{◌≡◌, ◌≤◌, ◌<◌, length, arith}
use Rattle.dq_text.proofs.ShortNumbers.{digits_small, digit_fits, leading_whole}
use Rattle.dq_text.proofs.short_numbers.leading_value.Goals as goal

pub returns-then-amount-gt9 : goal.returns-then-amount-gt9
returns-then-amount-gt9 c =
    let inside : c.loop-i.i < length c.args.bytes.now = omega (arith, c.loop-i-test.true) in
    record {
      within = omega (arith, inside);
      are = c.loop-i.invariant.are;
      value_is = c.loop-i.invariant.value;
      small = digits_small c.loop-i.i c.loop-i.value (omega (arith, inside, c.requires)) c.loop-i.invariant.below;
    }

pub overflow_mul-value : goal.overflow_mul-value
overflow_mul-value c =
    let inside : c.loop-i.i < 18 = omega (arith, c.loop-i-test.true, c.requires) in
    omega (arith, digit_fits c.loop-i.i c.loop-i.value 0 inside c.loop-i.invariant.below (omega arith))

pub overflow_add-value : goal.overflow_add-value
overflow_add-value c =
    let inside : c.loop-i.i < 18 = omega (arith, c.loop-i-test.true, c.requires) in
    let digit : c.amount_of-amount.result ≤ 9 = omega (arith, c.if-amount-gt9.false) in
    omega (arith, digit_fits c.loop-i.i c.loop-i.value c.amount_of-amount.result inside c.loop-i.invariant.below digit)

pub returns : goal.returns
returns c =
    let whole : length c.args.bytes.now ≡ c.loop-i.i = omega (arith, c.loop-i-test.false, c.loop-i.auto.i-end) in
    leading_whole c.args.bytes.now c.loop-i.i c.loop-i.value whole c.requires c.loop-i.invariant.are
    c.loop-i.invariant.value c.loop-i.invariant.below
