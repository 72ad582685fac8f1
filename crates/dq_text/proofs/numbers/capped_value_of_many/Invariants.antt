use Rattle.std.proofs.Common.{◌≡◌, ◌^◌, true, min, take}
use Rattle.std.specs.Char.{is_ascii_digit}
use Rattle.std.specs.List.{list_all}
use Rattle.dq_text.specs.Number.{decimal_value}
use Rattle.dq_text.proofs.numbers.capped_value_of_many.Given as goal

abbrev pub invariant-loop-digit : goal.invariant-loop-digit
invariant-loop-digit l = record {
  digits : list_all is_ascii_digit (take l.digit-index l.digits) ≡ true;
  value : l.value ≡ min (decimal_value (take l.digit-index l.digits)) (10 ^ 18);
}
