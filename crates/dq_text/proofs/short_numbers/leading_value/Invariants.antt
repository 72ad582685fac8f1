use Rattle.std.proofs.Common.{◌≡◌, ◌<◌, ◌^◌, true, take}
use Rattle.std.specs.Char.{is_ascii_digit}
use Rattle.std.specs.List.{list_all}
use Rattle.dq_text.specs.Number.{decimal_value}
use Rattle.dq_text.proofs.short_numbers.leading_value.Given as goal

abbrev pub invariant-loop-i : goal.invariant-loop-i
invariant-loop-i l = record {
  are : list_all is_ascii_digit (take l.i l.bytes) ≡ true;
  value : l.value ≡ decimal_value (take l.i l.bytes);
  below : l.value < 10 ^ l.i;
}
