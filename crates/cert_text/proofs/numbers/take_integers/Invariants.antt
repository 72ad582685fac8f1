use Rattle.std.proofs.Common.{◌≡◌, ◌||◌, ◌++◌, map, length}
use Rattle.std.specs.List.{filter_map, list_any}
use Rattle.dq_text.specs.Number.{number_of}
use Rattle.cert_text.specs.Numbers.{is_no_number, is_too_big, integer}
use Rattle.cert_text.proofs.numbers.take_integers.Given as goal

abbrev pub invariant-loop-token : goal.invariant-loop-token
invariant-loop-token l = record {
  none : list_any is_no_number (map number_of l.initial.tokens) ≡ list_any is_no_number (map number_of l.tokens);
  large : list_any is_too_big (map number_of l.initial.tokens) ≡
      (l.too_big || list_any is_too_big (map number_of l.tokens));
  taken : filter_map integer (map number_of l.initial.tokens) ≡ l.integers.items ++ filter_map integer
      (map number_of l.tokens);
}

abbrev pub decreases-loop-token : goal.decreases-loop-token
decreases-loop-token l = length l.tokens
