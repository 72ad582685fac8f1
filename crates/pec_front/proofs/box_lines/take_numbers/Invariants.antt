use Rattle.std.proofs.Common.{◌≡◌, ◌++◌, length}
use Rattle.std.specs.Option.{option_map}
use Rattle.pec_front.specs.BoxLine.{small_numbers}
use Rattle.pec_front.proofs.box_lines.take_numbers.Given as goal

abbrev pub invariant-loop-token : goal.invariant-loop-token
invariant-loop-token l =
    small_numbers l.initial.tokens ≡ option_map (λ ns. l.numbers.items ++ ns) (small_numbers l.tokens)

abbrev pub decreases-loop-token : goal.decreases-loop-token
decreases-loop-token l = length l.tokens
