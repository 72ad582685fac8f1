use Rattle.std.proofs.Common.{◌≡◌, ◌++◌, length}
use Rattle.std.specs.Option.{option_map}
use Rattle.aiger_text.specs.Lines.{numbers_of}
use Rattle.aiger_text.proofs.numbers.take_numbers.Given as goal

abbrev pub invariant-loop-token : goal.invariant-loop-token
invariant-loop-token l = numbers_of l.initial.tokens ≡ option_map (λ ns. l.numbers.items ++ ns) (numbers_of l.tokens)

abbrev pub decreases-loop-token : goal.decreases-loop-token
decreases-loop-token l = length l.tokens
