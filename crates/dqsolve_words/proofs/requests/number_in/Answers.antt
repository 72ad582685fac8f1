use Rattle.std.proofs.Common.{arith}
use Rattle.dqsolve_words.proofs.Numbers.{number_taken, no_number}
use Rattle.dqsolve_words.proofs.requests.number_in.Goals as goal

pub returns-in_default : goal.returns-in_default
returns-in_default c = search (arith, no_number)

pub returns-then-number-most : goal.returns-then-number-most
returns-then-number-most c = search (arith, number_taken)
