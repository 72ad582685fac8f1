use Rattle.std.proofs.Common.{arith}
use Rattle.known_functions.proofs.Asked.{nothing_asked, asked_then}
use Rattle.known_functions.proofs.Defined.{guess_at, left-refl, left-trans}
use Rattle.known_functions.proofs.definitions.Definitions.first_guess.Goals as goal

pub loop-number-init : goal.loop-number-init
loop-number-init g c = search (arith, nothing_asked, left-refl)

pub guess_under-requires-clause-may : goal.guess_under-requires-clause-may
guess_under-requires-clause-may g c = c.loop-number.invariant.asked.may

pub loop-number-preserved : goal.loop-number-preserved
loop-number-preserved g c = search (arith, asked_then, left-trans)

pub returns-in_err-guess-clause-asked : goal.returns-in_err-guess-clause-asked
returns-in_err-guess-clause-asked g c = search (arith, asked_then)

pub returns-in_err-guess-clause-left : goal.returns-in_err-guess-clause-left
returns-in_err-guess-clause-left g c = search (arith, left-trans)

pub returns-in-Some-clause-asked : goal.returns-in-Some-clause-asked
returns-in-Some-clause-asked g c = search (arith, asked_then)

pub returns-in-Some-clause-left : goal.returns-in-Some-clause-left
returns-in-Some-clause-left g c = search (arith, left-trans)

pub returns-in-Some-clause-guess : goal.returns-in-Some-clause-guess
returns-in-Some-clause-guess g c e at = guess_at c.args.existential.now.f.now c.guess_under.new.graph e
    c.in_ok-guess.guess (c.in_ok-guess.ensures.guess e at) c.in-Some.node c.in-Some.is
