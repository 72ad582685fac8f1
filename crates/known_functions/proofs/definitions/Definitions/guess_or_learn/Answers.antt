use Rattle.std.proofs.Common.{subst, arith}
use Rattle.definability.specs.Guessing.{IsGuess}
use Rattle.known_functions.proofs.Asked.{asked_by, asked_then}
use Rattle.known_functions.proofs.Defined.{found_guess}
use Rattle.known_functions.proofs.definitions.Definitions.guess_or_learn.Goals as goal

pub learn_clash-requires-clause-may : goal.learn_clash-requires-clause-may
learn_clash-requires-clause-may g c = search (arith, asked_by)

pub returns-in-Node-clause-guess : goal.returns-in-Node-clause-guess
returns-in-Node-clause-guess g c e known =
    found_guess c.args.f.now c.guess.new.graph e c.args.conditions.now c.in-Node.node
    (subst (IsGuess c.args.f.now c.guess.new.graph e c.args.conditions.now) c.in-Node.is
    (c.in_ok-node.ensures.guess e known))

pub returns-in-Node-clause-asked : goal.returns-in-Node-clause-asked
returns-in-Node-clause-asked g c = search (arith, asked_by)

pub returns-in_err-node-clause-asked : goal.returns-in_err-node-clause-asked
returns-in_err-node-clause-asked g c = search (arith, asked_by)

pub returns-in_ok-learn_clash-in-Pair-clause-asked : goal.returns-in_ok-learn_clash-in-Pair-clause-asked
returns-in_ok-learn_clash-in-Pair-clause-asked g c = search (arith, asked_then, asked_by)

pub returns-in_err-learn_clash-in-Pair-clause-asked : goal.returns-in_err-learn_clash-in-Pair-clause-asked
returns-in_err-learn_clash-in-Pair-clause-asked g c = search (arith, asked_then, asked_by)

pub returns-in-Node-clause-left : goal.returns-in-Node-clause-left
returns-in-Node-clause-left g c = search arith

pub returns-in_err-node-clause-left : goal.returns-in_err-node-clause-left
returns-in_err-node-clause-left g c = search arith

pub returns-in_ok-learn_clash-in-Pair-clause-left : goal.returns-in_ok-learn_clash-in-Pair-clause-left
returns-in_ok-learn_clash-in-Pair-clause-left g c = search arith

pub returns-in_err-learn_clash-in-Pair-clause-left : goal.returns-in_err-learn_clash-in-Pair-clause-left
returns-in_err-learn_clash-in-Pair-clause-left g c = search arith
