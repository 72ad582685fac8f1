use Rattle.candidate_functions.proofs.TreeNodes.{guess_there}
use Rattle.candidate_functions.proofs.guesses.Trees.node_at.Goals as goal

pub returns-in-Some-default-clause-node : goal.returns-in-Some-default-clause-node
returns-in-Some-default-clause-node c = λ y at.
    guess_there c.args.known.now.f.now c.every_formula_is_lawful.ensures c.args.graph.now c.args.known.now.guesses.now
    c.args.place y c.in-Some-default.guess c.requires.guesses at
    (c.standing-guess.ensures c.in-Some-default.guess c.in-Some-default.is-0)
