use Rattle.std.proofs.Common.{◌≡◌, ◌∙◌, length, replicate, None, ap}
use Rattle.std.proofs.lemmas.List.{length-map}
use Rattle.known_functions.proofs.Defined.{left_known, nothing_guessed, with_guesses}
use Rattle.known_functions.proofs.definitions.Definitions.guess_all.Goals as goal

pub guess_each-requires-clause-known : goal.guess_each-requires-clause-known
guess_each-requires-clause-known g c =
    let f = c.args.f.now in
    let d = c.args.self.now in
    let graph = c.args.graph.now in
    let guesses = c.in_ok-self.field-0.items in
    let many : length c.existentials.result.now ≡ length f.existentials =
    ap length c.existentials.ensures ∙ length-map f.existentials (λ y. y.variable) in
    let none = c.in_ok-self.ensures ∙ ap (λ n. replicate n None) many in
    left_known f graph _ c.find_conditions.new.self c.find_conditions.ensures.left
    (with_guesses f d.ranks.items graph d.nodes.items d.rules.items d.guesses.items guesses c.requires.known
    (nothing_guessed f graph guesses none))
