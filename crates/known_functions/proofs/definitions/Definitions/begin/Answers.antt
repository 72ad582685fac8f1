use Rattle.std.proofs.Common.{◌≡◌, ◌∙◌, length, replicate, None, ap}
use Rattle.std.proofs.lemmas.List.{length-map}
use Rattle.known_functions.proofs.Defined.{nothing_known}
use Rattle.known_functions.proofs.definitions.Definitions.begin.Goals as goal

pub returns : goal.returns
returns c graph = nothing_known c.args.f.now c.in_ok-ranks.ranks.items graph c.in_ok-nodes.nodes.items
    c.args.self.now.rules.items c.args.self.now.guesses.items (c.in_ok-nodes.ensures ∙ ap (λ n. replicate n None) many)
    c.requires.rules c.requires.guesses where
      many : length c.existentials.result.now ≡ length c.args.f.now.existentials
      many = ap length c.existentials.ensures ∙ length-map c.args.f.now.existentials (λ y. y.variable)
