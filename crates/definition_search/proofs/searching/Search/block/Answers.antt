use Rattle.std.proofs.Common.{[], ◌∷◌, get_or, ap₂, subst}
use Rattle.cert_text.specs.DefinitionBlocks.{free}
use Rattle.cert_text.specs.DefinitionsRead.{pair_seen}
use Rattle.definability.specs.Defining.{IsFound}
use Rattle.definition_search.specs.Texts.{AreRightBlocks}
use Rattle.definition_search.proofs.KeptSearches.{later_search, named_there, variable_at}
use Rattle.definition_search.proofs.RightBlocks.{pair_right, valuation}
use Rattle.definition_order.proofs.Places.{existential_there}
use Rattle.definition_search.proofs.searching.Search.block.Goals as goal

pub returns-in-Free-clause-search : goal.returns-in-Free-clause-search
returns-in-Free-clause-search g c =
    later_search c.args.f.now c.find.new.self c.args.place c.find.new.log.entries c.find.ensures.search

pub returns-in-Free-clause-block : goal.returns-in-Free-clause-block
returns-in-Free-clause-block g c = λ y at.
    let f = c.args.f.now in
    let lawful = c.every_formula_is_lawful.ensures in
    let vs = c.existentials.result.now in
    let here = existential_there f lawful vs c.existentials.ensures c.args.place c.requires.place in
    let found = subst (IsFound f [] c.find.new.self.graph here.0) c.in-Free.is
    (c.in_ok-node.ensures.found here.0 here.1) in
    let p = c.free_pair.ensures in
    subst (λ v. AreRightBlocks f (v ∷ []) (free (pair_seen c.free_pair.result) ∷ []))
    (variable_at f vs c.existentials.ensures c.args.place y at)
    (pair_right f here.0 (get_or vs c.args.place 0) c.in-Free.pair (pair_seen c.free_pair.result) here.2
    (named_there f vs c.existentials.ensures c.args.place here.0 here.1) found p.existential
    (ap₂ valuation p.first_row p.first_values) (ap₂ valuation p.second_row p.second_values))
