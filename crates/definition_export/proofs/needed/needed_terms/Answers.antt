use Rattle.std.proofs.Common.{sym, ◌∙◌, subst, arith}
use Rattle.std.proofs.lemmas.Bool.{true≢false}
use Rattle.definition_export.specs.Closing.{AreClosed}
use Rattle.definition_export.proofs.OrderedGates.{all_within, gates_or_memory}
use Rattle.definition_export.proofs.OrderedTerms.{are_term_names, few_terms}
use Rattle.definition_export.proofs.needed.needed_terms.Goals as goal

pub closed-requires-clause-terms : goal.closed-requires-clause-terms
closed-requires-clause-terms c = search (arith, are_term_names)

pub closed-requires-clause-within : goal.closed-requires-clause-within
closed-requires-clause-within c = search (arith, true≢false)

pub listed-requires-clause-distinct : goal.listed-requires-clause-distinct
listed-requires-clause-distinct c = search (arith, are_term_names)

pub listed-requires-clause-rising : goal.listed-requires-clause-rising
listed-requires-clause-rising c = search arith

pub listed-requires-clause-within : goal.listed-requires-clause-within
listed-requires-clause-within c = all_within c.args.log.now.entries c.args.order.now.terms c.add_used.new.waiting
    c.deref.result.now (subst (AreClosed c.args.log.now.entries c.args.order.now.terms c.add_used.new.waiting)
    (sym (c.deref.ensures.value ∙ c.reverse.ensures.items)) c.in_ok-places.ensures)

pub returns : goal.returns
returns c = gates_or_memory c.args.log.now.entries c.args.order.now.terms c.deref.result.now c.args.ids.now
    c.add_used.new.waiting c.add_leaf.new.waiting c.args.leaf.now c.listed.result
    (are_term_names c.args.log.now.entries c.args.order.now.terms c.requires.logged c.requires.order)
    (subst (AreClosed c.args.log.now.entries c.args.order.now.terms c.add_used.new.waiting)
    (sym (c.deref.ensures.value ∙ c.reverse.ensures.items)) c.in_ok-places.ensures)
    c.in_ok-add_leaf.ensures.there c.in_ok-add_used.ensures.kept c.in_ok-add_used.ensures.there
    (few_terms c.args.log.now.entries c.args.order.now.terms c.requires.logged c.requires.order) c.listed.ensures
    c.requires.named
