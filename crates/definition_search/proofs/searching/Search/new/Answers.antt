use Rattle.std.proofs.Common.{◌+◌, length, ◌∙◌, ap, ap₂}
use Rattle.std.proofs.lemmas.List.{length-map}
use Rattle.definition_order.proofs.Declared.{variable}
use Rattle.aig_graph.specs.Graph.{AigGraph}
use Rattle.definition_search.proofs.KeptSearches.{on_by, on_then, still_few}
use Rattle.definition_search.proofs.NewSearches.{new_search, no_terms}
use Rattle.definition_search.proofs.searching.Search.new.Goals as goal

pub new-requires-2-clause-none : goal.new-requires-2-clause-none
new-requires-2-clause-none g c =
    no_terms c.args.log.now.entries c.whole.new.log.entries c.requires.none c.in_ok-definability.ensures.copied

pub returns-clause-search : goal.returns-clause-search
returns-clause-search g c =
    let f = c.args.f.now in
    let old = c.args.log.now in
    let mid = c.whole.new.log in
    let new = c.new-2.new.log in
    let law = c.engines_leave_the_rest.ensures in
    new_search law f
    (record {
      alloc = c.args.alloc;
      gates = c.in_ok-gates.gates;
      definability = c.in_ok-definability.definability;
      terms = c.in_ok-terms.terms;
      order = c.new-3.result;
      graph = c.new-4.result;
    }) old mid new c.requires.none c.in_ok-definability.ensures.copied (c.whole.ensures.grew 0)
    (g.met.O.Oracle.searched c.whole.new.oracle mid c.whole.ensures.fit) (c.new-2.ensures.grew f 0)
    (g.met.O.Oracle.searched c.new-2.new.oracle new c.new-2.ensures.fit) c.in_ok-terms.ensures.ok
    c.requires.productive
    (c.in_ok-terms.ensures.beside f c.in_ok-definability.definability c.in_ok-definability.ensures.made
    c.in_ok-definability.ensures.whole
    (still_few law f 0 old mid (c.whole.ensures.grew 0) c.requires.few))
    (c.new-3.ensures new.entries)
    (ap (λ (n : AigGraph). n.inputs) c.new-4.ensures
    ∙ ap₂ (λ a b. a + b) (ap length c.universals.ensures) (ap length c.existentials.ensures
    ∙ length-map f.existentials variable))

pub returns-in_err-definability-clause-goes_on : goal.returns-in_err-definability-clause-goes_on
returns-in_err-definability-clause-goes_on g c =
    on_by c.engines_leave_the_rest.ensures c.args.f.now 0 c.args.log.now c.whole.new.log (c.whole.ensures.grew 0)
    (g.met.O.Oracle.searched c.whole.new.oracle c.whole.new.log c.whole.ensures.fit) c.requires.productive

pub returns-in_err-terms-clause-goes_on : goal.returns-in_err-terms-clause-goes_on
returns-in_err-terms-clause-goes_on g c =
    let f = c.args.f.now in
    let law = c.engines_leave_the_rest.ensures in
    let first = on_by law f 0 c.args.log.now c.whole.new.log (c.whole.ensures.grew 0)
    (g.met.O.Oracle.searched c.whole.new.oracle c.whole.new.log c.whole.ensures.fit) c.requires.productive in
    on_then f c.args.log.now c.whole.new.log c.new-2.new.log first
    (on_by law f 0 c.whole.new.log c.new-2.new.log (c.new-2.ensures.grew f 0)
    (g.met.O.Oracle.searched c.new-2.new.oracle c.new-2.new.log c.new-2.ensures.fit) first.productive)

pub returns-clause-goes_on : goal.returns-clause-goes_on
returns-clause-goes_on g c =
    let f = c.args.f.now in
    let law = c.engines_leave_the_rest.ensures in
    let first = on_by law f 0 c.args.log.now c.whole.new.log (c.whole.ensures.grew 0)
    (g.met.O.Oracle.searched c.whole.new.oracle c.whole.new.log c.whole.ensures.fit) c.requires.productive in
    on_then f c.args.log.now c.whole.new.log c.new-2.new.log first
    (on_by law f 0 c.whole.new.log c.new-2.new.log (c.new-2.ensures.grew f 0)
    (g.met.O.Oracle.searched c.new-2.new.oracle c.new-2.new.log c.new-2.ensures.fit) first.productive)
