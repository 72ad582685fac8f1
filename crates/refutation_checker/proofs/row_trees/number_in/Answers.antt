use Rattle.std.proofs.Common.{◌≡◌, ◌<◌, [], length, sym, ◌∙◌, ap, subst, arith}
use Rattle.std.proofs.lemmas.List.{get_or_default}
use Rattle.refutation_checker.specs.RowTrees.{sees_of, number_or, reached, IsLeafMatch}
use Rattle.refutation_checker.specs.Rows.{row_of}
use Rattle.refutation_checker.specs.declared.row_trees.LeafMatch.TheVariants.{Differs}
use Rattle.refutation_checker.proofs.TreeNumbers.{numbered_already, parted_all, place_small}
use Rattle.dq_formula.proofs.Lawful.{few_places}
use Rattle.refutation_checker.proofs.row_trees.number_in.Goals as goal

pub part-requires-clause-place : goal.part-requires-clause-place
part-requires-clause-place c = search (arith, few_places, place_small)

pub returns-in-Numbered-clause-numbered : goal.returns-in-Numbered-clause-numbered
returns-in-Numbered-clause-numbered c = search (arith, numbered_already)

pub returns-in_ok-part-in-Differs : goal.returns-in_ok-part-in-Differs
returns-in_ok-part-in-Differs c =
    let f = c.args.f.now in
    let rows = c.args.rows.now in
    let sees = sees_of f c.args.y in
    let nodes = c.args.nodes.now.items in
    let row = row_of rows c.args.k in
    let at = c.reached-at.result in
    let came : at ≡ reached nodes row =
    c.reached-at.ensures.reached ∙ ap (λ ns. reached ns c.index-rows-k.result) c.deref.ensures.value
    ∙ ap (reached nodes) (c.index-rows-k.is ∙ get_or_default rows c.args.k c.index-rows-k.result [] c.requires.row) in
    let below : at < length nodes = subst (λ ns. at < length ns) c.deref.ensures.value c.reached-at.ensures.within in
    let stands : IsLeafMatch f rows sees nodes at row (Differs c.in-Differs.place) =
    subst (λ ns. IsLeafMatch f rows sees ns at row (Differs c.in-Differs.place)) c.deref-2.ensures.value
    c.in-Differs.ensures in
    let all =
    parted_all f rows sees nodes c.part.new.nodes.items at c.in-Differs.place c.args.k c.args.number c.requires.whole
    c.requires.tree below came c.requires.row stands
    c.in_ok-part-in-Differs.ensures.ok in
    record { tree = all.0; numbered = all.1; value = sym (ap (λ o. number_or o c.args.number) all.2); err = tt }
