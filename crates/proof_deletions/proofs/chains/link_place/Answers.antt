use Rattle.std.proofs.Common.{◌-◌, slice_index_or, slice_set, arith, subst, sym, ◌∙◌}
use Rattle.std.proofs.lemmas.Grind.{get_or_default_zero}
use Rattle.proof_deletions.specs.Chains.{AreChained}
use Rattle.proof_deletions.proofs.Links.{linked}
use Rattle.proof_deletions.proofs.chains.link_place.Goals as goal

pub returns-then-table-place-gt0 : goal.returns-then-table-place-gt0
returns-then-table-place-gt0 c =
    let table = c.args.table.now in
    let place = c.args.place in
    let used = c.if-table-place-gt0.true in
    let few = c.requires.uses place 0 c.requires.there in
    let last = slice_index_or table place 0 - 1 in
    subst (λ next. AreChained table place (slice_set c.args.heads.now.items last place)
    (slice_set c.args.nexts.now.items place next))
    (sym (c.index.ensures ∙ get_or_default_zero c.args.heads.now.items last c.index.result.now
    (let many = c.requires.behind.heads_are_many in omega (arith, used, few, many))))
    (linked table c.args.heads.now.items c.args.nexts.now.items place last c.requires.there
    (omega (arith, used, few)) (omega (arith, used)) c.requires.behind)
