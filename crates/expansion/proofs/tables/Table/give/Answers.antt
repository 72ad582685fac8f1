use Rattle.std.proofs.Common.{◌≡◌, ◌-◌, List, Bool, [], get_or, ◌∙◌, ap, subst}
use Rattle.std.proofs.lemmas.Option.{get_or_from_slice_get}
use Rattle.dq_lits.specs.Literal.{variable_of}
use Rattle.expansion.specs.Giving.{IsGivenInstance}
use Rattle.expansion.specs.Table.{TableState}
use Rattle.expansion.proofs.GivenInstances.{table_arbiters}
use Rattle.list_laws.proofs.Results.{on_ok}
use Rattle.expansion.proofs.tables.Table.give.Goals as goal

pub give_on-requires-clause-arbiters : goal.give_on-requires-clause-arbiters
give_on-requires-clause-arbiters g c =
    let t = c.args.self.now in
    let row = c.index-items-place.result in (
      t.rows,
      table_arbiters c.args.f.now t c.args.log.now.entries c.requires.table.table c.args.k row c.get.result.now
          c.requires.from_one c.requires.last
          (c.index-items-place.is ∙ ap (λ rows. get_or rows (c.args.k - 1) row)
          (c.items.ensures ∙ ap (λ (s : TableState). s.rows) c.self.view_is))
          (c.get.ensures ∙ ap (λ (s : TableState). get_or s.pairs (c.args.k - 1) []) c.self.view_is),
    )

pub returns-clause-given : goal.returns-clause-given
returns-clause-given g c row row_is =
    let t = c.args.self.now in
    let there = c.index-items-place.result in
    let at : there ≡ get_or t.rows (c.args.k - 1) there =
    c.index-items-place.is ∙ ap (λ rows. get_or rows (c.args.k - 1) there)
    (c.items.ensures ∙ ap (λ (s : TableState). s.rows) c.self.view_is) in
    let same : there ≡ row = at ∙ get_or_from_slice_get t.rows (c.args.k - 1) row there row_is in
    let Given : List Bool → Type 0 = λ r. IsGivenInstance c.args.f.now (variable_of c.args.group.now.selector) t.rows r
    c.args.k c.args.clause.now.number c.args.clause.now.literals.now c.args.log.now c.give_on.new.log in
    on_ok c.give_on.result (subst Given same) (c.give_on.ensures.given t.rows (table_arbiters c.args.f.now t c.args.log.now.entries c.requires.table.table
    c.args.k there c.get.result.now c.requires.from_one c.requires.last at
    (c.get.ensures ∙ ap (λ (s : TableState). get_or s.pairs (c.args.k - 1) []) c.self.view_is)))
