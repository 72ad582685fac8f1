use Rattle.std.proofs.Common.{map, sym, ap, ◌∙◌}
use Rattle.rup_core.specs.Paging.{clause_at}
use Rattle.rup_core.specs.Spans.{clause_in}
use Rattle.rup_core.proofs.PagedClauses.{none_counted}
use Rattle.rup_core.proofs.pages.Page.pack.Goals as goal

pub returns-then-self-eq0 : goal.returns-then-self-eq0
returns-then-self-eq0 c k =
    let i = c.self.inside in
    ap (λ spans. clause_at (map (clause_in c.clear-then-self-eq0.new.self.items) spans) k) c.clear.ensures.items
    ∙ sym (none_counted i.literals.items i.spans.items (sym c.self.invariant.counted ∙ c.if-self-eq0.true) k)
    ∙ ap (λ page. clause_at page k) c.self.view_is
