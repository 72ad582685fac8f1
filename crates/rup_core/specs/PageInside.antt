-- How a page of clauses is kept.
use Rattle.std.specs.Prelude.{◌≡◌, ◌≤◌, All, length, map, count_by}
use Rattle.rup_core.specs.Paging.{Clauses}
use Rattle.rup_core.specs.Spans.{is_span, clause_in}
use Rattle.rup_core.specs.declared.pages.Page.TheInside.{Inside}

abbrev pub clauses_in : Inside → Clauses
clauses_in p = map (clause_in p.literals.items) p.spans.items

pub record IsPage (p : Inside) : Type 0 where
  pub within : All (λ s. s.end ≤ length p.literals.items) p.spans.items
  pub counted : p.live ≡ count_by is_span p.spans.items
