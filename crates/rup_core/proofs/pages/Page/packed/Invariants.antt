use Rattle.rup_core.proofs.PagedClauses.{HasFirst}
use Rattle.rup_core.proofs.pages.Page.packed.Given as goal

abbrev pub invariant-loop-place : goal.invariant-loop-place
invariant-loop-place l = HasFirst l.self l.place l.page
