use Rattle.std.proofs.Common.{rules}
use Rattle.std.specs.List.{slice_get}
use Rattle.std.proofs.lemmas.Fn.{always_returns_same}
use Rattle.dq_lits.specs.Formula.{existential_of}
use Rattle.expansion.specs.FirstRows.{found_cmp, sees_of}
use Rattle.expansion.proofs.orders.search.Goals as goal

pub returns-clause-found : goal.returns-clause-found
returns-clause-found c =
    c.binary_search_by.ensures.position (λ k. found_cmp c.args.f.now
    (sees_of (existential_of c.args.f.now c.args.y)) c.args.row.now (slice_get c.args.rows.now k))
    (always_returns_same _ _ _ (λ a r f' k. search rules))
