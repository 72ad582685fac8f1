use Rattle.std.proofs.Common.{◌-◌, ◌<◌, length, sym, ◌∙◌, ap, arith, subst}
use Rattle.oracle.specs.Fit.{live_in}
use Rattle.cdcl_core.specs.Chains.{watch_at}
use Rattle.cdcl_core.specs.Watching.{IsWatched}
use Rattle.cdcl_core.specs.Storage.{Stored}
use Rattle.cdcl_core.proofs.VisitedClauses.{at_id, read_watch}
use Rattle.cdcl_core.proofs.clauses.ClauseStore.watched.Goals as goal

pub returns : goal.returns
returns c = λ d at.
    let s = c.self.inside in
    let inv = c.self.invariant in
    let held = ap (λ (v : Stored). v.clauses) c.self.view_is in
    let i = c.args.id - 1 in
    let lt : i < length s.first.literals.items = omega (
      arith,
      c.requires.from_one,
      c.requires.is_id,
      inv.count,
      ap length held,
    ) in
    let lt' : i < length s.second.literals.items = omega (
      arith,
      c.requires.from_one,
      c.requires.is_id,
      inv.second_count,
      ap length held,
    ) in
    let first = read_watch s.first.literals.items i c.index.result.now lt c.index.ensures in
    let second = read_watch s.second.literals.items i c.index-2.result.now lt' c.index-2.ensures in
    subst (λ k. IsWatched d k c.index-2.result.now) (sym first)
    (subst (λ l. IsWatched d (watch_at s.first.literals.items i) l) (sym second)
    (inv.watched i d (at_id s.arena.clauses c.args.id d (ap (λ cs. live_in cs c.args.id) held ∙ at))))
