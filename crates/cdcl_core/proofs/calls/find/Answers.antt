use Rattle.std.proofs.Common.{◌≡◌, ◌∙◌, [], ap, sym, subst, arith}
use Rattle.oracle.specs.Fit.{live_in}
use Rattle.learning_trail.specs.Resting.{AreAwake}
use Rattle.learning_trail.specs.Sound.{IsSound, IsGuided}
use Rattle.learning_trail.specs.Steps.{Trailed}
use Rattle.learning_trail.proofs.FoundModels.{assumptions_from}
use Rattle.cdcl_core.specs.declared.searchers.Searcher.{Searcher}
use Rattle.cdcl_core.specs.Watching.{AreLevelsGuarded}
use Rattle.cdcl_core.proofs.HeldLogs.{assumed_awake}
use Rattle.cdcl_core.proofs.calls.find.Goals as goal

pub search_and_keep-found-requires-clause-assumptions : goal.search_and_keep-found-requires-clause-assumptions
search_and_keep-found-requires-clause-assumptions c = search (arith, assumptions_from)

pub search_and_keep-found-requires-clause-searching : goal.search_and_keep-found-requires-clause-searching
search_and_keep-found-requires-clause-searching c =
    let s = c.wake.new.s in
    let flags = s.resting.flags.items in
    let log = c.args.log.now in
    let asm = c.new-assumptions.result in
    let fit = c.wake.ensures.fit in
    let trail : s.trail ≡ record { room = c.args.s.now.trail.room; steps = [] } =
    ap (λ (x : Searcher). x.trail) c.wake.ensures.same ∙ c.back_to_start.ensures in
    let steps : c.cover.new.self.steps ≡ [] = c.cover.ensures.steps ∙ ap (λ (t : Trailed). t.steps) trail in
    record {
      fit = fit;
      awake = subst (AreAwake flags) (sym c.new-assumptions.ensures)
          (assumed_awake log.entries flags c.args.active.now c.args.assume.now fit.selectors
          c.in_ok-wake.ensures.awake c.requires.plain);
      sound = subst (IsSound (live_in s.clauses.clauses)) (sym steps) tt;
      guided = subst (IsGuided log.entries asm) (sym steps) tt;
      room = c.in_ok-cover.ensures.ok;
      marks = c.in_ok-cover-2.ensures;
      levels = subst (AreLevelsGuarded s.clauses.clauses s.clauses.first s.clauses.second) (sym steps) tt;
    }

pub returns-clause-unsat : goal.returns-clause-unsat
returns-clause-unsat c = search arith
