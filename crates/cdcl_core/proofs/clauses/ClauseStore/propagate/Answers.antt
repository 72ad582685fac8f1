use Rattle.std.proofs.Common.{◌≡◌, ℕ, Option, None, Some, MatchOption, List, sym, subst}
use Rattle.dq_lits.specs.Literal.{Literal}
use Rattle.dq_lits.specs.Derivation.{falsified, status_of}
use Rattle.oracle.specs.Fit.{live_in}
use Rattle.learning_trail.specs.Steps.{Trailed, literals_of}
use Rattle.learning_trail.specs.Sound.{IsSound}
use Rattle.learning_trail.specs.Passes.{AreWithin, IsPropagated}
use Rattle.cdcl_core.specs.Watching.{AreWatched, IsGuarded}
use Rattle.cdcl_core.specs.Storage.{Stored}
use Rattle.learning_trail.proofs.ConflictAnalysis.{sound_consistent}
use Rattle.cdcl_core.proofs.GuardedClauses.{guarded_closed}
use Rattle.cdcl_core.proofs.clauses.ClauseStore.propagate.Goals as goal

pub propagate-requires-clause-visitable : goal.propagate-requires-clause-visitable
propagate-requires-clause-visitable c =
    let inv = c.self.invariant in
    let held = sym c.self.view_is in
    record {
      in_range = subst (λ (v : Stored). AreWithin c.args.trail.now.room v.clauses) held c.requires.in_range;
      sound = subst (λ (v : Stored). IsSound (live_in v.clauses) c.args.trail.now.steps) held c.requires.sound;
      few = c.requires.few;
      watched = inv.watched;
      count = inv.count;
      other_count = inv.second_count;
      listed = inv.listed;
      other_listed = inv.second_listed;
    }

pub returns-clause-ended : goal.returns-clause-ended
returns-clause-ended c =
    let e = c.propagate.ensures in
    let clauses = c.self.inside.arena.clauses in
    let new = c.propagate.new.trail in
    by clauses new c.propagate.new.first.literals.items c.propagate.new.second.literals.items c.propagate.result
    e.visitable.watched e.visitable.sound e.ended
  where
    by : (clauses : List (List Literal)) (new : Trailed) (first second : List Literal) (found : Option ℕ) →
        AreWatched clauses first second → IsSound (live_in clauses) new.steps
        → MatchOption found (IsGuarded clauses first second (literals_of new.steps) (literals_of new.steps))
        (λ id. status_of (literals_of new.steps) (live_in clauses id) ≡ falsified)
        → IsPropagated (live_in clauses) new found
    by clauses new first second None watched sound g = guarded_closed clauses first second
        (literals_of new.steps) watched (sound_consistent (live_in clauses) new.steps sound) g
    by clauses new first second (Some id) watched sound g = g
