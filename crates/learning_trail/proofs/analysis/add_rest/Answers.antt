use Rattle.std.proofs.Common.{◌≡◌, ◌-◌, ◌<◌, ◌∷◌, ◌∙◌, ap, subst, sym, take, reverse, length, get_or, arith, ℕ, List}
use Rattle.std.specs.List.Sorted.{IsNonDecreasing}
use Rattle.std.proofs.lemmas.List.{take_all}
use Rattle.oracle.specs.Fit.{live_in}
use Rattle.learning_trail.specs.declared.trails.Step.{Step}
use Rattle.learning_trail.specs.Sound.{IsSound}
use Rattle.learning_trail.specs.Backing.{IsTrimmed}
use Rattle.learning_trail.proofs.Lessons.{sound_later}
use Rattle.learning_trail.proofs.MinimalClauses.{reason_known}
use Rattle.learning_trail.proofs.ListedPlaces.{AreBelow, below_first, below_next, trimmed_start, trimmed_to, trimmed_rest}
use Rattle.learning_trail.proofs.analysis.add_rest.Goals as goal

pub loop-at-init : goal.loop-at-init
loop-at-init g c =
    let was = c.args.notes.now in
    let places = c.list_places.new.self.places in
    let steps = c.args.trail.now.steps in
    let items = c.steps-steps.result.now in
    let count = ap length c.places-at.ensures in
    record {
      within = omega (arith, count);
      long = omega arith;
      sorted = c.in_ok-list_places.ensures.sorted;
      below = subst (λ (n : ℕ). AreBelow was.marks items places n (length items)) (sym count)
          (below_first was.marks steps items places c.steps-steps.ensures.value c.in_ok-list_places.ensures.covered);
      trimmed = subst (λ (xs : List Step). IsTrimmed (live_in (g.C.Clauses.clauses c.args.clauses.now)) steps xs was
          c.list_places.new.self) (sym (ap reverse (take_all (length items) items (omega arith))
          ∙ c.steps-steps.ensures.value))
          (trimmed_start (live_in (g.C.Clauses.clauses c.args.clauses.now)) steps was c.list_places.new.self
          c.list_places.ensures.same);
    }

pub trim-requires-clause-reason : goal.trim-requires-clause-reason
trim-requires-clause-reason g c =
    let clauses = g.C.Clauses.clauses c.args.clauses.now in
    let live = live_in clauses in
    let inv = c.loop-at.invariant in
    let at = c.loop-at.at in
    let p = get_or c.places.result.now (at - 1) 0 in
    let items = c.steps-steps.result.now in
    let s = c.index-steps-place.result in
    let t = trimmed_to live c.args.trail.now.steps items c.args.notes.now c.loop-at.notes c.loop-at.notes.places at
    c.loop-at.end p s inv.sorted c.loop-at-test.true inv.within
    (ap (λ xs. get_or xs (at - 1) 0) c.places.ensures) c.if-place-end.true inv.long
    (sym c.index-steps-place.is) inv.below inv.trimmed in
    reason_known clauses (reverse (take p items)) s (sound_later live t.done (s ∷ reverse (take p items))
    (subst (IsSound live) t.split c.requires.sound))

pub loop-at-preserved-in-Continue-branch-2 : goal.loop-at-preserved-in-Continue-branch-2
loop-at-preserved-in-Continue-branch-2 g c =
    let live = live_in (g.C.Clauses.clauses c.args.clauses.now) in
    let was = c.args.notes.now in
    let inv = c.loop-at.invariant in
    let at = c.loop-at.at in
    let p = get_or c.places.result.now (at - 1) 0 in
    let items = c.steps-steps.result.now in
    let s = c.index-steps-place.result in
    let is : p ≡ get_or c.loop-at.notes.places (at - 1) 0 = ap (λ xs. get_or xs (at - 1) 0) c.places.ensures in
    let near : p < c.loop-at.end = c.if-place-end.true in
    let t = trimmed_to live c.args.trail.now.steps items was c.loop-at.notes c.loop-at.notes.places at c.loop-at.end p s
    inv.sorted c.loop-at-test.true inv.within is near inv.long
    (sym c.index-steps-place.is) inv.below inv.trimmed in
    let same = sym c.trim.ensures.places in
    let count = ap length c.trim.ensures.places in
    let within = inv.within in
    let long = inv.long in
    record {
      within = omega (arith, count, within);
      long = omega (arith, near, long);
      sorted = subst (λ (xs : List ℕ). IsNonDecreasing xs) same inv.sorted;
      below = subst (λ (xs : List ℕ). AreBelow was.marks items xs (at - 1) p) same
          (below_next was.marks items c.loop-at.notes.places at c.loop-at.end p c.loop-at-test.true inv.within is near
          inv.below);
      trimmed = c.in_ok-trim.ensures.trimmed c.args.trail.now.steps (reverse (take p items)) was c.requires.sound t;
    }

pub returns-clause-trimmed : goal.returns-clause-trimmed
returns-clause-trimmed g c =
    let inv = c.loop-at.invariant in
    trimmed_rest (live_in (g.C.Clauses.clauses c.args.clauses.now)) c.args.trail.now.steps c.steps-steps.result.now
    c.args.notes.now c.loop-at.notes c.loop-at.notes.places c.loop-at.at c.loop-at.end
    (omega (arith, c.loop-at-test.false)) inv.long inv.below inv.trimmed
