use Rattle.std.proofs.Common.{◌≡◌, ◌++◌, ◌∷◌, [], suc, reverse, length, subst, sym, ap, ◌∙◌, arith, List}
use Rattle.std.proofs.lemmas.List.{length-set}
use Rattle.dq_lits.specs.Literal.{variable_of}
use Rattle.learning_trail.specs.Steps.{starts_of}
use Rattle.learning_trail.specs.TrailInside.{IsKept, ArePlaced}
use Rattle.learning_trail.specs.declared.trails.Step.{Step}
use Rattle.dq_lits.specs.declared.truth_values.TruthValue.{TruthValue}
use Rattle.dq_lits.specs.declared.truth_values.TruthValue.TheVariants.{Unassigned}
use Rattle.hint_log.proofs.KeptEntries.{newest}
use Rattle.learning_trail.proofs.KeptTrails.{kept_popped}
use Rattle.learning_trail.proofs.trails.Trail.pop.Goals as goal

pub invariant_of-self-2 : goal.invariant_of-self-2
invariant_of-self-2 c =
    let inside = c.self.inside in
    let step = c.in_ok-step.step in
    let place = c.place_of.result in
    let at : variable_of step.literal ≡ suc place = omega (arith, c.place_of.ensures) in
    let split : inside.steps.items ≡ c.pop.new.self.items ++ step ∷ [] = c.in_ok-step.ensures.items in
    let P : List Step → Type 0 = λ xs. IsKept inside.values xs in
    let old : IsKept inside.values (step ∷ reverse c.pop.new.self.items) =
    subst P (ap reverse split ∙ newest c.pop.new.self.items step) c.self.invariant.kept in
    let placed : ArePlaced inside.places.items (step ∷ reverse c.pop.new.self.items) =
    subst (ArePlaced inside.places.items) (ap reverse split ∙ newest c.pop.new.self.items step)
    c.self.invariant.placed in
    record {
      starts = c.take_start.ensures.starts (length (reverse c.pop.new.self.items))
          (starts_of (reverse c.pop.new.self.items))
          (c.self.invariant.starts ∙ ap starts_of (ap reverse split ∙ newest c.pop.new.self.items step));
      starts_room = omega (
        arith,
        length-set inside.values place Unassigned,
        ap length c.set.ensures,
        c.self.invariant.starts_room,
        c.take_start.ensures.capacity,
      );
      placed = placed.1;
      places = let n = c.self.invariant.places in omega (
        arith,
        n,
        length-set inside.values place Unassigned,
        ap length
            c.set.ensures,
      );
      kept = subst (λ (vs : List TruthValue). IsKept vs (reverse c.pop.new.self.items)) (sym c.set.ensures)
          (kept_popped inside.values (reverse c.pop.new.self.items) step place at old);
      room = omega (
        arith,
        length-set inside.values place Unassigned,
        ap length c.set.ensures,
        c.self.invariant.room,
        c.pop.ensures.capacity,
      );
    }
