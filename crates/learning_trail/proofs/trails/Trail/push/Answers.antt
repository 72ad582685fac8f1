use Rattle.std.proofs.Common.{◌≡◌, ◌<◌, ◌++◌, ◌∷◌, [], suc, not, cond, reverse, length, set, sym, subst, ap, ◌∙◌, arith, List, ℕ}
use Rattle.std.proofs.lemmas.List.{length-set, length-reverse}
use Rattle.dq_lits.specs.Literal.{variable_of}
use Rattle.learning_trail.specs.Steps.{Trailed, literals_of, is_decision, starts_of}
use Rattle.dq_lits.specs.Truth.{IsFree}
use Rattle.learning_trail.specs.TrailInside.{IsKept, ArePlaced}
use Rattle.learning_trail.specs.declared.trails.Step.{Step}
use Rattle.dq_lits.specs.declared.truth_values.TruthValue.{TruthValue}
use Rattle.dq_lits.specs.declared.truth_values.TruthValue.TheVariants.{True, False}
use Rattle.dq_lits.proofs.AssignedLiterals.{value_where_true}
use Rattle.hint_log.proofs.KeptEntries.{newest}
use Rattle.learning_trail.proofs.KeptTrails.{kept_pushed}
use Rattle.learning_trail.proofs.LevelStarts.{few_starts}
use Rattle.learning_trail.proofs.PlacedSteps.{placed_pushed}
use Rattle.learning_trail.proofs.trails.Trail.push.Goals as goal

pub push_reserved-requires : goal.push_reserved-requires
push_reserved-requires c =
    let inside = c.self.inside in
    let place = c.place_of.result in
    let at : variable_of c.args.step.literal ≡ suc place = omega (arith, c.place_of.ensures) in
    let in_range : place < length inside.values = omega
    (arith, ap (λ t. t.room) c.self.view_is, at, c.requires.in_range) in
    let free : IsFree (literals_of (reverse inside.steps.items)) c.args.step.literal =
    subst (λ (t : Trailed). IsFree (literals_of t.steps) c.args.step.literal)
    (sym c.self.view_is) c.requires.free in
    let all = kept_pushed inside.values (reverse inside.steps.items) c.args.step place at in_range free
    c.self.invariant.kept in
    omega (arith, all.1, length-reverse inside.steps.items, c.self.invariant.room)

pub put_start-requires : goal.put_start-requires
put_start-requires c =
    let inside = c.self.inside in
    let place = c.place_of.result in
    let at : variable_of c.args.step.literal ≡ suc place = omega (arith, c.place_of.ensures) in
    let in_range : place < length inside.values = omega
    (arith, ap (λ t. t.room) c.self.view_is, at, c.requires.in_range) in
    let free : IsFree (literals_of (reverse inside.steps.items)) c.args.step.literal =
    subst (λ (t : Trailed). IsFree (literals_of t.steps) c.args.step.literal)
    (sym c.self.view_is) c.requires.free in
    let all = kept_pushed inside.values (reverse inside.steps.items) c.args.step place at in_range free
    c.self.invariant.kept in
    omega (
      arith,
      all.1,
      few_starts (reverse inside.steps.items),
      ap length c.self.invariant.starts,
      length-reverse inside.starts.items,
      c.self.invariant.starts_room,
    )

pub invariant_of-self : goal.invariant_of-self
invariant_of-self c =
    let inside = c.self.inside in
    let place = c.place_of.result in
    let step = c.args.step in
    let more = c.push_reserved.new.self.items in
    let at : variable_of step.literal ≡ suc place = omega (arith, c.place_of.ensures) in
    let in_range : place < length inside.values = omega
    (arith, ap (λ t. t.room) c.self.view_is, at, c.requires.in_range) in
    let free : IsFree (literals_of (reverse inside.steps.items)) step.literal =
    subst (λ (t : Trailed). IsFree (literals_of t.steps) c.args.step.literal)
    (sym c.self.view_is) c.requires.free in
    let all = kept_pushed inside.values (reverse inside.steps.items) step place at in_range free
    c.self.invariant.kept in
    let value : c.truth_value.result ≡ value_where_true step.literal =
    c.truth_value.ensures ∙ ap (λ b. cond (not b) True False) c.is_neg.ensures in
    let longer : more ≡ inside.steps.items ++ step ∷ [] =
    c.push_reserved.ensures.items in
    let again : variable_of step.literal ≡ suc c.place_of-2.result = omega (arith, c.place_of-2.ensures) in
    let in_range_again : c.place_of-2.result < length inside.places.items = let n = c.self.invariant.places in
    omega (arith, n, at, again, in_range) in
    let count : c.len.result ≡ length (reverse inside.steps.items) =
    omega (arith, c.len.ensures, length-reverse inside.steps.items, inside.steps.ok.0) in
    let count_again : c.len-2.result ≡ length (reverse inside.steps.items) =
    omega (arith, c.len-2.ensures, length-reverse inside.steps.items, inside.steps.ok.0) in
    let P : List Step → Type 0 = λ xs. IsKept (set inside.values place c.truth_value.result) xs in
    let Q : TruthValue → Type 0 = λ t. IsKept (set inside.values place t) (step ∷ reverse inside.steps.items) in
    record {
      starts = c.put_start.ensures.starts ∙ ap (λ n. cond (is_decision step) (n ∷ reverse inside.starts.items)
          (reverse inside.starts.items)) count_again
          ∙ ap (λ ns. cond (is_decision step) (length (reverse inside.steps.items) ∷ ns) ns) c.self.invariant.starts
          ∙ ap starts_of (sym (ap reverse longer ∙ newest inside.steps.items step));
      starts_room = omega (
        arith,
        length-set inside.values place c.truth_value.result,
        ap length c.set.ensures,
        c.self.invariant.starts_room,
        c.put_start.ensures.capacity,
      );
      kept = subst (λ (vs : List TruthValue). IsKept vs (reverse more)) (sym c.set.ensures)
          (subst P (sym (ap reverse longer ∙ newest inside.steps.items step)) (subst Q (sym value) all.0));
      room = omega (
        arith,
        length-set inside.values place c.truth_value.result,
        ap length c.set.ensures,
        c.self.invariant.room,
        c.push_reserved.ensures.capacity,
      );
      placed = subst (λ (xs : List Step). ArePlaced (set inside.places.items c.place_of-2.result c.len.result) xs)
          (sym (ap reverse longer ∙ newest inside.steps.items step))
          (subst (λ (n : ℕ). ArePlaced (set inside.places.items c.place_of-2.result n)
          (step ∷ reverse inside.steps.items)) (sym count)
          (placed_pushed inside.places.items (reverse inside.steps.items) step c.place_of-2.result again in_range_again
          free c.self.invariant.placed));
      places = let n = c.self.invariant.places in omega (
        arith,
        n,
        length-set inside.places.items c.place_of-2.result c.len.result,
        length-set inside.values place c.truth_value.result,
        ap length c.set.ensures,
      );
    }

pub returns-clause-few : goal.returns-clause-few
returns-clause-few c =
    let inside = c.self.inside in
    let place = c.place_of.result in
    let step = c.args.step in
    let at : variable_of step.literal ≡ suc place = omega (arith, c.place_of.ensures) in
    let in_range : place < length inside.values = omega
    (arith, ap (λ t. t.room) c.self.view_is, at, c.requires.in_range) in
    let free : IsFree (literals_of (reverse inside.steps.items)) step.literal =
    subst (λ (t : Trailed). IsFree (literals_of t.steps) c.args.step.literal)
    (sym c.self.view_is) c.requires.free in
    let all = kept_pushed inside.values (reverse inside.steps.items) step place at in_range free
    c.self.invariant.kept in
    let longer : c.push_reserved.new.self.items ≡ inside.steps.items ++ step ∷ [] =
    c.push_reserved.ensures.items in
    omega (
      arith,
      ap length (ap reverse longer ∙ newest inside.steps.items step),
      all.1,
      length-set inside.values place c.truth_value.result,
      ap length c.set.ensures,
    )
