use Rattle.std.proofs.Common.{◌≡◌, ◌+◌, ◌<◌, ◌∷◌, [], ◌++◌, suc, not, cond, length, reverse, ◌∙◌, ap, arith, length-append}
use Rattle.std.proofs.lemmas.List.{length-set}
use Rattle.dq_lits.specs.Literal.{variable_of}
use Rattle.dq_lits.specs.Truth.{literal_value}
use Rattle.dq_lits.specs.declared.truth_values.TruthValue.TheVariants.{True, False, Unassigned}
use Rattle.rup_core.proofs.AssignedLiterals.{assign_room, assign_counted, assign_told, near_keeps_far}
use Rattle.dq_lits.proofs.AssignedLiterals.{value_where_true}
use Rattle.rup_core.proofs.trails.Trail.assign_near.Goals as goal

pub push_reserved-requires : goal.push_reserved-requires
push_reserved-requires c =
    let inside = c.self.inside in
    let place = c.args.place in
    let at : variable_of c.args.l ≡ suc place = omega (arith, c.requires.place) in
    let in_range : place < length inside.near.items = omega (
      arith,
      ap (λ a. a.variables) c.self.view_is,
      at,
      c.requires.in_range,
    ) in
    let free : literal_value (reverse inside.literals.items) c.args.l ≡ Unassigned =
    ap (λ a. literal_value a.trues c.args.l) c.self.view_is ∙ c.requires.unassigned in
    let room = assign_room inside.near.items inside.literals.items c.args.l place _ c.self.invariant.told
    c.self.invariant.room at in_range free in
    omega (arith, room, inside.literals.ok.0)

pub invariant_of-self : goal.invariant_of-self
invariant_of-self c =
    let inside = c.self.inside in
    let place = c.args.place in
    let more = c.push_reserved.new.self.items in
    let at : variable_of c.args.l ≡ suc place = omega (arith, c.requires.place) in
    let in_range : place < length inside.near.items = omega (
      arith,
      ap (λ a. a.variables) c.self.view_is,
      at,
      c.requires.in_range,
    ) in
    let free : literal_value (reverse inside.literals.items) c.args.l ≡ Unassigned =
    ap (λ a. literal_value a.trues c.args.l) c.self.view_is ∙ c.requires.unassigned in
    let value : c.truth_value.result ≡ value_where_true c.args.l =
    c.truth_value.ensures ∙ ap (λ b. cond (not b) True False) c.is_neg.ensures in
    let longer : more ≡ inside.literals.items ++ c.args.l ∷ [] = c.push_reserved.ensures.items in
    let same = length-set inside.near.items place c.truth_value.result in
    let counted = assign_counted inside.near.items inside.literals.items c.args.l place c.truth_value.result
    c.self.invariant.told at in_range free value in
    let long : length more ≡ length inside.literals.items + 1 =
    ap length longer ∙ length-append inside.literals.items (c.args.l ∷ []) in
    record {
      told = assign_told inside.near.items inside.literals.items more c.args.l place c.truth_value.result
          c.self.invariant.told at in_range free value longer;
      far_told = near_keeps_far _ _ inside.far inside.literals.items more c.args.l c.self.invariant.far_told
          (omega (arith, at, in_range)) same longer;
      room = omega (arith, same, counted, long, c.self.invariant.room, c.push_reserved.ensures.capacity);
      whole = omega (arith, same, c.self.invariant.whole, c.push_reserved.ensures.capacity);
    }
