use Rattle.std.proofs.Common.{◌≡◌, ◌-◌, ◌<◌, List, length, get_or, ◌∙◌, ap, arith}
use Rattle.std.proofs.lemmas.List.{get_or_default}
use Rattle.dq_lits.specs.Literal.{is_negative}
use Rattle.dq_lits.specs.declared.truth_values.TruthValue.{TruthValue}
use Rattle.dq_lits.specs.declared.truth_values.TruthValue.TheVariants.{Unassigned}
use Rattle.learning_trail.specs.Valued.{plain, signed}
use Rattle.learning_trail.proofs.PairedValues.{paired_length, read_signed, sign_low}
use Rattle.learning_trail.proofs.values.Values.of.Goals as goal

pub index-requires : goal.index-requires
index-requires c = search (arith, paired_length, sign_low)

pub returns-clause-from_one : goal.returns-clause-from_one
returns-clause-from_one c = search (arith, sign_low)

pub returns-clause-value : goal.returns-clause-value
returns-clause-value c = λ i e.
    let inside = c.self.inside.values in
    let twice = paired_length inside.items c.self.invariant in
    let shown : length (plain inside.items) ≡ length c.args.self.now = ap length c.self.view_is in
    let low = sign_low (is_negative c.args.l) in
    let at = c.place.ensures.value in
    let two = c.place.ensures.from_two in
    let known = c.requires in
    let lt : c.place.result - 2 < length inside.items = omega (arith, twice, shown, low, at, two, known) in
    c.index.ensures ∙ get_or_default inside.items (c.place.result - 2) c.index.result.now Unassigned lt
    ∙ read_signed inside.items c.args.l i c.place.result c.self.invariant e at
    ∙ ap (λ (vs : List TruthValue). signed (is_negative c.args.l) (get_or vs i Unassigned)) c.self.view_is
