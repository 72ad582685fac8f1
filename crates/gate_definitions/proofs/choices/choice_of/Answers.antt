use Rattle.std.proofs.Common.{ap, ◌∙◌, sym}
use Rattle.dq_lits.specs.Literal.{same_literal}
use Rattle.gate_definitions.proofs.ChoiceHalves.{is_choice, is_same}
use Rattle.gate_definitions.proofs.choices.choice_of.Goals as goal

pub returns : goal.returns
returns c = λ e known.
    let other = c.args.other.now.condition in
    is_choice c.args.output.now.f.now c.args.output.now.ranks.now c.args.output.now.y e c.args.half.now
    c.args.other.now known
    (ap (same_literal other) (sym c.not.ensures) ∙ is_same c.ne.result
    (same_literal other c.not.result) c.ne.ensures c.if-ne.false)
    (c.is_half.ensures c.if-not-is_half.false) (c.is_half-else-not-is_half.ensures c.if-not-is_half-2.false)
    (c.all_readable.ensures c.if-not-all_readable.false e known)
