use Rattle.std.proofs.Common.{◌≡◌, ◌+◌, ◌-◌, ◌∙◌, ap, arith}
use Rattle.std.specs.List.{range_with_len}
use Rattle.dq_lits.specs.Formula.{Dqbf}
use Rattle.pec_front.specs.Boxes.{inputs_of}
use Rattle.pec_front.specs.Encoding.{signals_of}
use Rattle.pec_front.proofs.DrivenInputs.{declared-further}
use Rattle.pec_front.proofs.prefixes.declare.Goals as goal

pub declare_seeing_all-requires-clause-declared : goal.declare_seeing_all-requires-clause-declared
declare_seeing_all-requires-clause-declared c =
    let d = c.args.design.now in
    let layout = c.args.layout.now in
    let is = c.requires.layout.driven in
    declared-further d c.declare_further.new.f layout.first_specified
    (ap (λ (f : Dqbf). f.universals) c.in_ok-declare_further.ensures
    ∙ ap (λ (f : Dqbf). f.universals) c.in_ok-declare_universals.ensures
    ∙ ap (range_with_len 1)
    (let e : layout.first_driven - 1 ≡ inputs_of d + signals_of d = omega (arith, is) in e))
    (ap (λ (f : Dqbf). f.existentials) c.in_ok-declare_further.ensures) c.requires.layout.specified
