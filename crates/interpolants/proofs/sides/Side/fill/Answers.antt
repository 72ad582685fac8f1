use Rattle.std.proofs.Common.{◌||◌, ◌∙◌, sym, ap}
use Rattle.std.proofs.lemmas.Result.{on_ok_weaker}
use Rattle.dq_lits.specs.Literal.{positive}
use Rattle.dq_lits.specs.Derivation.{holds}
use Rattle.interpolants.specs.Interpolant.{stands_on}
use Rattle.interpolants.proofs.Sets.{stands_alike, selectors_alike}
use Rattle.interpolants.proofs.sides.Side.fill.Goals as goal

pub returns-clause-side : goal.returns-clause-side
returns-clause-side c =
    let entries = c.args.answer.now.log.now.entries in
    let assumed = c.fill.new.self in
    let selectors = selectors_alike entries assumed c.args.a_side.now c.fill_selectors.new.set c.in_ok-fill.ensures
    c.in_ok-fill_selectors.ensures in
    on_ok_weaker c.add_given.result
    (λ of_a shared. record {
      selectors = selectors;
      variables = of_a assumed shared selectors (λ v.
          c.in_ok-add_variables.ensures v ∙ ap (λ ls. holds ls (positive v) || stands_on c.args.a_side.now v)
          c.requires.no_variables
          ∙ sym (stands_alike assumed c.args.a_side.now c.in_ok-fill.ensures v));
    }) c.add_given.ensures
