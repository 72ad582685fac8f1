use Rattle.std.proofs.Common.{get_or, ap, ◌∙◌, arith}
use Rattle.std.proofs.lemmas.List.{get_or_default, length-map}
use Rattle.dq_formula.specs.Prefix.{existential_variables}
use Rattle.copied_prefixes.proofs.CopiedPrefixes.{is-at}
use Rattle.copied_prefixes.proofs.existential_at.Goals as goal

pub returns : goal.returns
returns c =
    let f = c.args.f.now in
    let place = c.args.place in
    let vs = existential_variables f in
    let y = get_or c.existentials.result.now place 0 in
    let long = length-map f.existentials (λ e. e.variable) in
    is-at f place y c.requires.lawful c.requires.within
    (ap (λ xs. get_or xs place 0) c.existentials.ensures
    ∙ get_or_default vs place 0 y (omega (arith, long, c.requires.within)))
