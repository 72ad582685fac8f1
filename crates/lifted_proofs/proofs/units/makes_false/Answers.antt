use Rattle.std.proofs.Common.{get_or}
use Rattle.std.proofs.lemmas.Option.{slice_get-get_or}
use Rattle.lifted_proofs.proofs.TakenUnits.{here-false}
use Rattle.lifted_proofs.proofs.units.makes_false.Goals as goal

pub returns : goal.returns
returns c =
    let units = c.args.units.now in
    here-false units c.args.j c.args.l c.not.result (get_or units c.args.j c.index-units-j.result) c.eq.result
    (slice_get-get_or units c.args.j c.index-units-j.result c.requires) c.not.ensures c.eq.ensures
