use Rattle.cert_export.proofs.AscendingPlaces.{place_found, found_there}
use Rattle.cert_export.proofs.lines.place.Goals as goal

pub unreachable-requires : goal.unreachable-requires
unreachable-requires c = found_there c.args.ids.now c.args.id c.in-Err.field-0 c.requires.ascending c.requires.there
    c.in-Err.ensures.position

pub returns-clause-value : goal.returns-clause-value
returns-clause-value c = place_found c.args.ids.now c.args.id c.in-Ok.place c.requires.ascending c.in-Ok.ensures.bound
    c.in-Ok.ensures.position
