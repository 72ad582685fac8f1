use Rattle.std.proofs.Common.{ap}
use Rattle.skolem_checker.specs.Checks.{with_mapping}
use Rattle.cert_export.specs.CircuitPart.{exported_netlist, exported_mapping}
use Rattle.cert_export.proofs.MappedSymbols.{told}
use Rattle.cert_export.proofs.laws.exported_symbols_map.Goals as goal

pub returns : goal.returns
returns c f entries e symbols lawful small numbers =
    let t = told f lawful symbols numbers c.written_numbers_are_read.ensures.natural small entries e in
    ap (with_mapping f (exported_netlist f entries e)) ((c.mapping_is_as_told.ensures.exact f
    (exported_netlist f entries e) symbols (exported_mapping f)).1 t)
