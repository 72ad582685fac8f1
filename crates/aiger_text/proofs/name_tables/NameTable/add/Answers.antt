use Rattle.std.proofs.Common.{arith}
use Rattle.aiger_text.proofs.NamedPlaces.{no_place, zip_more}
use Rattle.aiger_text.proofs.name_tables.NameTable.add.Goals as goal

pub add-requires : goal.add-requires
add-requires c = search (arith, no_place)

pub returns-clause-ok : goal.returns-clause-ok
returns-clause-ok c = search (arith, zip_more)
