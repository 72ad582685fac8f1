use Rattle.std.proofs.Common.{arith}
use Rattle.expansion.proofs.AddedRows.{looked, row_grew}
use Rattle.expansion.proofs.tables.Table.add_row.Goals as goal

pub add_found-requires-clause-table : goal.add_found-requires-clause-table
add_found-requires-clause-table g c =
    looked c.args.f.now c.args.self.now c.find_rows.new.self c.args.log.now.entries c.find_rows.ensures.same
    c.requires.table c.find_rows.ensures.index

pub returns-clause-added : goal.returns-clause-added
returns-clause-added g c = search arith

pub returns-clause-grew : goal.returns-clause-grew
returns-clause-grew g c first = search (arith, row_grew)
