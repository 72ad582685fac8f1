use Rattle.std.proofs.Common.{arith}
use Rattle.dq_session.proofs.AddedRows.{row_grew, row_answer}
use Rattle.dq_session.proofs.LiveRefutations.{file_formed}
use Rattle.list_laws.proofs.Results.{on_both}
use Rattle.dq_session.proofs.databases.ClauseDatabase.add_row.Goals as goal

pub add_row-requires-clause-formula : goal.add_row-requires-clause-formula
add_row-requires-clause-formula g c = search (arith, (file_formed c.args.self.now c.requires.database.well_formed))

pub returns-clause-grew : goal.returns-clause-grew
returns-clause-grew g c = search (arith, row_grew)

pub returns-clause-database : goal.returns-clause-database
returns-clause-database g c =
    let log = c.args.log.now in
    let new = c.add_row.new.log in
    let t = c.add_row.new.self in
    let inside = c.self.inside in
    on_both c.add_row.result (λ table rows. row_answer _ c.args.self.now c.self.view_is t c.args.row.now log new c.requires.database
    (g.met.O.Oracle.searched c.add_row.new.oracle new c.add_row.ensures.fit).logged c.add_row.ensures.group
    c.add_row.ensures.added table rows) c.add_row.ensures.table c.add_row.ensures.rows
