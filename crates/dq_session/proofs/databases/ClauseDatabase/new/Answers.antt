use Rattle.std.proofs.Common.{arith}
use Rattle.dq_session.proofs.BegunDatabases.{begun_database, begun_grew, begun_as}
use Rattle.dq_session.proofs.databases.ClauseDatabase.new.Goals as goal

pub returns-in_err-live-clause-grew : goal.returns-in_err-live-clause-grew
returns-in_err-live-clause-grew g c = search (arith, begun_grew)

pub returns-in_err-groups-clause-grew : goal.returns-in_err-groups-clause-grew
returns-in_err-groups-clause-grew g c = search (arith, begun_grew)

pub returns-clause-grew : goal.returns-clause-grew
returns-clause-grew g c = search (arith, begun_grew)

pub returns-clause-database : goal.returns-clause-database
returns-clause-database g c =
    let f = c.args.f.now in
    let t = c.in_ok-table.table in
    let log = c.new.new.log in
    begun_as f t log.entries
    (begun_database f t c.args.log.now log c.requires.formula c.requires.none c.in_ok-table.ensures.named
    c.in_ok-table.ensures.made)
    c.new-2.result c.new-3.result.items c.new-4.result.items c.in_ok-groups.groups.items c.new-5.result.items
    c.in_ok-live.live.items c.new-2.ensures c.new-3.ensures.items c.new-4.ensures.items c.in_ok-groups.ensures
    c.new-5.ensures.items c.in_ok-live.ensures
