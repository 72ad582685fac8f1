use Rattle.std.proofs.Common.{ap, arith}
use Rattle.dq_session.specs.Databases.{DatabaseState, frame_at}
use Rattle.dq_session.proofs.GivenClauses.{group_at, give_answer}
use Rattle.dq_session.proofs.LiveRefutations.{full_table}
use Rattle.dq_session.proofs.databases.ClauseDatabase.give_under.Goals as goal

pub give-requires-clause-made : goal.give-requires-clause-made
give-requires-clause-made g c =
    let b = c.args.self.now in
    let es = c.args.log.now.entries in
    let database = c.requires.database.database in
    database.groups.made (frame_at b c.args.place) c.in-Some.group
    (group_at b es database c.args.place c.requires.place c.self.inside.groups.items c.self.inside.frames.items
    (ap (λ (x : DatabaseState). x.groups) c.self.view_is) (ap (λ (x : DatabaseState). x.frames) c.self.view_is)
    c.index.result.now c.index.ensures c.index-2.result.now c.index-2.ensures c.in-Some.group c.in-Some.is)

pub give-requires-clause-table : goal.give-requires-clause-table
give-requires-clause-table g c = search (arith, full_table)

pub returns-clause-giving : goal.returns-clause-giving
returns-clause-giving g c =
    let b = c.args.self.now in
    let log = c.args.log.now in
    give_answer _ b c.self.view_is c.args.place c.args.k c.clauses.result c.in-Some.group c.get.result.now log
    c.give.new.log c.requires.database (g.met.O.Oracle.searched c.args.oracle.now log c.requires.fit).logged c.requires.few
    c.requires.place c.requires.next c.requires.last
    (group_at b log.entries c.requires.database.database c.args.place c.requires.place c.self.inside.groups.items
    c.self.inside.frames.items (ap (λ (x : DatabaseState). x.groups) c.self.view_is)
    (ap (λ (x : DatabaseState). x.frames) c.self.view_is) c.index.result.now c.index.ensures c.index-2.result.now
    c.index-2.ensures c.in-Some.group c.in-Some.is)
    c.clauses.ensures.value c.get.ensures c.in_ok-give.ensures.given
