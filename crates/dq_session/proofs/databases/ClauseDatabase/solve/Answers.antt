use Rattle.std.proofs.Common.{subst, arith}
use Rattle.dq_lits.specs.Expansion.{IsExpansionUnsatisfiable}
use Rattle.log_laws.specs.Engines.{instances}
use Rattle.log_laws.specs.Sessions.{IsAddedLive}
use Rattle.log_laws.proofs.LargerLogs.{grown_then}
use Rattle.expansion.specs.Silence.{is_silent}
use Rattle.expansion.specs.Table.{ArePoints, point_bits}
use Rattle.dq_session.specs.Databases.{DatabaseState, all_of, now_of}
use Rattle.dq_session.specs.Changes.{groups_of}
use Rattle.dq_session.proofs.DatabasesGiving.{shown_before}
use Rattle.dq_session.proofs.FreshGroups.{groups_fresh}
use Rattle.dq_session.proofs.databases.ClauseDatabase.solve.Goals as goal

pub returns-clause-grew : goal.returns-clause-grew
returns-clause-grew g c =
    let b = c.args.self.now in
    let log = c.args.log.now in
    let silent = is_silent c.search.result in
    grown_then (IsAddedLive (all_of b) instances (groups_of b) silent log.entries) log c.give_live.new.log
    c.search.new.log (c.give_live.ensures.giving.grew silent)
    (c.search.ensures.grew (all_of b) (groups_of b) log.entries)

pub returns-clause-model : goal.returns-clause-model
returns-clause-model g c points e =
    subst (λ (x : DatabaseState). ArePoints (now_of x) x.table.rows (point_bits points))
    c.give_live.ensures.giving.caught_up.same (c.search.ensures.model points e)

pub returns-clause-refuted : goal.returns-clause-refuted
returns-clause-refuted g c id e =
    subst (λ (x : DatabaseState). IsExpansionUnsatisfiable (now_of x) x.table.rows)
    c.give_live.ensures.giving.caught_up.same (c.search.ensures.refuted id e)

pub returns-clause-shown : goal.returns-clause-shown
returns-clause-shown g c id e = search (arith, shown_before)

pub returns-clause-fresh : goal.returns-clause-fresh
returns-clause-fresh g c =
    search (
      arith,
      (groups_fresh c.args.self.now c.args.log.now c.give_live.new.self c.give_live.new.log c.give_live.ensures.giving),
    )

pub returns-in_err-give_live-clause-fresh : goal.returns-in_err-give_live-clause-fresh
returns-in_err-give_live-clause-fresh g c = search (arith, groups_fresh)
