use Rattle.std.proofs.Common.{rules, ◌≡◌, ap, sym, subst, Err, arith}
use Rattle.list_laws.proofs.Results.{on_err}
use Rattle.hint_log.specs.Entries.{ProofLog, steps_of}
use Rattle.hint_log.specs.Naming.{rows_of}
use Rattle.hint_log.specs.ProductiveSession.{IsUndecidedSince}
use Rattle.hint_log.specs.declared.stops.Stop.TheVariants.{Limit}
use Rattle.aig_graph.specs.Outputs.{outputs_of}
use Rattle.dq_session.specs.Databases.{all_of}
use Rattle.repair_loop.specs.Stopping.{IsStoppedAtLimit}
use Rattle.repair_loop.specs.Turning.{IsRoundLogged}
use Rattle.repair_loop.proofs.LogGrowth.{log_same, round_grew, round_counts, steps_left}
use Rattle.repair_loop.proofs.Stages.{same_database}
use Rattle.repair_loop.proofs.Stops.{by_round}
use Rattle.repair_loop.proofs.searches.Search.log_failure.Goals as goal

pub returns-clause-round : goal.returns-clause-round
returns-clause-round g c =
    let s = c.args.self.now in
    let f = s.f.now in
    let x = c.args.failure.now in
    let log = c.args.log.now in
    let full : steps_of log.entries ≡ log.limit → ⊥ = λ is. let stopped = c.round.ensures.limit.1 is in let was =
    c.in_ok-round.was in cc in
    let value = c.steps.ensures.value in
    let within = c.steps.ensures.within in
    let next = c.failures_are_rounds.ensures f c.args.database.now c.args.checker.now s.definability.now s.may_ask log.entries
    (outputs_of f c.args.candidates.now.graph.now c.args.candidates.now.outputs.now) x.row x.values x.j c.requires.here
    c.requires.candidates.candidates c.requires.failure in
    record {
      logged = subst (λ (l : ProofLog). IsRoundLogged f c.args.database.now c.args.checker.now s.definability.now s.may_ask x.row l.entries)
          (sym c.in_ok-round.ensures.ok) next.2;
      step = round_counts log c.round.new.self x.row x.values x.j c.in_ok-round.ensures.ok;
      within = steps_left log (omega (arith, value, within)) full;
    }

pub returns-clause-went : goal.returns-clause-went
returns-clause-went g c =
    let x = c.args.failure.now in
    record {
      way = (returns-clause-round g c).logged.way;
      database = same_database c.args.database.now;
      grew = round_grew c.args.log.now c.round.new.self x.row x.values x.j c.in_ok-round.ensures.ok;
    }

pub returns-in_err-round-clause-went : goal.returns-in_err-round-clause-went
returns-in_err-round-clause-went g c = search (arith, same_database, log_same)

pub returns-in_err-round-clause-stopped : goal.returns-in_err-round-clause-stopped
returns-in_err-round-clause-stopped g c =
    let s = c.args.self.now in
    let f = s.f.now in
    let x = c.args.failure.now in
    record {
      undecided = on_err _ (subst (λ (l : ProofLog). IsUndecidedSince (all_of c.args.database.now) l.entries)
          (sym c.in_err-round.ensures.err) c.requires.here.undecided);
      limit = λ is.
          let stop : c.in_err-round.field-0.0 ≡ Limit = search rules in
          subst (IsStoppedAtLimit f) (sym c.in_err-round.ensures.err)
          (by_round c.failures_are_rounds.ensures f c.args.database.now c.args.checker.now s.definability.now s.may_ask c.args.log.now
          (outputs_of f c.args.candidates.now.graph.now c.args.candidates.now.outputs.now) c.requires.here
          c.requires.candidates.candidates x.row x.values x.j c.requires.failure
          (c.in_err-round.ensures.limit.0 (ap (λ e. Err e) stop)));
      rows = λ is. subst (λ (l : ProofLog). rows_of l.entries ≡ c.args.database.now.table.rows)
          (sym c.in_err-round.ensures.err) c.requires.here.rows;
    }
