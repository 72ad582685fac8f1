use Rattle.std.proofs.Common.{arith, inr, map, refl, string_bytes}
use Rattle.dq_io.specs.State.{state_of}
use Rattle.dq_runs.specs.Sinks.{sink_of}
use Rattle.dqsolve_words.specs.Spelling.{spelled_command}
use Rattle.dqsolve_core.proofs.Runs.{ends, causes, own_log}
use Rattle.dqsolve_core.proofs.DefinedRuns.{defines_told}
use Rattle.dqsolve_core.proofs.BoxPage.{shows_boxes}
use Rattle.dqsolve_core.proofs.OnePage.{is_verdict, no_other, shows}
use Rattle.dqsolve_core.proofs.SessionPage.{shows_session}
use Rattle.dqsolve_core.proofs.SessionRuns.{converses_told}
use Rattle.dqsolve_core.proofs.ToldDesigns.{compares_told}
use Rattle.dqsolve_core.proofs.ToldFiles.{solves_told}
use Rattle.dqsolve_core.proofs.run.dqsolve_run.Goals as goal

pub returns-clause-ends : goal.returns-clause-ends
returns-clause-ends g c =
    ends (state_of g.F.Files c.args.files.now) (state_of g.F.Files c.report-output.new.files)
    (spelled_command (map string_bytes c.args.words.now)) c.report-output.new.log
    (sink_of g.K.Sink c.args.out.now) (sink_of g.K.Sink c.deliver.new.out) c.report-output.result c.deliver.result
    c.report-output.ensures.reported c.deliver.ensures

pub returns-clause-log : goal.returns-clause-log
returns-clause-log g c =
    own_log (state_of g.F.Files c.args.files.now) (state_of g.F.Files c.report-output.new.files)
    (spelled_command (map string_bytes c.args.words.now)) c.report-output.new.log
    (sink_of g.K.Sink c.args.out.now) (sink_of g.K.Sink c.deliver.new.out) c.report-output.result c.deliver.result
    c.report-output.ensures.reported c.report-output.ensures.limit c.report-output.ensures.log c.deliver.ensures

pub returns-clause-told : goal.returns-clause-told
returns-clause-told g c =
    let before = state_of g.F.Files c.args.files.now in
    let now = state_of g.F.Files c.report-output.new.files in
    let asked = spelled_command (map string_bytes c.args.words.now) in
    let sink = sink_of g.K.Sink c.args.out.now in
    let sink_now = sink_of g.K.Sink c.deliver.new.out in
    record {
      formula = solves_told
          (record {
            exact = λ text f. (c.formula_or_first_fault.ensures.exact text f).0;
            unique = c.formula_or_first_fault.ensures.unique;
          })
          before now asked c.report-output.new.log sink sink_now c.report-output.result c.deliver.result
          c.report-output.ensures.reported c.deliver.ensures;
      circuits = compares_told
          (record {
            certified = c.certified_boxes_fit.ensures;
            fitting = c.fitting_boxes_choose.ensures;
          })
          before now asked c.report-output.new.log sink sink_now c.report-output.result c.deliver.result
          c.report-output.ensures.reported c.deliver.ensures;
      definitions = defines_told
          (record {
            exact = λ text f. (c.formula_or_first_fault.ensures.exact text f).0;
            unique = c.formula_or_first_fault.ensures.unique;
          })
          before now asked c.report-output.new.log sink sink_now c.report-output.result c.deliver.result
          c.report-output.ensures.reported c.deliver.ensures;
      sessions = converses_told
          (record {
            exact = λ text f. (c.formula_or_first_fault.ensures.exact text f).0;
            unique = c.formula_or_first_fault.ensures.unique;
          })
          before now asked c.report-output.new.log sink sink_now c.report-output.result c.deliver.result
          c.report-output.ensures.reported c.deliver.ensures;
    }

pub returns-clause-headline : goal.returns-clause-headline
returns-clause-headline g c formula told either =
    let status = c.deliver.result in
    shows
    (record {
      formulas = c.formulas_are_on_the_page.ensures;
      circuits = c.accepted_circuits_are_on_the_page.ensures;
    })
    formula c.report-output.new.log told.command (sink_of g.K.Sink c.args.out.now).taken
    (sink_of g.K.Sink c.deliver.new.out).taken status either
    ((returns-clause-told g c).formula.right formula told (is_verdict status either))

pub returns-clause-boxes : goal.returns-clause-boxes
returns-clause-boxes g c command specification implementation asked told either =
    let status = c.deliver.result in
    shows_boxes c.designs_are_on_the_page.ensures (spelled_command (map string_bytes c.args.words.now)) command
    specification implementation c.report-output.new.log (sink_of g.K.Sink c.args.out.now).taken
    (sink_of g.K.Sink c.deliver.new.out).taken status asked either
    ((returns-clause-told g c).circuits.answered command.circuits specification implementation
    (inr (command, asked, refl)) told (no_other status 3 either (λ e. omega (arith, e)) (λ e. omega (arith, e)))
    (no_other status 4 either (λ e. omega (arith, e)) (λ e. omega (arith, e))) (no_other status 5 either (λ e. omega (arith, e)) (λ e. omega (arith, e))))

pub returns-clause-session : goal.returns-clause-session
returns-clause-session g c formula script told zero =
    shows_session c.sessions_are_on_the_page.ensures formula script c.report-output.new.log told.command
    (sink_of g.K.Sink c.args.out.now).taken (sink_of g.K.Sink c.deliver.new.out).taken c.deliver.result
    ((returns-clause-told g c).sessions.right formula script told zero)

pub returns-clause-causes : goal.returns-clause-causes
returns-clause-causes g c =
    causes (state_of g.F.Files c.args.files.now) (state_of g.F.Files c.report-output.new.files)
    (spelled_command (map string_bytes c.args.words.now)) c.report-output.new.log
    (sink_of g.K.Sink c.args.out.now) (sink_of g.K.Sink c.deliver.new.out) c.report-output.result c.deliver.result
    c.report-output.ensures.held c.report-output.ensures.reported c.deliver.ensures
