use Rattle.std.proofs.Common.{map, string_bytes}
use Rattle.dq_io.specs.State.{state_of}
use Rattle.dq_runs.specs.Sinks.{sink_of}
use Rattle.dqcheck_words.specs.Spelling.{spelled_command}
use Rattle.dqcheck_core.proofs.OnePage.{shows}
use Rattle.dqcheck_core.proofs.Runs.{ends, causes}
use Rattle.dqcheck_core.proofs.ToldFiles.{judges_told}
use Rattle.dqcheck_core.proofs.run.dqcheck_run.Goals as goal

pub returns-clause-ends : goal.returns-clause-ends
returns-clause-ends g c =
    ends (state_of g.F.Files c.args.files.now) (state_of g.F.Files c.report-output.new.files)
    (spelled_command (map string_bytes c.args.words.now))
    (sink_of g.K.Sink c.args.out.now) (sink_of g.K.Sink c.deliver.new.out) c.report-output.result c.deliver.result
    c.report-output.ensures.reported c.deliver.ensures

pub returns-clause-told : goal.returns-clause-told
returns-clause-told g c =
    judges_told
    (record {
      exact = λ text f. (c.formula_or_first_fault.ensures.exact text f).0;
      unique = c.formula_or_first_fault.ensures.unique;
    })
    (record {
      circuit = c.acceptance_is_sound.ensures.circuit;
      is_true = c.acceptance_is_sound.ensures.is_true;
      is_false = c.acceptance_is_sound.ensures.is_false;
      definitions = c.acceptance_is_sound.ensures.definitions;
    })
    (state_of g.F.Files c.args.files.now) (state_of g.F.Files c.report-output.new.files)
    (spelled_command (map string_bytes c.args.words.now))
    (sink_of g.K.Sink c.args.out.now) (sink_of g.K.Sink c.deliver.new.out) c.report-output.result c.deliver.result
    c.report-output.ensures.reported c.deliver.ensures

pub returns-clause-headline : goal.returns-clause-headline
returns-clause-headline g c formula certificate held status =
    shows
    (record {
      formulas = c.formulas_are_on_the_page.ensures;
      circuits = c.skolem_circuits_are_on_the_page.ensures;
      definitions = c.definitions_are_on_the_page.ensures;
    })
    formula certificate (sink_of g.K.Sink c.args.out.now).taken (sink_of g.K.Sink c.deliver.new.out).taken
    ((returns-clause-told g c).accepted formula certificate held status)

pub returns-clause-causes : goal.returns-clause-causes
returns-clause-causes g c =
    causes (state_of g.F.Files c.args.files.now) (state_of g.F.Files c.report-output.new.files)
    (spelled_command (map string_bytes c.args.words.now))
    (sink_of g.K.Sink c.args.out.now) (sink_of g.K.Sink c.deliver.new.out) c.report-output.result c.deliver.result
    c.report-output.ensures.held c.report-output.ensures.reported c.deliver.ensures
