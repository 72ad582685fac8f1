use Rattle.std.proofs.Common.{◌∙◌, ap}
use Rattle.hint_log.specs.Entries.{ProofLog}
use Rattle.dq_io.specs.State.{state_of}
use Rattle.dqsolve_words.specs.Words.{defining_of}
use Rattle.dqsolve_core.proofs.DefinedRuns.{definitions_log, definitions_reported}
use Rattle.dqsolve_core.proofs.run.report_definitions.Goals as goal

pub returns-clause-reported : goal.returns-clause-reported
returns-clause-reported g c =
    definitions_reported (state_of g.F.Files c.args.files.now) (state_of g.F.Files c.define_file.new.files)
    c.define_file.new.log (defining_of c.args.defining) c.define_file.result
    (c.define_file.ensures.limit ∙ ap (λ (log : ProofLog). log.limit) c.rewind.ensures) c.define_file.ensures.defined

pub returns-clause-log : goal.returns-clause-log
returns-clause-log g c =
    definitions_log (state_of g.F.Files c.args.files.now) c.define_file.new.log (defining_of c.args.defining)
    (c.define_file.ensures.limit ∙ ap (λ (log : ProofLog). log.limit) c.rewind.ensures) c.define_file.ensures.log
