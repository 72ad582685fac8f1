use Rattle.std.proofs.Common.{◌∙◌, ap}
use Rattle.hint_log.specs.Entries.{ProofLog}
use Rattle.dq_io.specs.State.{state_of}
use Rattle.dqsolve_words.specs.Words.{session_of}
use Rattle.dqsolve_core.proofs.SessionRuns.{session_log, session_reported}
use Rattle.dqsolve_core.proofs.run.report_session.Goals as goal

pub returns-clause-reported : goal.returns-clause-reported
returns-clause-reported g c =
    session_reported (state_of g.F.Files c.args.files.now) (state_of g.F.Files c.session_files.new.files)
    c.session_files.new.log (session_of c.args.asked) c.session_files.result
    (c.session_files.ensures.limit ∙ ap (λ (log : ProofLog). log.limit) c.rewind.ensures) c.session_files.ensures.due

pub returns-clause-log : goal.returns-clause-log
returns-clause-log g c =
    session_log (state_of g.F.Files c.args.files.now) c.session_files.new.log (session_of c.args.asked)
    (c.session_files.ensures.limit ∙ ap (λ (log : ProofLog). log.limit) c.rewind.ensures) c.session_files.ensures.log
