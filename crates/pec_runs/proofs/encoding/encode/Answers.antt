use Rattle.dq_io.specs.State.{state_of}
use Rattle.pec_runs.proofs.TwoFiles.{formula-written}
use Rattle.pec_runs.proofs.encoding.encode.Goals as goal

pub returns-in-Ok-clause-encoded : goal.returns-in-Ok-clause-encoded
returns-in-Ok-clause-encoded g c =
    formula-written (state_of g.F.Files c.args.files.now) (state_of g.F.Files c.read_design_formula.new.files)
    c.args.spec.now c.args.imp.now c.in-Ok.f c.encoded.result c.in-Ok.ensures.read
    (c.in-Ok.ensures.unfaulted (λ none. none)) c.encoded.ensures
