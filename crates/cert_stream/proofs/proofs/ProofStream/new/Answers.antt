use Rattle.std.specs.Option.{option_map}
use Rattle.proof_checker.specs.Judging.{run_of}
use Rattle.cert_stream.proofs.ProofAnswers.{begun}
use Rattle.cert_stream.proofs.proofs.ProofStream.new.Goals as goal

pub returns-clause-answer : goal.returns-clause-answer
returns-clause-answer c lines answer says =
    begun c.args.f.now c.args.circuit c.args.first c.new-lines.result
    (option_map (run_of c.args.f.now c.args.circuit) c.args.proving) c.new-lines.ensures lines answer says
