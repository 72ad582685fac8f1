use Rattle.cert_stream.proofs.StreamAnswers.{begun}
use Rattle.cert_stream.proofs.refutations.RefutationStream.new.Goals as goal

pub returns-clause-answer : goal.returns-clause-answer
returns-clause-answer c lines answer says = begun c.args.f.now c.args.first c.new.result c.new.ensures lines answer says
