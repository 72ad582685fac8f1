use Rattle.std.proofs.Common.{subst, sym, arith}
use Rattle.aig_binary.specs.BareReading.{listed}
use Rattle.aig_binary.specs.declared.bare.BareCircuit.{BareCircuit}
use Rattle.cert_judge.specs.Phases.{IsJudged}
use Rattle.cert_judge.proofs.BinaryAnswers.{ok_ends, read_judged, stop_ends}
use Rattle.cert_judge.proofs.Soundness.{BinaryLaw}
use Rattle.cert_judge.proofs.binary.finish_binary.Goals as goal

pub finish_bare-requires-clause-judged : goal.finish_bare-requires-clause-judged
finish_bare-requires-clause-judged c =
    let law : BinaryLaw = search arith in
    subst (λ (b : BareCircuit). IsJudged c.args.first (listed b).file) (sym c.in-Ok.ensures.end.1)
    (read_judged law c.args.first c.args.lines c.requires.lawful c.in-Ok.ensures.end.0)

pub returns-in-Ok : goal.returns-in-Ok
returns-in-Ok c = search (arith, ok_ends)

pub returns-in-Err : goal.returns-in-Err
returns-in-Err c = search (arith, stop_ends)
