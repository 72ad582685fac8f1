use Rattle.std.proofs.Common.{inr, sym, subst, arith}
use Rattle.aig_binary.specs.BareReading.{listed}
use Rattle.aig_binary.specs.declared.bare.BareCircuit.{BareCircuit}
use Rattle.cert_judge.specs.Phases.{IsJudged}
use Rattle.cert_judge.proofs.BinaryAnswers.{ok_free, read_judged}
use Rattle.cert_judge.proofs.Soundness.{BinaryLaw}
use Rattle.cert_judge.proofs.binary.binary_free_text.Goals as goal

pub bare_free_text-requires-clause-judged : goal.bare_free_text-requires-clause-judged
bare_free_text-requires-clause-judged c =
    let law : BinaryLaw = search arith in
    subst (λ (b : BareCircuit). IsJudged c.args.first (listed b).file) (sym c.take_file-bare.ensures.parts)
    (read_judged law c.args.first c.args.lines.now c.requires.lawful (inr c.requires.comment))

pub returns-clause-gives : goal.returns-clause-gives
returns-clause-gives c = search (arith, ok_free)
