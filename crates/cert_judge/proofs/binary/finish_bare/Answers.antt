use Rattle.std.proofs.Common.{rules, ◌≡◌, None, length}
use Rattle.cert_judge.proofs.BinaryAnswers.{wrong_count}
use Rattle.cert_judge.proofs.binary.finish_bare.Goals as goal

pub returns-then-bare-universals : goal.returns-then-bare-universals
returns-then-bare-universals c =
    let differ : ¬ (c.args.bare.inputs ≡ length c.args.f.now.universals) = search rules in
    wrong_count c.args.f.now c.args.first c.args.bare differ None c.other_count.result c.other_count.ensures
