use Rattle.std.proofs.Common.{length, refl, arith}
use Rattle.std.proofs.lemmas.Option.{slice_get_read}
use Rattle.lifted_proofs.proofs.NamedGoals.{reason-at}
use Rattle.lifted_proofs.proofs.goals.Plan.reason.Goals as goal

pub returns : goal.returns
returns c =
    let p = c.args.self.now in
    let r = c.index.result.now in
    reason-at c.args.table.now p c.args.q c.args.goal r c.requires.plan c.requires.goal
    (slice_get_read p.reasons.items (length p.reasons.items) c.args.q r refl
    (omega (arith, c.requires.within, c.requires.plan.all)) c.index.ensures)
