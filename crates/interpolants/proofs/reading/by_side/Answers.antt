use Rattle.std.proofs.Common.{refl}
use Rattle.std.proofs.lemmas.Result.{IfOk-weaker}
use Rattle.interpolants.proofs.Alike.{shares_kept, interpolant_kept}
use Rattle.interpolants.proofs.reading.by_side.Goals as goal

pub interpolant-requires-clause-shares : goal.interpolant-requires-clause-shares
interpolant-requires-clause-shares c =
    shares_kept c.args.answer.now.log.now.entries c.args.answer.now.id c.args.a_side.now c.fill.new.self.assumed
    c.args.shared.now c.args.shared.now c.in_ok-fill.ensures.same
    (λ v. refl) c.requires.shares

pub interpolant-requires-clause-side : goal.interpolant-requires-clause-side
interpolant-requires-clause-side c = c.in_ok-fill.ensures.side c.args.shared.now

pub returns-clause-interpolant : goal.returns-clause-interpolant
returns-clause-interpolant c =
    IfOk-weaker c.interpolant.result _ _
    (interpolant_kept c.args.answer.now.log.now.entries c.args.answer.now.id c.args.a_side.now c.fill.new.self.assumed
    c.args.shared.now c.args.shared.now c.in_ok-fill.ensures.same
    (λ v. refl) c.interpolant.new.graph) c.interpolant.ensures.interpolant
