use Rattle.std.proofs.Common.{length, refl}
use Rattle.std.proofs.lemmas.Option.{slice_get_read, slice_get_within}
use Rattle.lifted_proofs.proofs.goals.Plan.goal.Goals as goal

pub returns : goal.returns
returns c =
    let p = c.args.self.now in
    let g = c.index.result.now in
    let at = slice_get_read p.goals.items (length p.goals.items) c.args.q g refl c.requires.within c.index.ensures in
    let it = c.requires.plan.plan.goals c.args.q g at in
    record { at = at; goal = it; row = slice_get_within p.rows g.row it.row it.row_at }
