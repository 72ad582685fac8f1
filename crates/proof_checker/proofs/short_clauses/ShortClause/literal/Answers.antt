use Rattle.std.proofs.Common.{arith}
use Rattle.proof_checker.proofs.ShortenedClauses.{count_below}
use Rattle.proof_checker.proofs.short_clauses.ShortClause.literal.Goals as goal

pub offset_bounds-self-inside-i : goal.offset_bounds-self-inside-i
offset_bounds-self-inside-i c =
    let below = count_below c.self.inside.count c.self.inside.literals c.args.self.now c.args.i c.self.view_is
    c.requires in
    omega (arith, below, c.self.invariant.0)
