use Rattle.std.proofs.Common.{length, sym, ◌∙◌, ap, arith}
use Rattle.std.proofs.lemmas.List.{length-take-le}
use Rattle.proof_checker.proofs.short_clauses.ShortClause.len.Goals as goal

pub returns : goal.returns
returns c =
    sym (length-take-le c.self.inside.count c.self.inside.literals
    (omega (arith, c.self.invariant.0, c.self.invariant.1))) ∙ ap length c.self.view_is
