use Rattle.std.proofs.Common.{ℕ, ◌<◌, length, get_or}
use Rattle.dq_lits.specs.Literal.{Literal, variable_of}
use Rattle.definability.specs.Copies.{IsCopied}
use Rattle.definability.specs.Following.{HasMore}
use Rattle.definability.proofs.definability.Definability.copy_variables.Given as goal

abbrev pub invariant-loop-l : goal.invariant-loop-l
invariant-loop-l g l = (g.O.Oracle.Fits l.oracle l.log) × HasMore l.f l.fn.self l.fn.log l.self l.log
    × ((k : ℕ) (d : Literal) → k < l.l-index → k < length l.clause →
    IsCopied l.f l.self.copied.items (variable_of (get_or l.clause k d)))
