use Rattle.std.proofs.Common.{◌≡◌, inr, ◌∙◌, ap, true, false, IfSome, subst, Option}
use Rattle.dq_lits.specs.Literal.{Literal, opposite, same_literal}
use Rattle.dq_lits.specs.Derivation.{holds}
use Rattle.cdcl_core.proofs.AddedClauses.{listed_one}
use Rattle.cdcl_core.proofs.learning.hold.Goals as goal

pub push_watched-requires-clause-first_list : goal.push_watched-requires-clause-first_list
push_watched-requires-clause-first_list c =
    listed_one c.args.clauses.now c.args.notes.now.literals c.of.result c.requires.lists
    (inr (ap (holds c.args.notes.now.literals) (c.of.ensures ∙ c.not.ensures) ∙ c.requires.first))

pub push_watched-requires-clause-second_list : goal.push_watched-requires-clause-second_list
push_watched-requires-clause-second_list c =
    listed_one c.args.clauses.now c.args.notes.now.literals c.of-in-Some.result c.requires.lists
    (inr (ap (holds c.args.notes.now.literals) (c.of-in-Some.ensures ∙ c.not-in-Some.ensures)
    ∙ (subst (λ (o : Option Literal). IfSome o (λ l. (holds c.args.notes.now.literals (opposite l) ≡ true) ×
    (same_literal (opposite c.args.first.now.literal) (opposite l) ≡ false))) c.in-Some.is c.requires.second).0))
