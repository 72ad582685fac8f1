use Rattle.std.proofs.Common.{sym, subst, Contains, arith}
use Rattle.std.specs.List.{All}
use Rattle.dq_lits.specs.Formula.{declared}
use Rattle.dq_lits.specs.Literal.{variable_of}
use Rattle.known_functions.proofs.Asked.{asked_by}
use Rattle.known_functions.proofs.definitions.Definitions.is_fixed.Goals as goal

pub guess-requires-clause-declared : goal.guess-requires-clause-declared
guess-requires-clause-declared g c =
    subst (All (λ l. Contains (declared c.args.f.now) (variable_of l)))
    (sym c.deref.ensures.value) c.in_ok-conditions.ensures.declared

pub returns-clause-asked : goal.returns-clause-asked
returns-clause-asked g c = search (arith, asked_by)

pub returns-clause-left : goal.returns-clause-left
returns-clause-left g c = search arith

pub returns-in_err-found-clause-asked : goal.returns-in_err-found-clause-asked
returns-in_err-found-clause-asked g c = search (arith, asked_by)

pub returns-in_err-found-clause-left : goal.returns-in_err-found-clause-left
returns-in_err-found-clause-left g c = search arith
