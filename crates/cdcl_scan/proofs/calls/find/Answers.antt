use Rattle.std.proofs.Common.{subst, sym, List}
use Rattle.dq_lits.specs.Literal.{Literal}
use Rattle.oracle.specs.Calls.{IsRefutedUnder}
use Rattle.learning_trail.specs.Searching.{AreAssumptions}
use Rattle.learning_trail.proofs.FoundModels.{assumptions_from}
use Rattle.cdcl_scan.proofs.calls.find.Goals as goal

pub search_and_keep-found-requires-clause-assumptions : goal.search_and_keep-found-requires-clause-assumptions
search_and_keep-found-requires-clause-assumptions c =
    subst (AreAssumptions c.args.log.now) (sym c.new-assumptions.ensures)
    (assumptions_from c.args.log.now c.args.active.now c.args.assume.now c.requires.made c.requires.plain
    c.requires.apart)

pub returns-clause-unsat : goal.returns-clause-unsat
returns-clause-unsat c = λ id is.
    subst (λ (xs : List Literal). IsRefutedUnder c.args.log.now c.search_and_keep-found.new.log xs id)
    c.new-assumptions.ensures
    (c.search_and_keep-found.ensures.unsat id is)
