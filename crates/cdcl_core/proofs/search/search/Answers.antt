use Rattle.std.proofs.Common.{subst, Option, MatchOption, arith}
use Rattle.oracle.specs.declared.oracles.Answer.{Answer}
use Rattle.cdcl_core.specs.Searching.{IsTurn, IsAnswered, searched}
use Rattle.learning_trail.proofs.SearchTurns.{assumptions_same, learned_both, found_later}
use Rattle.list_laws.proofs.Results.{on_err}
use Rattle.cdcl_core.proofs.search.search.Goals as goal

pub turn-requires-clause-assumptions : goal.turn-requires-clause-assumptions
turn-requires-clause-assumptions c = search (arith, assumptions_same)

pub returns-in_err-turn-clause-stop : goal.returns-in_err-turn-clause-stop
returns-in_err-turn-clause-stop c =
    on_err c.from_residual.result (learned_both c.args.log.now c.turns.log c.turn.new.log c.turns.invariant.running.learned
    c.in_err-turn.ensures.stop)

pub turns-preserved : goal.turns-preserved
turns-preserved c = search (arith, learned_both)

pub returns-in-Some-clause-ok : goal.returns-in-Some-clause-ok
returns-in-Some-clause-ok c =
    let asm = c.args.assumptions.now in
    let found : IsAnswered asm c.turn.new.s c.turns.log c.turn.new.log c.in-Some.found =
    subst (λ (o : Option Answer). MatchOption o (IsTurn asm c.turns.s c.turn.new.s c.turns.log c.turn.new.log)
    (λ f. IsAnswered asm c.turn.new.s c.turns.log c.turn.new.log f)) c.in-Some.is c.in_ok-turn.ensures.ok in
    found_later asm (searched c.turn.new.s) c.args.log.now c.turns.log c.turn.new.log c.in-Some.found
    c.turns.invariant.running.learned found
