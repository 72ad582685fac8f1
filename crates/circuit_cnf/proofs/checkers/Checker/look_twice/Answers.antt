use Rattle.std.proofs.Common.{◌≡◌, false, refl, ◌∙◌, ap, subst, Ok, Some, arith}
use Rattle.circuit_cnf.specs.declared.fault_clauses.ClauseSelection.{ClauseSelection}
use Rattle.circuit_cnf.specs.declared.turns.Turn.TheVariants.{Holds, Fails}
use Rattle.circuit_cnf.specs.Turning.{HasTurned, is_silent_attempt}
use Rattle.circuit_cnf.specs.Saying.{given_after, given_before}
use Rattle.circuit_cnf.proofs.TurnParts.{saying_fewer}
use Rattle.circuit_cnf.proofs.TurnStages.{quiet_turned}
use Rattle.circuit_cnf.proofs.checkers.Checker.look_twice.Goals as goal

pub returns-in_err-turn-clause-turned : goal.returns-in_err-turn-clause-turned
returns-in_err-turn-clause-turned g c start w =
    let f = c.args.faults.now.f.now in
    quiet_turned f c.args.self.now c.args.self.now _ start c.attempt.new.log
    (subst (λ r. HasTurned f c.args.self.now c.args.self.now (is_silent_attempt r) start c.attempt.new.log)
    c.in_err-turn.was (c.attempt.ensures.turned start w))

pub returns-in-Some-clause-turned : goal.returns-in-Some-clause-turned
returns-in-Some-clause-turned g c start w =
    let f = c.args.faults.now.f.now in
    subst (λ r. HasTurned f c.args.self.now c.args.self.now (is_silent_attempt r) start c.attempt.new.log)
    (c.in_ok-turn.was ∙ ap Ok c.in-Some.is) (c.attempt.ensures.turned start w)

pub returns-in-Some-clause-fails : goal.returns-in-Some-clause-fails
returns-in-Some-clause-fails g c row values j e =
    let same : c.in-Some.turn ≡ Fails row values j = cc in
    c.attempt.ensures.fails row values j (c.in_ok-turn.was ∙ ap Ok (c.in-Some.is ∙ ap Some same))

pub attempt-requires-2-clause-saying : goal.attempt-requires-2-clause-saying
attempt-requires-2-clause-saying g c = (
  c.requires.saying.0,
  c.attempt.ensures.saying c.requires.saying.0 c.requires.saying.1 (c.in_ok-turn.was ∙ ap Ok c.in_default.is),
  c.requires.saying.2,
)

pub returns-in_err-turn-2-clause-turned : goal.returns-in_err-turn-2-clause-turned
returns-in_err-turn-2-clause-turned g c start w =
    let f = c.args.faults.now.f.now in
    let more = c.attempt.ensures.saying start w (c.in_ok-turn.was ∙ ap Ok c.in_default.is) in
    quiet_turned f c.args.self.now c.args.self.now _ start c.attempt-2.new.log
    (subst (λ r. HasTurned f c.args.self.now c.args.self.now (is_silent_attempt r) start c.attempt-2.new.log)
    c.in_err-turn-2.was (c.attempt-2.ensures.turned start more))

pub returns-in_err-turn-2-clause-limit : goal.returns-in_err-turn-2-clause-limit
returns-in_err-turn-2-clause-limit g c e start w =
    let more = c.attempt.ensures.saying start w (c.in_ok-turn.was ∙ ap Ok c.in_default.is) in
    c.attempt-2.ensures.limit (search arith) start more

pub returns-in-Some-2-clause-turned : goal.returns-in-Some-2-clause-turned
returns-in-Some-2-clause-turned g c start w =
    let f = c.args.faults.now.f.now in
    let more = c.attempt.ensures.saying start w (c.in_ok-turn.was ∙ ap Ok c.in_default.is) in
    subst (λ r. HasTurned f c.args.self.now c.args.self.now (is_silent_attempt r) start c.attempt-2.new.log)
    (c.in_ok-turn-2.was ∙ ap Ok c.in-Some-2.is) (c.attempt-2.ensures.turned start more)

pub returns-in-Some-2-clause-held : goal.returns-in-Some-2-clause-held
returns-in-Some-2-clause-held g c start id w e =
    let more = c.attempt.ensures.saying start w (c.in_ok-turn.was ∙ ap Ok c.in_default.is) in
    let same : c.in-Some-2.turn ≡ Holds id = cc in
    c.attempt-2.ensures.held start id more (c.in_ok-turn-2.was ∙ ap Ok (c.in-Some-2.is ∙ ap Some same))

pub returns-in-Some-2-clause-fails : goal.returns-in-Some-2-clause-fails
returns-in-Some-2-clause-fails g c row values j e =
    let same : c.in-Some-2.turn ≡ Fails row values j = cc in
    c.attempt-2.ensures.fails row values j (c.in_ok-turn-2.was ∙ ap Ok (c.in-Some-2.is ∙ ap Some same))

pub attempt-requires-3-clause-saying : goal.attempt-requires-3-clause-saying
attempt-requires-3-clause-saying g c =
    let start = c.requires.saying.0 in
    let more = c.attempt.ensures.saying start c.requires.saying.1 (c.in_ok-turn.was ∙ ap Ok c.in_default.is) in
    let others : ClauseSelection = record { marks = c.args.first; are_set = false } in (
      start,
      saying_fewer c.args.self.now c.args.faults.now c.args.bads.now (given_before others) (given_after others) start
          c.attempt-2.new.log (λ j is. refl)
          (c.attempt-2.ensures.saying start more (c.in_ok-turn-2.was ∙ ap Ok c.in_default-2.is)),
      c.requires.saying.2,
    )

pub returns-in_err-turn-3-clause-turned : goal.returns-in_err-turn-3-clause-turned
returns-in_err-turn-3-clause-turned g c start w =
    let f = c.args.faults.now.f.now in
    let others : ClauseSelection = record { marks = c.args.first; are_set = false } in
    let more = c.attempt.ensures.saying start w (c.in_ok-turn.was ∙ ap Ok c.in_default.is) in
    let most = saying_fewer c.args.self.now c.args.faults.now c.args.bads.now (given_before others) (given_after others)
    start c.attempt-2.new.log (λ j is. refl)
    (c.attempt-2.ensures.saying start more (c.in_ok-turn-2.was ∙ ap Ok c.in_default-2.is)) in
    quiet_turned f c.args.self.now c.args.self.now _ start c.attempt-3.new.log
    (subst (λ r. HasTurned f c.args.self.now c.args.self.now (is_silent_attempt r) start c.attempt-3.new.log)
    c.in_err-turn-3.was (c.attempt-3.ensures.turned start most))

pub returns-in_err-turn-3-clause-limit : goal.returns-in_err-turn-3-clause-limit
returns-in_err-turn-3-clause-limit g c e start w =
    let others : ClauseSelection = record { marks = c.args.first; are_set = false } in
    let more = c.attempt.ensures.saying start w (c.in_ok-turn.was ∙ ap Ok c.in_default.is) in
    let most = saying_fewer c.args.self.now c.args.faults.now c.args.bads.now (given_before others) (given_after others)
    start c.attempt-2.new.log (λ j is. refl)
    (c.attempt-2.ensures.saying start more (c.in_ok-turn-2.was ∙ ap Ok c.in_default-2.is)) in
    c.attempt-3.ensures.limit (search arith) start most

pub returns-clause-turned : goal.returns-clause-turned
returns-clause-turned g c start w =
    let f = c.args.faults.now.f.now in
    let others : ClauseSelection = record { marks = c.args.first; are_set = false } in
    let more = c.attempt.ensures.saying start w (c.in_ok-turn.was ∙ ap Ok c.in_default.is) in
    let most = saying_fewer c.args.self.now c.args.faults.now c.args.bads.now (given_before others) (given_after others)
    start c.attempt-2.new.log (λ j is. refl)
    (c.attempt-2.ensures.saying start more (c.in_ok-turn-2.was ∙ ap Ok c.in_default-2.is)) in
    subst (λ r. HasTurned f c.args.self.now c.args.self.now (is_silent_attempt r) start c.attempt-3.new.log)
    (c.in_ok-turn-3.was ∙ ap Ok c.in-Some-3.is) (c.attempt-3.ensures.turned start most)

pub returns-clause-held : goal.returns-clause-held
returns-clause-held g c start id w e =
    let others : ClauseSelection = record { marks = c.args.first; are_set = false } in
    let more = c.attempt.ensures.saying start w (c.in_ok-turn.was ∙ ap Ok c.in_default.is) in
    let most = saying_fewer c.args.self.now c.args.faults.now c.args.bads.now (given_before others) (given_after others)
    start c.attempt-2.new.log (λ j is. refl)
    (c.attempt-2.ensures.saying start more (c.in_ok-turn-2.was ∙ ap Ok c.in_default-2.is)) in
    let same : c.in-Some-3.turn ≡ Holds id = cc in
    c.attempt-3.ensures.held start id most (c.in_ok-turn-3.was ∙ ap Ok (c.in-Some-3.is ∙ ap Some same))

pub returns-clause-fails : goal.returns-clause-fails
returns-clause-fails g c row values j e =
    let same : c.in-Some-3.turn ≡ Fails row values j = cc in
    c.attempt-3.ensures.fails row values j (c.in_ok-turn-3.was ∙ ap Ok (c.in-Some-3.is ∙ ap Some same))
