use Rattle.std.proofs.Common.{inl, inr, Some, arith}
use Rattle.dq_lits.specs.Derivation.{holds}
use Rattle.dq_lits.proofs.HeldLiterals.{any_one}
use Rattle.learning_trail.specs.Steps.{literals_of}
use Rattle.learning_trail.proofs.LargerTrails.{live_within, literal_within, opening_in}
use Rattle.cdcl_core.proofs.VisitedClauses.{some_clause}
use Rattle.cdcl_core.proofs.decisions.open_in.Goals as goal

pub is_watch_true-requires : goal.is_watch_true-requires
is_watch_true-requires c = λ apart.
    let room = c.args.trail.now.room in
    let some = some_clause c.args.clauses.now.clauses c.args.id c.requires.from_one c.requires.is_id in
    let within = live_within c.args.clauses.now.clauses room c.args.id some.0 some.1 c.requires.in_range in
    let two = (c.watched.ensures some.0 some.1).two apart in (
      literal_within room some.0 c.watched.result.first within two.0,
      literal_within room some.0 c.watched.result.second within two.1,
    )

pub returns-then-is_watch_true : goal.returns-then-is_watch_true
returns-then-is_watch_true c = λ d at.
    let h = c.is_watch_true.ensures c.if-is_watch_true.true in
    let two = (c.watched.ensures d at).two h.0 in
    elim h.1 [
      | inl on ↦ any_one (holds (literals_of c.args.trail.now.steps)) d c.watched.result.first two.0 on
      | inr on ↦ any_one (holds (literals_of c.args.trail.now.steps)) d c.watched.result.second two.1 on
    ]

pub place_in-place-requires : goal.place_in-place-requires
place_in-place-requires c = search (arith, live_within)

pub open_literal_at-requires-clause-in_range : goal.open_literal_at-requires-clause-in_range
open_literal_at-requires-clause-in_range c = search (arith, live_within)

pub returns-in-Some : goal.returns-in-Some
returns-in-Some c =
    opening_in c.args.clauses.now.clauses (literals_of c.args.trail.now.steps) c.lits-lits.result.now c.args.id
    (Some c.in-Some.literal) c.lits-lits.ensures c.in-Some.ensures

pub returns-in-None : goal.returns-in-None
returns-in-None c = search (arith, opening_in)
