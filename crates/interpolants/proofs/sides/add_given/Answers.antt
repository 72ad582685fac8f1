use Rattle.std.proofs.Common.{◌≡◌, ◌+◌, true≢false, take, get_or, sym, ◌∙◌, ap, subst, arith}
use Rattle.interpolants.specs.Interpolant.{is_on_a, IsReachedGiven}
use Rattle.interpolants.specs.Sides.{AreOfSome}
use Rattle.interpolants.specs.Splits.{divided}
use Rattle.interpolants.proofs.Sided.{contains_place, some_more, some_past, some_all, on_a_by_selectors, given_is}
use Rattle.interpolants.proofs.sides.add_given.Goals as goal
use Rattle.interpolants.proofs.sides.add_given.Goals.{then-is_some+then-is_on_side+in_ok-add_variables, then-is_some+else-is_on_side, else-is_some}
use Rattle.list_laws.proofs.Options.{some_same}

pub origin-requires : goal.origin-requires
origin-requires c =
    let ids = c.args.answer.now.ids.now in
    c.reached_are_ids.ensures c.args.answer.now.log.now.entries c.args.answer.now.id
    (get_or ids c.loop-at.at-index 0) c.every_log_is_lawful.ensures c.requires.id
    (c.requires.ids.sound (get_or ids c.loop-at.at-index 0) (contains_place ids c.loop-at.at-index c.loop-at-test.true))

pub clause-clause-requires : goal.clause-clause-requires
clause-clause-requires c =
    let ids = c.args.answer.now.ids.now in
    c.reached_are_ids.ensures c.args.answer.now.log.now.entries c.args.answer.now.id
    (get_or ids c.loop-at.at-index 0) c.every_log_is_lawful.ensures c.requires.id
    (c.requires.ids.sound (get_or ids c.loop-at.at-index 0) (contains_place ids c.loop-at.at-index c.loop-at-test.true))

pub loop-at-preserved : goal.loop-at-preserved
loop-at-preserved c = λ assumed shared selectors first.
    let q = divided c.args.answer.now assumed shared in
    let ids = c.args.answer.now.ids.now in
    let i = c.loop-at.at-index in
    let at = get_or ids i 0 in
    let before = c.loop-at.invariant assumed shared selectors first in
    let reached = c.requires.ids.sound at (contains_place ids i c.loop-at-test.true) in
    elim c.if-is_some.branch [
      | then-is_some+then-is_on_side+in_ok-add_variables w ↦
          let given : IsReachedGiven q at w.clause-clause.result.now = search arith in
          subst (AreOfSome q (take (i + 1) ids)) (sym w.variables-is)
          (some_more q ids i c.loop-at.variables w.add_variables.new.set w.clause-clause.result.now before
          c.loop-at-test.true given (sym (on_a_by_selectors q c.args.selectors.now selectors
          w.clause-clause.result.now) ∙ sym w.is_on_side.ensures ∙ w.if-is_on_side.true)
          w.in_ok-add_variables.ensures)
      | then-is_some+else-is_on_side w ↦
          subst (AreOfSome q (take (i + 1) ids)) (sym w.variables-is)
          (some_past q ids i c.loop-at.variables before c.loop-at-test.true (λ clause given on_a.
          let same : clause ≡ w.clause-clause.result.now = some_same clause w.clause-clause.result.now
          (sym given.clause_is ∙ w.clause-clause.ensures) in
          true≢false (sym on_a ∙ ap (is_on_a q) same ∙ sym (on_a_by_selectors q c.args.selectors.now selectors
          w.clause-clause.result.now) ∙ sym w.is_on_side.ensures ∙ w.if-is_on_side.false)))
      | else-is_some w ↦ search (arith, some_past, given_is)
    ]

pub returns : goal.returns
returns c = λ assumed shared selectors first.
    some_all (divided c.args.answer.now assumed shared) c.args.answer.now.ids.now c.loop-at.at-index c.loop-at.variables
    c.requires.ids c.loop-at-test.false
    (c.loop-at.invariant assumed shared selectors first)

pub loop-at-init : goal.loop-at-init
loop-at-init c = search arith
