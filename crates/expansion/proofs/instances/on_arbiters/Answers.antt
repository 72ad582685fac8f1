use Rattle.std.proofs.Common.{◌≡◌, ◌++◌, ◌∷◌, [], ◌+◌, ◌==◌, List, map, take, get_or, position, refl, sym, ◌∙◌, ap, subst, arith}
use Rattle.std.specs.List.{filter_map}
use Rattle.dq_lits.specs.Literal.{Literal, variable_of, is_negative}
use Rattle.hint_log.specs.Naming.{AreNamedAs, on_arbiter}
use Rattle.log_laws.proofs.Found.{variable}
use Rattle.expansion.specs.Adding.{signed}
use Rattle.expansion.proofs.InstanceLiterals.{literal_more, literal_passed, all_literals}
use Rattle.expansion.proofs.instances.on_arbiters.Goals.{in-Some+in_ok-push, in_default}
use Rattle.expansion.proofs.instances.on_arbiters.Goals as goal

pub loop-l-init : goal.loop-l-init
loop-l-init c own rows row are = ap (map _) c.new-literals.ensures.items

pub loop-l-preserved : goal.loop-l-preserved
loop-l-preserved c own rows row are =
    let l = c.l-item.result in
    let clause = c.args.clause.now in
    let i = c.loop-l.l-index in
    let so_far = c.loop-l.invariant own rows row are in
    let place_is : position (λ x. x == variable_of l) (map variable c.args.f.now.existentials)
    ≡ c.existential_place.result =
    ap (λ v. position (λ x. x == v) (map variable c.args.f.now.existentials)) (sym c.var.ensures.value)
    ∙ sym c.existential_place.ensures in
    let now : List Literal → Type 0 = λ ls. AreNamedAs own ls
    (filter_map (on_arbiter c.args.f.now rows row) (take (i + 1) clause)) in
    elim c.match-existential_place.branch [
      | in-Some+in_ok-push w ↦
          (let more = literal_more c.args.f.now own rows row clause i l c.loop-l.literals.items c.loop-l-test.true
          c.l-item.is so_far (get_or c.args.variables.now w.in-Some.place 0) w.in-Some.place
          c.args.variables.now are (place_is ∙ w.in-Some.is) refl in
          let items : c.match-existential_place.literals.items ≡ c.loop-l.literals.items ++ signed (is_negative l)
          (get_or c.args.variables.now w.in-Some.place 0) ∷ [] =
          ap (λ v. v.items) w.literals-is ∙ w.in_ok-push.ensures.items ∙ ap (λ k. c.loop-l.literals.items ++ k ∷ [])
          (w.with_sign.ensures ∙ ap (λ b. signed b (get_or c.args.variables.now w.in-Some.place 0)) w.is_neg.ensures) in
          subst now (sym items) more)
      | in_default w ↦ search (arith, literal_passed)
    ]

pub returns : goal.returns
returns c own rows row are = all_literals c.args.f.now own rows row c.args.clause.now c.loop-l.l-index
    c.loop-l.literals.items c.loop-l-test.false (c.loop-l.invariant own rows row are)
