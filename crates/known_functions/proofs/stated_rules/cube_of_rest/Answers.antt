use Rattle.std.proofs.Common.{None, Some, sym, ◌∙◌, ap}
use Rattle.std.proofs.lemmas.List.{append-nil}
use Rattle.known_functions.proofs.StatedRules.{rest_more}
use Rattle.known_functions.proofs.stated_rules.cube_of_rest.Goals.{in-Some+in_ok-push, in_default}
use Rattle.known_functions.proofs.stated_rules.cube_of_rest.Goals as goal

pub loop-l-preserved : goal.loop-l-preserved
loop-l-preserved c =
    let l = c.l-item.result in
    elim c.match-literal_of_rest.branch [
      | in-Some+in_ok-push w ↦
          rest_more c.args.y c.args.clause.now c.loop-l.l-index l
          (Some w.in-Some.literal) c.loop-l.lits.items c.match-literal_of_rest.lits.items c.loop-l-test.true
          (sym c.l-item.is)
          (sym w.in-Some.is ∙ c.literal_of_rest.ensures) c.loop-l.invariant
          (ap (λ v. v.items) w.lits-is ∙ w.in_ok-push.ensures.items)
      | in_default w ↦
          rest_more c.args.y c.args.clause.now c.loop-l.l-index l None c.loop-l.lits.items
          c.match-literal_of_rest.lits.items c.loop-l-test.true (sym c.l-item.is)
          (sym w.in_default.is ∙ c.literal_of_rest.ensures) c.loop-l.invariant
          (ap (λ v. v.items) w.lits-is ∙ sym (append-nil c.loop-l.lits.items))
    ]
