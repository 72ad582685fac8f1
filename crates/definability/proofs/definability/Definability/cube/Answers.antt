use Rattle.std.proofs.Common.{None, Some, sym, ◌∙◌, ap}
use Rattle.std.proofs.lemmas.List.{append-nil}
use Rattle.dq_lits.specs.Literal.{variable_of}
use Rattle.hint_log.specs.Entries.{name_of}
use Rattle.definability.specs.Ruling.{cube_literal}
use Rattle.definability.proofs.ShownRules.{cube_more}
use Rattle.definability.proofs.definability.Definability.cube.Goals.{in-Some+in_ok-push, in_default}
use Rattle.definability.proofs.definability.Definability.cube.Goals as goal

pub loop-l-preserved : goal.loop-l-preserved
loop-l-preserved c =
    let es = c.args.log.now.entries in
    let l = c.l-item.result in
    let item = sym c.l-item.is in
    let named = ap (cube_literal c.args.y c.is_neg.result) (sym c.name.ensures ∙ ap (name_of es) c.var.ensures.value) in
    let given = c.literal_of_cube.ensures ∙ named ∙ ap (λ b. cube_literal c.args.y b (name_of es (variable_of l)))
    c.is_neg.ensures in
    elim c.match-literal_of_cube.branch [
      | in-Some+in_ok-push w ↦
          cube_more es c.args.y c.clause-l-items.result.now c.loop-l.l-index l
          (Some w.in-Some.literal) c.loop-l.lits.items c.match-literal_of_cube.lits.items c.loop-l-test.true item
          (sym w.in-Some.is ∙ given) c.loop-l.invariant (ap (λ v. v.items) w.lits-is ∙ w.in_ok-push.ensures.items)
      | in_default w ↦
          cube_more es c.args.y c.clause-l-items.result.now c.loop-l.l-index l None c.loop-l.lits.items
          c.match-literal_of_cube.lits.items c.loop-l-test.true item
          (sym w.in_default.is ∙ given) c.loop-l.invariant (ap (λ v. v.items) w.lits-is ∙ sym
          (append-nil c.loop-l.lits.items))
    ]
