use Rattle.std.proofs.Common.{take, ◌+◌, sym, ◌∙◌, ap, subst, arith}
use Rattle.hint_log.specs.Naming.{is_selector, is_selector_name}
use Rattle.interpolants.specs.Sides.{AreSelectors}
use Rattle.interpolants.proofs.Sets.{selector_more, selector_past}
use Rattle.interpolants.proofs.sides.fill_selectors.Goals as goal
use Rattle.interpolants.proofs.sides.fill_selectors.Goals.{then-is_selector+in_ok-add, else-is_selector}

pub loop-l-preserved : goal.loop-l-preserved
loop-l-preserved c =
    let es = c.args.log.now.entries in
    let xs = c.args.lits.now in
    let i = c.loop-l.l-index in
    let x = c.l-item.result in
    let is = ap (λ v. is_selector es v) (sym c.var.ensures.value) ∙ ap is_selector_name c.name.ensures
    ∙ sym c.is_selector.ensures in
    elim c.if-is_selector.branch [
      | then-is_selector+in_ok-add w ↦
          subst (AreSelectors es (take (i + 1) xs)) (sym w.set-is)
          (selector_more xs i x c.loop-l-test.true (sym c.l-item.is) es c.loop-l.set c.loop-l.invariant w.add.new.self
          (is ∙ w.if-is_selector.true) w.in_ok-add.ensures)
      | else-is_selector w ↦ search (arith, selector_past)
    ]
