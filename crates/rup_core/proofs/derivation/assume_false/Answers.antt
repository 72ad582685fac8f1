use Rattle.std.proofs.Common.{not, map, sym, ap, ◌∙◌}
use Rattle.std.proofs.lemmas.List.{take_all}
use Rattle.dq_lits.specs.Literal.{opposite}
use Rattle.dq_lits.specs.Derivation.{holds}
use Rattle.rup_core.proofs.FalseLiterals.{no_tautology, tautology}
use Rattle.rup_core.proofs.derivation.assume_false.Goals as goal

pub returns-in-True-clause-consistent : goal.returns-in-True-clause-consistent
returns-in-True-clause-consistent c =
    sym (ap not (tautology c.loop-l.trail.trues c.args.lits.now c.loop-l.l-index c.l-item.result
    c.loop-l.invariant.assumed c.loop-l-test.true (sym c.l-item.is)
    (sym c.in-True.ensures)))

pub returns-clause-consistent : goal.returns-clause-consistent
returns-clause-consistent c =
    sym (ap not (no_tautology c.loop-l.trail.trues c.args.lits.now c.loop-l.invariant.consistent
    (λ l. c.loop-l.invariant.assumed l ∙ ap (λ ls. holds (map opposite ls) l)
    (take_all c.loop-l.l-index c.args.lits.now c.loop-l-test.false))))
