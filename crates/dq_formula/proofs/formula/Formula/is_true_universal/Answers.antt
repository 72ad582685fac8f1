use Rattle.std.proofs.Common.{sym, ◌∙◌, arith}
use Rattle.dq_formula.proofs.TrueUniversals.{true_universal, no_universal}
use Rattle.dq_formula.proofs.formula.Formula.is_true_universal.Goals as goal

pub returns-in-Some : goal.returns-in-Some
returns-in-Some c =
    search (
      arith,
      (true_universal c.args.self.now c.args.row.now c.args.l c.var.result c.in-Some.place c.get.result c.var.ensures.value c.requires (sym c.universal_place.ensures ∙ c.in-Some.is) c.get.ensures),
    )

pub returns-in-None : goal.returns-in-None
returns-in-None c = sym (no_universal c.args.self.now c.args.row.now c.args.l c.var.result c.var.ensures.value
    (sym c.universal_place.ensures ∙ c.in-None.is))
