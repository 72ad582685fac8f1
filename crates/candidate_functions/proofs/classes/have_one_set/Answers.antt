use Rattle.std.proofs.Common.{sym, ◌∙◌}
use Rattle.dq_lits.specs.Formula.{existential_of}
use Rattle.candidate_functions.proofs.DependencyClasses.{same_sets}
use Rattle.candidate_functions.proofs.classes.have_one_set.Goals as goal

pub returns : goal.returns
returns c = λ is.
    let f = c.args.f.now in
    same_sets (existential_of f c.args.v) (existential_of f c.args.w) c.have_one_set.result
    (sym c.is_existential.ensures ∙ c.if-not-is_existential.false) c.requires c.have_one_set.ensures is
