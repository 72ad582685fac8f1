use Rattle.dq_lits.specs.Formula.{existential_of}
use Rattle.dq_prep.proofs.SeenUniversals.{sees-by}
use Rattle.dq_prep.proofs.sights.sees.Goals as goal

pub returns : goal.returns
returns c = sees-by c.args.x (existential_of c.args.f.now c.args.y) c.sees.result c.requires c.sees.ensures
