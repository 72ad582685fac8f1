use Rattle.list_laws.proofs.Quantified.{right-distinct}
use Rattle.std.proofs.Common.{map}
use Rattle.dq_lits.specs.Formula.{Existential}
use Rattle.headline_laws.proofs.Definitions.{held_definitions}
use Rattle.headline_laws.proofs.laws.definitions_are_on_the_page.Goals as goal

pub returns : goal.returns
returns c formula certificate read f counts page formed right =
    held_definitions formula read f page
    (right-distinct read.universals (map (λ (w : Existential). w.variable) read.existentials) formed.prefix.declared_once)
    certificate counts right
