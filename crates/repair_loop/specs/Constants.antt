-- Words of private contracts: nodes that are constants.
use Rattle.std.specs.Prelude.{◌≡◌, Bool, Option, Some}
use Rattle.aig_graph.specs.declared.nodes.Node.{Node}
use Rattle.aig_graph.specs.declared.nodes.Node.TheVariants.{Constant}

abbrev pub IsConstant : Option Node → Type 0
IsConstant node = (b : Bool) × (node ≡ Some (Constant b))
