-- What the exported circuit is made from.
use Rattle.std.specs.Prelude.{List, IsSome}
use Rattle.dq_lits.specs.Formula.{Dqbf}
use Rattle.dq_lits.specs.Literal.{variable_of}
use Rattle.hint_log.specs.Conditions.{AreLogged}
use Rattle.hint_log.specs.Entries.{Entry, name_of}
use Rattle.hint_log.specs.declared.origins.Leaf.{Leaf}
use Rattle.hint_log.specs.declared.origins.Leaf.TheVariants.{Constant, Literal as LeafLiteral}
use Rattle.circuit_plain.specs.Netlist.{IsNetlist}
use Rattle.cert_export.specs.CircuitPart.{IsCircuitPart, exported_netlist}
use Rattle.cert_export.specs.Parts.{part_of, IsSmall}
use Rattle.cert_export.specs.declared.parts.ExportedPart.{ExportedPart}

abbrev pub IsLeafNamed : List Entry → Leaf → Type 0
IsLeafNamed entries (Constant b) = Unit {0}
IsLeafNamed entries (LeafLiteral l) = IsSome (name_of entries (variable_of l))

-- gates and leaves of a log, few enough to be numbered
pub record IsExportable (f : Dqbf) (entries : List Entry) (p : ExportedPart) : Type 0 where
  pub logged : AreLogged entries
  pub part : IsCircuitPart f entries (part_of p)
  pub netlist : IsNetlist (exported_netlist f entries (part_of p))
  pub small : IsSmall f p.gates
