use Rattle.std.proofs.Common.{List, Bool, take}
use Rattle.std.specs.List.{filter_map}
use Rattle.hint_log.specs.Entries.{Entry}
use Rattle.hint_log.specs.Naming.{AreNamedAs, on_arbiter}
use Rattle.expansion.specs.Table.{AreArbiters}
use Rattle.expansion.proofs.instances.on_arbiters.Given as goal

abbrev pub invariant-loop-l : goal.invariant-loop-l
invariant-loop-l l =
    (own : List Entry) (rows : List (List Bool)) (row : List Bool) → AreArbiters l.f own rows row l.variables
    → AreNamedAs own l.literals.items (filter_map (on_arbiter l.f rows row) (take l.l-index l.clause))
