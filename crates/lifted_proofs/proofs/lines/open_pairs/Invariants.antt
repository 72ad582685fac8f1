use Rattle.std.proofs.Common.{◌≡◌, map, take}
use Rattle.std.specs.List.{filter}
use Rattle.dq_prep.specs.Roles.{is_open}
use Rattle.lifted_proofs.specs.UnitTables.{first_literals}
use Rattle.lifted_proofs.specs.Goals.{clause_at}
use Rattle.lifted_proofs.specs.Lines.{numbered_literal}
use Rattle.lifted_proofs.proofs.lines.open_pairs.Given as goal

abbrev pub invariant-loop-l : goal.invariant-loop-l
invariant-loop-l l =
    l.literals.items
    ≡ map (numbered_literal l.table.formula.now l.goal.row)
    (filter (is_open l.table.formula.now (first_literals l.table.units.now l.goal.source.taken))
    (take l.l-index (clause_at l.table.formula.now l.goal.source.place)))
