use Rattle.std.proofs.Common.{◌≡◌, ◌++◌, drop}
use Rattle.std.specs.List.{flat_map}
use Rattle.dqdimacs_reader.specs.Canonical.{clause_text}
use Rattle.dqdimacs_reader.proofs.writer.write_clauses.Given as goal

abbrev pub invariant-loop-j : goal.invariant-loop-j
invariant-loop-j l =
    l.text.items ++ flat_map clause_text (drop l.j l.f.matrix)
    ≡ l.fn.text.items ++ flat_map clause_text l.f.matrix
