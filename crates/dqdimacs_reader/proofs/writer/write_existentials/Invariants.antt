use Rattle.std.proofs.Common.{◌≡◌, ◌++◌, drop}
use Rattle.std.specs.List.{flat_map}
use Rattle.dqdimacs_reader.specs.Canonical.{existential_text}
use Rattle.dqdimacs_reader.proofs.writer.write_existentials.Given as goal

abbrev pub invariant-loop-i : goal.invariant-loop-i
invariant-loop-i l =
    l.text.items ++ flat_map (existential_text l.f.universals) (drop l.i l.f.existentials)
    ≡ l.fn.text.items ++ flat_map (existential_text l.f.universals) l.f.existentials
