use Rattle.std.proofs.Common.{◌≡◌, ◌+◌, ◌-◌}
use Rattle.cert_text.specs.DefinitionLine.{definition_gates}
use Rattle.cert_text.specs.Lines.{put_behind, read_from}
use Rattle.cert_text.proofs.definition_reader.take_gates.Given as goal

-- what is to be read from here, behind what was read, is what is to be read in all
abbrev pub invariant-loop-k : goal.invariant-loop-k
invariant-loop-k l =
    put_behind l.fn.gates.items (read_from (definition_gates l.f) (l.f.variables + 1) l.count l.fn.lines)
    ≡ put_behind l.gates.items (read_from (definition_gates l.f) (l.f.variables + 1 + l.k) (l.count - l.k) l.lines)
