use Rattle.std.proofs.Common.{◌≡◌, ◌++◌, length}
use Rattle.std.specs.List.{flat_map}
use Rattle.cert_text.specs.Canonical.{literal_text}
use Rattle.cert_text.proofs.writer.write_literals.Given as goal

abbrev pub invariant-loop-first : goal.invariant-loop-first
invariant-loop-first l = l.text.items ++ flat_map literal_text l.rest
    ≡ l.fn.text.items ++ flat_map literal_text l.literals

abbrev pub decreases-loop-first : goal.decreases-loop-first
decreases-loop-first l = length l.rest
