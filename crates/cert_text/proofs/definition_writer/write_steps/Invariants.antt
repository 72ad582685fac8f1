use Rattle.std.proofs.Common.{◌≡◌, ◌++◌, drop}
use Rattle.std.specs.List.{flat_map}
use Rattle.cert_text.specs.Canonical.{step_text}
use Rattle.cert_text.proofs.definition_writer.write_steps.Given as goal

abbrev pub invariant-loop-k : goal.invariant-loop-k
invariant-loop-k l = l.text.items ++ flat_map step_text (drop l.k l.steps)
    ≡ l.fn.text.items ++ flat_map step_text l.steps
