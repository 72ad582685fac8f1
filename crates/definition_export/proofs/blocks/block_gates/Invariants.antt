use Rattle.std.proofs.Common.{◌≡◌, map, take}
use Rattle.hint_log.specs.Entries.{name_of}
use Rattle.definition_export.specs.ExportedDefinition.{definition_renaming, term_gate}
use Rattle.definition_export.proofs.blocks.block_gates.Given as goal

abbrev pub invariant-loop-v : goal.invariant-loop-v
invariant-loop-v l = l.gates.items ≡ map (λ v. term_gate
    (definition_renaming l.numbers.f.now l.numbers.log.now.entries l.numbers.gates.now) v
    (name_of l.numbers.log.now.entries v)) (take l.v-index l.numbers.gates.now)
