use Rattle.std.proofs.Common.{◌≡◌, take}
use Rattle.cert_export.specs.ExportedCircuit.{number_names}
use Rattle.cert_export.proofs.symbols.name_inputs.Given as goal

abbrev pub invariant-loop-place : goal.invariant-loop-place
invariant-loop-place l = l.symbols ≡ record l.fn.symbols { inputs = number_names 0 (take l.place l.variables) }
