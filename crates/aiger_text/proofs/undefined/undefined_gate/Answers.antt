use Rattle.std.proofs.Common.{not, sym, arith}
use Rattle.aiger_text.specs.Scan.{reads_defined}
use Rattle.aiger_text.proofs.Cuts.{position-Some, position-None}
use Rattle.aiger_text.proofs.undefined.undefined_gate.Goals as goal

pub returns-then-names_undefined : goal.returns-then-names_undefined
returns-then-names_undefined c = search (arith, position-Some)

pub returns : goal.returns
returns c =
    let net = c.args.reader.now.circuit in
    sym (position-None (λ g. not (reads_defined net g)) net.gates (record { variable = 0; left = 0; right = 0 })
    (λ k below. c.loop-i.invariant k (omega arith)))
