use Rattle.std.proofs.Common.{◌≡◌, ◌++◌, length, Ok, ◌∙◌, ap, subst, arith}
use Rattle.aig_binary.specs.MoreGates.{AreMoreGates}
use Rattle.aig_binary.proofs.CutGates.{all_taken, stop_taken}
use Rattle.aig_binary.proofs.more_gates.take_gate_bytes.Goals as goal

pub returns-in-Ok-true-clause-taken : goal.returns-in-Ok-true-clause-taken
returns-in-Ok-true-clause-taken c =
    let pending = c.args.pending.now.items in
    let bytes = c.args.bytes.now in
    let parts : c.new-deltas.result ≡ pending ++ bytes =
    c.new-deltas.ensures ∙ c.deref.ensures.value ∙ c.in_ok-extend.ensures in
    all_taken c.args.header c.args.circuit.now c.take_whole_gates.new.circuit pending bytes c.new-deltas.result
    c.take_whole_gates.new.deltas parts
    (subst (λ b. AreMoreGates c.args.header c.args.circuit.now c.new-deltas.result (Ok b)
    c.take_whole_gates.new.circuit c.take_whole_gates.new.deltas) c.in-Ok-true.field-0-test c.in-Ok-true.ensures.gates)
    c.in-Ok-true.ensures.behind c.requires.waiting
    (length c.rest.result.now) (ap length c.rest.ensures) c.extend.new.pending.items

pub returns-in-Err-clause-taken : goal.returns-in-Err-clause-taken
returns-in-Err-clause-taken c = search (arith, stop_taken)
