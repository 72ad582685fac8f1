use Rattle.std.proofs.Common.{rules, ◌≡◌, ◌+◌, ◌*◌, ◌/◌, ◌<◌, length, false, Ok, Err, subst, arith, ◌∙◌}
use Rattle.circuit_plain.specs.Netlist.{IsDefined}
use Rattle.aig_binary.specs.Gates.{read_gate}
use Rattle.aig_binary.specs.MoreGates.{next_variable, waits}
use Rattle.aig_binary.proofs.CutGates.{gate_refused, one_more_gate, still_behind}
use Rattle.aig_binary.proofs.Numbered.{fresh_gate}
use Rattle.aig_binary.proofs.more_gates.take_whole_gates.Goals as goal

pub add_gate-requires-clause-undefined : goal.add_gate-requires-clause-undefined
add_gate-requires-clause-undefined c =
    let net = c.loop-header.circuit in
    let first = c.args.header.inputs + 1 in
    let is = c.in-Ok.ensures.variable in
    let counted = c.gates-in-loop-header.ensures in
    let same : first + length net.gates ≡ 2 * c.in-Ok.gate.variable / 2 = omega (arith, is, counted) in
    subst (λ v. ¬ IsDefined net v) same
    (fresh_gate net first c.loop-header.invariant.so_far.no_inputs c.loop-header.invariant.so_far.numbered)

pub loop-header-preserved : goal.loop-header-preserved
loop-header-preserved c =
    let h = c.args.header in
    let net = c.loop-header.circuit in
    let bytes = c.loop-header.deltas in
    let g = c.in-Ok.gate in
    let rest = c.next_gate.new.deltas in
    let inv = c.loop-header.invariant in
    let counted = c.gates-in-loop-header.ensures in
    let below : length net.gates < h.gates = omega (arith, c.loop-header-test.true, c.gates.ensures) in
    let read : read_gate (next_variable h net) bytes ≡ Ok (g, rest) =
    subst (λ n. read_gate (h.inputs + 1 + n) bytes ≡ Ok (g, rest)) counted c.in-Ok.ensures.read in
    let variable : g.variable ≡ next_variable h net = omega (arith, c.in-Ok.ensures.variable, counted) in
    let more = one_more_gate h net bytes below c.add_gate.new.self g rest inv.so_far read variable
    c.in_ok-add_gate-in-Ok.ensures.ok in
    record {
      so_far = more.so_far;
      goes = λ behind. inv.goes behind ∙ more.goes behind;
      behind = still_behind h c.args.circuit.now net c.add_gate.new.self c.args.deltas.now bytes rest g inv.behind read;
    }

pub returns-then-not-waits-clause-gates : goal.returns-then-not-waits-clause-gates
returns-then-not-waits-clause-gates c behind =
    let h = c.args.header in
    let net = c.loop-header.circuit in
    let bytes = c.loop-header.deltas in
    let name = c.in-Err.name in
    let below : length net.gates < h.gates = omega (arith, c.loop-header-test.true, c.gates.ensures) in
    let read : read_gate (next_variable h net) bytes ≡ Err name =
    subst (λ n. read_gate (h.inputs + 1 + n) bytes ≡ Err name) c.gates-in-loop-header.ensures c.in-Err.ensures.read in
    let final : waits name ≡ false = search rules in
    c.loop-header.invariant.goes behind ∙ gate_refused h net bytes below name behind read final
