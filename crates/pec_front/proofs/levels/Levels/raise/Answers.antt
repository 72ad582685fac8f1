use Rattle.std.proofs.Common.{◌≡◌, ℕ, ◌*◌, ◌/◌, ap, ◌∙◌, arith}
use Rattle.circuit_plain.specs.Netlist.{gate_at}
use Rattle.number_tables.specs.Numbers.{has_number}
use Rattle.pec_front.specs.BoxLine.{variables_of}
use Rattle.pec_front.proofs.RaisedLevels.{gate-known}
use Rattle.pec_front.proofs.levels.Levels.raise.Goals as goal

pub set_level-requires-clause-known : goal.set_level-requires-clause-known
set_level-requires-clause-known c =
    let net = c.args.circuit.now in
    let lhs : c.gate-lhs.result.0 ≡ 2 * (gate_at net c.args.place).variable =
    ap (λ (t : ℕ × ℕ × ℕ). t.0) c.gate-lhs.ensures in
    let half : c.gate-lhs.result.0 / 2 ≡ (gate_at net c.args.place).variable = omega (arith, lhs) in
    ap (λ vs. has_number vs (c.gate-lhs.result.0 / 2)) c.requires.variables
    ∙ ap (has_number (variables_of net)) half ∙ gate-known net c.args.place c.requires.in_range

pub returns-clause-raised : goal.returns-clause-raised
returns-clause-raised c v = search arith
