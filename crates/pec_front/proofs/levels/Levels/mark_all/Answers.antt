use Rattle.std.proofs.Common.{ℕ, List, get_or, sym, ◌∙◌, ap, subst, arith}
use Rattle.std.specs.List.{All, Contains}
use Rattle.circuit_plain.specs.Netlist.{literal_variable}
use Rattle.number_tables.specs.Numbers.{has_number}
use Rattle.pec_front.specs.Boxes.{BlackBox}
use Rattle.pec_front.proofs.RaisedLevels.{no-level, boxes-none, boxes-more, input-known}
use Rattle.pec_front.proofs.levels.Levels.mark_all.Goals as goal

pub loop-i-init : goal.loop-i-init
loop-i-init c = search (arith, boxes-none, no-level)

pub mark-requires-clause-known : goal.mark-requires-clause-known
mark-requires-clause-known c k d below =
    let net = c.args.circuit.now in
    let box = c.index-boxes-i.result in
    let v = literal_variable (get_or c.outs.result.now k d) in
    let each : All (λ out. Contains net.inputs (literal_variable out)) c.outs.result.now =
    subst (λ (os : List ℕ). All (λ out. Contains net.inputs (literal_variable out)) os)
    (ap (λ (b : BlackBox). b.outs) (sym c.index-boxes-i.is) ∙ sym c.outs.ensures)
    (c.requires.drive c.loop-i.i box c.loop-i-test.true) in
    ap (λ vs. has_number vs v) (c.loop-i.invariant.same ∙ c.requires.variables) ∙ input-known net v (each k d below)

pub loop-i-preserved : goal.loop-i-preserved
loop-i-preserved c = search (arith, boxes-more)
