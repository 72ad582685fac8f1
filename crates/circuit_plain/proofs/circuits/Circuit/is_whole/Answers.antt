use Rattle.std.proofs.Common.{ℕ, length, sym, ap, ◌∙◌, subst, arith, below_more}
use Rattle.circuit_plain.specs.Netlist.{Netlist, gate_at, variable_of_gate}
use Rattle.circuit_plain.specs.Order.{IsSettled}
use Rattle.circuit_plain.proofs.EvaluationLaws.{gate_read}
use Rattle.circuit_plain.proofs.SortSteps.{whole_order}
use Rattle.circuit_plain.proofs.circuits.Circuit.is_whole.Goals as goal

pub loop-place-preserved : goal.loop-place-preserved
loop-place-preserved c =
    let net = c.args.self.now in
    let place = c.loop-place.place in
    let same = ap (λ (n : Netlist). n.gates) (sym c.self.view_is) in
    let here = gate_read net _ c.index.result.now place same (omega (arith, ap length same)) c.index.ensures in
    below_more (λ (p : ℕ). IsSettled net c.args.draft.now.places.items (gate_at net p).variable) place
    c.loop-place.invariant
    (subst (IsSettled net c.args.draft.now.places.items) (ap variable_of_gate here)
    ((c.requires.exact _).0 (sym c.contains.ensures ∙ c.if-not-contains.false)))

pub returns : goal.returns
returns c on =
    let same = ap (λ (n : Netlist). length n.gates) c.self.view_is in
    whole_order c.args.self.now c.args.draft.now.places.items (rw c.self.view_is at c.self.invariant)
    c.requires.partial (λ p p_in. c.loop-place.invariant p (omega (arith, same)))
