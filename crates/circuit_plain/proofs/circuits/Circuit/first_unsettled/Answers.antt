use Rattle.std.proofs.Common.{◌≡◌, ◌<◌, ℕ, length, sym, ap, ◌∙◌, subst, arith, below_more}
use Rattle.number_tables.specs.Numbers.{has_number}
use Rattle.circuit_plain.specs.Ground.{IsFirstUngrounded}
use Rattle.circuit_plain.specs.Netlist.{Netlist, gate_at}
use Rattle.circuit_plain.specs.Order.{IsSettled}
use Rattle.circuit_plain.proofs.SortSteps.{not_put, is_put, whole_order, first_outside}
use Rattle.circuit_plain.proofs.circuits.Circuit.first_unsettled.Goals as goal

pub returns-then-not-contains-clause-some : goal.returns-then-not-contains-clause-some
returns-then-not-contains-clause-some c place e =
    let net = c.args.self.now in
    let here : c.loop-place.place ≡ place = cc in
    let items : c.deref-gate-items.result.now ≡ net.gates =
    c.deref-gate-items.ensures.value ∙ ap (λ (n : Netlist). n.gates) c.self.view_is in
    let n_in : c.loop-place.place < length net.gates = rw items at c.loop-place-test.true in
    subst (IsFirstUngrounded net) here
    (first_outside net c.args.draft.now.places.items c.loop-place.place c.requires.draft.partial c.requires.closed n_in
    c.loop-place.invariant
    (not_put net _ c.args.draft.now.places.items (has_number c.args.draft.now.settled) c.loop-place.place _ items
    c.loop-place-test.true
    c.requires.draft (sym c.contains.ensures ∙ c.if-not-contains.true)))

pub loop-place-preserved : goal.loop-place-preserved
loop-place-preserved c =
    let net = c.args.self.now in
    let items : c.deref-gate-items.result.now ≡ net.gates =
    c.deref-gate-items.ensures.value ∙ ap (λ (n : Netlist). n.gates) c.self.view_is in
    below_more (λ (p : ℕ). IsSettled net c.args.draft.now.places.items (gate_at net p).variable) c.loop-place.place
    c.loop-place.invariant
    (is_put net _ c.args.draft.now.places.items (has_number c.args.draft.now.settled) c.loop-place.place _ items
    c.loop-place-test.true
    c.requires.draft (sym c.contains.ensures ∙ c.if-not-contains.false))

pub returns-clause-none : goal.returns-clause-none
returns-clause-none c e =
    let net = c.args.self.now in
    let items : c.deref-gate-items.result.now ≡ net.gates =
    c.deref-gate-items.ensures.value ∙ ap (λ (n : Netlist). n.gates) c.self.view_is in
    whole_order net c.args.draft.now.places.items (rw c.self.view_is at c.self.invariant) c.requires.draft.partial
    (λ p p_in. c.loop-place.invariant p (omega (arith, ap length items)))
