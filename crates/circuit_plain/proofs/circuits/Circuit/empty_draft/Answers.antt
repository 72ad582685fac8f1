use Rattle.std.proofs.Common.{◌≡◌, ℕ, List, length, get_or, ap, ◌∙◌, arith}
use Rattle.circuit_plain.specs.Netlist.{Netlist}
use Rattle.circuit_plain.proofs.SortSteps.{leaves_more, leaves_draft}
use Rattle.circuit_plain.proofs.circuits.Circuit.empty_draft.Goals as goal

pub loop-variable-preserved : goal.loop-variable-preserved
loop-variable-preserved c =
    let items : c.deref-variable-items.result.now ≡ c.args.self.now.inputs =
    c.deref-variable-items.ensures.value ∙ ap (λ (net : Netlist). net.inputs) c.self.view_is in
    leaves_more c.args.self.now _ _ c.loop-variable.variable-index _
    (ap (λ (xs : List ℕ). get_or xs c.loop-variable.variable-index 0) items) c.in_ok-insert-2.ensures.there
    c.loop-variable.invariant

pub returns : goal.returns
returns c =
    let items : c.deref-variable-items.result.now ≡ c.args.self.now.inputs =
    c.deref-variable-items.ensures.value ∙ ap (λ (net : Netlist). net.inputs) c.self.view_is in
    rw c.new.ensures.items
    (leaves_draft c.args.self.now _ c.loop-variable.variable-index
    (omega (arith, ap length items)) c.loop-variable.invariant)
