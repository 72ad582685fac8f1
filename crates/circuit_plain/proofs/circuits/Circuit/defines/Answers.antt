use Rattle.std.proofs.Common.{◌≡◌, inl, inr, ℕ, List, false, sym, ap, ◌∙◌}
use Rattle.std.specs.Prelude.{◌==◌}
use Rattle.std.specs.List.{list_any}
use Rattle.std.proofs.lemmas.Bool.{both_ways}
use Rattle.circuit_plain.specs.Netlist.{Netlist}
use Rattle.circuit_plain.proofs.NetlistLaws.{found_among, found_gate}
use Rattle.circuit_plain.proofs.circuits.Circuit.defines.Goals as goal

pub returns-else-contains : goal.returns-else-contains
returns-else-contains c =
    let net = c.args.self.now in
    let gates : net.gates ≡ c.deref-else-contains.result.now =
    ap (λ (n : Netlist). n.gates) (sym c.self.view_is) ∙ sym c.deref-else-contains.ensures.value in
    let inputs : c.deref.result.now ≡ net.inputs = c.deref.ensures.value ∙ ap
    (λ (n : Netlist). n.inputs) c.self.view_is in
    let by_gate = found_gate net c.args.var c.deref-else-contains.result.now gates in
    let no_input : list_any (λ x. x == c.args.var) net.inputs ≡ false =
    ap (λ (xs : List ℕ). list_any (λ x. x == c.args.var) xs) (sym inputs) ∙
    (sym c.contains.ensures.value ∙ c.if-contains.false) in (
      λ on. inr (by_gate.0 (sym c.has_gate.ensures ∙ on)),
      λ defined. elim defined [
        | inl i ↦ absurd (both_ways _ no_input ((found_among c.args.var net.inputs).1 i))
        | inr g ↦ c.has_gate.ensures ∙ by_gate.1 g
      ],
    )
