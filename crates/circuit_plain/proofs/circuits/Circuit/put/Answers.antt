use Rattle.std.proofs.Common.{refl, sym, ap, ◌∙◌}
use Rattle.number_tables.specs.Numbers.{has_number}
use Rattle.circuit_plain.specs.Netlist.{Netlist}
use Rattle.circuit_plain.proofs.SortSteps.{stuck_gate, put_gate}
use Rattle.circuit_plain.proofs.circuits.Circuit.put.Goals as goal

pub returns-then-not-is_ready-clause-passed : goal.returns-then-not-is_ready-clause-passed
returns-then-not-is_ready-clause-passed c = (
  refl,
  stuck_gate c.args.self.now _ c.args.draft.now.places.items
      (has_number c.args.draft.now.settled) c.index.result.now c.args.place
      (ap (λ (net : Netlist). net.gates) (sym c.self.view_is)) c.requires.in_range c.index.ensures c.requires.draft
      (sym c.is_ready.ensures ∙ c.if-not-is_ready.true),
)

pub returns-clause-draft : goal.returns-clause-draft
returns-clause-draft c =
    put_gate c.args.self.now _ c.args.draft.now.places.items
    (has_number c.args.draft.now.settled) c.index.result.now c.args.place
    (ap (λ (net : Netlist). net.gates) (sym c.self.view_is)) c.requires.in_range c.index.ensures c.requires.draft
    c.push.new.self.items (has_number c.insert.new.self) (sym c.contains.ensures ∙ c.if-contains.false)
    (sym c.is_ready.ensures ∙ c.if-not-is_ready.false) c.in_ok-push.ensures.items c.in_ok-insert.ensures.there
