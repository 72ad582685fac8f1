use Rattle.std.proofs.Common.{◌≡◌, ◌+◌, ◌-◌, ℕ, true, Bool, List, set, length, sym, ap, ◌∙◌, arith}
use Rattle.std.proofs.lemmas.List.{length-set}
use Rattle.circuit_plain.specs.Netlist.{Netlist, literal_variable}
use Rattle.circuit_plain.proofs.ReachLaws.{nothing_marked, set_spreads, sides_within, walk_on, marks_reach}
use Rattle.circuit_plain.proofs.circuits.Circuit.mark_sides.Goals as goal

pub loop-i-init : goal.loop-i-init
loop-i-init c = record {
  long = c.requires.a_place_a_variable;
  sides =
      rw c.places-places.ensures (nothing_marked _ c.args.order.now _);
}

pub loop-i-preserved-then-get : goal.loop-i-preserved-then-get
loop-i-preserved-then-get c =
    let n : ℕ = c.loop-i.i - 1 in
    let next : c.loop-i.i ≡ n + 1 = omega arith in
    let marks = c.loop-i.marks in
    let left : ℕ = literal_variable c.index-gate.result.now.left in
    let right : ℕ = literal_variable c.index-gate.result.now.right in
    let kept = rw c.self.view_is at c.self.invariant in
    let gates = ap (λ (net : Netlist). net.gates) (sym c.self.view_is) in
    let within = sides_within c.args.self.now c.args.order.now _ _ n c.index-gate.result.now kept c.requires.ordered
    c.places-places.ensures gates
    (omega arith) c.index-gate.ensures (length marks) c.loop-i.invariant.long in
    let after : c.set-then-get.new.self ≡ set (set marks left true) right true =
    c.set-then-get.ensures ∙ ap (λ (m : List Bool). set m right true) c.set.ensures in
    record {
      long = ap length after ∙ length-set (set marks left true) right true ∙ length-set marks left true
          ∙ c.loop-i.invariant.long;
      sides = walk_on c.args.self.now c.args.order.now _ _ n c.index-gate.result.now kept c.requires.ordered
          c.places-places.ensures gates
          (omega arith) c.index-gate.ensures _ _ _ (rw next at c.loop-i.invariant.sides)
          (sym c.get.ensures ∙ c.if-get.true)
          (set_spreads marks c.set-then-get.new.self left right within.0 within.1 after);
    }

pub returns-clause-reached : goal.returns-clause-reached
returns-clause-reached c =
    let done : c.loop-i.i ≡ 0 = omega arith in
    marks_reach c.args.self.now c.args.order.now _ _ c.requires.ordered (rw done at c.loop-i.invariant.sides)
