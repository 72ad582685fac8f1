use Rattle.std.proofs.Common.{◌≡◌, ◌+◌, ◌-◌, ℕ, inl, inr, sym, ap, ◌∙◌, arith}
use Rattle.std.proofs.lemmas.Bool.{cases_Bool}
use Rattle.circuit_plain.specs.Netlist.{Netlist}
use Rattle.circuit_plain.specs.Words.{marked}
use Rattle.circuit_plain.proofs.ReachLaws.{nothing_marked, walk_on, walk_past, marks_reach}
use Rattle.circuit_plain.proofs.WordsLaws.{spread_on, spread_off}
use Rattle.circuit_plain.proofs.circuits.Circuit.reach_by_words.Goals as goal

pub loop-i-init : goal.loop-i-init
loop-i-init c = record {
  long = c.requires.a_word_a_variable;
  sides =
      λ j. rw c.places-places.ensures (nothing_marked _ c.args.order.now _);
}

pub loop-i-preserved : goal.loop-i-preserved
loop-i-preserved c =
    let n : ℕ = c.loop-i.i - 1 in
    let next : c.loop-i.i ≡ n + 1 = omega arith in
    let g = c.index-gate.result.now in
    let kept = rw c.self.view_is at c.self.invariant in
    let gates = ap (λ (net : Netlist). net.gates) (sym c.self.view_is) in
    record {
      long = c.spread.ensures.same_length ∙ c.loop-i.invariant.long;
      sides = λ j.
          let before = rw next at (c.loop-i.invariant.sides j) in
          elim (cases_Bool (marked c.loop-i.words j g.variable)) [
            | inl on ↦ walk_on c.args.self.now c.args.order.now _ _ n g kept c.requires.ordered c.places-places.ensures
                gates (omega arith) c.index-gate.ensures
                _ _ _ before on (spread_on _ _ _ _ _ (c.spread.ensures.spread j) on)
            | inr off ↦ walk_past c.args.self.now c.args.order.now _ _ n g kept c.requires.ordered
                c.places-places.ensures gates (omega arith) c.index-gate.ensures
                _ _ _ before off (spread_off _ _ _ _ _ (c.spread.ensures.spread j) off)
          ];
    }

pub returns-clause-reached : goal.returns-clause-reached
returns-clause-reached c i =
    let done : c.loop-i.i ≡ 0 = omega arith in
    marks_reach c.args.self.now c.args.order.now _ _ c.requires.ordered (rw done at (c.loop-i.invariant.sides i))
