use Rattle.std.proofs.Common.{◌+◌, ◌<◌, length, drop, ap, ◌∙◌, subst, ℕ, List}
use Rattle.circuit_plain.specs.Netlist.{Netlist}
use Rattle.dq_lits.specs.Formula.{Dqbf}
use Rattle.dq_lits.specs.Literal.{Literal}
use Rattle.pec_front.proofs.EncoderSteps.{demand-set, demand-some, demand-in-range, demands-next}
use Rattle.pec_front.proofs.encoders.Encoder.add_demands.Goals as goal

pub add_clause-requires-clause-in_range : goal.add_clause-requires-clause-in_range
add_clause-requires-clause-in_range c =
    let d = c.args.self.now.design.now in
    let o = c.loop-o.o in
    let few : o < length d.specification.outputs =
    subst (λ (xs : List ℕ). o < length xs)
    (c.outputs-outputs.ensures ∙ ap (λ (n : Netlist). n.outputs) c.specification.ensures) c.loop-o-test.true in
    demand-in-range d o c.loop-o.f.variables c.deref.result.now
    (ap (λ (f : Dqbf). f.variables) c.loop-o.invariant.added.clauses
    ∙ ap (λ (f : Dqbf). f.variables) c.reserve.ensures ∙ c.requires.room.variables)
    few
    (c.deref.ensures.value
    ∙ demand-set d c.loop-o.clause.items o (c.args.self.now.layout.first_agree + o) c.pos.result
    c.loop-o.invariant.some c.loop-o.invariant.flags c.pos.ensures
    (ap (λ n. n + o) c.requires.encoder.layout.agree))

pub loop-o-preserved : goal.loop-o-preserved
loop-o-preserved c =
    let d = c.args.self.now.design.now in
    let o = c.loop-o.o in
    let is = demand-set d c.loop-o.clause.items o (c.args.self.now.layout.first_agree + o) c.pos.result
    c.loop-o.invariant.some c.loop-o.invariant.flags c.pos.ensures
    (ap (λ n. n + o) c.requires.encoder.layout.agree) in
    record {
      added = demands-next d c.reserve.new.self c.loop-o.f c.add_clause.new.self o c.deref.result.now
          c.loop-o.invariant.added (c.deref.ensures.value ∙ is) c.in_ok-add_clause.ensures.ok;
      some = demand-some d o _ is;
      flags = ap (λ (ls : List Literal). drop 1 ls) is;
    }
