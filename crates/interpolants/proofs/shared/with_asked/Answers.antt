use Rattle.std.proofs.Common.{take, sym, subst, ap, ◌∙◌, ◌++◌, ◌∷◌, [], arith}
use Rattle.std.proofs.lemmas.List.{take_more}
use Rattle.aig_graph.proofs.LargerGraphs.{grown_twice}
use Rattle.interpolants.specs.Parts.{IsAsked}
use Rattle.interpolants.proofs.shared.with_asked.Goals as goal

pub returns-in_err-node-clause-extends : goal.returns-in_err-node-clause-extends
returns-in_err-node-clause-extends c = search (arith, grown_twice)

pub loop-l-preserved : goal.loop-l-preserved
loop-l-preserved c =
    let xs = c.args.clause.now in
    let i = c.loop-l.l-index in
    record {
      extends = grown_twice c.args.graph.now c.loop-l.graph c.and_asked.new.graph c.loop-l.invariant.extends
          c.and_asked.ensures.extends;
      asked =
          subst (λ ls. IsAsked c.args.shared.now c.args.assumed.now ls c.args.graph.now c.and_asked.new.graph c.args.p
          c.in_ok-node.node) (sym (take_more xs i c.l-item.result c.loop-l-test.true ∙ ap (λ k. take i xs ++ k ∷ [])
          (sym c.l-item.is)))
          (c.in_ok-node.ensures.more c.args.graph.now (take i xs) c.args.p c.loop-l.invariant.asked);
    }
