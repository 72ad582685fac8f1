-- What an answer that shows outputs decides.
use Rattle.std.proofs.Common.{Bool, false, get_or, sym, ◌∙◌, ap, subst}
use Rattle.std.specs.List.{Contains}
use Rattle.std.proofs.lemmas.List.Elements.{All-contains}
use Rattle.dq_lits.specs.Formula.{Existential}
use Rattle.aig_graph.specs.Outputs.{output_node, outputs_of}
use Rattle.hint_log.specs.Deciding.{LeafReads}
use Rattle.log_laws.specs.Circuits.{circuit_value, by_bits}
use Rattle.log_laws.specs.Meaning.{LeavesSolve}
use Rattle.log_laws.proofs.LeafFunctions.{clause_same, declared_bit}
use Rattle.circuit_cnf.specs.Leaves.{LeavesHaveNodesValues, LeavesReadNodesCones}
use Rattle.circuit_cnf.specs.Shown.{ShownOutputsHold, ShownOutputsDecide}

pub outputs_hold : LeavesSolve → LeavesHaveNodesValues → ShownOutputsHold
outputs_hold solve values f graph nodes earlier clause hints well sound shows m follows =
    let output = outputs_of f graph nodes in
    let bit : Existential → Bool = λ y. (output y).value m in
    let truth = solve f earlier clause hints well sound shows.rests m bit
    (λ k d below leaf fault.
    let y = get_or f.existentials k d in
    ap (circuit_value earlier m) (shows.outs k d below leaf fault)
    ∙ sym (values f graph earlier (output_node f nodes y) (shows.leaf y) sound.logged (shows.named k d below) m
    (λ _. false))) in
    λ k d below. clause_same f m (by_bits f m bit) (declared_bit f m bit follows) (get_or f.matrix k d)
    (well.bound k d below) ∙ truth k d below

pub outputs_decide : LeavesReadNodesCones → ShownOutputsDecide
outputs_decide reads f graph nodes earlier clause hints shows declared = record {
  rests = shows.rests;
  reads = λ k d below leaf fault x read.
      let y = get_or f.existentials k d in
      let same = shows.outs k d below leaf fault in
      let inside = reads f graph earlier (output_node f nodes y) (shows.leaf y) (shows.named k d below) x
      (subst (λ l. LeafReads earlier l x) same read) in
      All-contains (Contains y.sees) (outputs_of f graph nodes y).support x (declared k d below) inside;
}
