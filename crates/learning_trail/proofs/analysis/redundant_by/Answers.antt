use Rattle.std.proofs.Common.{◌≡◌, ◌==◌, ◌||◌, sym, ◌∙◌, ap, Some, inl, inr}
use Rattle.std.proofs.lemmas.Bool.{or_cases, eqb-true}
use Rattle.dq_lits.specs.Literal.{variable_of}
use Rattle.dq_lits.specs.Derivation.{holds}
use Rattle.learning_trail.specs.Marks.{marked}
use Rattle.dq_lits.proofs.LiteralValues.{all_give}
use Rattle.learning_trail.proofs.analysis.redundant_by.Goals as goal

pub returns-then-are_others_marked : goal.returns-then-are_others_marked
returns-then-are_others_marked g c = record {
  is = c.in-Some.is;
  others = λ d l at h other.
      let s : Some c.lits.result.now ≡ Some d = sym c.lits.ensures ∙ at in
      let e : c.lits.result.now ≡ d = cc in
      let v = variable_of c.args.step.now.literal in
      let one = all_give (λ k. (variable_of k == v) || marked c.args.notes.now.marks (variable_of k)) c.lits.result.now
      l (sym c.are_others_marked.ensures ∙ c.if-are_others_marked.true) (ap (λ xs. holds xs l) e ∙ h) in
      elim (or_cases (variable_of l == v) (marked c.args.notes.now.marks (variable_of l)) one) [
        | inl same ↦ absurd (other (eqb-true (variable_of l) v same))
        | inr m ↦ m
      ];
}
