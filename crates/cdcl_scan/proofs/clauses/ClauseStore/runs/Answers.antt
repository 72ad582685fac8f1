use Rattle.std.proofs.Common.{length, sym, subst, List, ℕ}
use Rattle.cdcl_scan.specs.declared.clauses.Run.{Run}
use Rattle.cdcl_scan.specs.Runs.{AreRuns}
use Rattle.learning_trail.specs.Pieces.{pieces}
use Rattle.cdcl_scan.specs.Storage.{Stored}
use Rattle.learning_trail.proofs.ClausePieces.{pieces-length}
use Rattle.cdcl_scan.proofs.clauses.ClauseStore.runs.Goals as goal

pub returns : goal.returns
returns c =
    let s = c.self.inside in
    let cs = pieces s.literals.items 0 s.ends.items in
    subst (λ (v : Stored). AreRuns 0 c.deref.result.now v.clauses (length v.clauses)) c.self.view_is
    (subst (λ (rs : List Run). AreRuns 0 rs cs (length cs)) (sym c.deref.ensures.value)
    (subst (λ (n : ℕ). AreRuns 0 s.runs.items cs n) (sym (pieces-length s.literals.items 0 s.ends.items))
    c.self.invariant.runs))
