use Rattle.std.proofs.Common.{length, sym, ◌∙◌, ap}
use Rattle.cdcl_scan.specs.Storage.{Stored}
use Rattle.learning_trail.proofs.ClausePieces.{pieces-length}
use Rattle.cdcl_scan.proofs.clauses.ClauseStore.len.Goals as goal

pub returns : goal.returns
returns c =
    let s = c.self.inside in
    c.len.ensures ∙ s.ends.ok.0 ∙ sym (pieces-length s.literals.items 0 s.ends.items) ∙ ap
    (λ (v : Stored). length v.clauses) c.self.view_is
