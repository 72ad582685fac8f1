use Rattle.std.proofs.Common.{length, ap, arith}
use Rattle.cdcl_scan.specs.Storage.{Stored}
use Rattle.learning_trail.proofs.ClausePieces.{pieces-length}
use Rattle.cdcl_scan.proofs.clauses.ClauseStoreClauses.lits.Goals as goal

pub piece-requires-clause-at : goal.piece-requires-clause-at
piece-requires-clause-at c =
    let s = c.self.inside in
    let n = pieces-length s.literals.items 0 s.ends.items in
    omega (
      arith,
      n,
      ap (λ (v : Stored). length v.clauses) c.self.view_is,
      ap length c.deref-2.ensures.value,
      c.requires.from_one,
      c.requires.is_id,
    )
