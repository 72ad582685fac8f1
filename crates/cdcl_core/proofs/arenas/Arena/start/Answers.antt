use Rattle.std.proofs.Common.{◌≤◌, ◌≡◌, ◌-◌, length, get_or, ap, subst, arith}
use Rattle.cdcl_core.specs.ArenaInside.{Arranged}
use Rattle.cdcl_core.specs.Runs.{BeginAlike}
use Rattle.cdcl_core.proofs.EqualHeads.{start_at}
use Rattle.learning_trail.proofs.ClausePieces.{pieces-length}
use Rattle.cdcl_core.proofs.arenas.Arena.start.Goals as goal

pub get-requires : goal.get-requires
get-requires c = search (arith, pieces-length)

pub returns-clause-before : goal.returns-clause-before
returns-clause-before c = search (arith, pieces-length, start_at)

pub returns-clause-same : goal.returns-clause-same
returns-clause-same c =
    let s = c.self.inside in
    let n = pieces-length s.literals.items 0 s.ends.items in
    let high : c.args.id ≤ length s.starts.items = omega (
      arith,
      n,
      c.self.invariant.count,
      ap (λ (v : Arranged). length v.clauses) c.self.view_is,
      c.requires.is_id,
    ) in
    let read : c.get.result ≡ get_or s.starts.items (c.args.id - 1) 0 =
    c.get.ensures in
    subst (λ (v : Arranged). BeginAlike v.clauses c.get.result c.args.id) c.self.view_is
    (start_at _ s.starts.items c.args.id c.get.result c.self.invariant.starts c.requires.from_one high read).1
