use Rattle.std.proofs.Common.{length, ap, arith}
use Rattle.hint_log.specs.Kept.{kept_lives}
use Rattle.hint_log.proofs.KeptEntries.{names_kept}
use Rattle.hint_log.proofs.logs.Log.names.Goals as goal

pub returns : goal.returns
returns c =
    let l = c.self.inside in
    let same = ap length (names_kept c.args.self.now l.limit l.steps l.entries.items l.names l.kinds.items
    l.literals l.numbers l.rounds.items (kept_lives l.stays.items l.added) c.self.view_is c.self.invariant) in
    omega (arith, same, c.len.ensures)
