use Rattle.std.proofs.Common.{arith}
use Rattle.hint_log.specs.Kept.{kept_lives}
use Rattle.hint_log.proofs.KeptEntries.{rounds_counted}
use Rattle.hint_log.proofs.logs.Log.rounds.Goals as goal

pub returns : goal.returns
returns c =
    let l = c.self.inside in
    let many = rounds_counted c.args.self.now l.limit l.steps l.entries.items l.names l.kinds.items l.literals
    l.numbers l.rounds.items (kept_lives l.stays.items l.added) c.self.view_is c.self.invariant in
    omega (arith, many, c.len.ensures, l.rounds.ok.0)
