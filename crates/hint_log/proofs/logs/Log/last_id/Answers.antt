use Rattle.std.proofs.Common.{arith}
use Rattle.hint_log.specs.Kept.{kept_lives}
use Rattle.hint_log.proofs.KeptEntries.{ids_counted}
use Rattle.hint_log.proofs.logs.Log.last_id.Goals as goal

pub returns-clause-value : goal.returns-clause-value
returns-clause-value c =
    let l = c.self.inside in
    let many = ids_counted c.args.self.now l.limit l.steps l.entries.items l.names l.kinds.items l.literals
    l.numbers l.rounds.items (kept_lives l.stays.items l.added) c.self.view_is c.self.invariant in
    omega (arith, many, c.len.ensures, l.kinds.ok.0)
