use Rattle.std.proofs.Common.{ap, arith}
use Rattle.std.specs.Option.{option_and_then}
use Rattle.hint_log.specs.Kept.{kept_lives}
use Rattle.hint_log.specs.Entries.{row_of}
use Rattle.hint_log.proofs.KeptEntries.{at_round, rounds_counted}
use Rattle.hint_log.proofs.logs.Log.row.Goals as goal

pub index-requires : goal.index-requires
index-requires c =
    let l = c.self.inside in
    let many = rounds_counted c.args.self.now l.limit l.steps l.entries.items l.names l.kinds.items l.literals
    l.numbers l.rounds.items (kept_lives l.stays.items l.added) c.self.view_is c.self.invariant in
    omega (arith, many, c.requires.from_one, c.requires.last, l.rounds.ok.0)

pub returns : goal.returns
returns c =
    let l = c.self.inside in
    ap (option_and_then row_of) (at_round c.args.self.now l.limit l.steps l.entries.items l.names l.kinds.items
    l.literals l.numbers l.rounds.items (kept_lives l.stays.items l.added) c.args.k c.index.result.now
    c.self.view_is c.self.invariant c.requires.from_one c.requires.last c.index.ensures)
