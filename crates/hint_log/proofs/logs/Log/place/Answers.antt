use Rattle.std.proofs.Common.{arith}
use Rattle.hint_log.specs.Kept.{kept_lives}
use Rattle.hint_log.specs.Entries.{names_of}
use Rattle.hint_log.proofs.KeptNames.{place_of_kept, none_of_kept}
use Rattle.hint_log.proofs.KeptEntries.{names_kept, names_found}
use Rattle.hint_log.proofs.logs.Log.place.Goals as goal

pub returns-clause-some : goal.returns-clause-some
returns-clause-some c =
    let l = c.self.inside in
    place_of_kept l.names (names_of c.args.self.now.entries) c.args.var c.place.result
    (names_kept c.args.self.now l.limit l.steps l.entries.items l.names l.kinds.items l.literals l.numbers
    l.rounds.items (kept_lives l.stays.items l.added) c.self.view_is c.self.invariant) c.place.ensures.some

pub returns-clause-none : goal.returns-clause-none
returns-clause-none c = search (arith, none_of_kept, names_found)
