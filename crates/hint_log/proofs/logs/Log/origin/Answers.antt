use Rattle.std.proofs.Common.{arith}
use Rattle.hint_log.specs.Kept.{kept_lives}
use Rattle.hint_log.proofs.KeptEntries.{at_id, origin_found, origin_numbers}
use Rattle.hint_log.proofs.logs.Log.origin.Goals as goal

pub index-requires : goal.index-requires
index-requires c =
    let l = c.self.inside in
    let inside = (at_id c.args.self.now l.limit l.steps l.entries.items l.names l.kinds.items l.literals
    l.numbers l.rounds.items (kept_lives l.stays.items l.added) c.args.id c.self.view_is c.self.invariant
    c.requires).kind_inside in
    omega (arith, inside, l.kinds.ok.0)

pub get-requires : goal.get-requires
get-requires c =
    let l = c.self.inside in
    (at_id c.args.self.now l.limit l.steps l.entries.items l.names l.kinds.items l.literals l.numbers
    l.rounds.items (kept_lives l.stays.items l.added) c.args.id c.self.view_is c.self.invariant
    c.requires).numbers_inside

pub kept_origin-requires : goal.kept_origin-requires
kept_origin-requires c = search (arith, origin_numbers)

pub returns : goal.returns
returns c =
    let l = c.self.inside in
    origin_found c.args.self.now l.limit l.steps l.entries.items l.names l.kinds.items l.literals l.numbers
    l.rounds.items (kept_lives l.stays.items l.added) c.args.id c.index.result.now c.get.result.now
    c.kept_origin.result c.self.view_is c.self.invariant c.requires
    c.index.ensures c.get.ensures c.kept_origin.ensures
