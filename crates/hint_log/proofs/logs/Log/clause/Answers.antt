use Rattle.std.proofs.Common.{Some, ap, sym, ◌∙◌}
use Rattle.hint_log.specs.Kept.{kept_lives}
use Rattle.hint_log.proofs.KeptEntries.{at_id, clause_found}
use Rattle.hint_log.proofs.logs.Log.clause.Goals as goal

pub get-requires : goal.get-requires
get-requires c =
    let l = c.self.inside in
    (at_id c.args.self.now l.limit l.steps l.entries.items l.names l.kinds.items l.literals l.numbers
    l.rounds.items (kept_lives l.stays.items l.added) c.args.id c.self.view_is c.self.invariant
    c.requires).literals_inside

pub returns : goal.returns
returns c =
    let l = c.self.inside in
    clause_found c.args.self.now l.limit l.steps l.entries.items l.names l.kinds.items l.literals l.numbers
    l.rounds.items (kept_lives l.stays.items l.added) c.args.id c.self.view_is c.self.invariant c.requires ∙ ap Some
    (sym c.get.ensures)
