use Rattle.std.proofs.Common.{ap, sym, ◌∙◌, slice_get}
use Rattle.hint_log.specs.Kept.{kept_lives}
use Rattle.hint_log.specs.Entries.{names_of}
use Rattle.hint_log.proofs.KeptNames.{no_gap}
use Rattle.hint_log.proofs.KeptEntries.{names_kept}
use Rattle.hint_log.proofs.logs.Log.name_at.Goals as goal

pub unreachable-requires : goal.unreachable-requires
unreachable-requires c =
    let l = c.self.inside in
    no_gap l.names (names_of c.args.self.now.entries) c.args.place
    (names_kept c.args.self.now l.limit l.steps l.entries.items l.names l.kinds.items l.literals l.numbers
    l.rounds.items (kept_lives l.stays.items l.added) c.self.view_is c.self.invariant)
    c.requires c.in-None.ensures

pub returns : goal.returns
returns c =
    let l = c.self.inside in
    ap (λ ns. slice_get ns c.args.place) (sym (names_kept c.args.self.now l.limit l.steps l.entries.items
    l.names l.kinds.items l.literals l.numbers l.rounds.items
    (kept_lives l.stays.items l.added) c.self.view_is c.self.invariant))
    ∙ sym c.in-Some.ensures
