use Rattle.std.proofs.Common.{sym, ◌∙◌}
use Rattle.hint_log.specs.Kept.{kept_lives}
use Rattle.hint_log.proofs.KeptNames.{no_name}
use Rattle.hint_log.proofs.KeptEntries.{names_found}
use Rattle.hint_log.proofs.logs.Log.name.Goals as goal

pub unreachable-requires : goal.unreachable-requires
unreachable-requires c =
    let l = c.self.inside in
    no_name _ (c.in-None.ensures ∙ names_found c.args.self.now l.limit l.steps l.entries.items l.names
    l.kinds.items l.literals l.numbers l.rounds.items (kept_lives l.stays.items l.added) c.args.var c.self.view_is
    c.self.invariant) c.requires

pub returns : goal.returns
returns c =
    let l = c.self.inside in
    sym (c.in-Some.ensures ∙ names_found c.args.self.now l.limit l.steps l.entries.items l.names
    l.kinds.items l.literals l.numbers l.rounds.items (kept_lives l.stays.items l.added) c.args.var c.self.view_is
    c.self.invariant)
