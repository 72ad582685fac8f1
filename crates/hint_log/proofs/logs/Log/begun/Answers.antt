use Rattle.std.proofs.Common.{ap, ◌∙◌, ◌++◌, [], ◌∷◌, take}
use Rattle.hint_log.specs.Entries.{Begun}
use Rattle.hint_log.specs.Kept.{kept_lives}
use Rattle.hint_log.specs.Live.{last_live}
use Rattle.hint_log.specs.declared.kinds.EntryKind.TheVariants.{Beginning}
use Rattle.hint_log.proofs.KeptEntries.{one_beginning_more, more_log}
use Rattle.hint_log.proofs.logs.Log.begun.Goals as goal

pub invariant_of-self-2 : goal.invariant_of-self-2
invariant_of-self-2 c =
    let l = c.self.inside in
    (one_beginning_more c.args.self.now l.limit l.steps c.args.stays c.args.more.now l.entries.items
    c.push-3.new.self.items l.names l.kinds.items l.literals l.numbers l.rounds.items
    l.stays.items c.push-2.new.self.items l.added c.push.new.self c.self.view_is c.self.invariant
    ((rw c.unwrap-2.ensures at c.push-3.ensures.items) ∙ ap (λ xs. xs ++ Beginning ∷ []) c.reserve.ensures.items)
    ((rw c.unwrap.ensures at c.push-2.ensures.items) ∙ ap (λ xs. xs ++ c.args.stays ∷ []) c.reserve-2.ensures.items)
    c.in_ok-push.ensures.ok).kept

pub returns-clause-ok : goal.returns-clause-ok
returns-clause-ok c =
    let l = c.self.inside in
    more_log (Begun (take c.args.stays (last_live c.args.self.now.entries) ++ c.args.more.now)) c.args.self.now l.limit
    l.steps c.push-3.new.self.items l.names l.kinds.items l.literals
    l.numbers l.rounds.items (kept_lives c.push-2.new.self.items c.push.new.self)
    (one_beginning_more c.args.self.now l.limit l.steps c.args.stays c.args.more.now l.entries.items
    c.push-3.new.self.items l.names l.kinds.items l.literals l.numbers l.rounds.items
    l.stays.items c.push-2.new.self.items l.added c.push.new.self c.self.view_is c.self.invariant
    ((rw c.unwrap-2.ensures at c.push-3.ensures.items) ∙ ap (λ xs. xs ++ Beginning ∷ []) c.reserve.ensures.items)
    ((rw c.unwrap.ensures at c.push-2.ensures.items) ∙ ap (λ xs. xs ++ c.args.stays ∷ []) c.reserve-2.ensures.items)
    c.in_ok-push.ensures.ok)
