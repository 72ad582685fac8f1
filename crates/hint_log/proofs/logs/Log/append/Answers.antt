use Rattle.std.proofs.Common.{◌+◌, ap, ◌∙◌, ◌++◌, [], ◌∷◌, refl, arith}
use Rattle.hint_log.specs.Kept.{kept_lives, entry_by, log_entries}
use Rattle.hint_log.specs.declared.kinds.EntryKind.TheVariants.{Clause}
use Rattle.hint_log.proofs.KeptEntries.{one_clause_more, more_log, ids_counted}
use Rattle.hint_log.proofs.logs.Log.append.Goals as goal

pub invariant_of-self-2 : goal.invariant_of-self-2
invariant_of-self-2 c =
    let l = c.self.inside in
    (one_clause_more c.args.self.now l.limit l.steps c.steps.result l.entries.items c.push-3.new.self.items
    l.names l.kinds.items c.push-4.new.self.items l.literals c.push-2.new.self l.numbers c.push.new.self
    l.rounds.items (kept_lives l.stays.items l.added) c.args.kind c.args.lits.now c.args.numbers.now
    c.self.view_is c.self.invariant c.requires.counted c.requires.asked c.requires.numbers c.steps.ensures
    ((rw c.unwrap.ensures at c.push-3.ensures.items) ∙ ap (λ xs. xs ++ Clause ∷ []) c.reserve.ensures.items)
    ((rw c.unwrap-2.ensures at c.push-4.ensures.items) ∙ ap (λ xs. xs ++ c.args.kind ∷ []) c.reserve-2.ensures.items)
    c.in-Ok.ensures.ok c.in_ok-push.ensures.ok).kept

pub returns-clause-ok : goal.returns-clause-ok
returns-clause-ok c =
    let l = c.self.inside in
    more_log (entry_by c.args.kind c.args.lits.now c.args.numbers.now) c.args.self.now l.limit
    (l.steps + c.steps.result) c.push-3.new.self.items l.names
    c.push-4.new.self.items c.push-2.new.self c.push.new.self l.rounds.items (kept_lives l.stays.items l.added)
    (one_clause_more c.args.self.now l.limit l.steps c.steps.result l.entries.items c.push-3.new.self.items
    l.names l.kinds.items c.push-4.new.self.items l.literals c.push-2.new.self l.numbers c.push.new.self
    l.rounds.items (kept_lives l.stays.items l.added) c.args.kind c.args.lits.now c.args.numbers.now
    c.self.view_is c.self.invariant c.requires.counted c.requires.asked c.requires.numbers c.steps.ensures
    ((rw c.unwrap.ensures at c.push-3.ensures.items) ∙ ap (λ xs. xs ++ Clause ∷ []) c.reserve.ensures.items)
    ((rw c.unwrap-2.ensures at c.push-4.ensures.items) ∙ ap (λ xs. xs ++ c.args.kind ∷ []) c.reserve-2.ensures.items)
    c.in-Ok.ensures.ok c.in_ok-push.ensures.ok)

pub returns-clause-id : goal.returns-clause-id
returns-clause-id c =
    let l = c.self.inside in
    let many = ids_counted (record {
      limit = l.limit;
      entries =
          log_entries c.push-3.new.self.items l.names c.push-4.new.self.items c.push-2.new.self c.push.new.self
          l.rounds.items (kept_lives l.stays.items l.added);
    })
    l.limit (l.steps + c.steps.result) c.push-3.new.self.items l.names c.push-4.new.self.items c.push-2.new.self
    c.push.new.self l.rounds.items (kept_lives l.stays.items l.added) refl (invariant_of-self-2 c) in
    omega (arith, c.len.ensures, many, c.push-4.new.self.ok.0)
