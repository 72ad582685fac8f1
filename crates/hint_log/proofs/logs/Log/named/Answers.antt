use Rattle.std.proofs.Common.{◌≡◌, ap, sym, subst, eqb, false, ◌∙◌, ◌++◌, [], ◌∷◌}
use Rattle.std.specs.List.{AllByRecursion}
use Rattle.hint_log.specs.Kept.{kept_lives}
use Rattle.hint_log.specs.Entries.{Named}
use Rattle.hint_log.specs.declared.kinds.EntryKind.TheVariants.{Naming}
use Rattle.hint_log.proofs.KeptEntries.{names_kept, unnamed_absent, one_name_more, more_log}
use Rattle.hint_log.proofs.logs.Log.named.Goals as goal

pub invariant_of-self-2 : goal.invariant_of-self-2
invariant_of-self-2 c =
    let l = c.self.inside in
    (one_name_more c.args.self.now l.limit l.steps c.args.var c.args.name l.entries.items c.push.new.self.items
    l.names c.insert.new.self l.kinds.items l.literals l.numbers l.rounds.items
    (kept_lives l.stays.items l.added)
    c.self.view_is c.self.invariant
    (record {
      from_one = c.requires.from_one;
      in_range = c.requires.in_range;
      unnamed = c.requires.unnamed;
      fresh =
          c.requires.fresh;
      sides = c.requires.sides;
    })
    ((rw c.unwrap.ensures at c.push.ensures.items) ∙ ap (λ xs. xs ++ Naming ∷ []) c.reserve.ensures.items)
    c.in_ok-insert.ensures.ok).kept

pub returns-clause-ok : goal.returns-clause-ok
returns-clause-ok c =
    let l = c.self.inside in
    more_log (Named c.args.var c.args.name) c.args.self.now l.limit l.steps c.push.new.self.items
    c.insert.new.self l.kinds.items l.literals l.numbers l.rounds.items (kept_lives l.stays.items l.added)
    (one_name_more c.args.self.now l.limit l.steps c.args.var c.args.name l.entries.items c.push.new.self.items
    l.names c.insert.new.self l.kinds.items l.literals l.numbers l.rounds.items
    (kept_lives l.stays.items l.added)
    c.self.view_is c.self.invariant
    (record {
      from_one = c.requires.from_one;
      in_range = c.requires.in_range;
      unnamed = c.requires.unnamed;
      fresh =
          c.requires.fresh;
      sides = c.requires.sides;
    })
    ((rw c.unwrap.ensures at c.push.ensures.items) ∙ ap (λ xs. xs ++ Naming ∷ []) c.reserve.ensures.items)
    c.in_ok-insert.ensures.ok)

pub insert-requires : goal.insert-requires
insert-requires c =
    let l = c.self.inside in
    subst (AllByRecursion (λ e. eqb c.args.var e.0 ≡ false))
    (sym (names_kept c.args.self.now l.limit l.steps l.entries.items l.names l.kinds.items l.literals l.numbers
    l.rounds.items (kept_lives l.stays.items l.added) c.self.view_is c.self.invariant))
    (unnamed_absent c.args.self.now.entries c.args.var c.requires.unnamed)
