use Rattle.std.proofs.Common.{sym, subst, ℕ}
use Rattle.hint_log.specs.Entries.{clause_at}
use Rattle.rup_core.specs.Range.{LineStandsWithin}
use Rattle.engine_cases.proofs.Ids.{named_within, hinted_within}
use Rattle.engine_cases.proofs.judging.is_derived.Goals as goal

pub derive-requires : goal.derive-requires
derive-requires c =
    let es = c.args.log.now.entries in
    let made = c.args.made.now in
    let logged = c.every_log_is_lawful.ensures in
    subst (λ (n : ℕ). LineStandsWithin n (clause_at es) c.clause.result.now c.hints.result.now) (sym c.requires.marks)
    (record {
      line = named_within made es c.clause.result.now c.requires.made
          (c.clauses_are_named.ensures es c.args.id c.clause.result.now logged c.clause.ensures);
      hinted = hinted_within made es c.hints.result.now c.requires.made
          (λ id d at. c.clauses_are_named.ensures es id d logged at);
    })
