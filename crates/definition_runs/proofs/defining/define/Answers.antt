use Rattle.std.proofs.Common.{◌≡◌, Err, refl, sym, ◌∙◌, ap, subst}
use Rattle.std.proofs.lemmas.Result.{IfOk-weaker}
use Rattle.dq_lits.specs.Formula.{Dqbf}
use Rattle.dq_runs.specs.Printed.{printed}
use Rattle.hint_log.specs.Deciding.{IsUndecided}
use Rattle.hint_log.specs.Entries.{rounds_of, steps_of}
use Rattle.definition_runs.specs.Definitions.{IsDefinitionsOutput, cut_off, printed_definitions, written}
use Rattle.definition_runs.proofs.defining.define.Goals as goal

pub returns-in-Ok-clause-found : goal.returns-in-Ok-clause-found
returns-in-Ok-clause-found c =
    let is = c.in-Ok.ensures.text in
    record {
      found = written is.blocks;
      is = is.right;
      is_printed = ap (λ text. record { status = 30; text = text }) is.written;
    }

pub returns-in-Err-Limit-clause-found : goal.returns-in-Err-Limit-clause-found
returns-in-Err-Limit-clause-found c =
    let f = c.args.f.now in
    let log = c.definitions.new.log in
    let goes_on = c.in-Err-Limit.ensures.goes_on in
    IfOk-weaker c.unknown.result (λ output. (g : Dqbf) → printed output ≡ printed_definitions g (cut_off (steps_of log.entries)))
    (IsDefinitionsOutput f log)
    (λ output is. record {
      found = cut_off (steps_of log.entries);
      is = record {
        steps = refl;
        rounds = goes_on.rounds ∙ ap rounds_of c.requires.empty;
        limit = c.in-Err-Limit.ensures.limit (ap Err c.in-Err-Limit.field-0-is);
        undecided = goes_on.undecided (subst (IsUndecided f) (sym c.requires.empty) tt);
      };
      is_printed = is f;
    }) c.unknown.ensures
