use Rattle.std.proofs.Common.{◌≡◌, ◌∙◌, Ok, Err, ap, refl, sym, subst, arith}
use Rattle.std.proofs.lemmas.Result.{IfOk-weaker}
use Rattle.dq_lits.specs.Formula.{Dqbf}
use Rattle.cert_export.specs.ExportableLogs.{RestsOnLive}
use Rattle.verdict_texts.specs.Forms.{plain}
use Rattle.verdict_texts.specs.Shown.{IsTrueText, IsFalseText, unknown_by}
use Rattle.verdict_texts.specs.Verdicts.{verdict_text}
use Rattle.repair_loop.proofs.LiveDatabases.{now_formed}
use Rattle.session_runs.specs.Invariant.{IsFound}
use Rattle.session_runs.proofs.FoundVerdicts.{rests-on-live, true-found, false-found, unknown-found}
use Rattle.session_runs.proofs.SearchedLogs.{surely, surely-at, so-far-behind, limit-other}
use Rattle.list_laws.proofs.Results.{on_err}
use Rattle.session_runs.proofs.searches.decide.Goals as goal

pub text_of_true-requires-clause-formula : goal.text_of_true-requires-clause-formula
text_of_true-requires-clause-formula g c = search (arith, now_formed)

pub text_of_true-requires-clause-answered : goal.text_of_true-requires-clause-answered
text_of_true-requires-clause-answered g c = (
  c.decide_now.new.graph,
  c.in-Ok-True.field-0-0,
  c.in-Ok-True.ensures.shown_true c.in-Ok-True.field-0-0 c.in-Ok-True.id
      (ap Ok c.in-Ok-True.field-0-is),
)

pub returns-in-Ok-True-clause-found : goal.returns-in-Ok-True-clause-found
returns-in-Ok-True-clause-found g c =
    let b = c.args.database.now in
    let f = c.args.f.now in
    let old = c.args.log.now in
    let new = c.decide_now.new.log in
    IfOk-weaker c.text_of_true.result (λ text. IsTrueText f new plain text.items) (λ text. IsFound b f old new text.items)
    (λ text t. true-found b f old new
    (surely (Ok c.in-Ok-True.field-0) c.in-Ok-True.field-0 refl c.in-Ok-True.ensures.began) text.items t)
    c.text_of_true.ensures

pub returns-in-Ok-True-clause-err : goal.returns-in-Ok-True-clause-err
returns-in-Ok-True-clause-err g c = search (arith, on_err, so-far-behind)

pub text_of_false-requires-clause-formula : goal.text_of_false-requires-clause-formula
text_of_false-requires-clause-formula g c = search (arith, now_formed)

pub text_of_false-requires-clause-answered : goal.text_of_false-requires-clause-answered
text_of_false-requires-clause-answered g c =
    let log = c.decide_now.new.log in
    let id = c.in-Ok-False.id in
    let rests = rests-on-live c.args.database.now log id
    (c.in-Ok-False.ensures.shown_false id (ap Ok c.in-Ok-False.field-0-is)) in
    (rests.0, subst (λ live. RestsOnLive live log.entries id rests.0) (sym c.requires.numbers) rests.1)

pub returns-in-Ok-False-clause-found : goal.returns-in-Ok-False-clause-found
returns-in-Ok-False-clause-found g c =
    let b = c.args.database.now in
    let f = c.args.f.now in
    let old = c.args.log.now in
    let new = c.decide_now.new.log in
    IfOk-weaker c.text_of_false.result (λ text. IsFalseText f c.args.numbers.now new plain text.items)
    (λ text. IsFound b f old new text.items)
    (λ text t. false-found b f old new
    (surely (Ok c.in-Ok-False.field-0) c.in-Ok-False.field-0 refl c.in-Ok-False.ensures.began)
    c.args.numbers.now text.items c.requires.numbers t)
    c.text_of_false.ensures

pub returns-in-Ok-False-clause-err : goal.returns-in-Ok-False-clause-err
returns-in-Ok-False-clause-err g c = search (arith, on_err, so-far-behind)

pub returns-in-Err-Limit-clause-found : goal.returns-in-Err-Limit-clause-found
returns-in-Err-Limit-clause-found g c =
    let b = c.args.database.now in
    let f = c.args.f.now in
    let old = c.args.log.now in
    let new = c.decide_now.new.log in
    let stop = ap Err c.in-Err-Limit.field-0-is in
    let began = surely-at (Err c.in-Err-Limit.field-0) c.in-Err-Limit.field-0 refl
    (λ same. limit-other (sym c.in-Err-Limit.field-0-is ∙ same)) c.in-Err-Limit.ensures.began in
    IfOk-weaker c.unknown_text.result (λ text. (h : Dqbf) → text.items ≡ verdict_text plain h (unknown_by new))
    (λ text. IsFound b f old new text.items)
    (λ text t. unknown-found b f old new began text.items (c.in-Err-Limit.ensures.limit stop)
    (c.in-Err-Limit.ensures.undecided began) (c.rounds_are_steps.ensures new.entries)
    (t f))
    c.unknown_text.ensures

pub returns-in-Err-Limit-clause-err : goal.returns-in-Err-Limit-clause-err
returns-in-Err-Limit-clause-err g c = search (arith, on_err, so-far-behind)

pub returns-clause-err : goal.returns-clause-err
returns-clause-err g c =
    search (
      arith,
      (so-far-behind c.args.database.now c.args.search_state.now c.args.graph.now c.args.log.now c.decide_now.new.log c.requires.ready c.in-Err-Memory.ensures.kept (g.met.O.Oracle.searched c.decide_now.new.oracle c.decide_now.new.log c.in-Err-Memory.ensures.fit) c.in-Err-Memory.ensures.began),
    )
