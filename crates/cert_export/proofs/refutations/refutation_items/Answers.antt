use Rattle.std.proofs.Common.{◌≡◌, ℕ, List, ◌∙◌, ◌≤◌, ◌*◌, length, sym, ap, subst, arith}
use Rattle.list_laws.proofs.Numbers.{few-rows}
use Rattle.cert_text.specs.Header.{max_count}
use Rattle.dq_lits.specs.Formula.{Dqbf}
use Rattle.hint_log.specs.Entries.{Entry}
use Rattle.cert_export.specs.Expansion.{used_rounds}
use Rattle.cert_export.specs.Exportable.{AreExportable, IsKnownInstance}
use Rattle.cert_export.specs.Exported.{IsPairNaming}
use Rattle.cert_export.specs.Names.{renaming}
use Rattle.cert_export.specs.Pairing.{HaveNames}
use Rattle.cert_export.specs.Written.{CanBeWritten}
use Rattle.cert_export.proofs.ExportableAnswers.{have_names, can_be_written, few_kept, are_exported}
use Rattle.cert_export.proofs.UsedRounds.{used_ascend}
use Rattle.cert_export.proofs.refutations.refutation_items.Goals as goal

few_here : (f : Dqbf) (live : List ℕ) (entries : List Entry) (ids rounds : List ℕ) →
    AreExportable f live entries ids → rounds ≡ used_rounds entries ids → length rounds ≤ max_count
few_here f live entries ids rounds can used = search (arith, few_kept)

pub invariant_of-names : goal.invariant_of-names
invariant_of-names c =
    search (
      arith,
      (used_ascend c.args.log.now.entries c.args.ids.now),
      (few_here c.args.f.now c.args.live.now c.args.log.now.entries c.args.ids.now c.args.rounds.now c.requires.can c.requires.used),
    )

pub names-requires-clause-known : goal.names-requires-clause-known
names-requires-clause-known c =
    let f = c.args.f.now in
    let entries = c.args.log.now.entries in
    let ids = c.args.ids.now in
    subst (λ rounds. HaveNames f entries rounds ids) (sym c.requires.used)
    (have_names f c.args.live.now entries ids c.requires.can)

pub overflow_mul-last : goal.overflow_mul-last
overflow_mul-last c = search (arith, few-rows, few_here)

pub write_lines-requires-clause-can : goal.write_lines-requires-clause-can
write_lines-requires-clause-can c =
    let f = c.args.f.now in
    let live = c.args.live.now in
    let entries = c.args.log.now.entries in
    let ids = c.args.ids.now in
    let r = renaming c.in_ok-names.names in
    subst (λ rounds. CanBeWritten r (IsKnownInstance rounds live) entries ids) (sym c.requires.used)
    (can_be_written f live entries ids c.requires.can r (subst (λ rounds. IsPairNaming f entries rounds ids r)
    c.requires.used c.in_ok-names.ensures))

pub write_lines-requires-clause-few : goal.write_lines-requires-clause-few
write_lines-requires-clause-few c = search (arith, few-rows, few_here)

pub returns : goal.returns
returns c =
    let f = c.args.f.now in
    let entries = c.args.log.now.entries in
    let ids = c.args.ids.now in
    let rounds = c.args.rounds.now in
    let r = renaming c.in_ok-names.names in
    let steps = c.in_ok-steps.steps in (
      steps,
      are_exported f c.args.live.now entries ids rounds r steps c.clauses.result
          (length rounds * c.clauses-2.result) c.requires.used c.in_ok-names.ensures c.clauses.ensures.value
          (ap (λ n. length rounds * n) (c.clauses-2.ensures.value ∙ sym c.clauses.ensures.value))
          c.in_ok-steps.ensures.lines,
      c.of_lines.ensures,
    )
