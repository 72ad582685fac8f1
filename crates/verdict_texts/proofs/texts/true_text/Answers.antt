use Rattle.std.proofs.Common.{◌∙◌, ◌++◌, ap, cond, [], codes}
use Rattle.dq_runs.specs.Printed.{line}
use Rattle.verdict_texts.proofs.NumberedFiles.{are_sorted}
use Rattle.verdict_texts.proofs.ShownTexts.{shown_true, proof_numbered}
use Rattle.verdict_texts.proofs.texts.true_text.Goals as goal

pub circuit_text-requires-clause-sorted : goal.circuit_text-requires-clause-sorted
circuit_text-requires-clause-sorted c = λ _. are_sorted c.args.f.now c.in_ok-file.file c.in_ok-file.ensures.numbers

pub circuit_text-requires-clause-numbered : goal.circuit_text-requires-clause-numbered
circuit_text-requires-clause-numbered c =
    let exported = c.in_ok-file.ensures in
    proof_numbered c.exported_proof_is_allowed.ensures c.allowed_lines_are_numbered.ensures c.args.f.now
    c.args.log.now.entries c.args.id exported.exported.0 c.in_ok-file.file c.in_ok-file.proof exported.exported.1

pub returns : goal.returns
returns c =
    let exported = c.in_ok-file.ensures in
    record {
      file = c.in_ok-file.file;
      proof = c.in_ok-file.proof;
      shown = shown_true c.proved_circuits_are_accepted.ensures c.small_logs_are_within_limits.ensures
          c.short_texts_are_within_limits.ensures c.args.f.now c.args.log.now c.args.id c.args.form
          c.in_ok-file.file c.in_ok-file.proof c.every_formula_is_lawful.ensures
          c.requires.is_true c.requires.decided.decided
          (record {
            proved = exported.proved;
            gates = exported.gates;
            numbers = exported.numbers;
            few = exported.few;
            spelled = exported.spelled;
            allowed = exported.allowed;
            exported = exported.exported;
            lines = proof_numbered c.exported_proof_is_allowed.ensures c.allowed_lines_are_numbered.ensures
                c.args.f.now c.args.log.now.entries c.args.id exported.exported.0 c.in_ok-file.file
                c.in_ok-file.proof exported.exported.1;
          });
      is = c.in_ok-text.ensures ∙ ap (λ evidence. cond c.args.form.bare [] (line (codes "s TRUE")) ++ evidence)
          c.in_ok-evidence.ensures;
    }
