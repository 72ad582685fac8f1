use Rattle.std.proofs.Common.{◌+◌, length, arith}
use Rattle.cert_text.specs.AllowedDefinitions.{first_definition_id}
use Rattle.cert_text.specs.Variables.{is_up_to}
use Rattle.defined_checker.proofs.JudgedSteps.{numbered}
use Rattle.defined_checker.proofs.steps.steps_fault.Goals as goal

pub judge_all-requires-clause-numbered : goal.judge_all-requires-clause-numbered
judge_all-requires-clause-numbered c =
    let f = c.args.f.now in
    let many = length c.args.d.now.gates.items in (
      first_definition_id f many,
      numbered (is_up_to (f.variables + many)) (first_definition_id f many) c.args.d.now.steps (omega arith)
          c.requires.lawful.steps,
    )
