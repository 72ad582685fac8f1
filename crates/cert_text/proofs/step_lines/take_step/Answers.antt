use Rattle.std.proofs.Common.{rules, ◌≡◌, Some}
use Rattle.cert_text.specs.StepLine.{step_of}
use Rattle.cert_text.specs.StepNumbers.{maybe_step}
use Rattle.cert_text.proofs.SmallNumbers.{keepable}
use Rattle.cert_text.proofs.step_lines.take_step.Goals as goal

pub keep_literals-requires : goal.keep_literals-requires
keep_literals-requires c =
    let ns = c.take_integers.new.integers.items in
    let is : maybe_step (Some c.in-Some.numbers) ≡ step_of ns = search rules in
    keepable c.new.result ns c.in-Some.numbers c.in_ok-take_integers.ensures is c.in_ok-check_step.ensures.1
