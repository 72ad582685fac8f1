use Rattle.std.proofs.Common.{◌≡◌, ◌+◌, ◌-◌}
use Rattle.cert_text.specs.ItemLine.{step_lines}
use Rattle.cert_text.specs.Lines.{put_behind, read_from}
use Rattle.cert_text.specs.Variables.{is_variable}
use Rattle.cert_text.proofs.definition_reader.take_steps.Given as goal

-- what is to be read from here, behind what was read, is what is to be read in all
abbrev pub invariant-loop-k : goal.invariant-loop-k
invariant-loop-k l =
    put_behind l.fn.steps (read_from (step_lines (is_variable l.variables)) l.first l.count l.fn.lines)
    ≡ put_behind l.steps (read_from (step_lines (is_variable l.variables)) (l.first + l.k) (l.count - l.k) l.lines)
