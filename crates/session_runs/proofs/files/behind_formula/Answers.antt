use Rattle.std.proofs.Common.{ℕ, List, subst}
use Rattle.std.specs.Prelude.{IfOk}
use Rattle.dq_io.specs.State.{state_of}
use Rattle.session_runs.specs.ScriptFiles.{IsTextOutput}
use Rattle.session_runs.proofs.TwoFiles.{text-behind}
use Rattle.session_runs.proofs.files.behind_formula.Goals as goal

pub returns-in-Ok-clause-due : goal.returns-in-Ok-clause-due
returns-in-Ok-clause-due g c =
    let before = state_of g.F.Files c.args.files.now in
    let now = state_of g.F.Files c.read_text.new.files in
    text-behind before now c.args.f.now c.text_output.new.log c.args.script.now c.in-Ok.text.items c.text_output.result
    c.in-Ok.ensures.read.0 c.in-Ok.ensures.read.1 (c.in-Ok.ensures.unfaulted (λ none. none))
    (subst (λ (text : List ℕ). IfOk c.text_output.result (IsTextOutput c.args.f.now text c.text_output.new.log))
    c.deref.ensures.value c.text_output.ensures.due)
