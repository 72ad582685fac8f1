use Rattle.std.proofs.Common.{IfSome, subst}
use Rattle.gate_definitions.specs.Stating.{IsChoice}
use Rattle.gate_definitions.proofs.forms.find_choice_gate.Goals as goal

pub returns-in-Some : goal.returns-in-Some
returns-in-Some c = λ e known. subst (λ found. IfSome found (IsChoice c.args.output.now.f.now
    c.args.output.now.ranks.now e)) c.in-Some.is (c.in_ok-choice.ensures e known)
