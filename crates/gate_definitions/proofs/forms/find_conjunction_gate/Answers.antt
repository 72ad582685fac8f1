use Rattle.std.proofs.Common.{IfSome, subst}
use Rattle.gate_definitions.specs.Stating.{IsConjunction}
use Rattle.gate_definitions.proofs.forms.find_conjunction_gate.Goals as goal

pub returns-in-Some : goal.returns-in-Some
returns-in-Some c = λ e known. (
  c.requires.on_existential,
  subst (λ found. IfSome found
      (λ cube. IsConjunction c.args.output.now.f.now c.args.output.now.ranks.now e c.args.l cube.items)) c.in-Some.is
      (c.in_ok-cube.ensures e known),
)
