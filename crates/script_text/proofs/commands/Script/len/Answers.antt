use Rattle.std.proofs.Common.{◌∙◌, length, ap, sym, arith}
use Rattle.script_text.proofs.CommandLists.{length-commands}
use Rattle.script_text.proofs.commands.Script.len.Goals as goal

pub returns : goal.returns
returns c = omega (
  arith,
  c.len.ensures,
  c.self.inside.words.ok.0,
  sym (length-commands c.self.inside.words.items c.self.inside.clauses c.self.invariant) ∙ ap length c.self.view_is,
)
