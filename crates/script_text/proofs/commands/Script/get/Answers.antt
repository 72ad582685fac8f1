use Rattle.std.proofs.Common.{◌∙◌, length, ap, sym, arith}
use Rattle.script_text.proofs.CommandLists.{length-commands}
use Rattle.script_text.proofs.commands.Script.get.Goals as goal

pub command_at-requires-clause-within : goal.command_at-requires-clause-within
command_at-requires-clause-within c =
    omega (
      arith,
      c.requires,
      ap length c.deref.ensures.value,
      sym (length-commands c.self.inside.words.items c.self.inside.clauses c.self.invariant) ∙ ap length c.self.view_is,
    )
