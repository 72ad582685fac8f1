use Rattle.std.proofs.Common.{◌∙◌, ◌∷◌, ◌++◌, [], length, ap, sym, arith, length-append}
use Rattle.script_text.specs.Commands.{command_by}
use Rattle.script_text.proofs.CommandLists.{length-commands, more-commands}
use Rattle.script_text.proofs.commands.Script.push.Goals as goal

pub returns-clause-ok : goal.returns-clause-ok
returns-clause-ok c =
    more-commands c.self.inside.words.items c.append.new.words.items c.self.inside.clauses c.append.new.clauses
    c.args.word c.args.clause.now c.self.invariant c.in_ok-append.ensures.words c.in_ok-append.ensures.clauses
    ∙ ap (λ before. before ++ command_by c.args.word c.args.clause.now ∷ []) c.self.view_is

pub returns-clause-many : goal.returns-clause-many
returns-clause-many c =
    omega (
      arith,
      c.len.ensures,
      c.append.new.words.ok.0,
      ap length c.in_ok-append.ensures.words ∙ length-append c.self.inside.words.items (c.args.word ∷ []),
      sym (length-commands c.self.inside.words.items c.self.inside.clauses c.self.invariant) ∙ ap length c.self.view_is,
    )
