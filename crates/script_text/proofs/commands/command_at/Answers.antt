use Rattle.std.proofs.Common.{◌∙◌, ap, sym, Some}
use Rattle.script_text.specs.Commands.{add}
use Rattle.script_text.specs.declared.commands.Keyword.TheVariants.{Push, Add, Pop, Solve}
use Rattle.script_text.proofs.CommandLists.{command-at}
use Rattle.script_text.proofs.commands.command_at.Goals as goal

pub returns-in-Push : goal.returns-in-Push
returns-in-Push c = command-at c.args.words.now c.args.clauses.now c.args.place Push Push c.requires.whole
    c.requires.within c.in-Push.is

pub returns-in-Add : goal.returns-in-Add
returns-in-Add c = command-at c.args.words.now c.args.clauses.now c.args.place Push Add c.requires.whole
    c.requires.within c.in-Add.is ∙ ap (λ clause. Some (add clause)) (sym c.get.ensures)

pub returns-in-Pop : goal.returns-in-Pop
returns-in-Pop c = command-at c.args.words.now c.args.clauses.now c.args.place Push Pop c.requires.whole
    c.requires.within c.in-Pop.is

pub returns-in-Solve : goal.returns-in-Solve
returns-in-Solve c = command-at c.args.words.now c.args.clauses.now c.args.place Push Solve c.requires.whole
    c.requires.within c.in-Solve.is
