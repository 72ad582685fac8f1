-- A command with more subcommands.
use Rattle.std.proofs.Common.{◌≡◌, Result, Ok, Err, arith}
use Rattle.std.specs.Prelude.{IfOk}
use Rattle.clap.specs.Simple.{App, Shape, app_of, with_subcommand}
use Rattle.clap.specs.declared.builder.command.Command.{Command}

-- two of them, to an app that is known
pub two_added : {E : Type 0} (before : App) (first second : Shape) (old one : Command) (r : Result Command E) →
    app_of old ≡ before → app_of one ≡ with_subcommand (app_of old) first →
    IfOk r (λ new. app_of new ≡ with_subcommand (app_of one) second) →
    IfOk r (λ new. app_of new ≡ with_subcommand (with_subcommand before first) second)
two_added before first second old one (Ok new) is added more = search arith
two_added before first second old one (Err _) is added more = tt
