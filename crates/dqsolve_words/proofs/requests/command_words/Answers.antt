use Rattle.std.proofs.Common.{◌∙◌, map, string_bytes}
use Rattle.clap.specs.Simple.{app_of, subcommand_rows_of}
use Rattle.clap.specs.Values.{kind_of}
use Rattle.clap.specs.declared.error.kind.ErrorKind.TheVariants.{OutOfMemory}
use Rattle.dqsolve_words.proofs.Matches.{parse_gives, refusal_gives}
use Rattle.dqsolve_words.proofs.Spelled.{command_is_spelled}
use Rattle.dqsolve_words.proofs.requests.command_words.Goals as goal

pub returns-in-Ok : goal.returns-in-Ok
returns-in-Ok c = c.command_in.ensures
    ∙ parse_gives (app_of c.in_ok-command.command) (map string_bytes c.args.words.now)
    (subcommand_rows_of c.in-Ok.matches)
    c.in_ok-command.ensures c.in-Ok.ensures.kinds c.in-Ok.ensures.matches
    ∙ command_is_spelled (map string_bytes c.args.words.now)

pub returns : goal.returns
returns c = refusal_gives (app_of c.in_ok-command.command) (map string_bytes c.args.words.now)
    (kind_of c.in-Err.error) OutOfMemory
    c.in_ok-command.ensures c.in-Err.ensures.kinds (λ same. c.in_default.not-OutOfMemory (c.kind.ensures ∙ same))
    ∙ command_is_spelled (map string_bytes c.args.words.now)
