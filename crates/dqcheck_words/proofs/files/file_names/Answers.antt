use Rattle.std.proofs.Common.{◌∙◌, map, string_bytes, Some, ap, sym}
use Rattle.clap.specs.Walk.{rows_of}
use Rattle.clap.specs.Matches.{found_of}
use Rattle.clap.specs.Simple.{app_of}
use Rattle.dqcheck_words.proofs.GivenNames.{parse_gives, refusal_gives}
use Rattle.dqcheck_words.proofs.Spelled.{command_is_spelled}
use Rattle.dqcheck_words.proofs.files.file_names.Goals as goal

pub names_in-requires : goal.names_in-requires
names_in-requires c =
    (parse_gives (app_of c.in_ok-command.command) (map string_bytes c.args.words.now)
    (rows_of (found_of c.in-Ok.matches))
    c.in_ok-command.ensures c.in-Ok.ensures.kinds c.in-Ok.ensures.matches).names

pub returns-in-Ok : goal.returns-in-Ok
returns-in-Ok c =
    sym (command_is_spelled (map string_bytes c.args.words.now))
    ∙ (parse_gives (app_of c.in_ok-command.command) (map string_bytes c.args.words.now)
    (rows_of (found_of c.in-Ok.matches))
    c.in_ok-command.ensures c.in-Ok.ensures.kinds c.in-Ok.ensures.matches).command ∙ ap Some c.names_in.ensures

pub returns : goal.returns
returns c = sym (command_is_spelled (map string_bytes c.args.words.now))
    ∙ refusal_gives (app_of c.in_ok-command.command) (map string_bytes c.args.words.now) c.in_ok-command.ensures
    (λ taken. c.in_default.not-OutOfMemory (c.kind.ensures ∙ c.in-Err.ensures.passes taken))
