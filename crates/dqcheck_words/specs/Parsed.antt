-- What the words of a command line ask for, by clap's own meaning of a command with two arguments.
-- The first word is the program's own name.
use Rattle.std.specs.Prelude.{◌≡◌, ℕ, true, is_some, List, [], Option, None, Some, codes, unwrap_or, if◌then◌else◌}
use Rattle.clap.specs.Walk.{Row, Rule, first_of}
use Rattle.clap.specs.Simple.{App, matches_of, new_app, new_rule, on_top, with_rule}
use Rattle.clap.specs.Takes.{takes}
use Rattle.clap.specs.declared.builder.action.ArgAction.TheVariants.{Set}
use Rattle.dqcheck_words.specs.Command.{Command}

-- an argument that is known by its place, has to be there, and is given once
abbrev pub required_file : List ℕ → Rule
required_file id = record (new_rule id) { required = true; action = Some Set }

-- a command of this name without flags, not even `--help` and `--version`
abbrev pub flagless : List ℕ → App
flagless name =
    on_top (λ top. record top { disable_help_flag = true; disable_version_flag = true })
    (new_app name)

-- dqcheck FORMULA CERT
abbrev pub checker_app : App
checker_app =
    with_rule (with_rule (flagless (codes "dqcheck")) (required_file (codes "FORMULA")))
    (required_file (codes "CERT"))

-- what an argument was given
abbrev pub given_to : List ℕ → List Row → List ℕ
given_to id rows = unwrap_or (first_of id rows) []

abbrev pub named_by : List Row → Command
named_by rows =
    record { formula = given_to (codes "FORMULA") rows; certificate = given_to (codes "CERT") rows }

-- both arguments were given a name
abbrev pub HasNames : List Row → Type 0
HasNames rows =
    (is_some (first_of (codes "FORMULA") rows) ≡ true)
    × (is_some (first_of (codes "CERT") rows) ≡ true)

-- the names that the words give, where the command takes them
unfoldable pub command_of : List (List ℕ) → Option Command
command_of words =
    if takes checker_app words then Some (named_by (matches_of checker_app words)) else None
