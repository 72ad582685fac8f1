-- How a command line is spelled. Words are texts in UTF-8: where one isn't, the program can't take
-- it, and says how it is used.
use Rattle.std.specs.Prelude.{ℕ, ◌==◌, ◌&&◌, Bool, false, List, [], ◌∷◌, Option, None, Some, is_some, slice_get, option_map, option_and_then, if◌then◌else◌}
use Rattle.std.specs.Str.{bytes_eq, chars}
use Rattle.dqcheck_words.specs.Command.{Command}

-- the word is a minus (45) with a character behind it
abbrev pub is_option : List ℕ → Bool
is_option [] = false
is_option (first ∷ rest) = first == 45 && is_some (slice_get (chars rest) 0)

-- the word is `--`, which says that what follows are names
abbrev pub is_separator : List ℕ → Bool
is_separator word = bytes_eq word (45 ∷ 45 ∷ [])

-- the names among the words: an option is refused, but behind `--` each word is a name
abbrev pub names_among : List (List ℕ) → Option (List (List ℕ))
names_among [] = Some []
names_among (word ∷ words) = if is_separator word then Some words
    else (if is_option word then None else option_map (λ names. word ∷ names) (names_among words))

-- two names, the formula's first
abbrev pub command_named : List (List ℕ) → Option Command
command_named (formula ∷ certificate ∷ []) =
    Some (record { formula = formula; certificate = certificate })
command_named _ = None

-- what the words ask for, of which the first is the program's own name; what callers need of it
-- stands in the laws, so it doesn't unfold in their proofs
unfoldable pub spelled_command : List (List ℕ) → Option Command
spelled_command [] = None
spelled_command (_ ∷ words) = option_and_then command_named (names_among words)
