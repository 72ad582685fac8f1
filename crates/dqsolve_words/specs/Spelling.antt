-- How a command line is spelled: a subcommand's name, and behind it options and names in any order.
-- Words are texts in UTF-8: where one isn't, the program can't take it, and says how it is used.
use Rattle.std.specs.Prelude.{ℕ, ◌==◌, ◌&&◌, Bool, true, false, List, [], ◌∷◌, Option, None, Some, codes, drop, take, is_some, slice_get, find, option_and_then, option_map, if◌then◌else◌}
use Rattle.std.specs.List.{list_any}
use Rattle.std.specs.Str.{bytes_eq, chars}
use Rattle.dqsolve_words.specs.Command.{Command, Given, asked_of}

-- how a subcommand is used
pub record Usage : Type 0 where
  -- whether it takes `--steps`
  pub steps : Bool
  -- its flags, without the minuses
  pub flags : List (List ℕ)
  -- what its names are
  pub places : List (List ℕ)

abbrev pub usage : Bool → List (List ℕ) → List (List ℕ) → Usage
usage steps flags places = record { steps = steps; flags = flags; places = places }

abbrev pub solve_flags : List (List ℕ)
solve_flags = codes "bare" ∷ codes "v2" ∷ codes "prep" ∷ codes "binary" ∷ []

-- the subcommands
abbrev pub usages : List (List ℕ × Usage)
usages =
    (codes "solve", usage true solve_flags (codes "FILE" ∷ []))
    ∷ (codes "demo", usage false [] (codes "SEED" ∷ codes "SIZE" ∷ []))
    ∷ (codes "pec", usage true [] (codes "SPEC" ∷ codes "IMPL" ∷ []))
    ∷ (codes "encode", usage false [] (codes "SPEC" ∷ codes "IMPL" ∷ []))
    ∷ (codes "defined", usage true [] (codes "FILE" ∷ []))
    ∷ (codes "session", usage true [] (codes "FILE" ∷ codes "SCRIPT" ∷ []))
    ∷ []

abbrev pub usage_of : List ℕ → Option Usage
usage_of name = option_map (λ known. known.1) (find (λ known. bytes_eq known.0 name) usages)

abbrev pub is_flag : Usage → List ℕ → Bool
is_flag u flag = list_any (λ known. bytes_eq known flag) u.flags

-- the word is a minus (45) with a character behind it
abbrev pub is_option : List ℕ → Bool
is_option [] = false
is_option (first ∷ rest) = first == 45 && is_some (slice_get (chars rest) 0)

-- where the next word stands
pub data Place : Type 0 where
  among : Place
  -- behind `--steps`, which is a word of its own
  behind_steps : Place
  -- behind `--`
  behind_separator : Place

-- what the words so far give, and the places that no name was given to
pub record Reading : Type 0 where
  pub place : Place
  pub given : Given
  pub left : List (List ℕ)

-- a value of an option or a place, each of which is given once at most
abbrev pub with_value : List ℕ → List ℕ → Reading → Option Reading
with_value id value r = if is_some (r.given id) then None else Some (record r {
  given = λ other. if bytes_eq id other then Some value else r.given other;
})

-- a name in the first place that is left
abbrev pub with_name : List (List ℕ) → List ℕ → Reading → Option Reading
with_name [] name r = None
with_name (place ∷ left) name r = with_value place name (record r { left = left })

-- a word among options and names: `--`, an option that the subcommand takes, or a name; a flag is
-- given as `true`
abbrev pub read_among : Usage → List ℕ → Reading → Option Reading
read_among u word r =
    if bytes_eq word (codes "--") then Some (record r { place = behind_separator }) else
    if u.steps && bytes_eq word (codes "--steps") then Some (record r { place = behind_steps }) else
    if u.steps && bytes_eq (take 8 word) (codes "--steps=")
    then with_value (codes "steps") (drop 8 word) r else
    if bytes_eq (take 2 word) (codes "--") && is_flag u (drop 2 word)
    then with_value (drop 2 word) (codes "true") r else
    if is_option word then None else with_name r.left word r

-- behind `--steps` stands its value, which is no option, and behind `--` each word is a name
abbrev pub read_word : Usage → Place → List ℕ → Reading → Option Reading
read_word u among word r = read_among u word r
read_word u behind_steps word r =
    if is_option word then None
    else with_value (codes "steps") word (record r { place = among })
read_word u behind_separator word r = with_name r.left word r

-- what is given where the words end
abbrev pub given_at : Place → Given → Option Given
given_at behind_steps given = None
given_at _ given = Some given

unfoldable pub read_words : Usage → Reading → List (List ℕ) → Option Given
read_words u r [] = given_at r.place r.given
read_words u r (word ∷ words) =
    option_and_then (λ next. read_words u next words) (read_word u r.place word r)

-- what the words behind a subcommand's name give to its options and places
abbrev pub given_by : Usage → List (List ℕ) → Option Given
given_by u words = read_words u
    (record { place = among; given = λ _. None; left = u.places }) words

-- what the words ask for, of which the first is the program's own name; callers take it as it is,
-- so it doesn't unfold in their proofs
unfoldable pub spelled_command : List (List ℕ) → Option Command
spelled_command (_ ∷ name ∷ words) = option_and_then
    (λ usage. option_and_then (asked_of name) (given_by usage words)) (usage_of name)
spelled_command _ = None
