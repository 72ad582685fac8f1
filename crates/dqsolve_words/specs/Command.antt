-- What can be asked of the solver, and what is asked where options and places are given these texts.
use Rattle.std.specs.Prelude.{ℕ, ◌≤◌, ◌&&◌, nat_le, nat_lt, length, Bool, false, List, Option, None, Some, codes, option_map, option_and_then, if◌then◌else◌}
use Rattle.std.specs.Char.{digit_value}
use Rattle.std.specs.List.{list_all}
use Rattle.std.specs.Option.{option_map_or}
use Rattle.std.specs.Str.{bytes_eq}
use Rattle.std.specs.Str.Parse.{digits_value, without_leading_plus}

-- how a verdict is found and written
pub record Options : Type 0 where
  -- without the line that names it
  pub bare : Bool
  -- with a deletion behind the last line that hints a derived clause
  pub deletes : Bool
  -- by a search on what is left of the formula where units were taken
  pub prepares : Bool
  -- a circuit in AIGER's binary form
  pub binary : Bool

-- a search with so many steps at most, how its verdict is written, and the name of the formula's
-- file
pub record Search : Type 0 where
  pub steps : ℕ
  pub options : Options
  pub file : List ℕ

-- the formula that is planted by a seed, in a size
pub record Planting : Type 0 where
  pub seed : ℕ
  pub size : ℕ

-- the names of the files of a specification, and of an implementation with black boxes
pub record Circuits : Type 0 where
  pub specification : List ℕ
  pub implementation : List ℕ

-- a search for functions that fill the boxes, with so many steps at most
pub record Comparison : Type 0 where
  pub steps : ℕ
  pub circuits : Circuits

-- a search for the definitions of the existentials of the formula in a file, with so many steps at
-- most
pub record Defining : Type 0 where
  pub steps : ℕ
  pub file : List ℕ

-- searches over the formula in a file, to which a script adds clauses that it takes away again, with
-- so many steps at most in all
pub record Session : Type 0 where
  pub steps : ℕ
  pub file : List ℕ
  pub script : List ℕ

pub data Command : Type 0 where
  -- a search on the formula in a file
  solve : Search → Command
  -- a search on a planted formula
  demo : Planting → Command
  -- a search for functions of black boxes
  pec : Comparison → Command
  -- the formula of such a search
  encode : Circuits → Command
  -- the definitions of a formula's existentials
  defined : Defining → Command
  -- a script's searches over a formula
  session : Session → Command

abbrev pub least_steps : ℕ
least_steps = 1

abbrev pub most_steps : ℕ
most_steps = 1000000000

abbrev pub default_steps : ℕ
default_steps = 1000000

abbrev pub most_seed : ℕ
most_seed = 2147483647

abbrev pub least_size : ℕ
least_size = 1

abbrev pub most_size : ℕ
most_size = 10000

abbrev pub IsInRange : Command → Type 0
IsInRange (solve s) = (least_steps ≤ s.steps) × (s.steps ≤ most_steps)
IsInRange (demo p) = (p.seed ≤ most_seed) × (least_size ≤ p.size) × (p.size ≤ most_size)
IsInRange (pec c) = (least_steps ≤ c.steps) × (c.steps ≤ most_steps)
IsInRange (encode c) = Unit {0}
IsInRange (defined d) = (least_steps ≤ d.steps) × (d.steps ≤ most_steps)
IsInRange (session s) = (least_steps ≤ s.steps) × (s.steps ≤ most_steps)

-- decimal digits, one at least
abbrev pub is_numeral : List ℕ → Bool
is_numeral text = nat_lt 0 (length text) && list_all (λ c. nat_lt (digit_value c) 10) text

-- a number in a range, in decimal digits, perhaps behind a plus
abbrev pub number_in : ℕ → ℕ → List ℕ → Option ℕ
number_in least most text =
    let digits = without_leading_plus text in
    let n = digits_value 10 digits in
    if is_numeral digits && (nat_le least n && nat_le n most) then Some n else None

-- what is given to options and places, by their names
abbrev pub Given : Type 0
Given = List ℕ → Option (List ℕ)

-- how many steps are asked for
abbrev pub steps_in : Given → Option ℕ
steps_in given =
    option_map_or (number_in least_steps most_steps) (given (codes "steps"))
    (Some default_steps)

-- whether a flag is given
abbrev pub has_flag : List ℕ → Given → Bool
has_flag id given = option_map_or (λ value. bytes_eq value (codes "true")) (given id) false

-- the flags that are given
abbrev pub options_in : Given → Options
options_in given =
    record {
      bare = has_flag (codes "bare") given;
      deletes = has_flag (codes "v2") given;
      prepares = has_flag (codes "prep") given;
      binary = has_flag (codes "binary") given;
    }

-- what is asked of `solve`
abbrev pub solve_in : Given → Option Search
solve_in given = option_and_then
    (λ file.
    option_map
    (λ steps. record { steps = steps; options = options_in given; file = file })
    (steps_in given))
    (given (codes "FILE"))

-- what is asked of `demo`
abbrev pub demo_in : Given → Option Planting
demo_in given = option_and_then
    (λ seed.
    option_map (λ size. record { seed = seed; size = size })
    (option_and_then (number_in least_size most_size) (given (codes "SIZE"))))
    (option_and_then (number_in 0 most_seed) (given (codes "SEED")))

-- the files that are named
abbrev pub circuits_in : Given → Option Circuits
circuits_in given = option_and_then
    (λ spec.
    option_map (λ imp. record { specification = spec; implementation = imp })
    (given (codes "IMPL")))
    (given (codes "SPEC"))

-- what is asked of `pec`
abbrev pub pec_in : Given → Option Comparison
pec_in given = option_and_then
    (λ circuits. option_map (λ steps. record { steps = steps; circuits = circuits }) (steps_in given))
    (circuits_in given)

-- what is asked of `defined`
abbrev pub defined_in : Given → Option Defining
defined_in given = option_and_then
    (λ file. option_map (λ steps. record { steps = steps; file = file }) (steps_in given))
    (given (codes "FILE"))

-- what is asked of `session`
abbrev pub session_in : Given → Option Session
session_in given = option_and_then
    (λ file. option_and_then
    (λ script.
    option_map (λ steps. record { steps = steps; file = file; script = script })
    (steps_in given))
    (given (codes "SCRIPT")))
    (given (codes "FILE"))

-- what is asked of the subcommand of a name
abbrev pub asked_of : List ℕ → Given → Option Command
asked_of name given =
    if bytes_eq name (codes "demo") then option_map demo (demo_in given) else
    if bytes_eq name (codes "pec") then option_map pec (pec_in given) else
    if bytes_eq name (codes "encode") then option_map encode (circuits_in given) else
    if bytes_eq name (codes "defined") then option_map defined (defined_in given) else
    if bytes_eq name (codes "session") then option_map session (session_in given)
    else option_map solve (solve_in given)
