-- From clap's matches to the command.
use Rattle.std.proofs.Common.{◌≡◌, ◌∙◌, ◌⊎◌, inl, inr, ℕ, true, false, refl, sym, ap, List, [], ◌∷◌, Option, Some, None, option_map, codes}
use Rattle.std.specs.Option.{option_map_or, option_and_then}
use Rattle.std.specs.Str.{bytes_eq}
use Rattle.clap.specs.Faults.{fault_of, is_simple_and_free}
use Rattle.clap.specs.Kinds.{Kinds, IsAmong}
use Rattle.clap.specs.Matches.{first_value}
use Rattle.clap.specs.Simple.{App, is_simple, subcommand_of}
use Rattle.clap.specs.Walk.{Row, Text, first_of, rows_of}
use Rattle.clap.specs.declared.parser.matches.Found.{Found}
use Rattle.clap.specs.declared.error.kind.ErrorKind.{ErrorKind}
use Rattle.clap.proofs.WalkLemmas.{first_value-rows}
use Rattle.dqsolve_words.specs.Command.{Options, Search, Circuits, Comparison, Defining, Session, Command, solve_in, circuits_in, defined_in, session_in, steps_in, number_in, has_flag, options_in, least_steps, most_steps, default_steps}
use Rattle.dqsolve_words.specs.Parsed.{command_of, command_in, given_in, without_fault, solver_app}

-- what a getter finds is the first value in the rows
pub value_found : (f : Found) (id : Text) (value : Option Text) → value ≡ first_value f id →
    value ≡ first_of id (rows_of f)
value_found f id value is = is ∙ first_value-rows f id

pub steps_found : (f : Found) (value : Option Text) → value ≡ first_value f (codes "steps") →
    option_map_or (number_in least_steps most_steps) value (Some default_steps) ≡ steps_in (given_in (rows_of f))
steps_found f value is = ap (λ o. option_map_or (number_in least_steps most_steps) o (Some default_steps))
    (value_found f (codes "steps") value is)

pub flag_found : (f : Found) (id : Text) (value : Option Text) → value ≡ first_value f id →
    option_map_or (λ v. bytes_eq v (codes "true")) value false ≡ has_flag id (given_in (rows_of f))
flag_found f id value is = ap (λ o. option_map_or (λ v. bytes_eq v (codes "true")) o false) (value_found f id value is)

abbrev pub comparison : ℕ → Circuits → Comparison
comparison steps circuits = record { steps = steps; circuits = circuits }

abbrev pub search : ℕ → Options → Text → Search
search steps options file = record { steps = steps; options = options; file = file }

pub number_found : (f : Found) (id : Text) (least most : ℕ) (value : Option Text) → value ≡ first_value f id
    → option_and_then (number_in least most) value ≡ option_and_then (number_in least most) (first_of id (rows_of f))
number_found f id least most value is = ap (option_and_then (number_in least most)) (value_found f id value is)

pub solve_found : (f : Found) (file : Option Text) (steps : Option ℕ) (options : Options) →
    file ≡ first_value f (codes "FILE") → steps ≡ steps_in (given_in (rows_of f))
    → options ≡ options_in (given_in (rows_of f))
    → option_and_then (λ (name : Text). option_map (λ (n : ℕ). search n options name) steps) file ≡ solve_in (given_in (rows_of f))
solve_found f file steps options is_file is_steps is_options =
    ap (λ (a : Option Text). option_and_then (λ (name : Text). option_map (λ (n : ℕ). search n options name) steps) a)
    (value_found f (codes "FILE") file is_file)
    ∙ ap (λ (b : Option ℕ). option_and_then (λ (name : Text). option_map (λ (n : ℕ). search n options name) b)
    (first_of (codes "FILE") (rows_of f))) is_steps
    ∙ ap (λ (c : Options). option_and_then (λ (name : Text). option_map (λ (n : ℕ). search n c name)
    (steps_in (given_in (rows_of f)))) (first_of (codes "FILE") (rows_of f))) is_options

abbrev pub defining : ℕ → Text → Defining
defining steps file = record { steps = steps; file = file }

pub defined_found : (f : Found) (file : Option Text) (steps : Option ℕ) → file ≡ first_value f (codes "FILE") →
    steps ≡ steps_in (given_in (rows_of f))
    → option_and_then (λ (name : Text). option_map (λ (n : ℕ). defining n name) steps) file ≡ defined_in (given_in (rows_of f))
defined_found f file steps is_file is_steps =
    ap (λ (a : Option Text). option_and_then (λ (name : Text). option_map (λ (n : ℕ). defining n name) steps) a)
    (value_found f (codes "FILE") file is_file)
    ∙ ap (λ (b : Option ℕ). option_and_then (λ (name : Text). option_map (λ (n : ℕ). defining n name) b)
    (first_of (codes "FILE") (rows_of f))) is_steps

abbrev pub conversing : ℕ → Text → Text → Session
conversing steps file script = record { steps = steps; file = file; script = script }

-- a session's names behind its formula's
abbrev behind_file : Option Text → Option ℕ → Text → Option Session
behind_file script steps file =
    option_and_then (λ (s : Text). option_map (λ (n : ℕ). conversing n file s) steps) script

pub session_found : (f : Found) (file script : Option Text) (steps : Option ℕ) → file ≡ first_value f (codes "FILE") →
    script ≡ first_value f (codes "SCRIPT") → steps ≡ steps_in (given_in (rows_of f))
    → option_and_then (behind_file script steps) file ≡ session_in (given_in (rows_of f))
session_found f file script steps is_file is_script is_steps =
    ap (λ (a : Option Text). option_and_then (behind_file script steps) a)
    (value_found f (codes "FILE") file is_file)
    ∙ ap (λ (b : Option Text). option_and_then (behind_file b steps) (first_of (codes "FILE") (rows_of f)))
    (value_found f (codes "SCRIPT") script is_script)
    ∙ ap (λ (n : Option ℕ). option_and_then (behind_file (first_of (codes "SCRIPT") (rows_of f)) n)
    (first_of (codes "FILE") (rows_of f))) is_steps

abbrev pub pair : Text → Text → Circuits
pair spec imp = record { specification = spec; implementation = imp }

pub circuits_found : (f : Found) (spec imp : Option Text) → spec ≡ first_value f (codes "SPEC") →
    imp ≡ first_value f (codes "IMPL")
    → option_and_then (λ (s : Text). option_map (λ (i : Text). pair s i) imp) spec ≡ circuits_in (given_in (rows_of f))
circuits_found f spec imp is_spec is_imp =
    ap (λ (a : Option Text). option_and_then (λ (s : Text). option_map (λ (i : Text). pair s i) imp) a)
    (value_found f (codes "SPEC") spec is_spec)
    ∙ ap (λ (b : Option Text). option_and_then (λ (s : Text). option_map (λ (i : Text). pair s i) b)
    (first_of (codes "SPEC") (rows_of f)))
    (value_found f (codes "IMPL") imp is_imp)

-- what a parse without fault gives
pub parse_gives : (a : App) (words : List Text) (sub : Option (Text × List Row)) → a ≡ solver_app →
    (is_simple_and_free a ≡ true → fault_of a words ≡ [])
    → {X : Type 0} → (is_simple a ≡ true → X × (sub ≡ subcommand_of a words)) → command_in sub ≡ command_of words
unfolding command_of
parse_gives a words sub is fault matches =
    let none : fault_of solver_app words ≡ [] = ap (λ b. fault_of b words) (sym is) ∙ fault
    (ap is_simple_and_free is) in
    let same : sub ≡ subcommand_of solver_app words = (matches (ap is_simple is)).1 ∙ ap
    (λ b. subcommand_of b words) is in
    ap command_in same ∙ sym (ap (λ k. without_fault k (command_in (subcommand_of solver_app words))) none)

refused_by : (kinds : Kinds) (k : ErrorKind) (given : Option Command) → IsAmong k kinds →
    without_fault kinds given ≡ None
refused_by [] k given among = absurd among
refused_by (x ∷ xs) k given among = refl

-- what a refusal says
pub refusal_gives : (a : App) (words : List Text) (k other : ErrorKind) → a ≡ solver_app →
    (is_simple_and_free a ≡ true → (k ≡ other) ⊎ IsAmong k (fault_of a words))
    → (k ≡ other → ⊥) → None ≡ command_of words
unfolding command_of
refusal_gives a words k other is fails not_other = go (fails (ap is_simple_and_free is))
  where
    go : (k ≡ other) ⊎ IsAmong k (fault_of a words) → None ≡ command_of words
    go (inl same) = absurd (not_other same)
    go (inr among) = sym (ap (λ b. without_fault (fault_of b words) (command_in (subcommand_of solver_app words)))
        (sym is) ∙ refused_by (fault_of a words) k (command_in (subcommand_of solver_app words)) among)
