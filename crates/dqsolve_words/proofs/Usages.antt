-- The arguments of each subcommand, as its usage says.
use Rattle.std.proofs.Common.{◌≡◌, ◌∙◌, ◌||◌, cond, true, false, refl, ap, List, [], ◌∷◌, ◌++◌, map, Some, None, codes, arith}
use Rattle.std.specs.List.{list_any}
use Rattle.std.specs.Str.{bytes_eq}
use Rattle.std.proofs.lemmas.Slice.Eq.{bytes_eq-Decides}
use Rattle.clap.specs.Lexer.{long_of}
use Rattle.clap.specs.Simple.{filled_from}
use Rattle.clap.specs.Walk.{Rule, Text, arg_by_long}
use Rattle.dqsolve_words.specs.Parsed.{solve_shape, demo_shape, pec_shape, encode_shape, defined_shape, session_shape}
use Rattle.dqsolve_words.specs.Spelling.{Usage, usage}
use Rattle.dqsolve_words.proofs.Tables.{IsTable, flag_rule, place_rule, steps_rule}

abbrev pub Each : (Text → Type 0) → List Text → Type 0
Each P [] = Unit {0}
Each P (x ∷ xs) = P x × Each P xs

each_known : (P : Text → Type 0) (flags : List Text) → Each P flags → (f : Text) →
    list_any (λ known. bytes_eq known f) flags ≡ true → P f
each_known P [] all f known = cc
each_known P (x ∷ xs) all f known = search (arith, (each_known P xs all.1 f), bytes_eq-Decides)

flags_missing : (flags : List Text) (rest : List Rule) (f : Text) → list_any (λ known. bytes_eq known f) flags ≡ false →
    arg_by_long (map flag_rule flags ++ rest) f ≡ arg_by_long rest f
flags_missing [] rest f missing = refl
flags_missing (x ∷ xs) rest f missing = search (arith, (flags_missing xs rest f))

steps_missing : (rest : List Rule) (f : Text) → bytes_eq (codes "steps") f ≡ false →
    arg_by_long (steps_rule ∷ rest) f ≡ arg_by_long rest f
steps_missing rest f missing = ap (λ b. cond (b || false) (Some steps_rule) (arg_by_long rest f)) missing

abbrev pub solve_usage : Usage
solve_usage = usage true (codes "bare" ∷ codes "v2" ∷ codes "prep" ∷ codes "binary" ∷ []) (codes "FILE" ∷ [])

abbrev pub solve_rules : List Rule
solve_rules = filled_from 1 solve_shape.rules

pub solve_table : IsTable solve_usage solve_rules
solve_table = record {
  places = (refl, refl, refl);
  steps_long = λ takes. refl;
  steps_id = λ takes. refl;
  flag_long = each_known (λ f. arg_by_long solve_rules f ≡ Some (flag_rule f)) solve_usage.flags
      (refl, (refl, (refl, (refl, tt))));
  flag_word = each_known (λ f. long_of (45 ∷ 45 ∷ f) ≡ Some (f, None)) solve_usage.flags
      (refl, (refl, (refl, (refl, tt))));
  other_long = λ f not_steps not_flag.
      steps_missing (map flag_rule solve_usage.flags ++ place_rule 1 (codes "FILE") ∷ []) f not_steps
      ∙ flags_missing solve_usage.flags (place_rule 1 (codes "FILE") ∷ []) f not_flag;
  no_short = λ x. refl;
}

no_flags : (P : Text → Type 0) (f : Text) → false ≡ true → P f
no_flags P f known = cc

abbrev pub demo_usage : Usage
demo_usage = usage false [] (codes "SEED" ∷ codes "SIZE" ∷ [])

abbrev pub demo_rules : List Rule
demo_rules = filled_from 1 demo_shape.rules

pub demo_table : IsTable demo_usage demo_rules
demo_table = search (arith, codes, no_flags)

abbrev pub pec_usage : Usage
pec_usage = usage true [] (codes "SPEC" ∷ codes "IMPL" ∷ [])

abbrev pub pec_rules : List Rule
pec_rules = filled_from 1 pec_shape.rules

pub pec_table : IsTable pec_usage pec_rules
pec_table = search (arith, no_flags, codes)

abbrev pub encode_usage : Usage
encode_usage = usage false [] (codes "SPEC" ∷ codes "IMPL" ∷ [])

abbrev pub encode_rules : List Rule
encode_rules = filled_from 1 encode_shape.rules

pub encode_table : IsTable encode_usage encode_rules
encode_table = search (arith, codes, no_flags)

abbrev pub defined_usage : Usage
defined_usage = usage true [] (codes "FILE" ∷ [])

abbrev pub defined_rules : List Rule
defined_rules = filled_from 1 defined_shape.rules

pub defined_table : IsTable defined_usage defined_rules
defined_table = search (arith, no_flags, codes)

abbrev pub session_usage : Usage
session_usage = usage true [] (codes "FILE" ∷ codes "SCRIPT" ∷ [])

abbrev pub session_rules : List Rule
session_rules = filled_from 1 session_shape.rules

pub session_table : IsTable session_usage session_rules
session_table = search (arith, no_flags, codes)
