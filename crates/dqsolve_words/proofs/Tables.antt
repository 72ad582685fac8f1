-- A subcommand's arguments, as clap has them, and how it is used.
use Rattle.std.proofs.Common.{◌≡◌, ◌∙◌, ◌+◌, ◌&&◌, ℕ, true, false, refl, sym, min, List, [], ◌∷◌, Some, None, codes}
use Rattle.std.specs.Str.{bytes_eq}
use Rattle.clap.specs.Lexer.{long_of, usize_max}
use Rattle.clap.specs.Kinds.{Kinds, or_else}
use Rattle.clap.specs.declared.error.kind.ErrorKind.{ErrorKind}
use Rattle.clap.specs.Simple.{Shape, filled, new_shape, with_index}
use Rattle.clap.specs.Walk.{Rule, Text, arg_by_id, arg_by_index, arg_by_long, arg_by_short}
use Rattle.dqsolve_words.specs.Parsed.{flag, required_word, value_option, without_flags}
use Rattle.dqsolve_words.specs.Spelling.{Usage, is_flag}

-- a subcommand with these arguments, as clap builds it
abbrev pub leaf : Text → List Rule → Shape
leaf name rules = record (without_flags (new_shape name)) {
  rules = rules;
  disable_help_subcommand = true;
  is_built = true;
}

abbrev pub steps_rule : Rule
steps_rule = filled (value_option (codes "steps"))

abbrev pub flag_rule : Text → Rule
flag_rule f = filled (flag f)

abbrev pub place_rule : ℕ → Text → Rule
place_rule position id = with_index position (filled (required_word id))

-- from this position on, the arguments are these places
abbrev pub ArePlaces : List Rule → ℕ → List Text → Type 0
ArePlaces rules position [] = arg_by_index rules position ≡ None
ArePlaces rules position (id ∷ left) = (arg_by_index rules position ≡ Some (place_rule position id))
    × (arg_by_id rules id ≡ Some (place_rule position id))
    × ArePlaces rules (min (position + 1) usize_max) left

pub record IsTable (u : Usage) (rules : List Rule) : Type 0 where
  pub places : ArePlaces rules 1 u.places
  pub steps_long : u.steps ≡ true → arg_by_long rules (codes "steps") ≡ Some steps_rule
  pub steps_id : u.steps ≡ true → arg_by_id rules (codes "steps") ≡ Some steps_rule
  pub flag_long : (f : Text) → is_flag u f ≡ true → arg_by_long rules f ≡ Some (flag_rule f)
  pub flag_word : (f : Text) → is_flag u f ≡ true → long_of (45 ∷ 45 ∷ f) ≡ Some (f, None)
  pub other_long : (f : Text) → (u.steps && bytes_eq (codes "steps") f) ≡ false → is_flag u f ≡ false →
      arg_by_long rules f ≡ None
  pub no_short : (x : ℕ) → arg_by_short rules x ≡ None

-- something failed
abbrev pub Fails : Kinds → Type 0
Fails kinds = kinds ≡ [] → ⊥

pub fails_first : (a b : Kinds) → Fails a → Fails (or_else a b)
fails_first [] b bad = absurd (bad refl)
fails_first (k ∷ ks) b bad = λ none. cc

pub fails_as : (a b : Kinds) → a ≡ b → Fails b → Fails a
fails_as a b same bad = λ none. bad (sym same ∙ none)

pub one_fails : (k : ErrorKind) (ks : Kinds) → Fails (k ∷ ks)
one_fails k ks = λ none. cc
