-- From clap's matches to the two names.
use Rattle.std.proofs.Common.{◌≡◌, ◌∙◌, Bool, true, false, refl, sym, ap, true≢false, List, [], Option, Some, None, is_some, option_map, codes}
use Rattle.std.specs.Option.{unwrap_or}
use Rattle.std.specs.Borrow.{Bor}
use Rattle.clap.specs.Matches.{first_value}
use Rattle.clap.specs.Walk.{Row, Text, first_of, rows_of}
use Rattle.clap.specs.Simple.{App, is_simple, matches_of}
use Rattle.clap.specs.Faults.{fault_of, is_simple_and_free}
use Rattle.clap.specs.Takes.{takes}
use Rattle.clap.specs.declared.parser.matches.Found.{Found}
use Rattle.clap.proofs.WalkLemmas.{first_value-rows}
use Rattle.dqcheck_words.specs.Parsed.{HasNames, checker_app, command_of, given_to, named_by}
use Rattle.dqcheck_words.proofs.Spelled.{AreNames, names_without_fault, rows_of_names}

-- where an argument was given a name, the getter finds one
pub name_there : (answer : Option (Bor Text)) (f : Found) (id : Text) →
    option_map (λ s. s.now) answer ≡ first_value f id
    → is_some (first_of id (rows_of f)) ≡ true → answer ≡ None → ⊥
name_there answer f id reads has none =
    true≢false (sym has ∙ ap is_some (sym (reads ∙ first_value-rows f id)) ∙ ap
    (λ o. is_some (option_map (λ (s : Bor Text). s.now) o)) none)

-- and it is that name
pub name_given : (name : Text) (f : Found) (id : Text) → Some name ≡ first_value f id → given_to id (rows_of f) ≡ name
name_given name f id reads = ap (λ o. unwrap_or o []) (sym (reads ∙ first_value-rows f id))

-- what a parse without fault gives
pub record AreGiven (words : List Text) (rows : List Row) : Type 0 where
  pub names : HasNames rows
  pub command : command_of words ≡ Some (named_by rows)

pub parse_gives : {X : Type 0} (a : App) (words : List Text) (rows : List Row) → a ≡ checker_app →
    (is_simple_and_free a ≡ true → fault_of a words ≡ [])
    → (is_simple a ≡ true → (rows ≡ matches_of a words) × X) → AreGiven words rows
parse_gives {X} a words rows is fault matches =
    let none : fault_of checker_app words ≡ [] = ap (λ b. fault_of b words) (sym is) ∙ fault
    (ap is_simple_and_free is) in
    let given : AreNames words = names_without_fault words none in
    let same : rows ≡ rows_of_names given.names = (matches (ap is_simple is)).0 ∙ ap (λ b. matches_of b words) is
    ∙ given.matches in
    record {
      names = (
        ap (λ r. is_some (first_of (codes "FORMULA") r)) same,
        ap (λ r. is_some (first_of (codes "CERT") r)) same,
      );
      command = given.command ∙ ap (λ r. Some (named_by r)) (sym same);
    }

-- what a refusal says
pub refusal_gives : (a : App) (words : List Text) → a ≡ checker_app → (takes a words ≡ true → ⊥) →
    command_of words ≡ None
unfolding command_of
refusal_gives a words is refused = go (takes checker_app words) refl
  where
    go : (b : Bool) → takes checker_app words ≡ b → command_of words ≡ None
    go true e = absurd (refused (ap (λ x. takes x words) is ∙ e))
    go false e = rw e refl
