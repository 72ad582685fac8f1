-- Literals by the names of their variables, and the rounds' rows.
use Rattle.std.specs.Prelude.{◌≡◌, ℕ, zero, suc, ◌+◌, Bool, true, false, List, [], ◌∷◌, ◌++◌, map, Option, None, Some, slice_get}
use Rattle.std.specs.List.{position_or_len}
use Rattle.std.specs.Option.{option_map}
use Rattle.dq_lits.specs.Literal.{Assignment, Literal, variable_of, is_negative}
use Rattle.dq_lits.specs.Formula.{Dqbf, Existential, is_universal, existential_of}
use Rattle.dq_lits.specs.Row.{assignment_of}
use Rattle.dq_lits.specs.Expansion.{row_assignment, agree_on}
use Rattle.hint_log.specs.Entries.{name_of, Entry, Round}
use Rattle.hint_log.specs.declared.names.Name.{Name}
use Rattle.hint_log.specs.declared.names.Name.TheVariants.{Selector, Pair}

-- the element of a number, counted from 1
abbrev pub numbered_from_one : {X : Type 0} → List X → ℕ → Option X
numbered_from_one xs zero = None
numbered_from_one xs (suc i) = slice_get xs i

-- a literal by the name of its variable
pub record NamedLiteral : Type 0 where
  pub name : Name
  pub negated : Bool

abbrev pub named_literal : Name → Bool → NamedLiteral
named_literal n b = record { name = n; negated = b }

abbrev pub name_literal : List Entry → Literal → Option NamedLiteral
name_literal entries l =
    option_map (λ n. named_literal n (is_negative l)) (name_of entries (variable_of l))

-- the literals stand on variables of these names, with these signs
abbrev pub AreNamedAs : List Entry → List Literal → List NamedLiteral → Type 0
AreNamedAs entries literals names = map (name_literal entries) literals ≡ map Some names

abbrev pub is_selector_name : Option Name → Bool
is_selector_name (Some (Selector _)) = true
is_selector_name _ = false

abbrev pub is_selector : List Entry → ℕ → Bool
is_selector entries v = is_selector_name (name_of entries v)

-- the rounds' rows, oldest first
abbrev pub rows_of : List Entry → List (List Bool)
rows_of [] = []
rows_of (Round row _ _ ∷ earlier) = rows_of earlier ++ row ∷ []
rows_of (_ ∷ earlier) = rows_of earlier

-- the arbiter of an existential under a row: of the first row that agrees on what it sees
abbrev pub arbiter : Dqbf → List (List Bool) → List Bool → Existential → Name
arbiter f rows row y = Pair (position_or_len (agree_on f y row) rows + 1) y.variable

abbrev pub on_arbiter : Dqbf → List (List Bool) → List Bool → Literal → Option NamedLiteral
on_arbiter f rows row l =
    option_map (λ y. named_literal (arbiter f rows row y) (is_negative l))
    (existential_of f (variable_of l))

-- universals by a row, and existentials by their values
abbrev pub by_universality : Bool → Bool → Bool → Bool
by_universality true universal existential = universal
by_universality false universal existential = existential

abbrev pub round_assignment : Dqbf → List Bool → List Bool → Assignment
round_assignment f row values v =
    by_universality (is_universal f v) (row_assignment f row v)
    (assignment_of (map (λ y. y.variable) f.existentials) values v)
