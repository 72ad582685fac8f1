-- What clap's rows show of what is given.
use Rattle.std.proofs.Common.{◌≡◌, ◌∙◌, Bool, cond, true, false, refl, sym, ap, List, [], ◌∷◌, ◌++◌, Option, Some, None, is_some, option_map, append-nil, arith}
use Rattle.std.specs.Prelude.{find}
use Rattle.std.specs.Str.{bytes_eq}
use Rattle.std.proofs.lemmas.Slice.Eq.{bytes_eq-Decides}
use Rattle.clap.specs.Walk.{Row, Text, at_row, first_of, has_row, more_values, with_values, without}
use Rattle.clap.specs.Takes.{is_given}
use Rattle.clap.specs.declared.builder.value_parser.Reading.TheVariants as reading
use Rattle.clap.specs.declared.parser.matches.ValueSource.{ValueSource}
use Rattle.clap.specs.declared.parser.matches.ValueSource.TheVariants.{CommandLine}
use Rattle.dqsolve_words.specs.Command.{Given}

abbrev pub row_from : ValueSource → Text → Text → Row
row_from source id value = record {
  id = id;
  values = value ∷ [];
  count = None;
  source = Some source;
  reading = reading.AsWritten;
}

abbrev pub row : Text → Text → Row
row = row_from CommandLine

abbrev pub row_by : List Row → Text → Option Row
row_by rows id = find (λ r. bytes_eq r.id id) rows

-- the rows have what is given, and nothing else
abbrev pub Shows : List Row → Given → Type 0
Shows rows given = (id : Text) → row_by rows id ≡ option_map (row id) (given id)

pub has_row_is : (id : Text) (rows : List Row) → has_row id rows ≡ is_some (row_by rows id)
has_row_is id [] = refl
has_row_is id (r ∷ rows) = search (arith, (has_row_is id rows))

-- a row that isn't there is added
added : (id : Text) (change : Row → List Row) (missing rows : List Row) → row_by rows id ≡ None →
    at_row id change missing rows ≡ rows ++ missing
added id change missing [] none = refl
added id change missing (r ∷ rows) none = go (bytes_eq r.id id) none (added id change missing rows)
  where
    go : (b : Bool) → cond b (Some r) (row_by rows id) ≡ None
        → (row_by rows id ≡ None → at_row id change missing rows ≡ rows ++ missing)
        → cond b (change r ++ rows) (r ∷ at_row id change missing rows) ≡ r ∷ (rows ++ missing)
    go true here rest = cc
    go false here rest = ap (λ rs. r ∷ rs) (rest here)

abbrev pub first_some : Option Row → Option Row → Option Row
first_some None other = other
first_some (Some r) other = Some r

pub row_behind : (rows : List Row) (r : Row) (id : Text) →
    row_by (rows ++ r ∷ []) id ≡ first_some (row_by rows id) (cond (bytes_eq r.id id) (Some r) None)
row_behind [] r id = refl
row_behind (x ∷ rows) r id = search (arith, (row_behind rows r id))

pub nothing_behind : (o : Option Row) → first_some o None ≡ o
nothing_behind None = refl
nothing_behind (Some r) = refl

-- given to one more option or place
abbrev pub put : Text → Text → Given → Given
put id value given = λ other. cond (bytes_eq id other) (Some value) (given other)

-- a value that isn't there is added
pub value_added : (source : ValueSource) (id value : Text) (rows : List Row) → row_by rows id ≡ None →
    with_values id reading.AsWritten source (value ∷ []) rows ≡ rows ++ row_from source id value ∷ []
value_added source id value rows none =
    added id (more_values source (value ∷ [])) (row_from source id value ∷ []) rows none

pub put_shows : (id value : Text) (rows : List Row) (given : Given) → Shows rows given → given id ≡ None →
    Shows (with_values id reading.AsWritten CommandLine (value ∷ []) (without id rows)) (put id value given)
put_shows id value rows given shows none other =
    ap (λ rs. row_by rs other) all ∙ row_behind rows (row id value) other ∙ go (bytes_eq id other) refl
  where
    missing : row_by rows id ≡ None
    missing = shows id ∙ ap (option_map (row id)) none

    kept : without id rows ≡ rows
    kept = added id (λ _. []) [] rows missing ∙ append-nil rows

    all : with_values id reading.AsWritten CommandLine (value ∷ []) (without id rows) ≡ rows ++ row id value ∷ []
    all = ap (λ rs. with_values id reading.AsWritten CommandLine (value ∷ []) rs) kept
        ∙ value_added CommandLine id value rows missing

    go : (b : Bool) → bytes_eq id other ≡ b
        → first_some (row_by rows other) (cond (bytes_eq id other) (Some (row id value)) None)
        ≡ option_map (row other) (cond (bytes_eq id other) (Some value) (given other))
    go true e =
        let same : id ≡ other = (bytes_eq-Decides id other).0 e in
        ap (λ b. first_some (row_by rows other) (cond b (Some (row id value)) None)) e
        ∙ ap (λ o. first_some o (Some (row id value))) (ap (row_by rows) (sym same) ∙ missing)
        ∙ ap (λ (i : Text). Some (row i value)) same
        ∙ sym (ap (λ b. option_map (row other) (cond b (Some value) (given other))) e)
    go false e = ap (λ b. first_some (row_by rows other) (cond b (Some (row id value)) None)) e
        ∙ nothing_behind (row_by rows other) ∙ shows other
        ∙ sym (ap (λ b. option_map (row other) (cond b (Some value) (given other))) e)

pub has_row_given : (rows : List Row) (given : Given) → Shows rows given → (id : Text) →
    has_row id rows ≡ is_some (given id)
has_row_given rows given shows id = search (arith, has_row_is)

pub first_shown : (rows : List Row) (given : Given) → Shows rows given → (id : Text) → first_of id rows ≡ given id
first_shown rows given shows id = search arith

pub is_given_shown : (rows : List Row) (given : Given) → Shows rows given → (id : Text) →
    is_given id rows ≡ is_some (given id)
is_given_shown rows given shows id = search arith
