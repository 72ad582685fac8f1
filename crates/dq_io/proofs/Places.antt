-- The first file of a name, by its place.
use Rattle.std.proofs.Common.{◌≡◌, ℕ, ◌<◌, ◌≤◌, Bool, true, false, cond, nat_lt, List, [], length, find, position, bytes_eq, is_some, Option, Some, None, refl, sym, ◌∙◌, ap, rules, tests}
use Rattle.std.specs.List.{slice_get, position_or_len}
use Rattle.std.proofs.lemmas.List.Folds.{find_at}
use Rattle.std.proofs.lemmas.Option.{slice_get-get_or, slice_get_past}
use Rattle.dq_io.specs.Store.{NamedBytes, file_at, holding_of, is_held, bytes_of, rest_from}

-- the place of an element, if there is one
abbrev pub IsPlaceOf : List NamedBytes → Option ℕ → Option NamedBytes → Type 0
IsPlaceOf files None found = found ≡ None
IsPlaceOf files (Some place) found = (place < length files) × (found ≡ Some (file_at files place))

place_of_front : (files : List NamedBytes) (m : ℕ) (found : Option NamedBytes) (b : Bool) →
    (b ≡ true → m < length files) → (b ≡ false → length files ≤ m) → found ≡ slice_get files m →
    IsPlaceOf files (cond b (Some m) None) found
place_of_front files m found true inside past is =
    let h : m < length files = inside refl in
    (h, is ∙ slice_get-get_or files m (record { name = []; bytes = [] }) h)
place_of_front files m found false inside past is = is ∙ slice_get_past files m (past refl)

pub place_of_name : (files : List NamedBytes) (name : List ℕ) →
    IsPlaceOf files (position (λ file. bytes_eq file.name name) files) (find (λ file. bytes_eq file.name name) files)
place_of_name files name =
    let p : NamedBytes → Bool = λ file. bytes_eq file.name name in
    let m : ℕ = position_or_len p files in
    place_of_front files m (find p files) (nat_lt m (length files)) (λ e. search (rules, tests))
    (λ e. search (rules, tests)) (find_at p files)

-- what stands open once the first file of a name is opened at its place
pub record Opens (files : List NamedBytes) (place : Option ℕ) (at_place : Option NamedBytes) : Type 0 where
  pub found : is_some place ≡ is_held (holding_of at_place)
  pub rest : rest_from files place 0 ≡ bytes_of (holding_of at_place)

opened_at : (files : List NamedBytes) (place : Option ℕ) (at_place : Option NamedBytes) →
    IsPlaceOf files place at_place → Opens files place at_place
opened_at files None at_place is = record {
  found = ap (λ (file : Option NamedBytes). is_held (holding_of file)) (sym is);
  rest = ap (λ (file : Option NamedBytes). bytes_of (holding_of file)) (sym is);
}
opened_at files (Some place) at_place is = record {
  found = ap (λ (file : Option NamedBytes). is_held (holding_of file)) (sym is.1);
  rest = ap (λ (file : Option NamedBytes). bytes_of (holding_of file)) (sym is.1);
}

pub opened_by_name : (files : List NamedBytes) (name : List ℕ) (place : Option ℕ) →
    place ≡ position (λ file. bytes_eq file.name name) files →
    Opens files place (find (λ file. bytes_eq file.name name) files)
opened_by_name files name place is = rw is (opened_at files _ _ (place_of_name files name))
