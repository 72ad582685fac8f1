-- A table of values, where a literal is made true and where all are taken back.
use Rattle.std.proofs.Common.{◌≡◌, ◌≢◌, ℕ, suc, ◌+◌, ◌<◌, ◌≤◌, Bool, false, ◌||◌, inl, inr, List, [], ◌∷◌, ◌++◌, reverse, length, drop, set, get_or, count_by, refl, sym, ◌∙◌, ap, subst, arith, get_or-set_other, get_or-set_same, add-one}
use Rattle.std.proofs.Math.Seq.{drop-cons}
use Rattle.std.specs.BTreeMap.{BTreeMap, get}
use Rattle.std.specs.List.{All}
use Rattle.std.specs.Ordering.{nat_cmp}
use Rattle.std.proofs.lemmas.Bool.{cases_eq}
use Rattle.std.proofs.lemmas.List.{drop_all, length-set, reverse-append}
use Rattle.std.proofs.lemmas.List.Elements.{All-from_get_or}
use Rattle.std.proofs.lemmas.List.Sorted.{list_any-IsPermutation, IsPermutation-reverse}
use Rattle.dq_lits.specs.Literal.{Literal, positive, negative, variable_of, same_literal}
use Rattle.dq_lits.specs.Derivation.{holds}
use Rattle.rup_core.specs.Table.{TellsFar, far_value, StandsOnlyOn}
use Rattle.dq_lits.specs.Table.{IsTold, Tells}
use Rattle.dq_lits.specs.Truth.{literal_value, is_assigned}
use Rattle.dq_lits.specs.declared.truth_values.TruthValue.{TruthValue}
use Rattle.dq_lits.specs.declared.truth_values.TruthValue.TheVariants.{Unassigned}
use Rattle.dq_lits.proofs.AssignedLiterals.{value_where_true, told_free, told_along, free_at, has_value, one_more_counted, room_left, tells_more}
use Rattle.dq_lits.proofs.LiteralValues.{other_positive, other_negative, value_free}

holds-reverse : (literals : List Literal) (l : Literal) → holds literals l ≡ false → holds (reverse literals) l ≡ false
holds-reverse literals l h = sym (list_any-IsPermutation (same_literal l) literals (reverse literals)
    (IsPermutation-reverse literals)) ∙ h

-- all values are those of the literals made true
pub told_only : (values : List TruthValue) (literals : List Literal) → Tells values (reverse literals) →
    StandsOnlyOn values literals
told_only values literals told i lt p n =
    told_free (get_or values i Unassigned) (holds (reverse literals) (positive (suc i)))
    (holds (reverse literals) (negative (suc i))) (told i lt)
    (holds-reverse literals (positive (suc i)) p) (holds-reverse literals (negative (suc i)) n)

-- no literal is left whose variable has a value
pub all_taken_back : (values : List TruthValue) (literals : List Literal) (n : ℕ) → length literals ≤ n →
    StandsOnlyOn values (drop n literals) →
    All (λ value. value ≡ Unassigned) values
all_taken_back values literals n all only =
    let none : drop n literals ≡ [] = drop_all n literals all in
    let P : List Literal → Type 0 = λ ls. StandsOnlyOn values ls in
    let left : StandsOnlyOn values [] = subst P none only in
    All-from_get_or (λ value. value ≡ Unassigned) values Unassigned (λ i lt. left i lt refl refl)

-- there is room where a variable of the table has no value yet
pub assign_room : (values : List TruthValue) (literals : List Literal) (l : Literal) (i capacity : ℕ) →
    Tells values (reverse literals) →
    length literals + length values ≤ capacity + count_by is_assigned values → variable_of l ≡ suc i →
    i < length values →
    literal_value (reverse literals) l ≡ Unassigned → length literals < capacity
assign_room values literals l i capacity told room e lt free =
    let f = value_free (reverse literals) l free in
    let at = free_at values (reverse literals) l i told e lt f.0 f.1 in
    let left = room_left values i lt at in
    omega (arith, room, left)

pub assign_counted : (values : List TruthValue) (literals : List Literal) (l : Literal) (i : ℕ) (t : TruthValue) →
    Tells values (reverse literals) →
    variable_of l ≡ suc i → i < length values → literal_value (reverse literals) l ≡ Unassigned →
    t ≡ value_where_true l →
    count_by is_assigned (set values i t) ≡ count_by is_assigned values + 1
assign_counted values literals l i t told e lt free is =
    let f = value_free (reverse literals) l free in
    one_more_counted values i t lt (free_at values (reverse literals) l i told e lt f.0 f.1)
    (ap is_assigned is ∙ has_value l)

pub assign_told : (values : List TruthValue) (literals more : List Literal) (l : Literal) (i : ℕ) (t : TruthValue) →
    Tells values (reverse literals) →
    variable_of l ≡ suc i → i < length values →
    literal_value (reverse literals) l ≡ Unassigned → t ≡ value_where_true l → more ≡ literals ++ l ∷ [] →
    Tells (set values i t) (reverse more)
assign_told values literals more l i t told e lt free is longer =
    let f = value_free (reverse literals) l free in
    let P : TruthValue → Type 0 = λ v. Tells (set values i v) (reverse more) in
    let Q : List Literal → Type 0 = λ ls. Tells (set values i (value_where_true l)) ls in
    let newest : reverse more ≡ l ∷ reverse literals = ap reverse longer ∙ reverse-append literals (l ∷ []) in
    subst P (sym is) (subst Q (sym newest) (tells_more values (reverse literals) l i told e lt f.1))

-- what one more true literal leaves as it is
other_told : (t : TruthValue) (trues : List Literal) (l : Literal) (v : ℕ) → v ≢ variable_of l →
    IsTold t (holds trues (positive v)) (holds trues (negative v)) →
    IsTold t (holds (l ∷ trues) (positive v)) (holds (l ∷ trues) (negative v))
other_told t trues l v ne told =
    told_along t (holds (l ∷ trues) (positive v)) (holds trues (positive v)) (holds (l ∷ trues) (negative v))
    (holds trues (negative v))
    (ap (λ b. b || holds trues (positive v)) (other_positive v l ne))
    (ap (λ b. b || holds trues (negative v)) (other_negative v l ne)) told

newest_first : (literals more : List Literal) (l : Literal) → more ≡ literals ++ l ∷ [] →
    reverse more ≡ l ∷ reverse literals
newest_first literals more l longer = ap reverse longer ∙ reverse-append literals (l ∷ [])

-- a literal of the table, for the map
pub near_keeps_far : (n m : ℕ) (far : BTreeMap ℕ Bool) (literals more : List Literal) (l : Literal) →
    TellsFar n far (reverse literals) → variable_of l ≤ n → m ≡ n →
    more ≡ literals ++ l ∷ [] → TellsFar m far (reverse more)
near_keeps_far n m far literals more l told near same longer v lt =
    let P : List Literal → Type 0 = λ ls. IsTold (far_value (get nat_cmp far v)) (holds ls (positive v))
    (holds ls (negative v)) in
    subst P (sym (newest_first literals more l longer))
    (other_told (far_value (get nat_cmp far v)) (reverse literals) l v (λ e. omega (arith, lt, near, same, e))
    (told v (omega (arith, lt, same))))

-- the value of a literal's variable is taken back
left_behind : (near : List TruthValue) (literals : List Literal) (n i : ℕ) (l : Literal) → n < length literals →
    get_or literals n l ≡ l →
    StandsOnlyOn near (drop n literals) → i < length near → suc i ≢ variable_of l →
    holds (drop (n + 1) literals) (positive (suc i)) ≡ false →
    holds (drop (n + 1) literals) (negative (suc i)) ≡ false → get_or near i Unassigned ≡ Unassigned
left_behind near literals n i l n_in at only lt ne p m =
    let next : drop n literals ≡ l ∷ drop (n + 1) literals =
    rw (add-one) (drop-cons literals n l n_in ∙ ap (λ k. k ∷ drop (suc n) literals) at) in
    only i lt
    (ap (λ ls. holds ls (positive (suc i))) next ∙ ap (λ b. b || holds (drop (n + 1) literals) (positive (suc i)))
    (other_positive (suc i) l ne) ∙ p)
    (ap (λ ls. holds ls (negative (suc i))) next ∙ ap (λ b. b || holds (drop (n + 1) literals) (negative (suc i)))
    (other_negative (suc i) l ne) ∙ m)

pub taken_back : (near : List TruthValue) (literals : List Literal) (n place : ℕ) (l : Literal) → n < length literals →
    get_or literals n l ≡ l →
    place + 1 ≡ variable_of l → StandsOnlyOn near (drop n literals) →
    StandsOnlyOn (set near place Unassigned) (drop (n + 1) literals)
taken_back near literals n place l n_in at is only i lt p m =
    let same_length = length-set near place Unassigned in
    let inside : i < length near = omega (arith, lt, same_length) in
    elim (cases_eq i place) [
      | inl same ↦ ap (λ j. get_or (set near place Unassigned) j Unassigned) same
          ∙ get_or-set_same near place Unassigned Unassigned (omega (arith, inside, same))
      | inr other ↦
          let read : get_or (set near place Unassigned) i Unassigned ≡ get_or near i Unassigned =
          rw get_or-set_other refl in
          read ∙ left_behind near literals n i l n_in at only inside (λ e. other (omega (arith, e, is))) p m
    ]

pub beyond_taken_back : (near : List TruthValue) (literals : List Literal) (n place : ℕ) (l : Literal) →
    n < length literals → get_or literals n l ≡ l →
    place + 1 ≡ variable_of l → length near ≤ place → StandsOnlyOn near (drop n literals) →
    StandsOnlyOn near (drop (n + 1) literals)
beyond_taken_back near literals n place l n_in at is beyond only i lt p m =
    left_behind near literals n i l n_in at only lt (λ e. omega (arith, e, is, beyond, lt)) p m
