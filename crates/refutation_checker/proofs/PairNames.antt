-- A pair may be named by any row that agrees with its own.
use Rattle.std.proofs.Common.{◌≡◌, ℕ, ◌+◌, ◌-◌, ◌*◌, ◌/◌, ◌≤◌, ◌<◌, Bool, true, List, [], length, Some, sym, ◌∙◌, ap, arith}
use Rattle.std.specs.Prelude.{◌↔◌}
use Rattle.std.specs.List.{position_or_len}
use Rattle.std.proofs.lemmas.Bool.{cases_lt}
use Rattle.std.proofs.lemmas.Option.{slice_get-get_or}
use Rattle.std.proofs.lemmas.List.Sums.{prefix_len_passes, prefix_len_stops}
use Rattle.list_laws.proofs.Numbers.{pair_row}
use Rattle.dq_lits.specs.Expansion.{agree_on, row_assignment, pair_number}
use Rattle.dq_lits.specs.Formula.{Existential, Dqbf, existential_of}
use Rattle.dq_lits.specs.Henkin.{restriction, same_bits}
use Rattle.dq_lits.proofs.Choices.{same_bits-sound, same_bits-refl}
use Rattle.refutation_checker.specs.Rows.{row_of}
use Rattle.refutation_checker.specs.Refutation.{normal_number}

-- a number by row k stands for the pair under that row
pub own_number : (f : Dqbf) (rows : List (List Bool)) (k : ℕ) (y : Existential) → 1 ≤ y.variable →
    y.variable ≤ f.variables → k < length rows
    → existential_of f y.variable ≡ Some y → normal_number f rows (k * f.variables + y.variable) ≡ pair_number f rows
    (row_of rows k) y
own_number f rows k y low high within is =
    search (arith, (pair_row k f.variables), (slice_get-get_or rows k [] within))

-- the bits that an existential sees in a row
abbrev seen_in : Dqbf → Existential → List Bool → List Bool
seen_in f y row = restriction y (row_assignment f row)

-- the first of the rows that shows these bits
abbrev first_with : Dqbf → List (List Bool) → Existential → List Bool → ℕ
first_with f rows y bits = position_or_len (λ row. same_bits bits (seen_in f y row)) rows

first_shows : (f : Dqbf) (rows : List (List Bool)) (y : Existential) (j : ℕ) → j < length rows
    → seen_in f y (row_of rows j) ≡ seen_in f y (row_of rows (first_with f rows y (seen_in f y (row_of rows j))))
first_shows f rows y j within =
    search (arith, same_bits-refl, cases_lt, same_bits-sound, prefix_len_stops, prefix_len_passes)

one_pair : (f : Dqbf) (rows : List (List Bool)) (y : Existential) (r1 r2 : List Bool) → agree_on f y r1 r2 ≡ true →
    pair_number f rows r1 y ≡ pair_number f rows r2 y
one_pair f rows y r1 r2 agree =
    ap (λ bits. first_with f rows y bits * f.variables + y.variable)
    (same_bits-sound (seen_in f y r1) (seen_in f y r2) agree)

same_place : (p q v w : ℕ) → 1 ≤ w → w ≤ v → p * v + w ≡ q * v + w → p ≡ q
same_place p q v w low high h = sym (pair_row p v w low high) ∙ ap (λ n. (n - 1) / v) h ∙ pair_row q v w low high

agreeing : (f : Dqbf) (rows : List (List Bool)) (y : Existential) (j k : ℕ) → 1 ≤ y.variable →
    y.variable ≤ f.variables → j < length rows → k < length rows
    → pair_number f rows (row_of rows j) y ≡ pair_number f rows (row_of rows k) y →
    agree_on f y (row_of rows j) (row_of rows k) ≡ true
agreeing f rows y j k low high j_in k_in same =
    let first = same_place (first_with f rows y (seen_in f y (row_of rows j)))
    (first_with f rows y (seen_in f y (row_of rows k))) f.variables y.variable low high same in
    let shown : seen_in f y (row_of rows j) ≡ seen_in f y (row_of rows k) =
    first_shows f rows y j j_in ∙ ap (λ n. seen_in f y (row_of rows n)) first ∙ sym (first_shows f rows y k k_in) in
    ap (λ bits. same_bits (seen_in f y (row_of rows j)) bits) (sym shown) ∙ same_bits-refl
    (seen_in f y (row_of rows j))

-- two numbers of an existential stand for one pair exactly where their rows agree
pub same_number : (f : Dqbf) (rows : List (List Bool)) (j k : ℕ) (y : Existential) → 1 ≤ y.variable →
    y.variable ≤ f.variables
    → j < length rows → k < length rows → existential_of f y.variable ≡ Some y
    → (normal_number f rows (j * f.variables + y.variable) ≡ normal_number f rows (k * f.variables + y.variable)) ↔
    (agree_on f y (row_of rows j) (row_of rows k) ≡ true)
same_number f rows j k y low high j_in k_in is =
    let by_j = own_number f rows j y low high j_in is in
    let by_k = own_number f rows k y low high k_in is in (
      λ same. agreeing f rows y j k low high j_in k_in (sym by_j ∙ same ∙ by_k),
      λ agree. by_j ∙ one_pair f rows y (row_of rows j) (row_of rows k) agree ∙ sym by_k,
    )
