-- The rows of some rounds, in their order.
use Rattle.std.proofs.Common.{◌≡◌, ℕ, ◌+◌, ◌-◌, ◌≤◌, ◌<◌, Bool, List, [], ◌∷◌, ◌++◌, take, length, get_or, Some, arith}
use Rattle.std.specs.List.{All, Contains, range_with_len}
use Rattle.std.proofs.lemmas.List.FromFn.{length-range_with_len, get_or-range_with_len}
use Rattle.std.proofs.lemmas.List.{map-append, take_more}
use Rattle.std.proofs.lemmas.List.Elements.{All-nil, All-cons, All-head, All-tail}
use Rattle.std.proofs.lemmas.Option.{get_or_from_slice_get}
use Rattle.list_laws.proofs.Folds.{filter-shorter}
use Rattle.list_laws.proofs.Members.{all_from_contains}
use Rattle.hint_log.specs.Entries.{Entry, row_at, rounds_of}
use Rattle.hint_log.specs.Naming.{rows_of}
use Rattle.cert_export.specs.Expansion.{has_instance, row_of_round, rows_among, used_rounds}
use Rattle.cert_export.specs.Exportable.{AreRounds}
use Rattle.cert_export.proofs.Instances.{rounds_are, row_place}
use Rattle.cert_export.proofs.Numbers.{of_filter}

-- a row more
pub row_more : (es : List Entry) (rounds : List ℕ) (i k : ℕ) (row : List Bool) → i < length rounds →
    k ≡ get_or rounds i k → row_at es k ≡ Some row →
    rows_among es (take (i + 1) rounds) ≡ rows_among es (take i rounds) ++ row ∷ []
row_more es rounds i k row below is h =
    search (arith, get_or_from_slice_get, (row_place es k row h), (take_more rounds i k below), map-append)

-- used rounds are rounds
pub range_rounds : (n start : ℕ) → (k : ℕ) → Contains (range_with_len start n) k → (start ≤ k) × (k < start + n)
range_rounds n start k (i, below, is) = search (arith, length-range_with_len, get_or-range_with_len)

pub used_are_rounds : (es : List Entry) (ids : List ℕ) → AreRounds es (used_rounds es ids)
used_are_rounds es ids = all_from_contains (λ k. (1 ≤ k) × (k ≤ rounds_of es)) (used_rounds es ids)
    (λ k inside. let r = range_rounds (rounds_of es) 1 k (of_filter (has_instance es ids)
    (range_with_len 1 (rounds_of es)) k inside) in let low = r.0 in (low, omega (arith, r.1)))

pub few_used : (es : List Entry) (ids : List ℕ) → length (used_rounds es ids) ≤ rounds_of es
few_used es ids = search (arith, filter-shorter, length-range_with_len)

-- whole rows stay whole
pub rows_stay : (P : List Bool → Type 0) (es : List Entry) (rounds : List ℕ) → AreRounds es rounds →
    All P (rows_of es) → All P (rows_among es rounds)
rows_stay P es [] h all = All-nil P
rows_stay P es (k ∷ ks) h all =
    let Q : ℕ → Type 0 = λ n. (1 ≤ n) × (n ≤ rounds_of es) in
    let here = All-head Q k ks h in
    All-cons P (row_of_round es k) (rows_among es ks)
    (all (k - 1) [] (omega (arith, here.0, here.1, rounds_are es)))
    (rows_stay P es ks (All-tail Q k ks h) all)
