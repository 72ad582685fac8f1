-- Rows of a length that differ pairwise are at most two to the power of the length.
use Rattle.std.proofs.Common.{◌≡◌, ℕ, zero, suc, ◌+◌, ◌^◌, ◌≤◌, Bool, true, false, cond, inl, inr, ◌⊎◌, List, [], ◌∷◌, ◌++◌, length, refl, ◌∙◌, subst, arith}
use Rattle.std.specs.List.{Contains}
use Rattle.std.proofs.lemmas.List.Elements.{Contains-append_left, Contains-push}
use Rattle.dq_lits.specs.Formula.{Dqbf}
use Rattle.hint_log.specs.Entries.{rounds_of, Entry, Named, Given, Learned, Answer, Round, Begun}
use Rattle.hint_log.specs.Growth.{Each}
use Rattle.hint_log.specs.Naming.{rows_of}
use Rattle.hint_log.specs.ProductiveLog.{RefutesNewRow}
use Rattle.log_laws.specs.Meaning.{RoundsAreFew}
use Rattle.log_laws.proofs.Found.{each_weaker}
use native.Mathlib.Nat.{pow-suc}

-- the row is among these
abbrev Among : List Bool → List (List Bool) → Type 0
Among row [] = ⊥
Among row (x ∷ xs) = (x ≡ row) ⊎ Among row xs

-- rows of a length, pairwise different
abbrev AreDistinct : ℕ → List (List Bool) → Type 0
AreDistinct n [] = Unit {0}
AreDistinct n (x ∷ xs) = (length x ≡ n) × (Among x xs → ⊥) × AreDistinct n xs

-- what follows this first bit
abbrev same : Bool → Bool → Bool
same true b = b
same false true = false
same false false = true

abbrev behind : Bool → List (List Bool) → List (List Bool)
behind b [] = []
behind b ([] ∷ rows) = behind b rows
behind b ((c ∷ row) ∷ rows) = cond (same b c) (row ∷ behind b rows) (behind b rows)

same_is : (b c : Bool) → same b c ≡ true → c ≡ b
same_is true true h = refl
same_is true false h = cc
same_is false true h = cc
same_is false false h = refl

behind_among : (b : Bool) (row : List Bool) (rows : List (List Bool)) → Among row (behind b rows) → Among (b ∷ row) rows
behind_among b row [] h = h
behind_among b row ([] ∷ rows) h = inr (behind_among b row rows h)
behind_among b row ((c ∷ x) ∷ rows) h = search (arith, (behind_among b row rows))

behind_distinct : (b : Bool) (n : ℕ) (rows : List (List Bool)) → AreDistinct (suc n) rows →
    AreDistinct n (behind b rows)
behind_distinct b n [] h = tt
behind_distinct b n ([] ∷ rows) h = behind_distinct b n rows h.2
behind_distinct b n ((c ∷ x) ∷ rows) h = search (arith, (behind_distinct b n rows h.2), behind_among)

parted : (n : ℕ) (rows : List (List Bool)) → AreDistinct (suc n) rows →
    length rows ≡ length (behind true rows) + length (behind false rows)
parted n [] h = refl
parted n ([] ∷ rows) h = let long = h.0 in absurd (omega (arith, long))
parted n ((true ∷ x) ∷ rows) h = let later = parted n rows h.2 in omega (arith, later)
parted n ((false ∷ x) ∷ rows) h = let later = parted n rows h.2 in omega (arith, later)

few : (n : ℕ) (rows : List (List Bool)) → AreDistinct n rows → length rows ≤ 2 ^ n
few zero [] h = omega arith
few zero (x ∷ []) h = let one : 2 ^ 0 ≡ 1 = refl in omega (arith, one)
few zero ([] ∷ [] ∷ rows) h = absurd (h.1 (inl refl))
few zero ([] ∷ (c ∷ y) ∷ rows) h = let long = h.2.0 in absurd (omega (arith, long))
few zero ((c ∷ x) ∷ y ∷ rows) h = let long = h.0 in absurd (omega (arith, long))
few (suc n) rows h =
    let left = few n (behind true rows) (behind_distinct true n rows h) in
    let right = few n (behind false rows) (behind_distinct false n rows h) in
    let whole = parted n rows h in
    let power = pow-suc 2 n in
    omega (arith, left, right, whole, power)

-- the rounds' rows, newest first
abbrev newest_first : List Entry → List (List Bool)
newest_first [] = []
newest_first (Named v n ∷ es) = newest_first es
newest_first (Given origin c ∷ es) = newest_first es
newest_first (Learned c hints ∷ es) = newest_first es
newest_first (Answer c hints ∷ es) = newest_first es
newest_first (Round row values j ∷ es) = row ∷ newest_first es
newest_first (Begun live ∷ es) = newest_first es

rows_among : (es : List Entry) (row : List Bool) → Among row (newest_first es) → Contains (rows_of es) row
rows_among [] row h = absurd h
rows_among (Named v n ∷ es) row h = rows_among es row h
rows_among (Round r values j ∷ es) row (inl is) = subst (λ x. Contains (rows_of es ++ r ∷ []) x) is
    (Contains-push (rows_of es) r)
rows_among (Round r values j ∷ es) row (inr h) = Contains-append_left (rows_of es) (r ∷ []) row (rows_among es row h)
rows_among (_ ∷ es) row h = rows_among es row h

-- a round has a row of this length that wasn't tried
abbrev pub HasNewRow : ℕ → List Entry → Entry → Type 0
HasNewRow n earlier (Round row values j) = (length row ≡ n) × (Contains (rows_of earlier) row → ⊥)
HasNewRow n earlier _ = Unit {0}

pub has_new_row : (f : Dqbf) (n : ℕ) → length f.universals ≡ n → (earlier : List Entry) (e : Entry) →
    RefutesNewRow f earlier e → HasNewRow n earlier e
has_new_row f n same earlier (Round row values j) h = (h.row_length ∙ same, h.untried)
has_new_row f n same earlier _ h = tt

rows_distinct : (n : ℕ) (es : List Entry) → Each (HasNewRow n) es → AreDistinct n (newest_first es)
rows_distinct n [] h = tt
rows_distinct n (Round row values j ∷ es) h = (
  h.0.0,
  (λ inside. h.0.1 (rows_among es row inside)),
  rows_distinct n es h.1,
)
rows_distinct n (_ ∷ es) h = rows_distinct n es h.1

rounds_counted : (es : List Entry) → length (newest_first es) ≡ rounds_of es
rounds_counted [] = refl
rounds_counted (Round row values j ∷ es) = let r = rounds_counted es in omega (arith, r)
rounds_counted (_ ∷ es) = rounds_counted es

pub few_by_rows : (n : ℕ) (entries : List Entry) → Each (HasNewRow n) entries → rounds_of entries ≤ 2 ^ n
few_by_rows n entries rounds = subst (λ k. k ≤ 2 ^ n) (rounds_counted entries)
    (few n (newest_first entries) (rows_distinct n entries rounds))

pub few_rounds : RoundsAreFew
few_rounds f entries rounds =
    few_by_rows (length f.universals) entries (each_weaker (RefutesNewRow f) (HasNewRow (length f.universals))
    (has_new_row f (length f.universals) refl) entries rounds)
