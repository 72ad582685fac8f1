-- What is left of places and conditions where only variables with copies are asked for.
use Rattle.std.proofs.Common.{◌≡◌, ◌≢◌, ◌⊎◌, ℕ, zero, suc, ◌+◌, ◌<◌, ◌≤◌, ◌==◌, Bool, true, false, true≢false, cond, inl, inr, List, [], ◌∷◌, ◌++◌, length, get_or, slice_get, filter, Some, refl, sym, ◌∙◌, ap, subst, arith}
use Rattle.std.specs.List.{All, AllPairs, Contains, list_any, position_or_len}
use Rattle.std.proofs.lemmas.Bool.{cases_Bool, cases_lt, eqb-true, eq-eqb, ne_eqb, or_cases, or_left, or_right}
use Rattle.std.proofs.lemmas.List.Elements.{Contains-get_or}
use Rattle.std.proofs.lemmas.Option.{slice_get-get_or, slice_get_within, get_or_from_slice_get}
use Rattle.list_laws.proofs.Elements.{kept_there}
use Rattle.list_laws.proofs.Quantified.{one_place}
use Rattle.dq_lits.specs.Derivation.{holds, is_tautology}
use Rattle.dq_lits.specs.Formula.{Dqbf, declared, HasLawfulPrefix}
use Rattle.dq_lits.specs.Row.{assignment_of}
use Rattle.std.proofs.lemmas.List.{length-append, get_or_append_left, get_or-append-add}
use Rattle.dq_lits.specs.Literal.{Literal, positive, negative, variable_of, is_negative, opposite, same_literal}
use Rattle.dq_lits.proofs.Truth.{same_literal-sound}
use Rattle.dq_lits.proofs.HeldLiterals.{any_gives, holds_here, holds_of_filter}
use Rattle.dq_formula.specs.Prefix.{existential_variables}
use Rattle.definability.specs.Conditions.{has_copies}
use Rattle.definability.specs.Copies.{IsCopied, is_copied_at}
use Rattle.definability.specs.Seeing.{ArePlaces, AreCopiedPlaces}

-- the elements that pass a test
module _ {X : Type 0} (p : X → Bool) where
  pub of_filter : (xs : List X) (x : X) → Contains (filter p xs) x → Contains xs x × (p x ≡ true)
  of_filter [] x (k, lt, at) = absurd (omega (arith, lt))
  of_filter (y ∷ xs) x among = by (p y) refl (λ inside. further (of_filter xs x inside)) among
    where
      further : Contains xs x × (p x ≡ true) → Contains (y ∷ xs) x × (p x ≡ true)
      further r = ((suc r.0.0, (let b = r.0.1 in omega (arith, b)), r.0.2), r.1)

      by : (b : Bool) → p y ≡ b → (Contains (filter p xs) x → Contains (y ∷ xs) x × (p x ≡ true)) →
          Contains (cond b (y ∷ filter p xs) (filter p xs)) x → Contains (y ∷ xs) x × (p x ≡ true)
      by true passes later (zero, lt, at) = ((0, omega arith, at), ap p (sym at) ∙ passes)
      by true passes later (suc k, lt, at) = later (k, omega (arith, lt), at)
      by false fails later inside = later inside

  pub in_filter : (xs : List X) (x : X) → Contains xs x → p x ≡ true → Contains (filter p xs) x
  in_filter [] x (k, lt, at) passes = absurd (omega (arith, lt))
  in_filter (y ∷ xs) x (zero, lt, at) passes = search arith
  in_filter (y ∷ xs) x (suc k, lt, at) passes = by (p y) (in_filter xs x (k, omega (arith, lt), at) passes)
    where
      by : (b : Bool) → Contains (filter p xs) x → Contains (cond b (y ∷ filter p xs) (filter p xs)) x
      by true inside = (suc inside.0, (let b = inside.1 in omega (arith, b)), inside.2)
      by false inside = inside

pub copied_among : (variables : List ℕ) (set : ℕ → Type 0) (flags : List Bool) (all kept : List ℕ) →
    ArePlaces variables set all → kept ≡ filter (is_copied_at flags) all → AreCopiedPlaces variables set flags kept
copied_among variables set flags all kept are is = subst (AreCopiedPlaces variables set flags) (sym is) (record {
  sound = λ k among. are.sound k (of_filter (is_copied_at flags) all k among).0;
  copied = λ k among. (of_filter (is_copied_at flags) all k among).1;
  complete = λ x has.
      let r = are.complete x has in (
        r.0,
        r.1,
        elim (cases_Bool (is_copied_at flags r.0)) [
          | inl flag ↦ inl (in_filter (is_copied_at flags) all r.0 r.2 flag)
          | inr none ↦ inr none
        ],
      );
})

-- places of universals are places of declared variables
pub declared_copies : (f : Dqbf) (set : ℕ → Type 0) (flags : List Bool) (places : List ℕ) →
    AreCopiedPlaces f.universals set flags places → AreCopiedPlaces (declared f) set flags places
declared_copies f set flags places are = record {
  sound = λ k among. let r = are.sound k among in (r.0, kept_there f.universals (existential_variables f) k r.0 r.1, r.2);
  copied = are.copied;
  complete = λ x is. let r = are.complete x is in (r.0, kept_there f.universals (existential_variables f) r.0 x r.1, r.2);
}

pub all_flagged : (flags : List Bool) (places : List ℕ) → ((k : ℕ) → Contains places k → is_copied_at flags k ≡ true) →
    All (λ k. is_copied_at flags k ≡ true) places
all_flagged flags places each i d lt = each (get_or places i d) (Contains-get_or places i d lt)

pub copied_within : (variables : List ℕ) (set : ℕ → Type 0) (flags : List Bool) (places : List ℕ) →
    AreCopiedPlaces variables set flags places → All (λ k. k < length variables) places
copied_within variables set flags places are i d lt =
    let r = are.sound (get_or places i d) (Contains-get_or places i d lt) in
    slice_get_within variables (get_or places i d) r.0 r.1

-- a place of the universals, and of the others
pub declared_cases : (xs ys : List ℕ) (k v : ℕ) → slice_get (xs ++ ys) k ≡ Some v →
    (slice_get xs k ≡ Some v) ⊎ (length xs ≤ k)
declared_cases [] ys k v at = inr (omega arith)
declared_cases (x ∷ xs) ys zero v at = inl at
declared_cases (x ∷ xs) ys (suc k) v at = search (arith, (declared_cases xs ys k v at))

pub flag_past : (flags : List Bool) (k : ℕ) → length flags ≤ k → is_copied_at flags k ≡ true
flag_past [] k past = refl
flag_past (b ∷ flags) zero past = absurd (omega (arith, past))
flag_past (b ∷ flags) (suc k) past = flag_past flags k (omega (arith, past))

-- the first place of a variable
position_there : (us : List ℕ) (v : ℕ) → position_or_len (λ u. u == v) us < length us →
    slice_get us (position_or_len (λ u. u == v) us) ≡ Some v
position_there [] v lt = absurd (omega (arith, lt))
position_there (u ∷ us) v lt = search (arith, (position_there us v), eqb-true)

position_most : (us : List ℕ) (v k : ℕ) → slice_get us k ≡ Some v → position_or_len (λ u. u == v) us ≤ k
position_most [] v k at = cc
position_most (u ∷ us) v zero at = search (arith, eq-eqb)
position_most (u ∷ us) v (suc k) at = search (arith, (position_most us v k at))

-- what the test of a variable tells
module _ (f : Dqbf) (flags : List Bool) (as_many : length flags ≡ length f.universals) (v : ℕ) where
  abbrev first : ℕ
  first = position_or_len (λ u. u == v) f.universals

  pub has_copies_sound : AllPairs (λ a b. a ≢ b) f.universals → has_copies f flags v ≡ true → IsCopied f flags v
  has_copies_sound distinct has k at = elim (declared_cases f.universals (existential_variables f) k v at) [
    | inl universal ↦ (
        let most = position_most f.universals v k universal in
        let within = slice_get_within f.universals k v universal in
        let same = one_place f.universals first k v distinct (position_there f.universals v (omega (arith, most, within)))
        universal in
        ap (is_copied_at flags) (sym same) ∙ has)
    | inr far ↦ flag_past flags k (omega (arith, far, as_many))
  ]

  pub has_no_copies : has_copies f flags v ≡ false → slice_get f.universals first ≡ Some v
  has_no_copies none = search (arith, cases_lt, position_there, true≢false, flag_past)

-- a variable at a place with copies has copies
pub copied_there : (f : Dqbf) (flags : List Bool) (k x : ℕ) → AllPairs (λ a b. a ≢ b) (declared f) →
    slice_get (declared f) k ≡ Some x → is_copied_at flags k ≡ true → IsCopied f flags x
copied_there f flags k x distinct at flag j at_j =
    ap (is_copied_at flags) (one_place (declared f) j k x distinct at_j at) ∙ flag

-- literals of a list that doesn't contradict itself
held : (ls : List Literal) (l : Literal) → Contains ls l → holds ls l ≡ true
held [] l (k, lt, at) = absurd (omega (arith, lt))
held (m ∷ ls) l (zero, lt, at) = ap (holds (m ∷ ls)) (sym at) ∙ holds_here m ls
held (m ∷ ls) l (suc k, lt, at) = or_right (same_literal l m) (holds ls l) (held ls l (k, omega (arith, lt), at))

held_tautology : (ls : List Literal) (l : Literal) → holds ls l ≡ true → holds ls (opposite l) ≡ true →
    is_tautology ls ≡ true
held_tautology ls l h k = go ls ls l h k
  where
    go : (ms all : List Literal) (l : Literal) → holds ms l ≡ true → holds all (opposite l) ≡ true →
        list_any (λ m. holds all (opposite m)) ms ≡ true
    go [] all l h k = cc
    go (m ∷ ms) all l h k = elim (or_cases (same_literal l m) (holds ms l) h) [
      | inl here ↦ or_left (holds all (opposite m)) (list_any (λ n. holds all (opposite n)) ms)
          (ap (λ n. holds all (opposite n)) (sym (same_literal-sound l m here)) ∙ k)
      | inr behind ↦ or_right (holds all (opposite m)) (list_any (λ n. holds all (opposite n)) ms) (go ms all l behind k)
    ]

turned_literal : (a b : Literal) → variable_of a ≡ variable_of b → (is_negative a ≡ is_negative b → ⊥) → b ≡ opposite a
turned_literal (positive v) (positive w) same differ = absurd (differ refl)
turned_literal (positive v) (negative w) same differ = ap negative (sym same)
turned_literal (negative v) (positive w) same differ = ap positive (sym same)
turned_literal (negative v) (negative w) same differ = absurd (differ refl)

same_bit : (a b : Bool) → (a ≡ b → ⊥) ⊎ (a ≡ b)
same_bit true true = inr refl
same_bit true false = inl (λ e. true≢false e)
same_bit false true = inl (λ e. true≢false (sym e))
same_bit false false = inr refl

pub signs_agree : (ls : List Literal) (a b : Literal) → is_tautology ls ≡ false → Contains ls a → Contains ls b →
    variable_of a ≡ variable_of b → is_negative a ≡ is_negative b
signs_agree ls a b consistent a_in b_in same = elim (same_bit (is_negative a) (is_negative b)) [
  | inl differ ↦ (
      let turned = turned_literal a b same differ in
      absurd (true≢false (sym (held_tautology ls a (held ls a a_in) (ap (holds ls) (sym turned) ∙ held ls b b_in))
      ∙ consistent)))
  | inr equal ↦ equal
]

tautology_of : (small large whole : List Literal) → ((l : Literal) → holds whole l ≡ true → holds large l ≡ true) →
    ((l : Literal) → holds small l ≡ true → holds large l ≡ true) → list_any (λ l. holds whole (opposite l)) small ≡ true →
    (l : Literal) × (holds large l ≡ true) × (holds large (opposite l) ≡ true)
tautology_of small large whole wider among some =
    let w = any_gives (λ l. holds whole (opposite l)) small some in
    (w.0, among w.0 w.1, wider (opposite w.0) w.2)

pub kept_consistent : (p : Literal → Bool) (ls : List Literal) → is_tautology ls ≡ false →
    is_tautology (filter p ls) ≡ false
kept_consistent p ls consistent = elim (cases_Bool (is_tautology (filter p ls))) [
  | inl some ↦ (
      let w = tautology_of (filter p ls) ls (filter p ls) (λ l. holds_of_filter l p ls)
      (λ l. holds_of_filter l p ls) some in
      absurd (true≢false (sym (held_tautology ls w.0 w.1 w.2) ∙ consistent)))
  | inr none ↦ none
]

-- the bit of a universal, by its place
pub bit_at : (us : List ℕ) (row : List Bool) (p x : ℕ) → AllPairs (λ v w. v ≢ w) us → slice_get us p ≡ Some x →
    assignment_of us row x ≡ get_or row p false
bit_at [] row p x distinct at = cc
bit_at (u ∷ us) [] p x distinct at = refl
bit_at (u ∷ us) (b ∷ bits) zero x distinct at = let same : u ≡ x = cc in
    ap (λ t. cond t b (assignment_of us bits x)) (eq-eqb u x same)
bit_at (u ∷ us) (b ∷ bits) (suc p) x distinct at =
    let lt = slice_get_within us p x at in
    let differ : u ≢ x = λ same. distinct 0 (suc p) x (omega arith) (omega (arith, lt))
    (same ∙ sym (get_or_from_slice_get us p x x at)) in
    ap (λ t. cond t b (assignment_of us bits x)) (ne_eqb u x differ) ∙ bit_at us bits p x
    (λ i j e less within. distinct (suc i) (suc j) e (omega (arith, less)) (omega (arith, within))) at

-- a universal is no existential
pub universal_differs : (f : Dqbf) → HasLawfulPrefix f → (x v : ℕ) → Contains f.universals x →
    Contains (existential_variables f) v → x ≢ v
universal_differs f lawful x v (i, lt, at) (k, less, there) same =
    let us = f.universals in
    let ys = existential_variables f in
    let long = length-append us ys in
    lawful.declared_once i (length us + k) x (omega (arith, lt)) (omega (arith, less, long))
    (get_or_append_left us ys x i lt ∙ at ∙ same ∙ sym there ∙ other us ys k less ∙ sym (get_or-append-add us ys k x))
  where
    other : (us ys : List ℕ) (k : ℕ) → k < length ys → get_or ys k v ≡ get_or ys k x
    other us ys k below = sym (get_or_from_slice_get ys k (get_or ys k v) x (slice_get-get_or ys k v below))

-- an existential has copies
pub existential_copied : (f : Dqbf) → HasLawfulPrefix f → (flags : List Bool) (v : ℕ) →
    length flags ≡ length f.universals → Contains (existential_variables f) v → IsCopied f flags v
existential_copied f prefix flags v as_many among k at =
    search (
      arith,
      (declared_cases f.universals),
      (universal_differs f prefix v v),
      (slice_get_within f.universals k v),
      (get_or_from_slice_get f.universals k v v),
      (flag_past flags k),
    )
