-- Words of bits, and what they tell of dependency sets.
use Rattle.std.proofs.Common.{◌≡◌, ℕ, ◌+◌, ◌*◌, ◌%◌, ◌^◌, ◌-◌, ◌<◌, ◌≤◌, ◌==◌, ◌⊎◌, inl, inr, Bool, true, false, not, ◌&&◌, ◌||◌, List, ◌++◌, length, get_or, set, take, drop, min, bit_or, bit_and, Option, Some, None, IfSome, w64, refl, sym, ap, ◌∙◌, subst, arith, eq-eqb}
use Rattle.std.specs.Prelude.{slice_index, Contains, IsTrue, ◌↔◌, MatchOption, IsSome, slice_index_or}
use Rattle.std.specs.Int.{bit_at, bit_not}
use Rattle.std.specs.List.{All, position}
use Rattle.std.proofs.Math.Bool.{or-false}
use Rattle.std.proofs.lemmas.Bool.{cases_eq, cases_lt, ne_eqb, or_right, or_cases, and_parts, and_from, eqb-true, false≢true}
use Rattle.std.proofs.lemmas.Bool.Decides.{nat_tests}
use Rattle.std.proofs.lemmas.List.{get_or-set_same, get_or-set_other, get_or_past, take_all, get_or-take, get_or_default, length-take, length-drop, length-map, get_or-drop, drop_all, append-nil}
use Rattle.std.proofs.lemmas.List.Quantifiers.{position-Some}
use Rattle.std.proofs.lemmas.List.Elements.{Contains-get_or}
use Rattle.std.proofs.lemmas.Nat.Bits.{bit_at_set_same, bit_at_set_other, bit_at-zero, bit_at_and, bit_at_not, bit_at-lt}
use Rattle.dq_lits.specs.Formula.{Existential, Dqbf, existential_of}
use Rattle.dq_formula.specs.Dependencies.{dependencies}
use Rattle.dq_formula.specs.Prefix.{existential_variables}
use Rattle.dq_formula.specs.declared.dependencies.Deps.{Deps}
use Rattle.circuit_plain.specs.Netlist.{Netlist}
use Rattle.circuit_plain.specs.Reach.{Reaches}
use Rattle.circuit_plain.specs.Words.{marked}
use Rattle.skolem_checker.specs.Checks.{ReadsDeclaredBefore, existential_at, IsFirstUndeclared}
use Rattle.skolem_checker.specs.Reads.{has_bit, root_of, AreReached, IsAt, AreDeclared, IsSetNoted, IsNoted, IsAllowed, AreSameAt, IsFirstIn, IsBatchAnswer}
use Rattle.skolem_checker.specs.Tables.{ReadsByTables}
use Rattle.skolem_checker.proofs.ReadsLaws.{variable_at, named_at, before-from_marks, first-from_marks}
use Rattle.dq_formula.proofs.Places.{existential_below}

-- words that are all 0 mark nothing
pub none_marked : (words : List ℕ) (n : ℕ) → length words ≤ n → ((k : ℕ) → k < n → get_or words k 0 ≡ 0) → (i v : ℕ) →
    marked words i v ≡ false
none_marked words n whole zero i v = search (arith, cases_lt, get_or_past, bit_at-zero)

-- one more bit
pub bit_set : (words : List ℕ) (at k i v : ℕ) → at < length words → k < 64
    → marked (set words at (bit_or (get_or words at 0) (1 * 2 ^ k % 2 ^ 64))) i v ≡
    (marked words i v || ((k == i) && (at == v)))
bit_set words at k i v below small =
    let word = bit_or (get_or words at 0) (1 * 2 ^ k % 2 ^ 64) in
    elim (cases_eq v at) [
      | inl same ↦
          let here : marked (set words at word) i v ≡ (bit_at word i == 1) =
          ap (λ w. bit_at (get_or (set words at word) w 0) i == 1) same ∙ ap (λ w. bit_at w i == 1)
          (get_or-set_same words at word 0 below) in
          let there : (at == v) ≡ true = eq-eqb at v (sym same) in
          elim (cases_eq i k) [
            | inl bit ↦
                here ∙ ap (λ j. bit_at word j == 1) bit ∙ ap (λ b. b == 1)
                (bit_at_set_same w64 (get_or words at 0) k small)
                ∙ sym (or_right (marked words i v) ((k == i) && (at == v))
                (and_from (k == i) (at == v) (eq-eqb k i (sym bit)) there))
            | inr other ↦
                here ∙ ap (λ b. b == 1) (bit_at_set_other w64 (get_or words at 0) k small i other) ∙ ap (marked words i)
                (sym same)
                ∙ sym (ap (λ b. marked words i v || (b && (at == v))) (ne_eqb k i (λ e. other (sym e))) ∙ or-false
                (marked words i v))
          ]
      | inr other ↦ search (arith, get_or-set_other, ne_eqb, and_false)
    ]
  where
    and_false : (b : Bool) → (b && false) ≡ false
    and_false true = refl
    and_false false = refl

pub bits_without : (word other i : ℕ) → other < 2 ^ 64 → i < 64 →
    has_bit (bit_and word (bit_not w64 other)) i ≡ (has_bit word i && not (has_bit other i))
bits_without word other i fits small =
    ap (λ b. b == 1) (bit_at_and word (bit_not w64 other) i ∙ ap (min (bit_at word i))
    (bit_at_not w64 other i fits small))
    ∙ by (bit_at word i) (bit_at other i) (bit_at-lt word i) (bit_at-lt other i)
  where
    by : (a b : ℕ) → a < 2 → b < 2 → (min a (1 - b) == 1) ≡ ((a == 1) && not (b == 1))
    by a b a_bit b_bit = grind (arith, nat_tests)

-- a dependency set of all universals
pub sees_whole : (universals sees : List ℕ) (n q : ℕ) → take n universals ≡ sees → length universals ≤ n →
    q < length universals
    → Contains sees (slice_index universals q)
sees_whole universals sees n q is whole below =
    search (arith, (take_all n universals whole), (Contains-get_or universals q 0 below))

-- an existential that may read what it is allowed to reads declared universals alone
pub allowed_is_declared : (f : Dqbf) (listed stops : List ℕ) (i q : ℕ) (e : Existential) → IsNoted f listed stops i e →
    IsAllowed listed stops i q → q < length f.universals
    → Contains e.sees (slice_index f.universals q)
allowed_is_declared f listed stops i q e noted allowed below = search (arith, cases_lt, false≢true)

-- an existential that is told by its variable
pub told_at : (f : Dqbf) (ys : List ℕ) (i n : ℕ) (e : Existential) (P : Existential → Type 0) → i ≡ n → IsAt f ys i e
    → ((d : Existential) → existential_of f (get_or ys n 0) ≡ Some d → P d) → P e
told_at f ys i n e P same at told = told e (ap (λ j. existential_of f (get_or ys j 0)) (sym same) ∙ at.1)

-- the dependency set of an existential
pub set_told : (o : Option Existential) (e : Existential) (us : List ℕ) (set set' : Deps) →
    IfSome o (λ d. dependencies us set ≡ d.sees) → o ≡ Some e → set ≡ set'
    → dependencies us set' ≡ e.sees
set_told o e us set set' told is same = search arith

-- a universal's bit
pub listed_more : (us : List ℕ) (old new : List ℕ) (i place x q : ℕ) → position (λ u. u == x) us ≡ Some place
    → ((j v : ℕ) → marked new j v ≡ (marked old j v || ((i == j) && (place == v)))) → marked new i q ≡ true
    → (marked old i q ≡ true) ⊎ (slice_index us q ≡ x)
listed_more us old new i place x q found set on = search (arith, or_cases, position-Some, eqb-true, and_parts)

pub own_bit : (old new : List ℕ) (i place : ℕ) → ((k v : ℕ) →
    marked new k v ≡ (marked old k v || ((i == k) && (place == v)))) → marked new i place ≡ true
own_bit old new i place set = search (arith, or_right, and_from, eq-eqb)

pub listed_so_far : (f : Dqbf) (universals old new : List ℕ) (i n : ℕ) → n < length universals
    → ((q : ℕ) → q < length f.universals → marked old i q ≡ true → Contains universals (slice_index f.universals q))
    → ((q : ℕ) → marked new i q ≡ true → (marked old i q ≡ true) ⊎ (slice_index f.universals q ≡ get_or universals n 0))
    → (q : ℕ) → q < length f.universals → marked new i q ≡ true → Contains universals (slice_index f.universals q)
listed_so_far f universals old new i n n_in before one q below on =
    search (arith, (Contains-get_or universals n 0 n_in))

-- a set is noted
pub prefix_noted : (f : Dqbf) (listed old stops : List ℕ) (i n : ℕ) → ((q : ℕ) → marked listed i q ≡ false)
    → ((k v : ℕ) → marked stops k v ≡ (marked old k v || ((i == k) && (n == v)))) →
    IsSetNoted f listed stops i (take n f.universals)
prefix_noted f listed old stops i n none set = record {
  lists = λ q below on. absurd (false≢true (sym (none q) ∙ on));
  stop = n;
  stop_noted = own_bit old stops i n set;
  before = λ q lt below.
      let short : q < length (take n f.universals) = rw length-take (omega (arith, lt, below)) in
      subst (Contains (take n f.universals)) (get_or-take n f.universals q 0 lt)
      (Contains-get_or (take n f.universals) q 0 short);
}

pub list_noted : (f : Dqbf) (listed old stops sees : List ℕ) (i : ℕ)
    → ((q : ℕ) → q < length f.universals → marked listed i q ≡ true → Contains sees (slice_index f.universals q))
    → ((k v : ℕ) → marked stops k v ≡ (marked old k v || ((i == k) && (0 == v)))) → IsSetNoted f listed stops i sees
list_noted f listed old stops sees i lists set = search (arith, own_bit)

pub noted_along : (f : Dqbf) (listed stops listed' stops' : List ℕ) (i : ℕ) (sees : List ℕ) →
    AreSameAt listed listed' i → AreSameAt stops stops' i
    → IsSetNoted f listed stops i sees → IsSetNoted f listed' stops' i sees
noted_along f listed stops listed' stops' i sees same_listed same_stops noted = search arith

-- by what is reached
reached_from : (net : Netlist) (places ys words : List ℕ) (i v : ℕ) → AreReached net places ys words → i < length ys →
    v ≡ slice_index ys i
    → (u : ℕ) → IsTrue (marked words i u) ↔ Reaches net (root_of net places v) u
reached_from net places ys words i v reached below is u = search arith

pub batch_answer : (f : Dqbf) (net : Netlist) (literals places ys words : List ℕ) (r : Option (ℕ × ℕ)) →
    AreReached net places ys words
    → MatchOption r (AreDeclared f literals ys words) (λ read. IsFirstIn f literals ys words read.0 read.1)
    → IsBatchAnswer (ReadsByTables net literals places) f ys r
batch_answer f net literals places ys words None reached h =
    λ i e at is. before-from_marks f net literals places (marked words i) e (length f.universals)
    (reached_from net places ys words i e.variable reached at.0 is) (h i e at)
batch_answer f net literals places ys words (Some (i, x)) reached h = (
  h.in_range,
  λ e at is. first-from_marks f net literals places (marked words i) e x
      (reached_from net places ys words i e.variable reached at.0 is) (h.read e at),
  λ j e lt at is. before-from_marks f net literals places (marked words j) e (length f.universals)
      (reached_from net places ys words j e.variable reached at.0 is) (h.first j e lt at),
)

-- words that are written as a whole
pub whole_written : (new old : List ℕ) (len : ℕ) → len ≡ length old → length new ≡ length old →
    take len (new ++ drop (length new) old) ≡ new
whole_written new old len is same = search (arith, drop_all, append-nil, take_all)

-- the existentials of a batch
module _ (f : Dqbf) (ys : List ℕ) (s n : ℕ) (same : ys ≡ existential_variables f)
    (named : All (λ y. existential_of f y.variable ≡ Some y) f.existentials) where
  abbrev batch : List ℕ
  batch = take n (drop s ys)

  in_batch : (k : ℕ) → k < length (take n (drop s ys)) → (k < n) × (s + k < length ys)
  in_batch k lt = search (arith, length-take, length-drop)

  pub batch_at : (k d : ℕ) → k < length (take n (drop s ys)) →
      get_or (take n (drop s ys)) k d ≡ (existential_at f (s + k)).variable
  batch_at k d lt =
      let inside = in_batch k lt in
      get_or-take n (drop s ys) k d inside.0 ∙ get_or-drop s ys k d ∙ get_or_default ys (s + k) d 0 inside.1
      ∙ variable_at f ys (s + k) same inside.1

  pub batch_is_at : (k : ℕ) → k < length (take n (drop s ys)) → IsAt f (take n (drop s ys)) k (existential_at f (s + k))
  batch_is_at k lt = search (arith, (in_batch k lt), (batch_at k 0 lt), named_at, existential_below)

  pub batch_declared : All (λ y. IsSome (existential_of f y)) (take n (drop s ys))
  batch_declared k d lt =
      let inside = in_batch k lt in
      rw (batch_at k d lt) (rw (named_at f (s + k) named (existential_below f ys (s + k) same inside.1)) refl)

  pub in_this_batch : (p : ℕ) → s ≤ p → p < s + n → p < length f.existentials → p - s < length (take n (drop s ys))
  in_this_batch p from before below = search (arith, length-map, length-take, length-drop)

  module _ (Reads : ℕ → ℕ → Type 0) (before : (p : ℕ) → p < s → p < length f.existentials →
      ReadsDeclaredBefore Reads f (existential_at f p) (length f.universals)) where
    pub batch_passes : (m : ℕ) → (IsBatchAnswer Reads f (take n (drop s ys)) None) →
        ((p : ℕ) → p < m → p < length f.existentials → p < s + n)
        → (p : ℕ) → p < m → p < length f.existentials → ReadsDeclaredBefore Reads f (existential_at f p)
        (length f.universals)
    batch_passes m none reach p lt below =
        elim (cases_lt p s) [
          | inl earlier ↦ before p earlier below
          | inr from ↦
              let inside = in_this_batch p from (reach p lt below) below in
              let place : s + (p - s) ≡ p = omega (arith, from) in
              subst (λ j. ReadsDeclaredBefore Reads f (existential_at f j) (length f.universals)) place
              (none (p - s) (existential_at f (s + (p - s))) (batch_is_at (p - s) inside)
              (sym (batch_at (p - s) 0 inside)))
        ]

    pub batch_fails : (i x : ℕ) → IsBatchAnswer Reads f (take n (drop s ys)) (Some (i, x)) →
        IsFirstUndeclared Reads f (slice_index_or ys (s + i) 0) x
    batch_fails i x h =
        let inside = in_batch i h.0 in
        let below = existential_below f ys (s + i) same inside.1 in
        record {
          place = s + i;
          in_range = below;
          is = sym (variable_at f ys (s + i) same inside.1);
          read = h.1 (existential_at f (s + i)) (batch_is_at i h.0) (sym (batch_at i 0 h.0));
          first = λ p lt.
              elim (cases_lt p s) [
                | inl earlier ↦ before p earlier (omega (arith, lt, below))
                | inr from ↦
                    let k = in_this_batch p from (omega (arith, lt, inside.0)) (omega (arith, lt, below)) in
                    let place : s + (p - s) ≡ p = omega (arith, from) in
                    subst (λ j. ReadsDeclaredBefore Reads f (existential_at f j) (length f.universals)) place
                    (h.2 (p - s) (existential_at f (s + (p - s))) (omega (arith, lt, from)) (batch_is_at (p - s) k)
                    (sym (batch_at (p - s) 0 k)))
              ];
        }
