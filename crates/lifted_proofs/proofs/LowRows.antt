-- Rows under which the universal literals of a clause are false.
use Rattle.std.proofs.Common.{◌≡◌, ℕ, suc, zero, ◌+◌, ◌<◌, ◌==◌, Bool, true, false, not, cond, ◌&&◌, ◌⊎◌, inl, inr, List, [], ◌∷◌, ◌++◌, map, take, length, get_or, Option, Some, None, refl, sym, ◌∙◌, ap, subst, arith}
use Rattle.std.specs.Bool.{beq}
use Rattle.std.specs.Prelude.{slice_set}
use Rattle.std.specs.List.{All, Contains, list_any, filter, position, position_or_len}
use Rattle.std.proofs.lemmas.Bool.{true≢false, or_cases, or_left, or_right, cases_eq, cases_Bool, cond-true, cond-false, eqb-true, eq-eqb, ne_eqb}
use Rattle.std.proofs.lemmas.List.{get_or-set_same, get_or-set_other, length-set, take_more}
use Rattle.std.proofs.lemmas.List.Elements.{All-contains}
use Rattle.std.proofs.lemmas.List.Quantifiers.{position-Some}
use Rattle.std.proofs.lemmas.List.Folds.{list_any_none, list_any_at, list_any-append}
use Rattle.list_laws.proofs.Members.{contains_tested, tested_inside}
use Rattle.list_laws.proofs.Truths.{and-false}
use Rattle.dq_lits.specs.Literal.{Assignment, Literal, positive, negative, variable_of, is_negative, opposite, literal_true}
use Rattle.dq_lits.specs.Formula.{Dqbf, is_universal, existential_of, IsWellFormed}
use Rattle.dq_lits.specs.Henkin.{same_bits}
use Rattle.dq_lits.specs.Derivation.{holds, is_tautology}
use Rattle.dq_lits.specs.Expansion.{row_assignment, universal_literal_true}
use Rattle.dq_lits.specs.Row.{bit_of, assignment_of}
use Rattle.dq_lits.proofs.Truth.{same_literal-sound}
use Rattle.dq_lits.proofs.HeldLiterals.{any_one, any_gives, filter-holds}
use Rattle.dq_lits.proofs.Choices.{same_bits-refl}
use Rattle.dq_lits.proofs.SignedLiterals.{one_variable}
use Rattle.dq_lits.proofs.Followers.{map-agree}
use Rattle.dq_formula.proofs.Subsets.{none_contained}
use Rattle.dq_formula.proofs.Restrictions.{assignment_of-place}
use Rattle.dq_prep.specs.declared.traces.Taken.{Taken}
use Rattle.dq_prep.specs.Reduction.{sees_in, is_seen, stays}
use Rattle.dq_prep.specs.Units.{AreUnits, without_false, is_satisfied}
use Rattle.dq_prep.proofs.Reduction.{holds-at}
use Rattle.dq_prep.proofs.SignedLiterals.{pair-any}
use Rattle.dq_prep.proofs.LeftLiterals.{tautology-stays}
use Rattle.dq_prep.proofs.LiteralRoles.{find-Some}
use Rattle.dq_prep.proofs.LoweredRows.{none-held}
use Rattle.dq_prep.proofs.OpenLiterals.{none-universal}
use Rattle.lifted_proofs.specs.UnitTables.{first_units, first_literals}
use Rattle.lifted_proofs.specs.Goals.{clause_at, left_by, Serves}
use Rattle.lifted_proofs.specs.FalsifiedRows.{IsFalsified}
use Rattle.lifted_proofs.specs.declared.goals.Source.{Source}

place-is : (us : List ℕ) (x p : ℕ) → position (λ u. u == x) us ≡ Some p → position_or_len (λ u. u == x) us ≡ p
place-is us x p found = grind (arith, found)

-- one bit of a row is written
bit-set : (us : List ℕ) (row : List Bool) (p x v : ℕ) (b : Bool) → length row ≡ length us
    → position (λ u. u == x) us ≡ Some p
    → assignment_of us (slice_set row p b) v ≡ cond (x == v) b (assignment_of us row v)
bit-set us row p x v b whole found =
    search (
      arith,
      position-Some,
      (eqb-true (get_or us p 0) x),
      (cases_eq x v),
      (place-is us x p),
      (assignment_of-place us),
      (length-set row p b),
      (get_or-set_same row p b false),
      (cond-true (x == v) b),
      (eq-eqb x v),
      (get_or-set_other row p),
      (assignment_of-place us row v whole),
      (cond-false (x == v) b),
      (ne_eqb x v),
      (eqb-true (get_or us p 0) v),
    )

pub universal-placed : (f : Dqbf) (v p : ℕ) → position (λ u. u == v) f.universals ≡ Some p → is_universal f v ≡ true
universal-placed f v p found =
    let at = position-Some (λ u. u == v) f.universals p 0 found in
    list_any_at (λ u. u == v) f.universals p 0 at.0 at.1

pub universal-unplaced : (f : Dqbf) (v : ℕ) → position (λ u. u == v) f.universals ≡ None → is_universal f v ≡ false
universal-unplaced f v none = search (arith, cases_Bool, none_contained, contains_tested)

signed-bit : (m : Assignment) (l : Literal) (b : Bool) → m (variable_of l) ≡ b
    → literal_true m l ≡ cond (is_negative l) (not b) b
signed-bit m (positive v) b is = is
signed-bit m (negative v) b is = ap not is

-- a universal literal by its universal's place
pub true-placed : (f : Dqbf) (row : List Bool) (l : Literal) (p : ℕ) → length row ≡ length f.universals
    → position (λ u. u == variable_of l) f.universals ≡ Some p
    → universal_literal_true f row l ≡ cond (is_negative l) (not (bit_of row p)) (bit_of row p)
true-placed f row l p whole found =
    ap (λ b. b && literal_true (row_assignment f row) l) (universal-placed f (variable_of l) p found)
    ∙ signed-bit (row_assignment f row) l (bit_of row p)
    (sym (assignment_of-place f.universals row (variable_of l) whole)
    ∙ ap (bit_of row) (place-is f.universals (variable_of l) p found))

pub true-unplaced : (f : Dqbf) (row : List Bool) (l : Literal)
    → position (λ u. u == variable_of l) f.universals ≡ None → universal_literal_true f row l ≡ false
true-unplaced f row l none = search (arith, universal-unplaced)

pub holds-snoc : (done : List Literal) (l k : Literal) → holds (done ++ l ∷ []) k ≡ true
    → (holds done k ≡ true) ⊎ (k ≡ l)
holds-snoc done l k h = search (arith, or_cases, list_any-append, same_literal-sound, true≢false)

none-snoc : (p : Literal → Bool) (done : List Literal) (l : Literal) → list_any p (done ++ l ∷ []) ≡ false
    → (list_any p done ≡ false) × (p l ≡ false)
none-snoc p done l h = search (arith, list_any-append)

pub falsified-more : (f : Dqbf) (row low : List Bool) (done : List Literal) (l : Literal) (p : ℕ)
    → length low ≡ length f.universals → position (λ u. u == variable_of l) f.universals ≡ Some p
    → holds done (opposite l) ≡ false → IsFalsified f row done low
    → IsFalsified f row (done ++ l ∷ []) (slice_set low p (is_negative l))
falsified-more f row low done l p whole found alone was = record {
  none_true = λ k h. elim (cases_eq (variable_of l) (variable_of k)) [
    | inl same ↦ elim (one_variable k l (sym same)) [
      | inl is ↦ ap (universal_literal_true f new) is ∙ own
      | inr is ↦ search (arith, holds-snoc, true≢false)
    ]
    | inr other ↦ elim (holds-snoc done l k h) [
      | inl before ↦
          unchanged k (bit (variable_of k) ∙ cond-false (variable_of l == variable_of k) (is_negative l)
          (row_assignment f low (variable_of k)) (ne_eqb (variable_of l) (variable_of k) other))
          ∙ was.none_true k before
      | inr itself ↦ absurd (other (ap variable_of (sym itself)))
    ]
  ];
  same = λ x h.
      let parts = none-snoc (λ k. variable_of k == x) done l h in
      bit x ∙ cond-false (variable_of l == x) (is_negative l) (row_assignment f low x) parts.1
      ∙ was.same x parts.0;
}
  where
    new : List Bool
    new = slice_set low p (is_negative l)

    bit : (v : ℕ) → row_assignment f (slice_set low p (is_negative l)) v
        ≡ cond (variable_of l == v) (is_negative l) (row_assignment f low v)
    bit v = bit-set f.universals low p (variable_of l) v (is_negative l) whole found

    own-sign : (l : Literal) → cond (is_negative l) (not (is_negative l)) (is_negative l) ≡ false
    own-sign (positive v) = refl
    own-sign (negative v) = refl

    own : universal_literal_true f (slice_set low p (is_negative l)) l ≡ false
    own =
        ap (λ b. is_universal f (variable_of l) && b)
        (signed-bit (row_assignment f new) l (is_negative l)
        (bit (variable_of l) ∙ cond-true (variable_of l == variable_of l) (is_negative l)
        (row_assignment f low (variable_of l)) (eq-eqb (variable_of l) (variable_of l) refl))
        ∙ own-sign l) ∙ and-false (is_universal f (variable_of l))

    unchanged : (k : Literal) → row_assignment f (slice_set low p (is_negative l)) (variable_of k)
        ≡ row_assignment f low (variable_of k)
        → universal_literal_true f (slice_set low p (is_negative l)) k ≡ universal_literal_true f low k
    unchanged (positive v) same = ap (λ b. is_universal f v && b) same
    unchanged (negative v) same = ap (λ b. is_universal f v && not b) same

pub falsified-other : (f : Dqbf) (row low : List Bool) (done : List Literal) (l : Literal)
    → position (λ u. u == variable_of l) f.universals ≡ None → IsFalsified f row done low
    → IsFalsified f row (done ++ l ∷ []) low
falsified-other f row low done l none was = record {
  none_true = search (arith, holds-snoc, true-unplaced);
  same = λ x h. was.same x (none-snoc (λ k. variable_of k == x) done l h).0;
}

take-holds : (i : ℕ) (xs : List Literal) (k : Literal) → holds (take i xs) k ≡ true → holds xs k ≡ true
take-holds zero xs k h = absurd (true≢false (sym h))
take-holds (suc i) [] k h = h
take-holds (suc i) (x ∷ xs) k h = search (arith, or_cases, or_left, or_right, (take-holds i xs k))

-- in a clause without such a pair, no literal's negation stands before it
pub alone-before : (clause : List Literal) (i : ℕ) (d : Literal) → is_tautology clause ≡ false → i < length clause
    → holds (take i clause) (opposite (get_or clause i d)) ≡ false
alone-before clause i d plain below = search (arith, cases_Bool, true≢false, pair-any, holds-at, take-holds)

same-false : (m n : Assignment) (l : Literal) → literal_true m l ≡ false → literal_true n l ≡ false
    → m (variable_of l) ≡ n (variable_of l)
same-false m n (positive v) a b = a ∙ sym b
same-false m n (negative v) a b = search (arith, true≢false)

pub serves-falsified : (f : Dqbf) (units : List Taken) (s : Source) (row low : List Bool) → IsWellFormed f
    → AreUnits f (first_units units s.taken) → is_satisfied (first_literals units s.taken) (clause_at f s.place) ≡ false
    → is_tautology (clause_at f s.place) ≡ false
    → list_any (universal_literal_true f row) (left_by f units s) ≡ false
    → IsFalsified f row (clause_at f s.place) low → Serves f units s row low
serves-falsified f units s row low well are unsatisfied plain none it = record {
  none_true = list_any_none (universal_literal_true f low) clause
      (λ k d below. it.none_true (get_or clause k d) (holds-at clause k d below));
  same = λ l y here own.
      let found = find-Some (λ z. z.variable == variable_of l) f.existentials y own in
      let universal = All-contains
      (λ z. All (Contains f.universals) z.sees) f.existentials y well.prefix.sees_universals found.0 in
      let same : All (λ x. m x ≡ n x) y.sees = λ k d below.
      let x = get_or y.sees k d in
      let sees : sees_in x (existential_of f (variable_of l)) ≡ true =
      ap (sees_in x) own ∙ list_any_at (λ z. z == x) y.sees k d below (eq-eqb x x refl) in
      let seen : is_seen f rest x ≡ true =
      any_one (λ q. sees_in x (existential_of f (variable_of q))) rest l here sees in
      elim (cases_Bool (list_any (λ q. variable_of q == x) clause)) [
        | inr off ↦ sym (it.same x off)
        | inl on ↦
            let r = any_gives (λ q. variable_of q == x) clause on in
            let is : variable_of r.0 ≡ x = eqb-true (variable_of r.0) x r.2 in
            seen-bit r.0 r.1 x is (tested_inside f.universals x (universal k d below)) seen
      ] in
      ap (same_bits (map m y.sees)) (sym (map-agree m n y.sees same)) ∙ same_bits-refl (map m y.sees);
}
  where
    clause : List Literal
    clause = clause_at f s.place

    trues : List Literal
    trues = first_literals units s.taken

    rest : List Literal
    rest = without_false (first_literals units s.taken) (clause_at f s.place)

    m : Assignment
    m = row_assignment f row

    n : Assignment
    n = row_assignment f low

    turned : (k : Literal) → is_universal f (variable_of k) ≡ true → is_universal f (variable_of (opposite k)) ≡ true
    turned (positive v) h = h
    turned (negative v) h = h

    truth-false : (v : Assignment) (k : Literal) → is_universal f (variable_of k) ≡ true
        → (is_universal f (variable_of k) && literal_true v k) ≡ false → literal_true v k ≡ false
    truth-false v k universal h = sym (ap (λ b. b && literal_true v k) universal) ∙ h

    seen-bit : (k : Literal) → holds clause k ≡ true → (x : ℕ) → variable_of k ≡ x → is_universal f x ≡ true
        → is_seen f rest x ≡ true → m x ≡ n x
    seen-bit k inside x is universal-x seen =
        let universal : is_universal f (variable_of k) ≡ true = ap (is_universal f) is ∙ universal-x in
        let free : holds trues (opposite k) ≡ false =
        none-universal f (first_units units s.taken) (opposite k) are (turned k universal) in
        let in-rest : holds rest k ≡ true =
        filter-holds (λ q. not (holds trues (opposite q))) clause k inside (ap not free) in
        let stay : stays f rest k ≡ true =
        or_right (not (is_universal f (variable_of k))) (is_seen f rest (variable_of k)) (ap (is_seen f rest) is ∙ seen) in
        let plain-rest = tautology-stays trues clause unsatisfied ∙ plain in
        let in-left : holds (left_by f units s) k ≡ true =
        ap (λ b. holds (cond b rest (filter (stays f rest) rest)) k) plain-rest
        ∙ filter-holds (stays f rest) rest k in-rest stay in
        ap m (sym is)
        ∙ same-false m n k
        (truth-false m k universal (none-held (universal_literal_true f row) (left_by f units s) k none in-left))
        (truth-false n k universal (it.none_true k inside))
        ∙ ap n is

pub serves-itself : (f : Dqbf) (units : List Taken) (s : Source) (row : List Bool)
    → list_any (universal_literal_true f row) (clause_at f s.place) ≡ false → Serves f units s row row
serves-itself f units s row none = record {
  none_true = none;
  same = λ l y here own. same_bits-refl (map (row_assignment f row) y.sees);
}

pub unplaced-true : (f : Dqbf) (row : List Bool) (l : Literal) (v : ℕ) (o : Option ℕ) → v ≡ variable_of l
    → o ≡ position (λ u. u == v) f.universals → o ≡ None → false ≡ universal_literal_true f row l
unplaced-true f row l v o is at none =
    sym (true-unplaced f row l (subst (λ w. position (λ u. u == w) f.universals ≡ None) is (sym at ∙ none)))

pub placed-true : (f : Dqbf) (row : List Bool) (l : Literal) (p v : ℕ) (o : Option ℕ) (bit sign : Bool)
    → length row ≡ length f.universals → v ≡ variable_of l → o ≡ position (λ u. u == v) f.universals → o ≡ Some p
    → bit ≡ bit_of row p → sign ≡ is_negative l → not (beq bit sign) ≡ universal_literal_true f row l
placed-true f row l p v o bit sign whole is at found bit-is sign-is =
    differ bit sign
    ∙ ap (λ b. cond sign (not b) b) bit-is
    ∙ ap (λ s. cond s (not (bit_of row p)) (bit_of row p)) sign-is
    ∙ sym (true-placed f row l p whole
    (subst (λ w. position (λ u. u == w) f.universals ≡ Some p) is (sym at ∙ found)))
  where
    differ : (b s : Bool) → not (beq b s) ≡ cond s (not b) b
    differ true true = refl
    differ true false = refl
    differ false true = refl
    differ false false = refl

pub step-universal : (f : Dqbf) (row low new : List Bool) (clause : List Literal) (i p v : ℕ) (l : Literal)
    (o : Option ℕ) (sign : Bool) → is_tautology clause ≡ false → i < length clause → l ≡ get_or clause i l
    → (length low ≡ length f.universals) × IsFalsified f row (take i clause) low → v ≡ variable_of l
    → o ≡ position (λ u. u == v) f.universals → o ≡ Some p → sign ≡ is_negative l → new ≡ slice_set low p sign
    → (length new ≡ length f.universals) × IsFalsified f row (take (i + 1) clause) new
step-universal f row low new clause i p v l o sign plain below at was is found some sign-is new-is =
    let here : position (λ u. u == variable_of l) f.universals ≡ Some p =
    subst (λ w. position (λ u. u == w) f.universals ≡ Some p) is (sym found ∙ some) in
    let alone : holds (take i clause) (opposite l) ≡ false =
    ap (λ k. holds (take i clause) (opposite k)) at ∙ alone-before clause i l plain below in
    let made = falsified-more f row low (take i clause) l p was.0 here alone was.1 in
    let is-new : new ≡ slice_set low p (is_negative l) = new-is ∙ ap (slice_set low p) sign-is in
    let more : take (i + 1) clause ≡ take i clause ++ l ∷ [] =
    take_more clause i l below ∙ ap (λ k. take i clause ++ k ∷ []) (sym at) in (
      ap (λ (xs : List Bool). length xs) is-new ∙ length-set low p (is_negative l) ∙ was.0,
      subst (λ xs. IsFalsified f row (take (i + 1) clause) xs) (sym is-new)
          (subst (λ ls. IsFalsified f row ls (slice_set low p (is_negative l))) (sym more) made),
    )

pub step-existential : (f : Dqbf) (row low new : List Bool) (clause : List Literal) (i v : ℕ) (l : Literal)
    (o : Option ℕ) → i < length clause → l ≡ get_or clause i l
    → (length low ≡ length f.universals) × IsFalsified f row (take i clause) low → v ≡ variable_of l
    → o ≡ position (λ u. u == v) f.universals → o ≡ None → new ≡ low
    → (length new ≡ length f.universals) × IsFalsified f row (take (i + 1) clause) new
step-existential f row low new clause i v l o below at was is found none new-is =
    let here : position (λ u. u == variable_of l) f.universals ≡ None =
    subst (λ w. position (λ u. u == w) f.universals ≡ None) is (sym found ∙ none) in
    let made = falsified-other f row low (take i clause) l here was.1 in
    let more : take (i + 1) clause ≡ take i clause ++ l ∷ [] =
    take_more clause i l below ∙ ap (λ k. take i clause ++ k ∷ []) (sym at) in (
      ap (λ (xs : List Bool). length xs) new-is ∙ was.0,
      subst (λ xs. IsFalsified f row (take (i + 1) clause) xs) (sym new-is)
          (subst (λ ls. IsFalsified f row ls low) (sym more) made),
    )
