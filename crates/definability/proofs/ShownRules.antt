-- The rule that an answer of the first copy shows.
use Rattle.std.proofs.Common.{◌≡◌, ◌≢◌, ℕ, ◌<◌, ◌≤◌, ◌^◌, Bool, true, false, true≢false, not, cond, ◌&&◌, inl, inr, List, [], ◌∷◌, ◌++◌, take, length, get_or, ◌+◌, Option, None, Some, refl, sym, ◌∙◌, ap, subst, arith}
use Rattle.std.specs.List.{All, Contains, list_all, cons_option}
use Rattle.std.proofs.lemmas.Bool.{eq-eqb, ne_eqb, or_right, and_parts}
use Rattle.std.proofs.lemmas.List.{take_more}
use Rattle.std.proofs.lemmas.List.Elements.{filter_map-append, All-head, All-tail, All-cons, All-nil, All-contains}
use Rattle.list_laws.proofs.Truths.{not-not}
use Rattle.dq_lits.specs.Derivation.{holds}
use Rattle.dq_lits.specs.Expansion.{row_assignment}
use Rattle.dq_lits.specs.Formula.{Dqbf, Existential, declared, existential_of}
use Rattle.dq_lits.specs.Henkin.{MatrixHolds}
use Rattle.dq_lits.specs.Literal.{Assignment, Literal, positive, variable_of, is_negative, opposite, same_literal, literal_true}
use Rattle.dq_lits.proofs.HeldLiterals.{any_gives, all_held, holds_cases, holds_here}
use Rattle.dq_lits.proofs.SignedLiterals.{opposite_variable, opposite-opposite}
use Rattle.dq_lits.proofs.Truth.{literal_true-opposite}
use Rattle.dq_formula.specs.Prefix.{IsLawful}
use Rattle.dq_formula.specs.Rules.{cube_true}
use Rattle.hint_log.specs.Entries.{Entry, name_of}
use Rattle.hint_log.specs.Naming.{named_literal, name_literal}
use Rattle.hint_log.specs.declared.names.Name.{Name}
use Rattle.hint_log.specs.declared.names.Name.TheVariants.{Selector, Copy as CopyOf}
use Rattle.log_laws.proofs.Found.{named_variable}
use Rattle.definability.specs.Forcing.{IsForcedBy}
use Rattle.definability.specs.Ruling.{copied_assignment, value_by, ShowsClause, signed_literal, cube_literal, cube_of, IsLiteralName}
use Rattle.definability.proofs.AskedLiterals.{IsOwn, IsAtRow, AreAsked, opposite_named, no_negation}
use Rattle.definability.proofs.LinkedInterpolants.{signed, named_is}

-- one literal of the clause more
pub cube_more : (es : List Entry) (y : ℕ) (xs : List Literal) (i : ℕ) (l : Literal) (o : Option Literal)
    (old new : List Literal) → i < length xs → get_or xs i l ≡ l →
    o ≡ cube_literal y (is_negative l) (name_of es (variable_of l)) → old ≡ cube_of es y (take i xs) →
    new ≡ old ++ cons_option o [] → new ≡ cube_of es y (take (i + 1) xs)
cube_more es y xs i l o old new lt at is before pushed = search (arith, (take_more xs i l lt), filter_map-append)

-- each literal of a cube is a clause's
every_cube : (P : Literal → Type 0) (es : List Entry) (y : ℕ) (ls : List Literal)
    → ((l : Literal) → holds ls l ≡ true → (k : Literal) → cube_literal y (is_negative l) (name_of es (variable_of l))
    ≡ Some k → P k) → All P (cube_of es y ls)
every_cube P es y [] each = All-nil P
every_cube P es y (l ∷ ls) each = by (cube_literal y (is_negative l) (name_of es (variable_of l))) refl
    (every_cube P es y ls (λ k h. each k (or_right (same_literal k l) (holds ls k) h))) where
      by : (o : Option Literal) → cube_literal y (is_negative l) (name_of es (variable_of l)) ≡ o →
          All P (cube_of es y ls) → All P (cube_of es y (l ∷ ls))
      by None e later = subst (λ o. All P (cons_option o (cube_of es y ls))) (sym e) later
      by (Some k) e later = subst (λ o. All P (cons_option o (cube_of es y ls))) (sym e)
          (All-cons P k (cube_of es y ls) (each l (holds_here l ls) k e) later)

all_true : (p : Literal → Bool) (ls : List Literal) → All (λ l. p l ≡ true) ls → list_all p ls ≡ true
all_true p [] all = refl
all_true p (l ∷ ls) all = ap (λ b. b && list_all p ls) (All-head (λ k. p k ≡ true) l ls all) ∙ all_true p ls
    (All-tail (λ k. p k ≡ true) l ls all)

-- and the other way round
cube_there : (p : Literal → Bool) (es : List Entry) (y : ℕ) (ls : List Literal) → list_all p (cube_of es y ls) ≡ true →
    (l k : Literal) → holds ls l ≡ true →
    cube_literal y (is_negative l) (name_of es (variable_of l)) ≡ Some k → p k ≡ true
cube_there p es y [] all l k h is = cc
cube_there p es y (j ∷ ls) all l k h is = by (cube_literal y (is_negative j) (name_of es (variable_of j))) refl all
    (λ later. cube_there p es y ls later l k) where
      by : (o : Option Literal) → cube_literal y (is_negative j) (name_of es (variable_of j)) ≡ o →
          list_all p (cons_option o (cube_of es y ls)) ≡ true
          → (list_all p (cube_of es y ls) ≡ true → holds ls l ≡ true →
          cube_literal y (is_negative l) (name_of es (variable_of l)) ≡ Some k → p k ≡ true) → p k ≡ true
      by None e spelled later = elim (holds_cases j ls l h) [
        | inl same ↦ (let none : None ≡ Some k = sym e ∙ ap (λ x. cube_literal y (is_negative x)
            (name_of es (variable_of x))) (sym same) ∙ is in cc)
        | inr further ↦ later spelled further is
      ]
      by (Some i) e spelled later =
          let both = and_parts (p i) (list_all p (cube_of es y ls)) spelled in
          elim (holds_cases j ls l h) [
            | inl same ↦ search arith
            | inr further ↦ later both.1 further is
          ]

signed_true : (m : Assignment) (x : ℕ) (b : Bool) → m x ≡ b → literal_true m (signed_literal (positive x) b) ≡ true
signed_true m x true is = is
signed_true m x false is = ap not is

signed_is : (m : Assignment) (x : ℕ) (b : Bool) → literal_true m (signed_literal (positive x) b) ≡ true → m x ≡ b
signed_is m x true h = h
signed_is m x false h = search arith

signed_variable : (x : ℕ) (b : Bool) → variable_of (signed_literal (positive x) b) ≡ x
signed_variable x true = refl
signed_variable x false = refl

-- a signed bit that is false
signed_false : (s b : Bool) → signed s b ≡ false → b ≡ s
signed_false true true h = refl
signed_false true false h = cc
signed_false false true h = cc
signed_false false false h = refl

module _ (f : Dqbf) (lawful : IsLawful f) (es : List Entry) (y : Existential) (row : List Bool) (bit : Bool)
    (asked : List Literal) (are : AreAsked f es y row bit asked)
    (own_found : existential_of f y.variable ≡ Some y) (y_declared : Contains (declared f) y.variable)
    (seen_declared : (x : ℕ) → Contains y.sees x → Contains (declared f) x)
    (unseen : (x : ℕ) → Contains y.sees x → x ≢ y.variable)
    (id : ℕ) (shown : ShowsClause f es asked id) where
  abbrev clause : List Literal
  clause = shown.clause

  -- a literal of the clause: a negated selector, or the negation of what was asked
  data IsKind (l : Literal) : Type 0 where
    of_group : (g : ℕ) → opposite l ≡ positive g → name_of es g ≡ Some (Selector g) → IsKind l
    of_own : IsOwn es y bit (opposite l) → IsKind l
    of_seen : (x : ℕ) → Contains y.sees x → IsAtRow f es row x (opposite l) → IsKind l

  kind : (l : Literal) → holds clause l ≡ true → IsKind l
  kind l h = elim (shown.negated l h) [
    | inl group ↦ of_group group.0 group.1 group.2
    | inr among ↦ elim (are.each (opposite l) among) [ inl own ↦ of_own own | inr seen ↦ of_seen seen.0 seen.1 seen.2 ]
  ]

  -- the name and the sign of a literal, by its negation's
  turned : (l : Literal) (n : Name) (b : Bool) → name_literal es (opposite l) ≡ Some (named_literal n b) →
      (name_of es (variable_of l) ≡ Some n) × (is_negative l ≡ not b)
  turned l n b is =
      let back = opposite_named es (opposite l) n b is in
      named_variable es l n (not b) (name_of es (variable_of l)) refl
      (ap (name_literal es) (sym (opposite-opposite l)) ∙ back)

  seen_gives : (l : Literal) (x : ℕ) → Contains y.sees x → IsAtRow f es row x (opposite l) →
      cube_literal y.variable (is_negative l) (name_of es (variable_of l)) ≡ Some
      (signed_literal (positive x) (row_assignment f row x))
  seen_gives l x among is = search (arith, ne_eqb, not-not)

  -- what a literal of the clause puts into the cube
  gives : (l k : Literal) → IsKind l → cube_literal y.variable (is_negative l) (name_of es (variable_of l)) ≡ Some k →
      (x : ℕ) × Contains y.sees x × (k ≡ signed_literal (positive x) (row_assignment f row x))
  gives l k (of_group g is named) found =
      let here : name_of es (variable_of l) ≡ Some (Selector g) =
      ap (name_of es) (sym (opposite_variable l) ∙ ap variable_of is) ∙ named in
      let none : None ≡ Some k = sym (ap (cube_literal y.variable (is_negative l)) here) ∙ found in
      cc
  gives l k (of_own is) found =
      let t = turned l (CopyOf 1 y.variable) bit is in
      let none : None ≡ Some k =
      sym (ap (cube_literal y.variable (is_negative l)) t.0 ∙ ap
      (λ b. cond b None (Some (signed_literal (positive y.variable) (is_negative l))))
      (eq-eqb y.variable y.variable refl)) ∙ found in
      cc
  gives l k (of_seen x among is) found =
      let both : Some k ≡ Some (signed_literal (positive x) (row_assignment f row x)) =
      sym found ∙ seen_gives l x among is in
      let same : k ≡ signed_literal (positive x) (row_assignment f row x) = cc in
      (x, among, same)

  pub at_row : cube_true (row_assignment f row) (cube_of es y.variable clause) ≡ true
  at_row =
      let m = row_assignment f row in
      all_true (literal_true m) (cube_of es y.variable clause)
      (every_cube (λ k. literal_true m k ≡ true) es y.variable clause (λ l h k found.
      let r = gives l k (kind l h) found in
      ap (literal_true m) r.2 ∙ signed_true m r.0 (m r.0) refl))

  over_seen : All (λ k. Contains y.sees (variable_of k)) (cube_of es y.variable clause)
  over_seen = every_cube (λ k. Contains y.sees (variable_of k)) es y.variable clause (λ l h k found.
      let r = gives l k (kind l h) found in
      subst (Contains y.sees) (sym (ap variable_of r.2 ∙ signed_variable r.0 (row_assignment f row r.0))) r.1)

  -- where the clause's literal is true, its negation is false
  false_there : (m : Assignment) (l : Literal) → literal_true (copied_assignment es m) l ≡ true →
      literal_true (copied_assignment es m) (opposite l) ≡ false
  false_there m l h = literal_true-opposite (copied_assignment es m) l ∙ ap not h

  forced : (m : Assignment) → MatrixHolds f m → cube_true m (cube_of es y.variable clause) ≡ true → m y.variable ≡ bit
  forced m holds_there in_cube =
      let w = any_gives (literal_true (copied_assignment es m)) clause (shown.implied m holds_there) in
      by w.0 w.1 (false_there m w.0 w.2) (kind w.0 w.1)
    where
      by : (l : Literal) → holds clause l ≡ true → literal_true (copied_assignment es m) (opposite l) ≡ false →
          IsKind l → m y.variable ≡ bit
      by l h no_more (of_group g is named) =
          let on : literal_true (copied_assignment es m) (opposite l) ≡ true =
          ap (literal_true (copied_assignment es m)) is ∙ ap (value_by m) named in
          absurd (true≢false (sym on ∙ no_more))
      by l h no_more (of_own is) = signed_false bit (m y.variable)
          (sym (named_is es m (opposite l) (named_literal (CopyOf 1 y.variable) bit) is) ∙ no_more)
      by l h no_more (of_seen x among is) =
          let b = row_assignment f row x in
          let other : m x ≡ not b = signed_false (not b) (m x)
          (sym (named_is es m (opposite l) (named_literal (CopyOf 1 x) (not b)) is) ∙ no_more) in
          let own : m x ≡ b = signed_is m x b (cube_there (literal_true m) es y.variable clause in_cube l
          (signed_literal (positive x) b) h (seen_gives l x among is)) in
          absurd (no_negation b (sym own ∙ other))

  pub forced_by : (cube : List Literal) → cube ≡ cube_of es y.variable clause →
      IsForcedBy f y row bit (record { y = y.variable; cube = cube; bit = bit })
  forced_by cube is = subst (λ (ls : List Literal). IsForcedBy f y row bit
      (record { y = y.variable; cube = ls; bit = bit })) (sym is) (record {
        variable_is = refl;
        bit_is = refl;
        at_row = at_row;
        is_rule = record {
          over_seen = λ z found.
              let both : Some y ≡ Some z = sym own_found ∙ found in
              let same : y ≡ z = cc in
              subst (λ (e : Existential). All (λ k. Contains e.sees (variable_of k))
              (cube_of es y.variable clause)) same
              over_seen;
          forced = forced;
        };
      })

  in_range : (v : ℕ) → Contains (declared f) v → (1 ≤ v) × (v < 2 ^ 62)
  in_range v among =
      let r = All-contains (λ x. (1 ≤ x) × (x ≤ f.variables)) (declared f) v lawful.prefix.in_range among in
      let most = r.1 in
      let few = lawful.few_variables in
      (r.0, omega (arith, most, few))

  pub literal_names : All (λ l. IsLiteralName (name_of es (variable_of l))) clause
  literal_names = all_held (λ l. IsLiteralName (name_of es (variable_of l))) clause (λ l h. by l (kind l h))
    where
      by : (l : Literal) → IsKind l → IsLiteralName (name_of es (variable_of l))
      by l (of_group g is named) = subst IsLiteralName (sym (ap (name_of es)
          (sym (opposite_variable l) ∙ ap variable_of is) ∙ named)) tt
      by l (of_own is) = subst IsLiteralName (sym (turned l (CopyOf 1 y.variable) bit is).0)
          (in_range y.variable y_declared)
      by l (of_seen x among is) = subst IsLiteralName (sym (turned l (CopyOf 1 x) (not (row_assignment f row x)) is).0)
          (in_range x (seen_declared x among))
