-- The gates over first copies in the order of naming: each once, and behind those that it reads.
use Rattle.std.proofs.Common.{◌≡◌, ℕ, ◌+◌, ◌≤◌, ◌<◌, ◌==◌, ◌⊎◌, inl, inr, Bool, true, false, cond, List, [], ◌∷◌, ◌++◌, length, length-append, get_or, slice_get, Option, None, Some, IsSome, is_some, refl, sym, ◌∙◌, ap, subst, arith}
use Rattle.std.specs.List.{AllPairs, Contains}
use Rattle.std.proofs.lemmas.Bool.{eqb-true, eq-eqb, cond-true, cond-false}
use Rattle.std.proofs.lemmas.List.Quantifiers.{all_pairs_push, position-Some}
use Rattle.std.proofs.lemmas.List.Elements.{Contains-append_left, Contains-push}
use Rattle.std.proofs.lemmas.Option.{slice_get-get_or, slice_get_within, get_or_from_slice_get}
use Rattle.list_laws.proofs.Members.{contains_tested, last_or_inside}
use Rattle.list_laws.proofs.Elements.{last_or_before}
use Rattle.dq_lits.specs.Literal.{Literal, variable_of}
use Rattle.hint_log.specs.Conditions.{is_term_name, HasSides, MayFollow}
use Rattle.hint_log.specs.Entries.{Entry, Named, Given, Learned, Answer, Round, Begun, count, name_of, names_of}
use Rattle.hint_log.specs.Growth.{Each}
use Rattle.hint_log.specs.declared.names.Name.{Name}
use Rattle.hint_log.specs.declared.names.Name.TheVariants.{Pair, Input, Copy as CopyOf, Term}
use Rattle.log_laws.proofs.ReachedClauses.{name_stays}
use Rattle.number_tables.specs.Numbers.{has_number, place_of}
use Rattle.definition_export.specs.Closing.{AreTermNames}
use Rattle.definition_export.specs.Exporting.{is_term_entry}
use Rattle.definition_export.specs.TermOrder.{with_term, with_terms}

-- by the entries
abbrev pub terms_over : List Entry → List ℕ
terms_over [] = []
terms_over (Named v n ∷ es) = with_term (terms_over es) (v, n)
terms_over (Given origin c ∷ es) = terms_over es
terms_over (Learned c hints ∷ es) = terms_over es
terms_over (Answer c hints ∷ es) = terms_over es
terms_over (Round row values j ∷ es) = terms_over es
terms_over (Begun live ∷ es) = terms_over es

pub with_terms_snoc : (terms : List ℕ) (names : List (ℕ × Name)) (named : ℕ × Name) →
    with_terms terms (names ++ named ∷ []) ≡ with_term (with_terms terms names) named
with_terms_snoc terms [] named = refl
with_terms_snoc terms (x ∷ names) named = with_terms_snoc (with_term terms x) names named

terms_are : (es : List Entry) → with_terms [] (names_of es) ≡ terms_over es
terms_are [] = refl
terms_are (Named v n ∷ es) = with_terms_snoc [] (names_of es) (v, n) ∙ ap (λ ts. with_term ts (v, n)) (terms_are es)
terms_are (_ ∷ es) = terms_are es

-- a name more: that of a gate over first copies, or another one
data IsNext (old : List ℕ) (u : ℕ) (n : Name) : Type 0 where
  other : with_term old (u, n) ≡ old → ((a b : Literal) → n ≡ Term a b → ⊥) → IsNext old u n
  term : (a b : Literal) → n ≡ Term a b → with_term old (u, n) ≡ old ++ u ∷ [] → IsNext old u n

next : (old : List ℕ) (u : ℕ) (n : Name) → has_number old u ≡ false → IsNext old u n
next old u (Term a b) new = term a b refl (cond-false (has_number old u) old (old ++ u ∷ []) new)
next old u (Pair k y) new = other refl (λ x z e. cc)
next old u (Input x) new = other refl (λ y z e. cc)
next old u (CopyOf side x) new = other refl (λ y z e. cc)
next old u _ new = other refl (λ x y e. cc)

abbrev IsTermName : List Entry → ℕ → Type 0
IsTermName es v = (a : Literal) × (b : Literal) × (name_of es v ≡ Some (Term a b))

at_inside : (xs : List ℕ) (p v : ℕ) → slice_get xs p ≡ Some v → Contains xs v
at_inside xs p v h = search (arith, slice_get_within, get_or_from_slice_get)

abbrev IsOrdered : List Entry → Type 0
IsOrdered es = (p q v : ℕ) (a b l : Literal) → slice_get (terms_over es) p ≡ Some v →
    name_of es v ≡ Some (Term a b) → (l ≡ a) ⊎ (l ≡ b) → slice_get (terms_over es) q ≡ Some (variable_of l) → q < p

-- what holds of the list
record IsListed (es : List Entry) : Type 0 where
  pub named : (v : ℕ) → Contains (terms_over es) v → IsTermName es v
  pub there : (v : ℕ) (a b : Literal) → name_of es v ≡ Some (Term a b) → Contains (terms_over es) v
  pub distinct : AllPairs (λ v w. v ≡ w → ⊥) (terms_over es)
  pub ordered : IsOrdered es

-- the sides of a gate are first copies and gates over them
pub term_sides : (es : List Entry) (v : ℕ) (a b : Literal) → Each MayFollow es → name_of es v ≡ Some (Term a b) →
    (is_term_name (name_of es (variable_of a)) ≡ true) × (is_term_name (name_of es (variable_of b)) ≡ true)
term_sides [] v a b lawful h = cc
term_sides (Named w n ∷ es) v a b lawful h = by_bit (term_sides es v a b lawful.1) (v == w) h where
  kept : (x : ℕ) → is_term_name (name_of es x) ≡ true → is_term_name (name_of (Named w n ∷ es) x) ≡ true
  kept x there = by_option (name_of es x) refl there where
    by_option : (o : Option Name) → name_of es x ≡ o → is_term_name o ≡ true →
        is_term_name (name_of (Named w n ∷ es) x) ≡ true
    by_option None is k = cc
    by_option (Some m) is k = ap is_term_name (name_stays (Named w n ∷ []) es x m lawful is) ∙ k

  by_bit : (name_of es v ≡ Some (Term a b) → (is_term_name (name_of es (variable_of a)) ≡ true) ×
      (is_term_name (name_of es (variable_of b)) ≡ true)) → (c : Bool) →
      cond c (Some n) (name_of es v) ≡ Some (Term a b) →
      (is_term_name (name_of (Named w n ∷ es) (variable_of a)) ≡ true) ×
      (is_term_name (name_of (Named w n ∷ es) (variable_of b)) ≡ true)
  by_bit later true k =
      let is : n ≡ Term a b = cc in
      let s : HasSides es (Term a b) = subst (HasSides es) is lawful.0.sides in
      (kept (variable_of a) s.0, kept (variable_of b) s.1)
  by_bit later false k = let s = later k in (kept (variable_of a) s.0, kept (variable_of b) s.1)
term_sides (_ ∷ es) v a b lawful h = term_sides es v a b lawful.1 h

-- a side of a gate has a name
side_named : (es : List Entry) (v : ℕ) (a b l : Literal) → Each MayFollow es → name_of es v ≡ Some (Term a b) →
    (l ≡ a) ⊎ (l ≡ b) → IsSome (name_of es (variable_of l))
side_named es v a b l lawful named either =
    let both = term_sides es v a b lawful named in
    elim either [
      | inl left ↦ some (name_of es (variable_of l)) (ap (λ k. is_term_name (name_of es (variable_of k))) left ∙ both.0)
      | inr right ↦ some (name_of es (variable_of l)) (ap (λ k. is_term_name (name_of es (variable_of k))) right
          ∙ both.1)
    ] where
      some : (o : Option Name) → is_term_name o ≡ true → IsSome o
      some None h = cc
      some (Some n) h = refl

-- a name more
module _ (u : ℕ) (n : Name) (es : List Entry) (lawful : Each MayFollow (Named u n ∷ es)) (h : IsListed es) where
  abbrev old : List ℕ
  old = terms_over es

  abbrev new : List ℕ
  new = terms_over (Named u n ∷ es)

  is_new : has_number old u ≡ false
  is_new = by_bit (has_number old u) refl where
    by_bit : (b : Bool) → has_number old u ≡ b → has_number old u ≡ false
    by_bit true e = let t = h.named u (contains_tested old u e) in
        let both : None ≡ Some (Term t.0 t.1) = sym lawful.0.unnamed ∙ t.2 in cc
    by_bit false e = e

  kept_name : (v : ℕ) (m : Name) → name_of es v ≡ Some m → name_of (Named u n ∷ es) v ≡ Some m
  kept_name v m named = name_stays (Named u n ∷ []) es v m lawful named

  -- a variable that had a name had this one
  name_before : (v : ℕ) (m : Name) → IsSome (name_of es v) → name_of (Named u n ∷ es) v ≡ Some m →
      name_of es v ≡ Some m
  name_before v m there named = search (arith, kept_name)

  old_name : (v : ℕ) → Contains old v → (m : Name) → name_of (Named u n ∷ es) v ≡ Some m → name_of es v ≡ Some m
  old_name v inside m named = let t = h.named v inside in name_before v m (ap is_some t.2) named

  own_name : name_of (Named u n ∷ es) u ≡ Some n
  own_name = cond-true (u == u) (Some n) (name_of es u) (eq-eqb u u refl)

  -- the new variable has no name before
  not_named : (v : ℕ) → IsSome (name_of es v) → u ≡ v → ⊥
  not_named v there same = let none : name_of es v ≡ None = ap (name_of es) (sym same) ∙ lawful.0.unnamed in cc

  listed_other : new ≡ old → ((a b : Literal) → n ≡ Term a b → ⊥) → IsListed (Named u n ∷ es)
  listed_other is none = record {
    named = λ v inside. let t = h.named v (subst (λ xs. Contains xs v) is inside) in
        (t.0, t.1, kept_name v (Term t.0 t.1) t.2);
    there = λ v a b named. subst (λ xs. Contains xs v) (sym is) (h.there v a b (before v a b named));
    distinct = subst (AllPairs (λ v w. v ≡ w → ⊥)) (sym is) h.distinct;
    ordered = λ p q v a b l at named either side.
        let at' : slice_get old p ≡ Some v = ap (λ xs. slice_get xs p) (sym is) ∙ at in
        let side' : slice_get old q ≡ Some (variable_of l) = ap (λ xs. slice_get xs q) (sym is) ∙ side in
        h.ordered p q v a b l at' (old_name v (at_inside old p v at') (Term a b) named) either side';
  } where
    before : (v : ℕ) (a b : Literal) → name_of (Named u n ∷ es) v ≡ Some (Term a b) → name_of es v ≡ Some (Term a b)
    before v a b named = by_bit (v == u) named where
      by_bit : (c : Bool) → cond c (Some n) (name_of es v) ≡ Some (Term a b) → name_of es v ≡ Some (Term a b)
      by_bit true k = let same : n ≡ Term a b = cc in absurd (none a b same)
      by_bit false k = k

  listed_term : (x y : Literal) → n ≡ Term x y → new ≡ old ++ u ∷ [] → IsListed (Named u n ∷ es)
  listed_term x y n_is is = record {
    named = λ v inside. elim (last_or_inside old u v (subst (λ xs. Contains xs v) is inside)) [
      | inl before ↦ (let t = h.named v before in (t.0, t.1, kept_name v (Term t.0 t.1) t.2))
      | inr same ↦ (x, y, ap (name_of (Named u n ∷ es)) (sym same) ∙ own_name ∙ ap Some n_is)
    ];
    there = λ v a b named. subst (λ xs. Contains xs v) (sym is) (inside v a b named);
    distinct = subst (AllPairs (λ v w. v ≡ w → ⊥)) (sym is) (all_pairs_push (λ v w. v ≡ w → ⊥) old u h.distinct
        (λ k d below same. let t = h.named u (k, below, apart k d below same) in
        let both : None ≡ Some (Term t.0 t.1) = sym lawful.0.unnamed ∙ t.2 in cc));
    ordered = λ p q v a b l at named either side.
        in_order p q v a b l (ap (λ xs. slice_get xs p) (sym is) ∙ at) named either
        (ap (λ xs. slice_get xs q) (sym is) ∙ side);
  } where
    apart : (k d : ℕ) → k < length old → get_or old k d ≡ u → get_or old k u ≡ u
    apart k d below same = get_or_from_slice_get old k u u (slice_get-get_or old k d below ∙ ap Some same)

    inside : (v : ℕ) (a b : Literal) → name_of (Named u n ∷ es) v ≡ Some (Term a b) → Contains (old ++ u ∷ []) v
    inside v a b named = by_bit (v == u) refl named where
      by_bit : (c : Bool) → (v == u) ≡ c → cond c (Some n) (name_of es v) ≡ Some (Term a b) →
          Contains (old ++ u ∷ []) v
      by_bit true e k = subst (Contains (old ++ u ∷ [])) (sym (eqb-true v u e)) (Contains-push old u)
      by_bit false e k = Contains-append_left old (u ∷ []) v (h.there v a b k)

    in_order : (p q v : ℕ) (a b l : Literal) → slice_get (old ++ u ∷ []) p ≡ Some v →
        name_of (Named u n ∷ es) v ≡ Some (Term a b) → (l ≡ a) ⊎ (l ≡ b) →
        slice_get (old ++ u ∷ []) q ≡ Some (variable_of l) → q < p
    in_order p q v a b l at named either side = elim (last_or_before old u p v at) [
      | inl before ↦ (
          let named' = old_name v (at_inside old p v before) (Term a b) named in
          let there = side_named es v a b l lawful.1 named' either in
          elim (last_or_before old u q (variable_of l) side) [
            | inl old_side ↦ h.ordered p q v a b l before named' either old_side
            | inr last ↦ absurd (not_named (variable_of l) there last.1)
          ])
      | inr here ↦ (
          let own : Some n ≡ Some (Term a b) = sym own_name ∙ ap (name_of (Named u n ∷ es)) here.1 ∙ named in
          let own' : n ≡ Term a b = cc in
          let both = subst (HasSides es) own' lawful.0.sides in
          let there : IsSome (name_of es (variable_of l)) = elim either [
            | inl left ↦ some (name_of es (variable_of l)) (ap (λ k. is_term_name (name_of es (variable_of k))) left
                ∙ both.0)
            | inr right ↦ some (name_of es (variable_of l)) (ap (λ k. is_term_name (name_of es (variable_of k))) right
                ∙ both.1)
          ] in
          elim (last_or_before old u q (variable_of l) side) [
            | inl old_side ↦ (let below = slice_get_within old q (variable_of l) old_side in
                let last = here.0 in omega (arith, below, last))
            | inr last ↦ absurd (not_named (variable_of l) there last.1)
          ])
    ] where
      some : (o : Option Name) → is_term_name o ≡ true → IsSome o
      some None k = cc
      some (Some m) k = refl

  listed_more : IsListed (Named u n ∷ es)
  listed_more = by_next (next old u n is_new) where
    by_next : IsNext old u n → IsListed (Named u n ∷ es)
    by_next (other is none) = listed_other is none
    by_next (term a b n_is is) = listed_term a b n_is is

listed : (es : List Entry) → Each MayFollow es → IsListed es
listed [] lawful = record {
  named = λ v inside. absurd (let b = inside.1 in omega (arith, b));
  there = λ v a b named. cc;
  distinct = λ i j d low high. absurd (omega arith);
  ordered = λ p q v a b l at named either side. cc;
}
listed (Named u n ∷ es) lawful = listed_more u n es lawful (listed es lawful.1)
listed (_ ∷ es) lawful = let h = listed es lawful.1 in
    record { named = h.named; there = h.there; distinct = h.distinct; ordered = h.ordered }

-- there are as many as names
few_more : (old : List ℕ) (u : ℕ) (n : Name) (m : ℕ) → has_number old u ≡ false → length old ≤ m →
    length (with_term old (u, n)) ≤ cond (is_term_entry (Named u n)) (m + 1) m
few_more old u (Term a b) m new h = search (arith, length-append, cond-false)
few_more old u _ m new h = h

few_over : (es : List Entry) → Each MayFollow es → length (terms_over es) ≤ count is_term_entry es
few_over [] lawful = omega arith
few_over (Named u n ∷ es) lawful = search (arith, few_more, (few_over es lawful.1))
few_over (_ ∷ es) lawful = few_over es lawful.1

pub few_terms : (es : List Entry) (terms : List ℕ) → Each MayFollow es → terms ≡ with_terms [] (names_of es) →
    length terms ≤ count is_term_entry es
few_terms es terms lawful are = search (arith, terms_are, few_over)

-- the place of a number
pub at_place : (xs : List ℕ) (v p : ℕ) → place_of xs v ≡ Some p → slice_get xs p ≡ Some v
at_place xs v p h =
    let found = position-Some (λ x. x == v) xs p v h in
    slice_get-get_or xs p v found.0 ∙ ap Some (eqb-true (get_or xs p v) v found.1)

pub are_term_names : (es : List Entry) (terms : List ℕ) → Each MayFollow es → terms ≡ with_terms [] (names_of es) →
    AreTermNames es terms
are_term_names es terms lawful are =
    let h = listed es lawful in
    let is : terms ≡ terms_over es = are ∙ terms_are es in
    record {
      named = λ v inside. h.named v (subst (λ xs. Contains xs v) is inside);
      there = λ v a b named. subst (λ xs. Contains xs v) (sym is) (h.there v a b named);
      distinct = subst (AllPairs (λ v w. v ≡ w → ⊥)) (sym is) h.distinct;
      ordered = λ p q s. h.ordered p q s.variable s.left s.right s.literal
          (ap (λ xs. slice_get xs p) (sym is) ∙ s.at) s.named s.either
          (ap (λ xs. slice_get xs q) (sym is) ∙ at_place terms (variable_of s.literal) q s.side_is);
    }
