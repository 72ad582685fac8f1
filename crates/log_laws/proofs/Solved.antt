-- An answer that rests on gates and on faults shows that every clause is true with the leaves'
-- values.
use Rattle.std.proofs.Common.{◌≡◌, ℕ, zero, suc, ◌+◌, ◌<◌, ◌==◌, Bool, true, false, cond, not, ◌||◌, ◌&&◌, inl, inr, List, [], ◌∷◌, ◌++◌, map, length, get_or, Option, None, Some, refl, sym, ◌∙◌, ap, subst, arith, append_assoc}
use Rattle.std.specs.List.{All, Contains, range_with_len}
use Rattle.std.specs.Option.{option_and_then}
use Rattle.std.proofs.lemmas.Bool.{cases_Bool, false≢true, true≢false, or_left, or_right, eq-eqb, ne_eqb, cond-false, not-false}
use Rattle.std.proofs.lemmas.List.{get_or_default}
use Rattle.std.proofs.lemmas.List.Elements.{All-contains, All-head, All-tail, Contains-append_cases}
use Rattle.std.proofs.lemmas.List.Folds.{list_any_at}
use Rattle.dq_lits.specs.Literal.{Assignment, Literal, positive, negative, variable_of, is_negative, opposite, literal_true, clause_true}
use Rattle.dq_lits.specs.Formula.{Existential, Dqbf, declared, is_universal, existential_of, IsWellFormed}
use Rattle.dq_lits.proofs.Truth.{literal_true-opposite}
use Rattle.dq_lits.proofs.LiftedExpansion.{literal_true-agree}
use Rattle.dq_lits.proofs.FormulaVariables.{find_sound}
use Rattle.hint_log.specs.Conditions.{is_circuit_name, HasSides, MayFollow}
use Rattle.hint_log.specs.Entries.{name_of, Entry, Named, Given}
use Rattle.hint_log.specs.declared.names.Name.{Name}
use Rattle.hint_log.specs.declared.names.Name.TheVariants.{Selector, Pair, Input, And, Bad, Copy as CopyOf, Term}
use Rattle.hint_log.specs.declared.origins.Leaf.{Leaf}
use Rattle.hint_log.specs.declared.origins.Leaf.TheVariants.{Constant, Literal as LeafLiteral}
use Rattle.hint_log.specs.declared.origins.Origin.{Origin}
use Rattle.hint_log.specs.declared.origins.Origin.TheVariants.{Gate, Fault}
use Rattle.hint_log.specs.Growth.{Each}
use Rattle.hint_log.specs.Naming.{numbered_from_one, named_literal, name_literal}
use Rattle.hint_log.specs.Origins.{leaf_with_sign, leaf_clause, matrix_literal, gate_rest, IsGateRest, IsLeafOf, IsFaultRest, IsOriginsClause}
use Rattle.hint_log.specs.Deciding.{ReachesGiven, AreNegatedSelectors, RestsOnCircuit, IsCircuitGiven, IsFaultLeaf}
use Rattle.log_laws.specs.Meaning.{IsSoundAnswer, LeavesSolve}
use Rattle.log_laws.specs.Circuits.{name_value, value_in, leaf_value, existential_bit, by_bits}
use Rattle.log_laws.proofs.Implied.{LinesAreImplied}
use Rattle.log_laws.proofs.ReachedClauses.{name_stays, answer_true}
use Rattle.log_laws.proofs.Found.{variable, find_there, numbered_among, slice_get_at, named_variable}

not_new : (es : List Entry) (u w : ℕ) → is_circuit_name (name_of es u) ≡ true → name_of es w ≡ None → (u == w) ≡ false
not_new es u w h none = search (arith, ne_eqb, false≢true)

stays_named : (es : List Entry) (u w : ℕ) (n : Name) → is_circuit_name (name_of es u) ≡ true → name_of es w ≡ None →
    is_circuit_name (cond (u == w) (Some n) (name_of es u)) ≡ true
stays_named es u w n h none = search (arith, cond-false, not_new)

-- the sides of a gate are named
pub sides : (es : List Entry) (v : ℕ) (a b : Literal) → Each MayFollow es → name_of es v ≡ Some (And a b) →
    (is_circuit_name (name_of es (variable_of a)) ≡ true) × (is_circuit_name (name_of es (variable_of b)) ≡ true)
sides [] v a b lawful h = cc
sides (Named w n ∷ es) v a b lawful h = by_bit (sides es v a b lawful.1) (v == w) h where
  by_bit : (name_of es v ≡ Some (And a b) → (is_circuit_name (name_of es (variable_of a)) ≡ true) ×
      (is_circuit_name (name_of es (variable_of b)) ≡ true)) → (c : Bool) →
      cond c (Some n) (name_of es v) ≡ Some (And a b) →
      (is_circuit_name (cond (variable_of a == w) (Some n) (name_of es (variable_of a))) ≡ true) ×
      (is_circuit_name (cond (variable_of b == w) (Some n) (name_of es (variable_of b))) ≡ true)
  by_bit later true h = search (arith, stays_named)
  by_bit later false h = search (arith, stays_named)
sides (_ ∷ es) v a b lawful h = sides es v a b lawful.1 h

pub both_same : (p q : Assignment) (a b : Literal) → p (variable_of a) ≡ q (variable_of a) →
    p (variable_of b) ≡ q (variable_of b) → (literal_true p a && literal_true p b) ≡
    (literal_true q a && literal_true q b)
both_same p q a b h k = search (arith, literal_true-agree)

module _ (m : Assignment) (bad : ℕ → Bool) where
  -- a gate has the value of its sides
  pub gate_value_is : (es : List Entry) (v : ℕ) (a b : Literal) → Each MayFollow es → name_of es v ≡ Some (And a b) →
      value_in m bad es v ≡ (literal_true (value_in m bad es) a && literal_true (value_in m bad es) b)
  gate_value_is [] v a b lawful h = cc
  gate_value_is (Named w n ∷ es) v a b lawful h = by_bit (gate_value_is es v a b lawful.1) (v == w) h where
    up : (is_circuit_name (name_of es (variable_of a)) ≡ true) × (is_circuit_name (name_of es (variable_of b)) ≡ true) →
        (literal_true (value_in m bad es) a && literal_true (value_in m bad es) b) ≡
        (literal_true (value_in m bad (Named w n ∷ es)) a && literal_true (value_in m bad (Named w n ∷ es)) b)
    up s = both_same (value_in m bad es) (value_in m bad (Named w n ∷ es)) a b
        (sym (cond-false (variable_of a == w) _ (value_in m bad es (variable_of a))
        (not_new es (variable_of a) w s.0 lawful.0.unnamed)))
        (sym (cond-false (variable_of b == w) _ (value_in m bad es (variable_of b))
        (not_new es (variable_of b) w s.1 lawful.0.unnamed)))

    by_bit : (name_of es v ≡ Some (And a b) → value_in m bad es v ≡
        (literal_true (value_in m bad es) a && literal_true (value_in m bad es) b)) → (c : Bool) →
        cond c (Some n) (name_of es v) ≡ Some (And a b) →
        cond c (name_value m bad (value_in m bad es) n) (value_in m bad es v) ≡
        (literal_true (value_in m bad (Named w n ∷ es)) a && literal_true (value_in m bad (Named w n ∷ es)) b)
    by_bit later true h = search arith
    by_bit later false h = later h ∙ up (sides es v a b lawful.1 h)
  gate_value_is (_ ∷ es) v a b lawful h = gate_value_is es v a b lawful.1 h

  abbrev pub simple_value : Name → Option Bool
  simple_value (Selector g) = Some true
  simple_value (Pair k y) = Some false
  simple_value (Input x) = Some (m x)
  simple_value (And a b) = None
  simple_value (Bad g j) = Some (bad j)
  simple_value (CopyOf side v) = Some false
  simple_value (Term a b) = Some false

  simple_is : (n : Name) (lower : Assignment) (b : Bool) → simple_value n ≡ Some b → name_value m bad lower n ≡ b
  simple_is (Input x) lower b h = cc
  simple_is _ lower b h = cc

  -- a variable that is no gate has its name's value
  pub value_is : (es : List Entry) (v : ℕ) (n : Name) (b : Bool) → name_of es v ≡ Some n → simple_value n ≡ Some b →
      value_in m bad es v ≡ b
  value_is [] v n b h s = cc
  value_is (Named w o ∷ es) v n b h s = by_bit (λ k. value_is es v n b k s) (v == w) h where
    by_bit : (name_of es v ≡ Some n → value_in m bad es v ≡ b) → (c : Bool) → cond c (Some o) (name_of es v) ≡ Some n →
        cond c (name_value m bad (value_in m bad es) o) (value_in m bad es v) ≡ b
    by_bit later true h = let is : o ≡ n = cc in simple_is o (value_in m bad es) b (ap simple_value is ∙ s)
    by_bit later false h = later h
  value_is (_ ∷ es) v n b h s = value_is es v n b h s

-- circuits don't depend on the bad clauses
no_bad : (m : Assignment) (p q : ℕ → Bool) (es : List Entry) (v : ℕ) → Each MayFollow es →
    is_circuit_name (name_of es v) ≡ true → value_in m p es v ≡ value_in m q es v
no_bad m p q [] v lawful h = refl
no_bad m p q (Named w n ∷ es) v lawful h = by_bit (λ u. no_bad m p q es u lawful.1) (v == w) h where
  by_name : ((u : ℕ) → is_circuit_name (name_of es u) ≡ true → value_in m p es u ≡ value_in m q es u) → (o : Name) →
      HasSides es o → is_circuit_name (Some o) ≡ true → name_value m p (value_in m p es) o ≡ name_value m q
      (value_in m q es) o
  by_name later (And a b) s h = both_same (value_in m p es) (value_in m q es) a b (later (variable_of a) s.0)
      (later (variable_of b) s.1)
  by_name later (Bad g j) s h = cc
  by_name later _ s h = refl

  by_bit : ((u : ℕ) → is_circuit_name (name_of es u) ≡ true → value_in m p es u ≡ value_in m q es u) → (c : Bool) →
      is_circuit_name (cond c (Some n) (name_of es v)) ≡ true →
      cond c (name_value m p (value_in m p es) n) (value_in m p es v) ≡ cond c (name_value m q (value_in m q es) n)
      (value_in m q es v)
  by_bit later true h = by_name later n lawful.0.sides h
  by_bit later false h = later v h
no_bad m p q (_ ∷ es) v lawful h = no_bad m p q es v lawful.1 h

abbrev pub is_bad : Assignment → Option (List Literal) → Bool
is_bad n None = false
is_bad n (Some c) = not (clause_true n c)

false_among : (n : Assignment) (c : List Literal) (l : Literal) → Contains c l → clause_true n c ≡ false →
    literal_true n l ≡ false
false_among n c l (k, below, is) h = search (arith, cases_Bool, true≢false, list_any_at)

-- the literal of a matrix by its numbers
pub split_literal : (o : Option (List Literal)) (i : ℕ) (l : Literal) →
    option_and_then (λ c. numbered_from_one c i) o ≡ Some l →
    (c : List Literal) × (o ≡ Some c) × (numbered_from_one c i ≡ Some l)
split_literal None i l h = cc
split_literal (Some c) i l h = (c, refl, h)

module _ (implied : LinesAreImplied) (f : Dqbf) (well : IsWellFormed f) (all : List Entry) (lawful : Each MayFollow all)
    (first : List ℕ) (m : Assignment) (bit : Existential → Bool)
    (outs : All (λ y. (out : Leaf) → IsFaultLeaf f all first y out →
    leaf_value (value_in m (λ _. false) all) out ≡ bit y) f.existentials) where
  abbrev n : Assignment
  n = by_bits f m bit

  abbrev bad : ℕ → Bool
  bad j = is_bad n (numbered_from_one f.matrix j)

  abbrev a : Assignment
  a = value_in m bad all

  module _ (es more : List Entry) (is : all ≡ more ++ es) where
    stays : (v : ℕ) (name : Name) → name_of es v ≡ Some name → name_of all v ≡ Some name
    stays v name h = ap (λ xs. name_of xs v) is ∙ name_stays more es v name (subst (Each MayFollow) is lawful) h

    circuit_stays : (v : ℕ) (o : Option Name) → name_of es v ≡ o → is_circuit_name o ≡ true →
        is_circuit_name (name_of all v) ≡ true
    circuit_stays v None h c = cc
    circuit_stays v (Some name) h c = ap is_circuit_name (stays v name h) ∙ c

    gate_true : (v i : ℕ) (rest : List Literal) → IsGateRest es v i rest → clause_true a rest ≡ true
    gate_true v i rest g = by_number (literal_true a g.left) (literal_true a g.right) refl refl i g.rest_is where
      value : a v ≡ (literal_true a g.left && literal_true a g.right)
      value = gate_value_is m bad all v g.left g.right lawful (stays v (And g.left g.right) g.named)

      by_number : (x y : Bool) → literal_true a g.left ≡ x → literal_true a g.right ≡ y → (i : ℕ) →
          gate_rest v g.left g.right i ≡ Some rest → clause_true a rest ≡ true
      by_number x y ex ey zero h = cc
      by_number x y ex ey (suc zero) h = let is : (negative v ∷ g.left ∷ []) ≡ rest = cc in
          ap (clause_true a) (sym is) ∙ ap (λ z. not z || (literal_true a g.left || false))
          (value ∙ ap (λ z. z && literal_true a g.right) ex ∙ ap (λ z. x && z) ey) ∙ ap
          (λ z. not (x && y) || (z || false)) ex ∙ tables x y where
            tables : (x y : Bool) → (not (x && y) || (x || false)) ≡ true
            tables true true = refl
            tables true false = refl
            tables false y = refl
      by_number x y ex ey (suc (suc zero)) h = let is : (negative v ∷ g.right ∷ []) ≡ rest = cc in
          ap (clause_true a) (sym is) ∙ ap (λ z. not z || (literal_true a g.right || false))
          (value ∙ ap (λ z. z && literal_true a g.right) ex ∙ ap (λ z. x && z) ey) ∙ ap
          (λ z. not (x && y) || (z || false)) ey ∙ tables x y where
            tables : (x y : Bool) → (not (x && y) || (y || false)) ≡ true
            tables true true = refl
            tables true false = refl
            tables false y = refl
      by_number x y ex ey (suc (suc (suc zero))) h = let is : (positive v ∷ opposite g.left ∷ opposite g.right ∷ [])
          ≡ rest = cc in
          ap (clause_true a) (sym is) ∙ ap (λ z. z || (literal_true a (opposite g.left) ||
          (literal_true a (opposite g.right) || false)))
          (value ∙ ap (λ z. z && literal_true a g.right) ex ∙ ap (λ z. x && z) ey)
          ∙ ap (λ z. (x && y) || (z || (literal_true a (opposite g.right) || false)))
          (literal_true-opposite a g.left ∙ ap not ex) ∙ ap (λ z. (x && y) || (not x || (z || false)))
          (literal_true-opposite a g.right ∙ ap not ey) ∙ tables x y where
            tables : (x y : Bool) → ((x && y) || (not x || (not y || false))) ≡ true
            tables true true = refl
            tables true false = refl
            tables false y = refl
      by_number x y ex ey (suc (suc (suc (suc _)))) h = cc

    -- a leaf has the value of its variable
    leaf_is_value : (j i : ℕ) (l : Literal) (out : Leaf) (c : List Literal) → matrix_literal f j i ≡ Some l →
        IsLeafOf f es (variable_of l) out → ReachesGiven all first (Fault j i out) c →
        n (variable_of l) ≡ leaf_value a out
    leaf_is_value j i l out c at is_leaf reached = elim (cases_Bool (is_universal f (variable_of l))) [
      | inl universal ↦ search (arith, by_input)
      | inr other ↦ search (arith, by_option)
    ] where
      by_input : is_universal f (variable_of l) ≡ true → (o : Leaf) → IsLeafOf f es (variable_of l) o →
          m (variable_of l) ≡ leaf_value a o
      by_input universal (Constant b) h = absurd (true≢false (sym universal ∙ h))
      by_input universal (LeafLiteral k) h =
          let input = h.0 universal in
          sym (ap (literal_true a) input.0 ∙ value_is m bad all (variable_of k) (Input (variable_of l))
          (m (variable_of l)) (stays (variable_of k) (Input (variable_of l)) input.1) refl)

      same_leaf : (o : Leaf) → IsLeafOf f es (variable_of l) o →
          leaf_value (value_in m (λ _. false) all) o ≡ leaf_value a o
      same_leaf (Constant b) h = refl
      same_leaf (LeafLiteral k) h = search (arith, literal_true-agree, no_bad, circuit_stays)

      by_option : is_universal f (variable_of l) ≡ false → (o : Option Existential) →
          existential_of f (variable_of l) ≡ o → existential_bit bit o ≡ leaf_value a out
      by_option other None none =
          let r = split_literal (numbered_from_one f.matrix j) i l at in
          let bound = All-contains (λ k. Contains (declared f) (variable_of k)) r.0 l
          (All-contains (All (λ k. Contains (declared f) (variable_of k))) f.matrix r.0 well.bound
          (numbered_among f.matrix j r.0 r.1)) (numbered_among r.0 i l r.2) in
          absurd (elim (Contains-append_cases f.universals (map variable f.existentials) (variable_of l) bound) [
            | inl universal ↦ search (arith, true≢false, list_any_at, eq-eqb)
            | inr existential ↦ find_there f.existentials (variable_of l) existential none
          ])
      by_option other (Some y) found =
          let own = find_sound (variable_of l) f.existentials y found in
          let fault : IsFaultLeaf f all first y out = search arith in
          let same = All-contains (λ z. (o : Leaf) → IsFaultLeaf f all first z o →
          leaf_value (value_in m (λ _. false) all) o ≡ bit z) f.existentials y outs own.0 out fault in
          sym same ∙ same_leaf out is_leaf

    -- the literal of a fault is false where the clause is
    tail_true : (l : Literal) (out : Leaf) (tail : List Literal) → n (variable_of l) ≡ leaf_value a out →
        literal_true n l ≡ false → leaf_clause (leaf_with_sign (not (is_negative l)) out) ≡ Some tail →
        clause_true a tail ≡ true
    tail_true (positive v) (Constant true) tail e h t = absurd (true≢false (sym e ∙ h))
    tail_true (positive v) (Constant false) tail e h t = cc
    tail_true (negative v) (Constant true) tail e h t = cc
    tail_true (negative v) (Constant false) tail e h t = absurd (true≢false (sym (ap not e) ∙ h))
    tail_true (positive v) (LeafLiteral k) tail e h t = search (arith, literal_true-opposite)
    tail_true (negative v) (LeafLiteral k) tail e h t = search (arith, not-false)

    fault_true : (group j i : ℕ) (out : Leaf) (rest c : List Literal) → IsFaultRest f es group j i out rest →
        ReachesGiven all first (Fault j i out) c → clause_true a rest ≡ true
    fault_true group j i out rest c r reached =
        let p = split_literal (numbered_from_one f.matrix j) i r.literal r.literal_is in
        let bad_is : a r.bad ≡ bad j = value_is m bad all r.bad (Bad group j) (bad j)
        (stays r.bad (Bad group j) r.bad_is) refl in
        let bit : a r.bad ≡ not (clause_true n p.0) = bad_is ∙ ap (is_bad n) p.1 in
        ap (clause_true a) r.rest_is ∙ elim (cases_Bool (clause_true n p.0)) [
          | inl t ↦ or_left (not (a r.bad)) (clause_true a r.tail) (ap not (bit ∙ ap not t))
          | inr t ↦ or_right (not (a r.bad)) (clause_true a r.tail)
              (tail_true r.literal out r.tail (leaf_is_value j i r.literal out c r.literal_is r.leaf_is reached)
              (false_among n p.0 r.literal (numbered_among p.0 i r.literal p.2) t) r.tail_is)
        ]

    some_true : (group : ℕ) (js : List ℕ) (rest : List Literal) (j : ℕ) →
        map (name_literal es) rest ≡ map Some (map (λ i. named_literal (Bad group i) false) js) → Contains js j →
        bad j ≡ true → clause_true a rest ≡ true
    some_true group [] rest j h (k, below, is') t = absurd (omega arith)
    some_true group (i ∷ js) [] j h inside t = cc
    some_true group (i ∷ js) (r ∷ rest) j h (zero, below, is') t =
        let here : name_literal es r ≡ Some (named_literal (Bad group i) false) = cc in
        let named = named_variable es r (Bad group i) false (name_of es (variable_of r)) refl here in
        or_left (literal_true a r) (clause_true a rest) (sign r named.1 ∙ value_is m bad all (variable_of r)
        (Bad group i) (bad i) (stays (variable_of r) (Bad group i) named.0) refl ∙ ap bad is' ∙ t) where
          sign : (l : Literal) → is_negative l ≡ false → literal_true a l ≡ a (variable_of l)
          sign (positive v) e = refl
          sign (negative v) e = absurd (true≢false e)
    some_true group (i ∷ js) (r ∷ rest) j h (suc k, below, is') t =
        search (arith, or_right, (some_true group js rest j))

  number_in : (from count k : ℕ) → k < count → Contains (range_with_len from count) (from + k)
  number_in from zero k h = absurd (omega arith)
  number_in from (suc count) zero h = (0, omega arith, omega arith)
  number_in from (suc count) (suc k) h =
      let r = number_in (from + 1) count k (let b : k < count = omega arith in b) in
      let e : from + 1 + k ≡ from + suc k = omega arith in
      let s = subst (Contains (range_with_len (from + 1) count)) e r in
      let b = s.1 in (suc s.0, omega arith, s.2)

  module _ (k : ℕ) (below : k < length f.matrix) (is_false : clause_true n (get_or f.matrix k []) ≡ false) where
    bad_there : bad (1 + k) ≡ true
    bad_there = search (arith, slice_get_at)

    given_true : (es more : List Entry) (group : ℕ) (origin : Origin) (c : List Literal) →
        all ≡ more ++ Given origin c ∷ es → IsOriginsClause f es origin c → IsCircuitGiven group origin c →
        ReachesGiven all first origin c → clause_true a c ≡ true
    given_true es more group (Gate v i) c is o mine reached =
        let is' : all ≡ (more ++ Given (Gate v i) c ∷ []) ++ es = search (arith, append_assoc) in
        ap (clause_true a) o.clause_is ∙ or_right (not (a o.group)) (clause_true a o.rest)
        (gate_true es (more ++ Given (Gate v i) c ∷ []) is' v i o.rest o.rest_is)
    given_true es more group (Fault zero zero out) c is o mine reached =
        let is' : all ≡ (more ++ Given (Fault 0 0 out) c ∷ []) ++ es = search (arith, append_assoc) in
        ap (clause_true a) o.clause_is ∙ or_right (not (a o.group)) (clause_true a o.rest)
        (some_true es (more ++ Given (Fault 0 0 out) c ∷ []) is' o.group (range_with_len 1 (length f.matrix)) o.rest
        (1 + k) o.rest_is.1 (number_in 1 (length f.matrix) k below) bad_there)
    given_true es more group (Fault zero (suc i) out) c is o mine reached = absurd o.rest_is
    given_true es more group (Fault (suc j) i out) c is o mine reached =
        let is' : all ≡ (more ++ Given (Fault (suc j) i out) c ∷ []) ++ es =
        is ∙ sym (append_assoc more (Given (Fault (suc j) i out) c ∷ []) es) in
        ap (clause_true a) o.clause_is ∙ or_right (not (a o.group)) (clause_true a o.rest)
        (fault_true es (more ++ Given (Fault (suc j) i out) c ∷ []) is' o.group
        (suc j) i out o.rest c o.rest_is reached)
    given_true es more group _ c is o mine reached = absurd mine

    selectors_false : (clause : List Literal) → AreNegatedSelectors all clause → clause_true a clause ≡ false
    selectors_false [] h = refl
    selectors_false (l ∷ ls) h =
        let P : Literal → Type 0 = λ q. (q ≡ negative (variable_of q)) ×
        (name_of all (variable_of q) ≡ Some (Selector (variable_of q))) in
        let here = All-head P l ls h in
        let is : literal_true a l ≡ false = ap (literal_true a) here.0 ∙ ap not
        (value_is m bad all (variable_of l) (Selector (variable_of l)) true here.1 refl) in
        ap (λ b. b || clause_true a ls) is ∙ selectors_false ls (All-tail P l ls h)

    no_clause_false : (clause : List Literal) → IsSoundAnswer f all clause first → RestsOnCircuit all clause first → ⊥
    no_clause_false clause sound rests =
        let truth = answer_true implied all first a
        (λ es more origin c is reached. given_true es more rests.group origin c is
        (sound.givens_match_origins more es origin c is reached) (rests.circuit origin c reached) reached)
        clause sound.lemmas_are_derived sound.derived in
        false≢true (sym (selectors_false clause rests.selectors) ∙ truth)

-- with these bits every clause is true, whatever the universals are
pub bits_hold : LinesAreImplied → LeavesSolve
bits_hold implied f earlier clause hints well sound rests m bit outs k d below =
    let same : get_or f.matrix k d ≡ get_or f.matrix k [] = get_or_default f.matrix k d [] below in
    elim (cases_Bool (clause_true (by_bits f m bit) (get_or f.matrix k []))) [
      | inl t ↦ ap (clause_true (by_bits f m bit)) same ∙ t
      | inr e ↦ absurd (no_clause_false implied f well earlier sound.logged hints m bit outs k below e clause
          sound rests)
    ]
