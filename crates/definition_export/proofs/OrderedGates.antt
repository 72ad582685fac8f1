-- Needed gates in the order of naming, each once.
use Rattle.std.proofs.Common.{◌≡◌, ◌≢◌, nat_lt, is_some, ℕ, zero, suc, ◌+◌, ◌≤◌, ◌<◌, ◌==◌, ◌⊎◌, inl, inr, true, true≢false, List, [], ◌∷◌, ◌++◌, map, take, length, get_or, slice_index, IfOk, Result, Ok, Err, Option, None, Some, IsSome, refl, sym, ◌∙◌, ap, subst, arith}
use Rattle.std.specs.List.{All, AllPairs, Contains, position_or_len}
use Rattle.std.specs.Option.{option_and_then}
use Rattle.std.specs.List.Sorted.{IsStrictlyIncreasing}
use Rattle.std.proofs.lemmas.Bool.{eq-eqb, ne_eqb, eqb-true, eqb-false, ltb-true, ltb-false}
use Rattle.std.proofs.lemmas.List.{length-map, get_or_default, get_or-take, map-append, take_more}
use Rattle.std.proofs.lemmas.List.Kept.{AllPairs-from_increasing}
use Rattle.std.proofs.lemmas.List.Sums.{position_or_len_is, passes_at_first}
use Rattle.std.proofs.lemmas.List.Elements.{All-contains, Contains-append_right}
use Rattle.std.proofs.lemmas.Option.{slice_get-get_or, get_or_from_slice_get}
use Rattle.list_laws.proofs.Members.{tested_inside}
use Rattle.list_laws.proofs.Sequences.{take-few}
use Rattle.dq_lits.specs.Literal.{Literal, variable_of}
use Rattle.dq_lits.specs.declared.memory.Memory.{Memory}
use Rattle.dq_lits.specs.Formula.{Dqbf, Existential, declared, existential_of}
use Rattle.dq_lits.proofs.FormulaVariables.{find_sound}
use Rattle.dq_formula.specs.Prefix.{is_declared}
use Rattle.hint_log.specs.Entries.{Entry, Given, count, has_id, name_of, numbered, origin_of}
use Rattle.hint_log.specs.Reached.{AreReached}
use Rattle.hint_log.specs.declared.names.Name.TheVariants.{Term}
use Rattle.hint_log.specs.declared.origins.Leaf.{Leaf}
use Rattle.hint_log.specs.declared.origins.Leaf.TheVariants.{Constant, Literal as LeafLiteral}
use Rattle.hint_log.specs.declared.origins.Origin.TheVariants.{TermGate}
use Rattle.number_tables.specs.Numbers.{has_number, place_of}
use Rattle.cert_export.proofs.CircuitNumbers.{position_below}
use Rattle.definition_export.specs.Closing.{is_waiting, IsLeafWaiting, IsGateWaiting, AreClosed, AreTermNames, IsSidePlace}
use Rattle.definition_export.specs.Exporting.{AreBlockGates, IsTermBefore, IsLeafListed, is_term_entry}
use Rattle.definition_export.specs.Parts.{AreNamedTerms}
use Rattle.definition_export.specs.declared.places.PlaceSet.{PlaceSet}
use Rattle.definition_export.proofs.OrderedTerms.{at_place}
use Rattle.number_tables.proofs.NumberPlaces.{placed}

-- an existential is declared
pub existential_declared : (f : Dqbf) (y : ℕ) → IsSome (existential_of f y) → is_declared f y ≡ true
existential_declared f y there = by_option (existential_of f y) refl there where
  by_option : (o : Option Existential) → existential_of f y ≡ o → IsSome o → is_declared f y ≡ true
  by_option None is h = cc
  by_option (Some e) is h =
      let found = find_sound y f.existentials e is in
      tested_inside (declared f) y (Contains-append_right f.universals (map (λ x. x.variable) f.existentials) y
      (of_map f.existentials e y found.0 found.1)) where
        of_map : (ys : List Existential) (e : Existential) (v : ℕ) → Contains ys e → e.variable ≡ v →
            Contains (map (λ x. x.variable) ys) v
        of_map [] e v inside is = absurd (let b = inside.1 in omega (arith, b))
        of_map (x ∷ xs) e v (zero, b, is_e) is = (0, omega arith, ap (λ (z : Existential). z.variable) is_e ∙ is)
        of_map (x ∷ xs) e v (suc k, b, is_e) is =
            let r = of_map xs e v (k, omega (arith, b), is_e) is in
            (suc r.0, (let c = r.1 in omega (arith, c)), r.2)

-- a number that stands before another one in a list is in it
pub listed_before : (xs : List ℕ) (v w : ℕ) → Contains xs v →
    position_or_len (λ x. x == w) xs < position_or_len (λ x. x == v) xs → Contains xs w
listed_before xs v w inside before =
    let top = position_below v xs (tested_inside xs v inside) in
    let below : position_or_len (λ x. x == w) xs < length xs = omega (arith, before, top) in
    (position_or_len (λ x. x == w) xs, below, eqb-true _ w (passes_at_first (λ x. x == w) xs w below))

-- a number that is there has a place
has_place : (xs : List ℕ) (v : ℕ) → has_number xs v ≡ true → (q : ℕ) × (place_of xs v ≡ Some q)
has_place xs v there = by_option (place_of xs v) refl where
  by_option : (o : Option ℕ) → place_of xs v ≡ o → (q : ℕ) × (place_of xs v ≡ Some q)
  by_option None e = absurd (true≢false (sym there ∙ sym (placed xs v) ∙ ap is_some e))
  by_option (Some q) e = (q, e)

picked : (g : ℕ → ℕ) (xs : List ℕ) (i d : ℕ) → i < length xs → get_or (map g xs) i d ≡ g (slice_index xs i)
picked g [] i d h = absurd (omega (arith, h))
picked g (x ∷ xs) zero d h = refl
picked g (x ∷ xs) (suc i) d h = picked g xs i d (omega (arith, h))

-- of two places in a rising list the lesser one comes first
comes_first : (up : List ℕ) → IsStrictlyIncreasing up → (i j m n : ℕ) → i < length up → j < length up →
    slice_index up i ≡ m → slice_index up j ≡ n → m < n → i < j
comes_first up rising i j m n small high is_m is_n low =
    search (arith, nat_lt, ltb-true, eqb-true, ltb-false, eqb-false, AllPairs-from_increasing)

module _ (entries : List Entry) (terms : List ℕ) (up : List ℕ) (names : AreTermNames entries terms)
    (rising : IsStrictlyIncreasing up) (within : (p : ℕ) → Contains up p → p < length terms) where
  abbrev gates : List ℕ
  gates = map (slice_index terms) up

  less : (i j : ℕ) → i < j → j < length up → slice_index up i < slice_index up j
  less i j low high = AllPairs-from_increasing up rising i j 0 low high

  place_within : (i : ℕ) → i < length up → slice_index up i < length terms
  place_within i b = within (slice_index up i) (i, b, sym (get_or_default up i 0 (slice_index up i) b))

  apart : (p q : ℕ) → p < q → q < length terms → slice_index terms p ≡ slice_index terms q → ⊥
  apart p q low high same = names.distinct p q 0 low high same

  -- the gate at a place
  at : (i d : ℕ) → i < length up → get_or gates i d ≡ slice_index terms (slice_index up i)
  at i d b = picked (slice_index terms) up i d b

  long : length gates ≡ length up
  long = length-map up (slice_index terms)

  gates_apart : (i j : ℕ) → i < j → j < length up →
      slice_index terms (slice_index up i) ≡ slice_index terms (slice_index up j) → ⊥
  gates_apart i j low high same = apart (slice_index up i) (slice_index up j) (less i j low high) (place_within j high)
      same

  pub gates_distinct : AllPairs (λ v w. v ≢ w) gates
  gates_distinct i j d low high same =
      let l = long in
      let b : j < length up = omega (arith, high, l) in
      let c : i < length up = omega (arith, low, b) in
      gates_apart i j low b (sym (at i d c) ∙ same ∙ at j d b)

  -- where a gate stands
  pub record IsAt (v : ℕ) : Type 0 where
    pub index : ℕ
    pub below : index < length up
    pub is : slice_index terms (slice_index up index) ≡ v

  at_of : (v : ℕ) → Contains gates v → IsAt v
  at_of v inside =
      let l = long in
      let b = inside.1 in
      let below : inside.0 < length up = omega (arith, b, l) in
      record { index = inside.0; below = below; is = sym (at inside.0 v below) ∙ inside.2 }

  position_of : (v : ℕ) (a : IsAt v) → position_or_len (λ x. x == v) gates ≡ a.index
  position_of v a =
      let l = long in
      let b = a.below in
      position_or_len_is (λ x. x == v) gates a.index 0 (omega (arith, l, b))
      (λ k low. ne_eqb (get_or gates k 0) v (λ same. gates_apart k a.index low a.below
      (sym (at k 0 (omega (arith, low, b))) ∙ same ∙ sym a.is)))
      (λ low. eq-eqb (get_or gates a.index 0) v (at a.index 0 a.below ∙ a.is))

  pub inside_of_at : (v : ℕ) → IsAt v → Contains gates v
  inside_of_at v a =
      let l = long in
      let b = a.below in
      (a.index, omega (arith, l, b), at a.index v a.below ∙ a.is)

  -- a place of the list, and its gate
  abbrev at_place_of : (v q : ℕ) → place_of terms v ≡ Some q → Contains up q → IsAt v
  at_place_of v q is inside = record {
    index = inside.0;
    below = inside.1;
    is = ap (slice_index terms) (get_or_default up inside.0 0 q inside.1 ∙ inside.2)
        ∙ get_or_from_slice_get terms q v 0 (at_place terms v q is);
  }

  pub listed_gate : (v : ℕ) → Contains terms v → ((q : ℕ) → place_of terms v ≡ Some q → Contains up q) →
      Contains gates v
  listed_gate v inside listed =
      let p = has_place terms v (tested_inside terms v inside) in
      inside_of_at v (at_place_of v p.0 p.1 (listed p.0 p.1))

  pub gates_named : (v : ℕ) → Contains gates v → (a : Literal) × (b : Literal) × (name_of entries v ≡ Some (Term a b))
  gates_named v inside =
      let a = at_of v inside in
      names.named v (
        slice_index up a.index,
        place_within a.index a.below,
        sym (get_or_default terms (slice_index up a.index) 0 v (place_within a.index a.below)) ∙ a.is,
      )

  module _ (sides_in : (p q : ℕ) → Contains up p → IsSidePlace entries terms p q → Contains up q) where
    before : (v : ℕ) (a b l : Literal) → Contains gates v → name_of entries v ≡ Some (Term a b) →
        (l ≡ a) ⊎ (l ≡ b) → IsTermBefore entries gates v l
    before v a b l inside named either x y side =
        let here = at_of v inside in
        let p = slice_index up here.index in
        let small = place_within here.index here.below in
        let q = has_place terms (variable_of l) (tested_inside terms (variable_of l) (names.there (variable_of l) x y side)) in
        let place : IsSidePlace entries terms p q.0 = record {
          variable = v;
          left = a;
          right = b;
          literal = l;
          at = slice_get-get_or terms p 0 small ∙ ap Some here.is;
          named = named;
          either = either;
          side_is = q.1;
        } in
        let own : get_or up here.index p ≡ p = sym (get_or_default up here.index 0 p here.below) in
        let among_up = sides_in p q.0 (here.index, here.below, own) place in
        let there = at_place_of (variable_of l) q.0 q.1 among_up in
        let lower : q.0 < p = names.ordered p q.0 place in
        let index_is : slice_index up among_up.0 ≡ q.0 = get_or_default up among_up.0 0 q.0 among_up.1 ∙ among_up.2 in
        let first = position_of (variable_of l) there in
        let second = position_of v here in
        let earlier = comes_first up rising among_up.0 here.index q.0 p among_up.1 here.below index_is refl lower in
        omega (arith, first, second, earlier)

    pub gates_in_order : (v : ℕ) (a b : Literal) → Contains gates v → name_of entries v ≡ Some (Term a b) →
        IsTermBefore entries gates v a × IsTermBefore entries gates v b
    gates_in_order v a b inside named = (before v a b a inside named (inl refl), before v a b b inside named (inr refl))

-- gates that are listed one after the other
pub not_listed : (terms items up : List ℕ) (i v : ℕ) → AllPairs (λ v w. v ≡ w → ⊥) terms → IsStrictlyIncreasing up →
    ((p : ℕ) → Contains up p → p < length terms) → items ≡ terms → i < length up → v ≡ get_or items (get_or up i 0) 0 →
    Contains (map (slice_index terms) (take i up)) v → ⊥
not_listed terms items up i v distinct rising within is below v_is inside =
    let long = length-map (take i up) (slice_index terms) in
    let small = inside.1 in
    let k = inside.0 in
    let low : k < i = let few = take-few i up in omega (arith, small, long, few) in
    let here : get_or (map (slice_index terms) (take i up)) k v ≡ slice_index terms (get_or (take i up) k 0) =
    picked (slice_index terms) (take i up) k v (omega (arith, small, long)) in
    let same : get_or (take i up) k 0 ≡ get_or up k 0 = get_or-take i up k 0 low in
    let own : v ≡ slice_index terms (get_or up i 0) = v_is ∙ ap (λ xs. get_or xs (get_or up i 0) 0) is in
    let equal : slice_index terms (get_or up k 0) ≡ slice_index terms (get_or up i 0) =
    ap (slice_index terms) (sym same) ∙ sym here ∙ inside.2 ∙ own in
    distinct (get_or up k 0) (get_or up i 0) 0 (AllPairs-from_increasing up rising k i 0 low below)
    (within (get_or up i 0) (i, below, get_or_default up i (get_or up i 0) 0 below)) equal

pub listed_more : (terms items up gates new : List ℕ) (i : ℕ) → items ≡ terms → i < length up →
    gates ≡ map (slice_index terms) (take i up) → new ≡ gates ++ get_or items (get_or up i 0) 0 ∷ [] →
    new ≡ map (slice_index terms) (take (i + 1) up)
listed_more terms items up gates new i is below so_far new_is =
    new_is ∙ ap (λ gs. gs ++ get_or items (get_or up i 0) 0 ∷ []) so_far
    ∙ ap (λ xs. map (slice_index terms) (take i up) ++ get_or xs (get_or up i 0) 0 ∷ []) is
    ∙ sym (ap (map (slice_index terms)) (take_more up i 0 below)
    ∙ map-append (slice_index terms) (take i up) (get_or up i 0 ∷ []))

-- rising numbers below a bound are no more than it
few_below : (up : List ℕ) (n : ℕ) → IsStrictlyIncreasing up → ((p : ℕ) → Contains up p → p < n) → length up ≤ n
few_below [] n rising within = omega arith
few_below (x ∷ xs) n rising within =
    let last = length xs in
    let top = at_least (x ∷ xs) rising last (omega arith) in
    let below = within (get_or (x ∷ xs) last 0) (
      last,
      omega arith,
      get_or_default (x ∷ xs) last (get_or (x ∷ xs) last 0) 0 (omega arith),
    ) in
    omega (arith, top, below) where
      at_least : (ys : List ℕ) → IsStrictlyIncreasing ys → (i : ℕ) → i < length ys → i ≤ get_or ys i 0
      at_least ys up zero b = omega arith
      at_least ys up (suc i) b =
          let before = at_least ys up i (omega (arith, b)) in
          let step = AllPairs-from_increasing ys up i (suc i) 0 (omega arith) b in
          omega (arith, before, step)

-- so they are the gates of a block
pub block_gates : (entries : List Entry) (terms up ids gates : List ℕ) (first : PlaceSet) (leaf : Leaf) (id : ℕ) →
    AreTermNames entries terms → AreClosed entries terms first up → IsLeafWaiting terms first leaf →
    All (IsGateWaiting entries terms first) ids → gates ≡ map (slice_index terms) up → AreReached entries id ids →
    ((h v i : ℕ) (c : List Literal) → Contains ids h → numbered has_id entries h ≡ Some (Given (TermGate v i) c) →
    Contains terms v) → length terms ≤ count is_term_entry entries → AreBlockGates entries id leaf gates
block_gates entries terms up ids gates first leaf id names closed leaf_waits gates_wait is reached given few =
    subst (AreBlockGates entries id leaf) (sym is) (record {
      named = gates_named entries terms up names closed.rising closed.within;
      distinct = gates_distinct entries terms up names closed.rising closed.within;
      order = gates_in_order entries terms up names closed.rising closed.within closed.sides_in;
      leaf_listed = leaf_there leaf leaf_waits;
      few = let long = length-map up (slice_index terms) in
          let most = few_below up (length terms) closed.rising closed.within in omega (arith, few, long, most);
      used = λ h v i c reaches at. listed_gate entries terms up names closed.rising closed.within v
          (given h v i c (reached.complete h reaches) at)
          (λ q place. closed.first_in q (All-contains (IsGateWaiting entries terms first) ids h gates_wait
          (reached.complete h reaches) v i q (ap (option_and_then origin_of) at) place));
    }) where
      leaf_there : (out : Leaf) → IsLeafWaiting terms first out →
          IsLeafListed entries (map (slice_index terms) up) out
      leaf_there (Constant b) waits = tt
      leaf_there (LeafLiteral l) waits = λ a b named. listed_gate entries terms up names closed.rising closed.within
          (variable_of l) (names.there (variable_of l) a b named) (λ q place. closed.first_in q (waits q place))

pub all_within : (entries : List Entry) (terms : List ℕ) (first : PlaceSet) (up : List ℕ) →
    AreClosed entries terms first up → All (λ p. p < length terms) up
all_within entries terms first up closed = λ k d below. closed.within (get_or up k d)
    (k, below, get_or_default up k (get_or up k d) d below)

pub gates_or_memory : (entries : List Entry) (terms up ids : List ℕ) (first with_leaf : PlaceSet) (leaf : Leaf)
    (result : Result (List ℕ) Memory) → AreTermNames entries terms → AreClosed entries terms first up →
    IsLeafWaiting terms with_leaf leaf →
    ((p : ℕ) → is_waiting with_leaf p ≡ true → is_waiting first p ≡ true) →
    All (IsGateWaiting entries terms first) ids → length terms ≤ count is_term_entry entries →
    IfOk result (λ gates. gates ≡ map (slice_index terms) up) → AreNamedTerms entries ids →
    IfOk result (λ gates. (id : ℕ) → AreReached entries id ids → AreBlockGates entries id leaf gates)
gates_or_memory entries terms up ids first with_leaf leaf (Err e) names closed waits kept used few is named = tt
gates_or_memory entries terms up ids first with_leaf leaf (Ok gates) names closed waits kept used few is named =
    λ id reached. block_gates entries terms up ids gates first leaf id names closed (still leaf waits) used is
    reached (λ h v i c inside at. let t = named h v i c inside at in names.there v t.0 t.1 t.2) few where
      still : (out : Leaf) → IsLeafWaiting terms with_leaf out → IsLeafWaiting terms first out
      still (Constant b) h = tt
      still (LeafLiteral l) h = λ p place. kept p (h p place)
