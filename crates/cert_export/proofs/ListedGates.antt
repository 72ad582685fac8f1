-- The needed gates as variables, in the order of naming: gates of the log, each once and behind its
-- sides.
use Rattle.std.proofs.Common.{◌≡◌, ◌≢◌, ℕ, ◌+◌, ◌≤◌, ◌<◌, ◌==◌, ◌⊎◌, inl, inr, List, [], ◌∷◌, ◌++◌, length, length-append, get_or, reverse, slice_get, slice_index, true, Some, Result, Ok, Err, IfOk, refl, sym, ◌∙◌, ap, subst, arith}
use Rattle.std.specs.List.{All, AllPairs, Contains, position_or_len}
use Rattle.std.proofs.lemmas.Bool.{cases_lt}
use Rattle.std.proofs.lemmas.List.{get_or_append_left, get_or_default, get_or_push, get_or-reverse, length-reverse}
use Rattle.std.proofs.lemmas.List.Elements.{All-contains_itself}
use Rattle.list_laws.proofs.Members.{tested_inside}
use Rattle.dq_lits.specs.Literal.{Literal, variable_of}
use Rattle.hint_log.specs.Conditions.{MayFollow}
use Rattle.hint_log.specs.Entries.{Entry, count, name_of, names_of}
use Rattle.hint_log.specs.Growth.{Each}
use Rattle.hint_log.specs.declared.names.Name.{Name}
use Rattle.hint_log.specs.declared.names.Name.TheVariants.{And}
use Rattle.hint_log.specs.declared.origins.Leaf.{Leaf}
use Rattle.hint_log.specs.declared.origins.Leaf.TheVariants.{Constant, Literal as LeafLiteral}
use Rattle.hint_log.specs.declared.pending.Pending.{Pending}
use Rattle.cert_export.specs.CircuitPart.{IsSideBefore}
use Rattle.cert_export.specs.ExportedCircuit.{is_gate_name}
use Rattle.cert_export.specs.Needed.{is_and, HasGate, IsGatePlace, IsWanted, IsLeafWanted, HasRoots, IsListed, AreGatePlaces, AreVariablesAt, IsGateAmong, IsLeafAmongGates, AreNeededGates}
use Rattle.cert_export.proofs.CircuitNumbers.{position_is}
use Rattle.cert_export.proofs.GatePlaces.{reversed_contains}
use Rattle.cert_export.proofs.NamePlaces.{gate_sides, named_at, one_place, same_pair, side_before, few_places, IsSide}

-- the same list from its end on
pub reversed_pairs : (xs : List ℕ) → AllPairs (λ p q. q < p) xs → AllPairs (λ p q. p < q) (reverse xs)
reversed_pairs xs descending i j d less below = search (arith, length-reverse, get_or-reverse)

pub reversed_all : (P : ℕ → Type 0) (xs : List ℕ) → All P xs → All P (reverse xs)
reversed_all P xs all k d below = search (arith, length-reverse, get_or-reverse)

-- the variables of the first so many places
pub record AreVariablesSoFar (entries : List Entry) (places variables : List ℕ) (i : ℕ) : Type 0 where
  pub long : length variables ≡ i
  pub at : (k : ℕ) → k < i → (name : Name)
      × (slice_get (names_of entries) (slice_index places k) ≡ Some (slice_index variables k, name))

pub one_variable_more : (entries : List Entry) (places variables : List ℕ) (i v : ℕ) (name : Name) →
    AreVariablesSoFar entries places variables i →
    slice_get (names_of entries) (slice_index places i) ≡ Some (v, name) →
    AreVariablesSoFar entries places (variables ++ v ∷ []) (i + 1)
one_variable_more entries places variables i v name so_far at = record {
  long = omega (arith, length-append variables (v ∷ []), so_far.long);
  at = λ k below. by_case k (cases_lt k i) below;
} where
  last : slice_index (variables ++ v ∷ []) i ≡ v
  last = get_or_push variables v 0 i so_far.long

  by_case : (k : ℕ) → (k < i) ⊎ (i ≤ k) → k < i + 1 → (n : Name)
      × (slice_get (names_of entries) (slice_index places k) ≡ Some (slice_index (variables ++ v ∷ []) k, n))
  by_case k (inl less) below =
      let before = so_far.at k less in (
        before.0,
        before.1 ∙ ap (λ w. Some (w, before.0)) (sym (get_or_append_left variables (v ∷ []) 0 k
            (omega (arith, less, so_far.long)))),
      )
  by_case k (inr more) below =
      let same : k ≡ i = omega (arith, more, below) in (
        name,
        ap (λ n. slice_get (names_of entries) (slice_index places n)) same ∙ at
            ∙ ap (λ w. Some (w, name)) (sym (ap (slice_index (variables ++ v ∷ [])) same ∙ last)),
      )

-- the variable of a later place isn't among them
pub variable_is_new : (entries : List Entry) (places variables : List ℕ) (i v : ℕ) (name : Name) →
    Each MayFollow entries → AllPairs (λ p q. p < q) places → i < length places →
    AreVariablesSoFar entries places variables i →
    slice_get (names_of entries) (slice_index places i) ≡ Some (v, name) → Contains variables v → ⊥
variable_is_new entries places variables i v name lawful rising inside so_far at (k, below, is) =
    let less : k < i = omega (arith, below, so_far.long) in
    let before = so_far.at k less in
    let one = one_place entries (slice_index places k) (slice_index places i) v before.0 name lawful
    (before.1 ∙ ap (λ w. Some (w, before.0)) (get_or_default variables k 0 v below ∙ is)) at in
    omega (arith, one, rising k i 0 less inside)

module _ (entries : List Entry) (lawful : Each MayFollow entries) (roots : Pending) (places gates : List ℕ)
    (are : AreGatePlaces entries roots places) (listed : AreVariablesAt entries (reverse places) gates) where
  abbrev up : List ℕ
  up = reverse places

  rising : AllPairs (λ p q. p < q) up
  rising = reversed_pairs places are.descending

  -- a gate of the list, by its place there
  record IsGateOf (k v : ℕ) : Type 0 where
    pub below : k < length up
    pub name : Name
    pub at : slice_get (names_of entries) (slice_index up k) ≡ Some (v, name)
    pub is : is_and name ≡ true

  gate_of : (k v : ℕ) → k < length up → slice_index gates k ≡ v → IsGateOf k v
  gate_of k v below is =
      let here = listed.at k below in
      let at = here.1 ∙ ap (λ w. Some (w, here.0)) is in
      let g = reversed_all (IsGatePlace entries) places are.gates k 0 below in
      let name = (same_pair g.0 v g.1.0 here.0 (sym g.1.1 ∙ at)).1 in
      record { below = below; name = here.0; at = at; is = sym (ap is_and name) ∙ g.1.2 }

  gate_inside : (v : ℕ) (inside : Contains gates v) → IsGateOf inside.0 v
  gate_inside v (k, below, is) =
      gate_of k v (omega (arith, below, listed.long)) (get_or_default gates k 0 v below ∙ is)

  named : (v : ℕ) → Contains gates v → (a : Literal) × (b : Literal) × (name_of entries v ≡ Some (And a b))
  named v inside =
      let g = gate_inside v inside in
      let s = gate_sides g.name g.is in
      (s.0, s.1, named_at entries (slice_index up inside.0) v g.name lawful g.at ∙ ap Some s.2)

  there : (p v : ℕ) → Contains places p → HasGate entries v p → Contains gates v
  there p v inside gate =
      let at = reversed_contains places p inside in
      let below = at.1 in
      let here = listed.at at.0 below in
      let place : slice_index up at.0 ≡ p = get_or_default up at.0 0 p below ∙ at.2 in
      let is = (same_pair (slice_index gates at.0) v here.0 gate.0
      (sym here.1 ∙ ap (slice_get (names_of entries)) place ∙ gate.1)).0 in
      let within : at.0 < length gates = omega (arith, below, listed.long) in
      (at.0, within, get_or_default gates at.0 v 0 within ∙ is)

  among_gates : (v : ℕ) → IsListed entries places v → IsGateAmong entries gates v
  among_gates v here a b named = let l = here a b named in there l.0 v l.2 l.1

  wanted : (v : ℕ) → IsWanted entries roots v → IsGateAmong entries gates v
  wanted v here a b named = let w = here a b named in there w.0 v (are.roots_there w.0 w.2) w.1

  -- what is listed of the sides of a gate
  sides_listed : (v : ℕ) (a b : Literal) → Contains gates v → name_of entries v ≡ Some (And a b) →
      IsListed entries places (variable_of a) × IsListed entries places (variable_of b)
  sides_listed v a b inside named =
      let g = gate_inside v inside in
      let mine = named_at entries (slice_index up inside.0) v g.name lawful g.at in
      let same : Some g.name ≡ Some (And a b) = sym mine ∙ named in
      let is : g.name ≡ And a b = cc in
      are.closed (slice_index up inside.0) v a b (place_inside inside.0 g.below) (g.at ∙ ap (λ n. Some (v, n)) is) where
        place_inside : (k : ℕ) → k < length up → Contains places (slice_index up k)
        place_inside k below = reversed_all (Contains places) places (All-contains_itself places) k 0 below

  distinct : AllPairs (λ v w. v ≢ w) gates
  distinct i j d less below same =
      let under : j < length up = omega (arith, below, listed.long) in
      let first = gate_of i (slice_index gates i) (omega (arith, less, under)) refl in
      let second = gate_of j (slice_index gates i) under
      (get_or_default gates j 0 d below ∙ sym same ∙ get_or_default gates i d 0 (omega (arith, less, below))) in
      let one = one_place entries (slice_index up i) (slice_index up j) (slice_index gates i) first.name second.name
      lawful first.at second.at in
      omega (arith, one, rising i j 0 less under)

  few : length gates ≤ count is_gate_name entries
  few =
      omega (arith, listed.long, length-reverse places, few_places entries places are.descending are.gates)

  -- the place of a gate in the list, and its place in the log
  at_position : (v : ℕ) → Contains gates v → IsGateOf (position_or_len (λ x. x == v) gates) v
  at_position v inside =
      let p = position_is gates v (tested_inside gates v inside) in
      let first = p.first in
      gate_of (position_or_len (λ x. x == v) gates) v (omega (arith, p.below, listed.long, first))
      (ap (slice_index gates) first ∙ p.there)

  side_first : (v : ℕ) (a b l : Literal) → Contains gates v → name_of entries v ≡ Some (And a b) → IsSide a b l →
      IsListed entries places (variable_of l) → IsSideBefore entries gates v l
  side_first v a b l inside named side here c d other =
      let l_inside = among_gates (variable_of l) here c d other in
      let mine = at_position v inside in
      let its = at_position (variable_of l) l_inside in
      let i = position_or_len (λ x. x == variable_of l) gates in
      let j = position_or_len (λ x. x == v) gates in
      let name = named_at entries (slice_index up j) v mine.name lawful mine.at in
      let same : Some mine.name ≡ Some (And a b) = sym name ∙ named in
      let is : mine.name ≡ And a b = cc in
      let low = side_before entries (slice_index up j) (slice_index up i) v a b l its.name lawful
      (mine.at ∙ ap (λ n. Some (v, n)) is) side its.at in
      elim (cases_lt i j) [
        | inl less ↦ less
        | inr more ↦ absurd (past i j its.below more low)
      ] where
        past : (i j : ℕ) → i < length up → j ≤ i → slice_index up i < slice_index up j → ⊥
        past i j below more low = elim (cases_lt j i) [
          | inl less ↦ (omega (arith, rising j i 0 less below, low))
          | inr equal ↦ (let same : i ≡ j = omega (arith, more, equal) in
              omega (arith, ap (slice_index up) same, low))
        ]

  leaf_among : (leaf : Leaf) → IsLeafWanted entries roots leaf → IsLeafAmongGates entries gates leaf
  leaf_among (Constant b) h = tt
  leaf_among (LeafLiteral l) h = wanted (variable_of l) h

  pub are_needed : (ids : List ℕ) (leaves : List Leaf) → HasRoots entries ids leaves roots →
      AreNeededGates entries ids leaves gates
  are_needed ids leaves have = record {
    named = named;
    distinct = distinct;
    few = few;
    sides = λ v a b inside is. let both = sides_listed v a b inside is in
        (among_gates (variable_of a) both.0, among_gates (variable_of b) both.1);
    order = λ v a b inside is. let both = sides_listed v a b inside is in
        (side_first v a b a inside is (inl refl) both.0, side_first v a b b inside is (inr refl) both.1);
    leaves_there = λ k d below. leaf_among (get_or leaves k d) (have.leaves_wanted k d below);
    ids_there = λ k d below v i at. wanted v (have.ids_wanted k d below v i at);
  }

pub gates_are_needed : {E : Type 0} (entries : List Entry) → Each MayFollow entries → (roots : Pending)
    (places ids : List ℕ) (leaves : List Leaf) (ascending : List ℕ) (o : Result (List ℕ) E) →
    ascending ≡ reverse places → HasRoots entries ids leaves roots → AreGatePlaces entries roots places →
    IfOk o (AreVariablesAt entries ascending) → IfOk o (AreNeededGates entries ids leaves)
gates_are_needed entries lawful roots places ids leaves ascending (Ok gates) is have are listed =
    are_needed entries lawful roots places gates are (subst (λ ps. AreVariablesAt entries ps gates) is listed) ids
    leaves have
gates_are_needed entries lawful roots places ids leaves ascending (Err e) is have are listed = tt
