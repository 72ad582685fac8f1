-- A netlist on the page: its values, what it reaches, and why it has no cycle.
use Rattle.std.proofs.Common.{◌≡◌, ◌≢◌, ℕ, zero, suc, ◌+◌, ◌-◌, ◌/◌, ◌<◌, ◌≤◌, ◌==◌, ◌⊎◌, inl, inr, Bool, true, false, ◌&&◌, ◌||◌, cond, List, [], ◌∷◌, ◌++◌, length, map, get_or, refl, sym, ◌∙◌, ap, subst, arith}
use Rattle.std.specs.List.{All, AllPairs, AllByRecursion, Contains, flat_map, list_any}
use Rattle.std.proofs.lemmas.Bool.{cases_lt, eq-eqb, eqb-true, or_cases, or_left, or_right, and_from, and_parts}
use Rattle.std.proofs.lemmas.List.{get_or-map, length-map}
use Rattle.std.proofs.lemmas.List.Elements.{All-append, All-map, All-from_recursion}
use Rattle.list_laws.proofs.Members.{contains_cases, contains_first, contains_later, contains_tested, mapped_from, one_passes}
use Rattle.circuit_plain.specs.Ground.{IsGrounded, constant, input, gate}
use Rattle.circuit_plain.specs.Netlist.{Netlist, IsNetlist}
use Rattle.circuit_plain.specs.Value.{IsValuation}
use Rattle.circuit_plain.specs.Reach.{Reaches as ReadReaches, itself as read_itself, left as read_left, right as read_right}
use Rattle.circuit_plain.specs.declared.circuits.Gate.{Gate as ReadGate}
use Rattle.circuit_plain.proofs.NetlistLaws.{same_gate}
use Rattle.circuit_plain.specs.Netlist.{IsDefined, variable_of_gate}
use Rattle.aiger_text.specs.Grammar.{HasMeaning}
use Rattle.aiger_text.specs.Scan.{AllGrounded}
use Rattle.headline_laws.proofs.Declarations.{apart_append, apart_pairs, pairs_rec}
use Rattle.headline.specs.Headline.{Circuit, Gate, IsCircuit, Fits, Reaches, itself, left, right, among}
use Rattle.dqdimacs_reader.proofs.CanonicalFormula.{each as rec_each}
use Rattle.list_laws.proofs.Quantified.{rec_append}

abbrev pub page_gate : ReadGate → Gate
page_gate g = record { variable = g.variable; left = g.left; right = g.right }

abbrev pub page_circuit : Netlist → Circuit
page_circuit net = record {
  largest = net.max_var;
  inputs = net.inputs;
  outputs = net.outputs;
  gates = map page_gate net.gates;
}

-- values
pub fits_valuation : (net : Netlist) (inputs m : ℕ → Bool) → Fits (page_circuit net) inputs m → IsValuation net inputs m
fits_valuation net inputs m fits = record {
  constant = fits.constant;
  inputs = fits.given;
  gates = λ k d below.
      let there : k < length (map page_gate net.gates) = omega (arith, below, length-map net.gates page_gate) in
      let at = get_or-map page_gate net.gates k d (page_gate d) below in
      subst (λ (g : Gate). m g.variable ≡ (Rattle.headline.specs.Headline.literal_bit m g.left
      && Rattle.headline.specs.Headline.literal_bit m g.right)) at (fits.gates k (page_gate d) there);
}

-- what is reached
by_left : (net : Netlist) (g : Gate) (h : ReadGate) → Contains net.gates h → page_gate h ≡ g → {x : ℕ} →
    ReadReaches net (g.left / 2) x → ReadReaches net g.variable x
by_left net g h there same {x} reaches =
    subst (λ (k : Gate). ReadReaches net k.variable x) same
    (read_left h there (subst (λ (k : Gate). ReadReaches net (k.left / 2) x) (sym same) reaches))

by_right : (net : Netlist) (g : Gate) (h : ReadGate) → Contains net.gates h → page_gate h ≡ g → {x : ℕ} →
    ReadReaches net (g.right / 2) x → ReadReaches net g.variable x
by_right net g h there same {x} reaches =
    subst (λ (k : Gate). ReadReaches net k.variable x) same
    (read_right h there (subst (λ (k : Gate). ReadReaches net (k.right / 2) x) (sym same) reaches))

pub page_reaches : (net : Netlist) {u v : ℕ} → Reaches (page_circuit net) u v → ReadReaches net u v
page_reaches net itself = read_itself
page_reaches net (left g among_gates there) =
    let one = mapped_from page_gate net.gates g among_gates in
    by_left net g one.0 one.1 one.2 (page_reaches net there)
page_reaches net (right g among_gates there) =
    let one = mapped_from page_gate net.gates g among_gates in
    by_right net g one.0 one.1 one.2 (page_reaches net there)

-- an element that passes
passing : {X : Type 0} (p : X → Bool) (xs : List X) → list_any p xs ≡ true → (x : X) × (Contains xs x × (p x ≡ true))
passing p [] h = cc
passing p (x ∷ xs) h = by (or_cases (p x) (list_any p xs) h) (λ later. passing p xs later) where
  by : (p x ≡ true) ⊎ (list_any p xs ≡ true) → (list_any p xs ≡ true → (y : _) × (Contains xs y × (p y ≡ true))) →
      (y : _) × (Contains (x ∷ xs) y × (p y ≡ true))
  by (inl here) rest = (x, (contains_first x xs, here))
  by (inr later) rest =
      let one = rest later in
      (one.0, (contains_later x one.0 xs one.1.0, one.1.1))

module _ (net : Netlist) where
  -- the variable is the constant or an input, or a gate whose sides came earlier
  abbrev is_leaf : ℕ → Bool
  is_leaf v = (v == 0) || among net.inputs v

  abbrev level : ℕ → ℕ → Bool
  level zero v = is_leaf v
  level (suc n) v =
      level n v || list_any (λ (g : ReadGate). (g.variable == v) && (level n (g.left / 2) && level n (g.right / 2))) net.gates

  more : (k n v : ℕ) → level n v ≡ true → level (k + n) v ≡ true
  more zero n v h = subst (λ m. level m v ≡ true) (let e : n ≡ 0 + n = omega arith in e) h
  more (suc k) n v h =
      subst (λ m. level m v ≡ true) (let e : suc (k + n) ≡ suc k + n = omega arith in e)
      (or_left (level (k + n) v)
      (list_any (λ (g : ReadGate). (g.variable == v) && (level (k + n) (g.left / 2) && level (k + n) (g.right / 2))) net.gates)
      (more k n v h))

  higher : (m n v : ℕ) → n ≤ m → level n v ≡ true → level m v ≡ true
  higher m n v less h =
      subst (λ x. level x v ≡ true) (let e : (m - n) + n ≡ m = omega (arith, less) in e) (more (m - n) n v h)

  grounded_level : {v : ℕ} → IsGrounded net v → (n : ℕ) × (level n v ≡ true)
  grounded_level constant = (0, refl)
  grounded_level (input {v} there) = (0, or_right (v == 0) (among net.inputs v) (one_passes (λ w. w == v) net.inputs v there (eq-eqb v v refl)))
  grounded_level (gate g there one other) =
      let a = grounded_level one in
      let b = grounded_level other in
      let n = a.0 + b.0 in
      let low : a.0 ≤ n = omega arith in
      let low' : b.0 ≤ n = omega arith in (
        suc n,
        or_right (level n g.variable) _
            (one_passes (λ (h : ReadGate). (h.variable == g.variable) && (level n (h.left / 2) && level n (h.right / 2))) net.gates g there
            (and_from (g.variable == g.variable) (level n (g.left / 2) && level n (g.right / 2)) (eq-eqb g.variable g.variable refl)
            (and_from (level n (g.left / 2)) (level n (g.right / 2)) (higher n a.0 (g.left / 2) low a.1)
            (higher n b.0 (g.right / 2) low' b.1)))),
      )

  -- the first level at which a variable stands, up to a bound
  abbrev rank_to : ℕ → ℕ → ℕ
  rank_to zero v = 0
  rank_to (suc k) v = cond (level k v) (rank_to k v) (suc k)

  rank_stands : (k v : ℕ) → level k v ≡ true → level (rank_to k v) v ≡ true
  rank_stands zero v h = h
  rank_stands (suc k) v h = search (arith, (rank_stands k v))

  rank_first : (k v n : ℕ) → n < rank_to k v → level n v ≡ false
  rank_first zero v n less = absurd (omega (arith, less))
  rank_first (suc k) v n less = by (level k v) refl (rank_first k v n) less where
    by : (b : Bool) → level k v ≡ b → (n < rank_to k v → level n v ≡ false) → n < cond b (rank_to k v) (suc k) →
        level n v ≡ false
    by true is below l = below l
    by false is below l = high (level n v) refl where
      high : (c : Bool) → level n v ≡ c → c ≡ false
      high false at = refl
      high true at = sym (higher k n v (let e : n ≤ k = omega (arith, l) in e) at) ∙ is

module _ (net : Netlist) (kept : IsNetlist net) where
  -- a gate's variable is no leaf
  no_leaf : (g : ReadGate) → Contains net.gates g → is_leaf net g.variable ≡ false
  no_leaf g there = search (arith, or_cases, eqb-true, contains_tested)

  -- its sides stand at an earlier level
  sides_earlier : (g : ReadGate) → Contains net.gates g → (n : ℕ) → level net n g.variable ≡ false →
      level net (suc n) g.variable ≡ true → (level net n (g.left / 2) ≡ true) × (level net n (g.right / 2) ≡ true)
  sides_earlier g there n before now =
      let test : ReadGate → Bool = λ h. (h.variable == g.variable) && (level net n (h.left / 2) && level net n (h.right / 2)) in
      let some : list_any test net.gates ≡ true = last (level net n g.variable) (list_any test net.gates) before now in
      let one = passing test net.gates some in
      let parts = and_parts (one.0.variable == g.variable) (level net n (one.0.left / 2) && level net n (one.0.right / 2)) one.1.1 in
      let same : one.0 ≡ g = same_gate net kept one.0 g one.1.0 there (eqb-true one.0.variable g.variable parts.0) in
      let sides = and_parts (level net n (one.0.left / 2)) (level net n (one.0.right / 2)) parts.1 in (
        subst (λ (h : ReadGate). level net n (h.left / 2) ≡ true) same sides.0,
        subst (λ (h : ReadGate). level net n (h.right / 2) ≡ true) same sides.1,
      )
    where
      last : (a b : Bool) → a ≡ false → (a || b) ≡ true → b ≡ true
      last false b is h = h
      last true b is h = cc

  rank_below : (k n v : ℕ) → level net n v ≡ true → rank_to net k v ≤ n
  rank_below k n v at = search (arith, cases_lt, rank_first)

  ranked : (k : ℕ) (g : ReadGate) → Contains net.gates g → level net k g.variable ≡ true →
      (rank_to net k (g.left / 2) < rank_to net k g.variable) × (rank_to net k (g.right / 2) < rank_to net k g.variable)
  ranked k g there at = by (rank_to net k g.variable) refl where
    by : (r : ℕ) → rank_to net k g.variable ≡ r →
        (rank_to net k (g.left / 2) < rank_to net k g.variable) × (rank_to net k (g.right / 2) < rank_to net k g.variable)
    by zero is = absurd (true_false (sym (subst (λ n. level net n g.variable ≡ true) is (rank_stands net k g.variable at)) ∙ no_leaf g there)) where
      true_false : true ≡ false → ⊥
      true_false e = cc
    by (suc n) is =
        let now : level net (suc n) g.variable ≡ true =
        subst (λ m. level net m g.variable ≡ true) is (rank_stands net k g.variable at) in
        let before : level net n g.variable ≡ false =
        rank_first net k g.variable n (let e : n < rank_to net k g.variable = omega (arith, is) in e) in
        let sides = sides_earlier g there n before now in
        let low = rank_below k n (g.left / 2) sides.0 in
        let low' = rank_below k n (g.right / 2) sides.1 in
        (omega (arith, is, low), omega (arith, is, low'))

  -- one level for all gates
  one_level : (gates : List ReadGate) → All (λ (g : ReadGate). IsGrounded net g.variable) gates →
      (k : ℕ) × ((i : ℕ) (d : ReadGate) → i < length gates → level net k (get_or gates i d).variable ≡ true)
  one_level [] all = (0, λ i d below. absurd (omega (arith, below)))
  one_level (g ∷ gates) all =
      let here = grounded_level net (all 0 g (omega arith)) in
      let rest = one_level gates (λ i d below. all (suc i) d (omega (arith, below))) in
      let k = here.0 + rest.0 in
      (k, each here rest)
    where
      each : (here : (n : ℕ) × (level net n g.variable ≡ true))
          (rest : (k : ℕ) × ((i : ℕ) (d : ReadGate) → i < length gates → level net k (get_or gates i d).variable ≡ true)) →
          (i : ℕ) (d : ReadGate) → i < length (g ∷ gates) → level net (here.0 + rest.0) (get_or (g ∷ gates) i d).variable ≡ true
      each here rest zero d below = higher net (here.0 + rest.0) here.0 g.variable (omega arith) here.1
      each here rest (suc i) d below =
          higher net (here.0 + rest.0) rest.0 (get_or gates i d).variable (omega arith)
          (rest.1 i d (let e : i < length gates = omega (arith, below) in e))

  -- what a gate of the least set rests on is in it
  sides_of : {v : ℕ} → IsGrounded net v → (g : ReadGate) → Contains net.gates g → g.variable ≡ v →
      IsGrounded net (g.left / 2) × IsGrounded net (g.right / 2)
  sides_of constant g there is =
      let fits = subst (λ (h : ReadGate). 1 ≤ h.variable) there.2 (kept.gates_fit there.0 g there.1).variable.0 in
      absurd (omega (arith, is, fits))
  sides_of (input one) g there is =
      absurd (kept.apart one.0 _ one.1 there.0 g there.1 (one.2 ∙ (sym is ∙ ap (λ (h : ReadGate). h.variable) (sym there.2))))
  sides_of (gate h among_gates a b) g there is =
      let same = same_gate net kept h g among_gates there (sym is) in
      (subst (λ (k : ReadGate). IsGrounded net (k.left / 2)) same a, subst (λ (k : ReadGate). IsGrounded net (k.right / 2)) same b)

  abbrev known : List ℕ
  known = 0 ∷ (net.inputs ++ map (λ (g : Gate). g.variable) (page_circuit net).gates)

  gate_names : (gates : List ReadGate) → map (λ (g : Gate). g.variable) (map page_gate gates) ≡ map variable_of_gate gates
  gate_names [] = refl
  gate_names (g ∷ gates) = ap (λ vs. g.variable ∷ vs) (gate_names gates)

  contains_left : (xs ys : List ℕ) (v : ℕ) → Contains xs v → Contains (xs ++ ys) v
  contains_left [] ys v (k, below, is) = absurd (omega (arith, below))
  contains_left (x ∷ xs) ys v there =
      search (arith, contains_cases, contains_first, contains_later, (contains_left xs ys v))

  contains_right : (xs ys : List ℕ) (v : ℕ) → Contains ys v → Contains (xs ++ ys) v
  contains_right [] ys v there = there
  contains_right (x ∷ xs) ys v there = contains_later x v (xs ++ ys) (contains_right xs ys v there)

  known_meaning : (l : ℕ) → HasMeaning net l → Contains known (l / 2)
  known_meaning l (inl zero_there) = subst (Contains known) (sym zero_there) (contains_first 0 _)
  known_meaning l (inr (inl one)) = contains_later 0 (l / 2) _ (contains_left net.inputs _ (l / 2) one)
  known_meaning l (inr (inr one)) = search (arith, contains_later, contains_right, gate_names)

  gate_there : (g : ReadGate) (gates : List ReadGate) → Contains gates g → Contains (map variable_of_gate gates) g.variable
  gate_there g [] (k, below, is) = absurd (omega (arith, below))
  gate_there g (h ∷ gates) there = by (contains_gate h g gates there) (λ later. gate_there g gates later) where
    contains_gate : (h g : ReadGate) (gates : List ReadGate) → Contains (h ∷ gates) g → (h ≡ g) ⊎ Contains gates g
    contains_gate h g gates (zero, below, is) = inl is
    contains_gate h g gates (suc k, below, is) = inr (k, (let b : k < length gates = omega (arith, below) in b), is)

    by : (h ≡ g) ⊎ Contains gates g → (Contains gates g → Contains (map variable_of_gate gates) g.variable) →
        Contains (map variable_of_gate (h ∷ gates)) g.variable
    by (inl same) rest =
        subst (λ (k : ReadGate). Contains (map variable_of_gate (h ∷ gates)) k.variable) same
        (contains_first h.variable (map variable_of_gate gates))
    by (inr later) rest = contains_later h.variable g.variable (map variable_of_gate gates) (rest later)

  meaning : {v : ℕ} → IsGrounded net v → (v ≡ 0) ⊎ IsDefined net v
  meaning constant = inl refl
  meaning (input one) = inr (inl one)
  meaning (gate g among_gates a b) = inr (inr (gate_there g net.gates among_gates))

  -- each variable stands once
  rec_of : {X : Type 0} (P : X → Type 0) (xs : List X) → ((k : ℕ) (d : X) → k < length xs → P (get_or xs k d)) → AllByRecursion P xs
  rec_of P [] all = tt
  rec_of P (x ∷ xs) all = (all 0 x (omega arith), rec_of P xs (λ k d below. all (suc k) d (omega (arith, below))))

  gates_pairs : (gates : List ReadGate) → AllPairs (λ (g h : ReadGate). g.variable ≢ h.variable) gates →
      AllPairs (λ v w. v ≢ w) (map variable_of_gate gates)
  gates_pairs gates pairs i j d less below =
      let there : j < length gates = omega (arith, below, length-map gates variable_of_gate) in
      let here : i < length gates = omega (arith, less, there) in
      let e : ReadGate = record { variable = 0; left = 0; right = 0 } in
      let first = get_or-map variable_of_gate gates i e d here in
      let second = get_or-map variable_of_gate gates j e d there in
      λ same. pairs i j e less there (sym first ∙ (same ∙ second))

  apart_inputs : AllByRecursion (λ x. AllByRecursion (λ v. x ≢ v) (map variable_of_gate net.gates)) net.inputs
  apart_inputs =
      rec_each (λ x. All (λ (g : ReadGate). x ≢ g.variable) net.gates)
      (λ x. AllByRecursion (λ v. x ≢ v) (map variable_of_gate net.gates))
      (λ x all. over x net.gates all) net.inputs (rec_of (λ x. All (λ (g : ReadGate). x ≢ g.variable) net.gates) net.inputs kept.apart)
    where
      over : (x : ℕ) (gates : List ReadGate) → All (λ (g : ReadGate). x ≢ g.variable) gates →
          AllByRecursion (λ v. x ≢ v) (map variable_of_gate gates)
      over x [] all = tt
      over x (g ∷ gates) all = (all 0 g (omega arith), over x gates (λ k d below. all (suc k) d (omega (arith, below))))

  positive_all : AllByRecursion (λ v. 0 ≢ v) (net.inputs ++ map variable_of_gate net.gates)
  positive_all =
      rec_append (λ v. 0 ≢ v) net.inputs (map variable_of_gate net.gates)
      (rec_of (λ v. 0 ≢ v) net.inputs (λ k d below. λ same. (let fits = (kept.inputs_fit k d below).0 in absurd (omega (arith, fits, same)))))
      (over net.gates (λ k d below. (kept.gates_fit k d below).variable.0))
    where
      over : (gates : List ReadGate) → ((k : ℕ) (d : ReadGate) → k < length gates → 1 ≤ (get_or gates k d).variable) →
          AllByRecursion (λ v. 0 ≢ v) (map variable_of_gate gates)
      over [] all = tt
      over (g ∷ gates) all = (
        (λ same. (let fits = all 0 g (omega arith) in absurd (omega (arith, fits, same)))),
        over gates (λ k d below. all (suc k) d (omega (arith, below))),
      )

  once : AllPairs (λ v w. v ≢ w) known
  once =
      subst (λ vs. AllPairs (λ v w. v ≢ w) (0 ∷ (net.inputs ++ vs))) (sym (gate_names net.gates))
      (apart_pairs (0 ∷ (net.inputs ++ map variable_of_gate net.gates)) (
        positive_all,
        apart_append net.inputs (map variable_of_gate net.gates) (pairs_rec net.inputs kept.inputs_once)
            (pairs_rec (map variable_of_gate net.gates) (gates_pairs net.gates kept.gates_once)) apart_inputs,
      ))

  pub is_circuit : AllGrounded net → All (HasMeaning net) net.outputs → IsCircuit (page_circuit net)
  is_circuit acyclic outputs = record {
    rank = rank_to net (one_level net.gates acyclic).0;
    small = All-append (λ v. v ≤ net.max_var) net.inputs (map (λ (g : Gate). g.variable) (map page_gate net.gates))
        (λ k d below. (kept.inputs_fit k d below).1)
        (All-from_recursion (λ v. v ≤ net.max_var) (map (λ (g : Gate). g.variable) (map page_gate net.gates))
        (small_gates net.gates (λ k d below. (kept.gates_fit k d below).variable.1)));
    ordered = All-map (λ (g : Gate). (rank_to net (one_level net.gates acyclic).0 (g.left / 2)
        < rank_to net (one_level net.gates acyclic).0 g.variable)
        × (rank_to net (one_level net.gates acyclic).0 (g.right / 2)
        < rank_to net (one_level net.gates acyclic).0 g.variable)) page_gate net.gates
        (λ k d below. ranked (one_level net.gates acyclic).0 (get_or net.gates k d) (at_place net.gates k d below)
        ((one_level net.gates acyclic).1 k d below));
    once = once;
    defined = All-append (λ l. Contains known (l / 2)) net.outputs
        (flat_map (λ (g : Gate). g.left ∷ g.right ∷ []) (map page_gate net.gates))
        (λ k d below. known_meaning (get_or net.outputs k d) (outputs k d below))
        (All-from_recursion (λ l. Contains known (l / 2)) (flat_map (λ (g : Gate). g.left ∷ g.right ∷ []) (map page_gate net.gates))
        (sides net.gates (λ k d below. at_place net.gates k d below)
        (λ k d below. acyclic k d below)));
  }
    where
      small_gates : (gates : List ReadGate) → ((k : ℕ) (d : ReadGate) → k < length gates → (get_or gates k d).variable ≤ net.max_var) →
          AllByRecursion (λ v. v ≤ net.max_var) (map (λ (g : Gate). g.variable) (map page_gate gates))
      small_gates [] all = tt
      small_gates (g ∷ gates) all = (all 0 g (omega arith), small_gates gates (λ k d below. all (suc k) d (omega (arith, below))))

      at_place : (gates : List ReadGate) (k : ℕ) (d : ReadGate) → k < length gates → Contains gates (get_or gates k d)
      at_place gates k d below = (k, below, same gates k d (get_or gates k d) below) where
        same : (gates : List ReadGate) (k : ℕ) (d e : ReadGate) → k < length gates → get_or gates k e ≡ get_or gates k d
        same [] k d e below = absurd (omega (arith, below))
        same (g ∷ gates) zero d e below = refl
        same (g ∷ gates) (suc k) d e below = same gates k d e (omega (arith, below))

      one : (g : ReadGate) → Contains net.gates g → IsGrounded net g.variable →
          Contains known (g.left / 2) × Contains known (g.right / 2)
      one g there grounded =
          let both = sides_of grounded g there refl in
          (known_meaning g.left (meaning both.0), known_meaning g.right (meaning both.1))

      sides : (gates : List ReadGate) → ((k : ℕ) (d : ReadGate) → k < length gates → Contains net.gates (get_or gates k d)) →
          ((k : ℕ) (d : ReadGate) → k < length gates → IsGrounded net (get_or gates k d).variable) →
          AllByRecursion (λ l. Contains known (l / 2)) (flat_map (λ (g : Gate). g.left ∷ g.right ∷ []) (map page_gate gates))
      sides [] there grounded = tt
      sides (g ∷ gates) there grounded =
          let here = one g (there 0 g (omega arith)) (grounded 0 g (omega arith)) in (
            here.0,
            (
              here.1,
              sides gates (λ k d below. there (suc k) d (omega (arith, below)))
                  (λ k d below. grounded (suc k) d (omega (arith, below))),
            ),
          )
