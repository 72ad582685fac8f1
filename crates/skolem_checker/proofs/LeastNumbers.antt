-- The least numbers of a netlist's variables, and the steps of a renumbered copy.
use Rattle.std.proofs.Common.{◌≡◌, ◌≢◌, ℕ, suc, ◌+◌, ◌^◌, ◌<◌, ◌≤◌, eqb, false, List, [], ◌∷◌, ◌++◌, map, take, length, get_or, inl, inr, refl, sym, ap, ◌∙◌, arith}
use Rattle.std.specs.Prelude.{All, AllPairs, Contains, slice_index}
use Rattle.std.specs.List.{IsDistinct, list_any}
use Rattle.std.proofs.lemmas.Bool.{cases_Bool}
use Rattle.std.proofs.lemmas.Bool.Decides.{Decides-eqb}
use Rattle.std.proofs.lemmas.List.{get_or_default, get_or-map, length-map, length-append, length-take-le, get_or-take, get_or-append-add, get_or_append_left, map_more}
use Rattle.std.proofs.lemmas.List.Elements.{All-cons, All-append, All-map, All-contains}
use Rattle.std.proofs.lemmas.List.Kept.{AllPairs-cons}
use Rattle.std.proofs.lemmas.Map.Made.{IsDistinct-from_AllPairs}
use Rattle.std.proofs.lemmas.Map.Steps.{length-le_from_distinct_below}
use Rattle.dq_formula.proofs.Distinct.{AllPairs-append}
use Rattle.dq_formula.proofs.Places.{has, flip, has-contains, contains-has, place-get_or}
use Rattle.dq_formula.proofs.Sorted.{get_or-place, place-below}
use Rattle.circuit_plain.specs.declared.circuits.Gate.{Gate}
use Rattle.circuit_plain.specs.Netlist.{Netlist, IsNetlist, IsDefined, IsVariable, IsLiteral, literal_variable, gate_variables, variable_of_gate, gate_at}
use Rattle.skolem_checker.specs.Renaming.{renamed_literal, renamed_gate, known_variables, dense_number, renumbered_first}
use Rattle.skolem_checker.proofs.RenamedNetlists.{IsRenaming}

-- an element of a list without repetition isn't among the ones before it
pub not_before : (xs : List ℕ) (n d : ℕ) → AllPairs (λ v w. v ≢ w) xs → n < length xs →
    Contains (take n xs) (get_or xs n d) → ⊥
not_before xs n d once below (k, k_in, is) =
    let long : length (take n xs) ≡ n = length-take-le n xs (omega arith) in
    let early : k < n = omega (arith, k_in, long) in
    once k n d early below
    (get_or_default xs k d (get_or xs n d) (omega arith) ∙ sym (get_or-take n xs k (get_or xs n d) early) ∙ is)

pub known_length : (net : Netlist) → length (known_variables net) ≡ 1 + (length net.inputs + length net.gates)
known_length net = search (arith, length-append, length-map)

-- where an input, and a gate, stands among the known variables
pub input_among : (net : Netlist) (i d : ℕ) → i < length net.inputs →
    get_or (known_variables net) (i + 1) d ≡ get_or net.inputs i d
input_among net i d below = search (arith, get_or_append_left)

pub gate_among : (net : Netlist) (j d : ℕ) → j < length net.gates
    → get_or (known_variables net) (length net.inputs + j + 1) d ≡ (gate_at net j).variable
gate_among net j d below =
    let on : length net.inputs + j + 1 ≡ suc (length net.inputs + j) = omega arith in
    ap (λ n. get_or (known_variables net) n d) on
    ∙ get_or-append-add net.inputs (gate_variables net) j d
    ∙ get_or-map variable_of_gate net.gates j _ d below

-- the number of a known variable, and its literals, are the copy's
pub number_in_range : (net : Netlist) (v : ℕ) → Contains (known_variables net) v →
    dense_number net v ≤ length net.inputs + length net.gates
number_in_range net v known =
    let below : dense_number net v < length (known_variables net) =
    place-below (known_variables net) v (has-contains (known_variables net) v known) in
    omega (arith, known_length net)

pub literal_fits : (net : Netlist) (l : ℕ) → Contains (known_variables net) (literal_variable l)
    → IsLiteral (length net.inputs + length net.gates) (renamed_literal (dense_number net) l)
literal_fits net l known = let bound = number_in_range net (literal_variable l) known in omega (arith, bound)

module _ (net : Netlist) (kept : IsNetlist net) where
  positive : All (λ v. 0 ≢ v) (net.inputs ++ gate_variables net)
  positive =
      All-append (λ v. 0 ≢ v) net.inputs (gate_variables net)
      (λ k d below e. omega (arith, (kept.inputs_fit k d below).0))
      (All-map (λ v. 0 ≢ v) variable_of_gate net.gates (λ k d below e. omega
      (arith, (kept.gates_fit k d below).variable.0)))

  in_range : All (λ v. v ≤ net.max_var) (known_variables net)
  in_range =
      All-cons (λ v. v ≤ net.max_var) 0 (net.inputs ++ gate_variables net) (omega arith)
      (All-append (λ v. v ≤ net.max_var) net.inputs (gate_variables net)
      (λ k d below. (kept.inputs_fit k d below).1)
      (All-map (λ v. v ≤ net.max_var) variable_of_gate net.gates (λ k d below. (kept.gates_fit k d below).variable.1)))

  gates_once : AllPairs (λ v w. v ≢ w) (gate_variables net)
  gates_once i j d below within e =
      let none : Gate = record { variable = 0; left = 0; right = 0 } in
      let inside : j < length net.gates = rw length-map at within in
      kept.gates_once i j none below inside
      (sym (get_or-map variable_of_gate net.gates i none d (omega arith)) ∙ e
      ∙ get_or-map variable_of_gate net.gates j none d inside)

  no_input : All (λ v. has net.inputs v ≡ false) (gate_variables net)
  no_input =
      All-map (λ v. has net.inputs v ≡ false) variable_of_gate net.gates (λ k d below.
      elim (cases_Bool (has net.inputs (get_or net.gates k d).variable)) [
        | inl among ↦
            absurd (All-contains (λ x. All (λ g. x ≢ g.variable) net.gates) net.inputs
            (get_or net.gates k d).variable kept.apart
            (contains-has net.inputs (get_or net.gates k d).variable among) k d below refl)
        | inr apart ↦ apart
      ])

  -- the known variables are different ones
  pub known_once : AllPairs (λ v w. v ≢ w) (known_variables net)
  known_once =
      AllPairs-cons (λ v w. v ≢ w) 0 (net.inputs ++ gate_variables net) positive
      (AllPairs-append net.inputs (gate_variables net)
      (IsDistinct-from_AllPairs Decides-eqb net.inputs kept.inputs_once)
      (IsDistinct-from_AllPairs Decides-eqb (gate_variables net) gates_once)
      no_input)

  known_distinct : IsDistinct eqb (known_variables net)
  known_distinct = IsDistinct-from_AllPairs Decides-eqb (known_variables net) known_once

  -- so there are no more of them than numbers
  pub few_known : length net.inputs + length net.gates < 2 ^ 62
  few_known =
      let bound : length (known_variables net) ≤ net.max_var + 1 =
      length-le_from_distinct_below (known_variables net) (net.max_var + 1) known_distinct (λ q among.
      let known = contains-has (known_variables net) q (sym (ap (λ p. list_any p (known_variables net)) (flip q))
      ∙ among) in
      let le : q ≤ net.max_var = All-contains (λ v. v ≤ net.max_var) (known_variables net) q in_range known in
      omega arith) in
      omega (arith, bound, known_length net, kept.numbered)

  -- the numbers of the known variables
  number_at : (k d : ℕ) → k < length (known_variables net) → dense_number net (get_or (known_variables net) k d) ≡ k
  number_at k d below = place-get_or (known_variables net) k d known_distinct below

  pub number_of_input : (i : ℕ) → i < length net.inputs → dense_number net (slice_index net.inputs i) ≡ i + 1
  number_of_input i below =
      ap (dense_number net) (sym (input_among net i 0 below)) ∙ number_at (i + 1) 0 (omega (arith, known_length net))

  pub number_of_gate : (j : ℕ) → j < length net.gates → dense_number net (gate_at net j).variable
      ≡ length net.inputs + j + 1
  number_of_gate j below =
      ap (dense_number net) (sym (gate_among net j 0 below)) ∙ number_at (length net.inputs + j + 1) 0
      (omega (arith, known_length net))

  pub dense_renaming : IsRenaming net (dense_number net)
  dense_renaming = record {
    constant_stays = number_at 0 0 (omega (arith, known_length net));
    apart = λ v w v_known w_known same.
        sym (get_or-place (known_variables net) v 0 (has-contains (known_variables net) v v_known))
        ∙ ap (λ k. get_or (known_variables net) k 0) same
        ∙ get_or-place (known_variables net) w 0 (has-contains (known_variables net) w w_known);
  }

  -- no input and no gate copied so far has a later number
  no_input_yet : (i m : ℕ) → i ≤ length net.inputs → i < m → Contains (map (dense_number net) (take i net.inputs)) m → ⊥
  no_input_yet i m within later (k, k_in, is) =
      let long : length (take i net.inputs) ≡ i = length-take-le i net.inputs within in
      let inside : k < length (take i net.inputs) = rw length-map at k_in in
      let number : m ≡ k + 1 =
      sym is ∙ get_or-map (dense_number net) (take i net.inputs) k 0 m inside
      ∙ ap (dense_number net) (get_or-take i net.inputs k 0 (omega arith)) ∙ number_of_input k (omega arith) in
      omega arith

  no_gate_yet : (j m : ℕ) → j ≤ length net.gates → length net.inputs + j < m
      → Contains (map variable_of_gate (map (renamed_gate (dense_number net)) (take j net.gates))) m → ⊥
  no_gate_yet j m within later (k, k_in, is) =
      let none : Gate = record { variable = 0; left = 0; right = 0 } in
      let long : length (take j net.gates) ≡ j = length-take-le j net.gates within in
      let listed : length (map variable_of_gate (map (renamed_gate (dense_number net)) (take j net.gates))) ≡ length
      (map (renamed_gate (dense_number net)) (take j net.gates)) =
      length-map (map (renamed_gate (dense_number net)) (take j net.gates)) variable_of_gate in
      let mapped : length (map (renamed_gate (dense_number net)) (take j net.gates)) ≡ length (take j net.gates) =
      length-map (take j net.gates) (renamed_gate (dense_number net)) in
      let early : k < j = omega arith in
      let number : m ≡ length net.inputs + k + 1 =
      sym is
      ∙ get_or-map variable_of_gate (map (renamed_gate (dense_number net)) (take j net.gates)) k none m (omega arith)
      ∙ ap variable_of_gate (get_or-map (renamed_gate (dense_number net)) (take j net.gates) k none none (omega arith))
      ∙ ap (λ (g : Gate). dense_number net g.variable) (get_or-take j net.gates k none early
      ∙ get_or_default net.gates k none _ (omega arith))
      ∙ number_of_gate k (omega arith) in
      omega arith

  -- the next input
  pub input_is_variable : (i : ℕ) → i < length net.inputs
      → IsVariable (length net.inputs + length net.gates) (dense_number net (slice_index net.inputs i))
  input_is_variable i below = let number = number_of_input i below in (omega (arith, number), omega (arith, number))

  pub input_is_new : (i : ℕ) → i < length net.inputs
      → IsDefined (renumbered_first net i 0 0) (dense_number net (slice_index net.inputs i)) → ⊥
  input_is_new i below (inl among) = no_input_yet i _ (omega arith)
      (let number = number_of_input i below in omega (arith, number)) among
  input_is_new i below (inr (k, k_in, is)) = absurd (omega arith)

  pub input_copied : (i : ℕ) → i < length net.inputs
      → record (renumbered_first net i 0 0) {
        inputs = map (dense_number net) (take i net.inputs) ++ dense_number net (slice_index net.inputs i) ∷ [];
      } ≡ renumbered_first net (i + 1) 0 0
  input_copied i below =
      ap (λ xs. record (renumbered_first net i 0 0) { inputs = xs })
      (sym (map_more (dense_number net) net.inputs i 0 below))

  -- the next gate
  pub gate_is_variable : (j : ℕ) → j < length net.gates
      → IsVariable (length net.inputs + length net.gates) (dense_number net (gate_at net j).variable)
  gate_is_variable j below = let number = number_of_gate j below in (omega (arith, number), omega (arith, number))

  pub gate_is_new : (j : ℕ) → j < length net.gates
      → IsDefined (renumbered_first net (length net.inputs) j 0) (dense_number net (gate_at net j).variable) → ⊥
  gate_is_new j below (inl among) =
      no_input_yet (length net.inputs) _ (omega arith) (let number = number_of_gate j below in
      omega (arith, number)) among
  gate_is_new j below (inr among) = no_gate_yet j _ (omega arith)
      (let number = number_of_gate j below in omega (arith, number)) among
