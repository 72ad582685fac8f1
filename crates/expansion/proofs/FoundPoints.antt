-- The points that a search found, and that they make every instance true.
use Rattle.std.proofs.Common.{◌≡◌, ℕ, ◌+◌, ◌-◌, ◌≤◌, ◌==◌, Bool, true, false, cond, not, ◌||◌, List, [], ◌∷◌, map, get_or, slice_get, slice_index_or, Option, Some, None, refl, sym, ◌∙◌, ap, subst, arith}
use Rattle.std.specs.List.{All, Contains, filter_map, cons_option, find}
use Rattle.std.specs.Option.{option_map}
use Rattle.std.proofs.lemmas.List.{length-map, get_or-map, get_or_default}
use Rattle.std.proofs.lemmas.List.Elements.{All-contains, Contains-append_right}
use Rattle.std.proofs.lemmas.Option.{slice_get-map, slice_get-get_or, slice_get_within}
use Rattle.dq_lits.specs.Literal.{Assignment, Literal, negative, variable_of, is_negative, on_variable, literal_true, clause_true}
use Rattle.dq_lits.specs.Formula.{Dqbf, Existential, existential_of, declared, IsWellFormed}
use Rattle.dq_lits.specs.Derivation.{MakesTrue}
use Rattle.dq_lits.specs.Row.{assignment_of}
use Rattle.dq_lits.specs.Expansion.{pair_number, pair_literal, IsExpansionModel}
use Rattle.dq_lits.proofs.FormulaVariables.{find_sound}
use Rattle.dq_lits.proofs.TrueClauses.{same_sign}
use Rattle.dq_lits.proofs.Followers.{find_own, existentials_once}
use Rattle.hint_log.specs.Conditions.{AreLogged}
use Rattle.hint_log.specs.Entries.{Entry, Given, clause_at, name_of}
use Rattle.hint_log.specs.declared.origins.Origin.TheVariants.{Instance}
use Rattle.hint_log.specs.Naming.{named_literal, name_literal, arbiter, on_arbiter}
use Rattle.log_laws.specs.Engines.{instances, part}
use Rattle.log_laws.proofs.Found.{variable, named_variable}
use Rattle.expansion.specs.Table.{TableState, AreArbiters, HasInstance, IsTablePart, IsTable, ArePoints}
use Rattle.expansion.proofs.InstanceModels.{own_name, own_entry, pair_values, arbiter_value}
use Rattle.log_laws.proofs.Kept.{given_id}

module _ (f : Dqbf) (formula : IsWellFormed f) (es : List Entry) (logged : AreLogged es) (rows : List (List Bool))
    (values : Assignment) where
  abbrev own : List Entry
  own = part instances es

  abbrev model : Assignment
  model = pair_values values es f.variables

  value_at : (row : List Bool) (y : Existential) (v : ℕ) → Contains f.existentials y →
      name_of own v ≡ Some (arbiter f rows row y) → values v ≡ model (pair_number f rows row y)
  value_at row y v among named =
      let ys = f.existentials in
      let in_map : Contains (map variable ys) y.variable = (
        among.0,
        rw (length-map ys variable) among.1,
        get_or-map variable ys among.0 y y.variable among.1 ∙ ap variable among.2,
      ) in
      let range = All-contains (λ w. (1 ≤ w) × (w ≤ f.variables)) (declared f) y.variable formula.prefix.in_range
      (Contains-append_right f.universals (map variable ys) y.variable in_map) in
      arbiter_value values es f rows row y v logged range.0 range.1
      (own_name instances es v (arbiter f rows row y) logged named)

  pub by_names : (row : List Bool) (clause rest : List Literal) →
      map (name_literal own) rest ≡ map Some (filter_map (on_arbiter f rows row) clause) →
      clause_true values rest ≡ clause_true model (filter_map (pair_literal f rows row) clause)
  by_names row [] [] h = refl
  by_names row [] (r ∷ rest) h = cc
  by_names row (l ∷ ls) rest h = by_option (by_names row ls) (existential_of f (variable_of l)) refl rest h where
    by_option : ((rest : List Literal) → map (name_literal own) rest ≡ map Some
        (filter_map (on_arbiter f rows row) ls) →
        clause_true values rest ≡ clause_true model (filter_map (pair_literal f rows row) ls)) →
        (o : Option Existential) → existential_of f (variable_of l) ≡ o → (rest : List Literal) →
        map (name_literal own) rest ≡ map Some (cons_option (option_map
        (λ y. named_literal (arbiter f rows row y) (is_negative l)) o) (filter_map (on_arbiter f rows row) ls)) →
        clause_true values rest ≡ clause_true model (cons_option
        (option_map (λ y. on_variable (pair_number f rows row y) l) o) (filter_map (pair_literal f rows row) ls))
    by_option later None is rest h = later rest h
    by_option later (Some y) is [] h = cc
    by_option later (Some y) is (r ∷ rest) h =
        let here : name_literal own r ≡ Some (named_literal (arbiter f rows row y) (is_negative l)) = cc in
        let behind : map (name_literal own) rest ≡ map Some (filter_map (on_arbiter f rows row) ls) = cc in
        let named = named_variable own r (arbiter f rows row y) (is_negative l)
        (name_of own (variable_of r)) refl here in
        let among = (find_sound (variable_of l) f.existentials y is).0 in
        ap (λ b. b || clause_true values rest) (same_sign values model (pair_number f rows row y) r l named.1
        (value_at row y (variable_of r) among named.0))
        ∙ ap (λ b. literal_true model (on_variable (pair_number f rows row y) l) || b) (later rest behind)

  module _ (t : TableState) (rows_are : t.rows ≡ rows) (table : IsTablePart f t own)
      (clauses : MakesTrue values (clause_at es)) (active : values t.group ≡ true) where
    instance_true : (k j : ℕ) (row : List Bool) (clause : List Literal) →
        HasInstance f t.group t.rows own k j row clause → clause_true model
        (filter_map (pair_literal f rows row) clause) ≡ true
    instance_true k j row clause h =
        let id = given_id es (Instance (k + 1) (j + 1)) (negative t.group ∷ h.rest)
        (own_entry instances es (Given (Instance (k + 1) (j + 1)) (negative t.group ∷ h.rest)) h.given) in
        let whole = clauses id.0 (negative t.group ∷ h.rest) id.1 in
        let rest : clause_true values h.rest ≡ true = ap (λ b. not b || clause_true values h.rest) (sym active)
        ∙ whole in
        sym (by_names row clause h.rest (subst (λ rs. map (name_literal own) h.rest ≡ map Some
        (filter_map (on_arbiter f rs row) clause)) rows_are h.named)) ∙ rest

    pub instances_hold : IsExpansionModel f rows model
    instances_hold k d below j c below_j = search (arith, slice_index_or, slice_get-get_or, (instance_true k j))

  bit_of_first : (row : List Bool) (ys : List Existential) (vs : List ℕ) (v : ℕ) (y : Existential) →
      map (name_of own) vs ≡ map (λ z. Some (arbiter f rows row z)) ys
      → find (λ z. z.variable == v) ys ≡ Some y → (u : ℕ) × (assignment_of (map variable ys) (map values vs) v
      ≡ values u) × (name_of own u ≡ Some (arbiter f rows row y))
  bit_of_first row [] vs v y names found = cc
  bit_of_first row (z ∷ ys) [] v y names found = cc
  bit_of_first row (z ∷ ys) (u ∷ vs) v y names found =
      by_bit (z.variable == v) (λ more. bit_of_first row ys vs v y
      (let behind : map (name_of own) vs ≡ map (λ x. Some (arbiter f rows row x)) ys = cc in behind) more) found
    where
      by_bit : (b : Bool) → (find (λ x. x.variable == v) ys ≡ Some y →
          (w : ℕ) × (assignment_of (map variable ys) (map values vs) v ≡ values w) ×
          (name_of own w ≡ Some (arbiter f rows row y)))
          → cond b (Some z) (find (λ x. x.variable == v) ys) ≡ Some y
          → (w : ℕ) × (cond b (values u) (assignment_of (map variable ys) (map values vs) v) ≡ values w) ×
          (name_of own w ≡ Some (arbiter f rows row y))
      by_bit true later is = search arith
      by_bit false later is = later is

  pub row_bits : (row : List Bool) (variables vs : List ℕ) → variables ≡ map variable f.existentials →
      AreArbiters f own rows row vs
      → All (λ y. assignment_of variables (map values vs) y.variable ≡ model (pair_number f rows row y)) f.existentials
  row_bits row variables vs variables_are names k d below =
      let y = slice_index_or f.existentials k d in
      let own_y = find_own f.existentials k d below (existentials_once f.universals f.existentials
      formula.prefix.declared_once) in
      let first = bit_of_first row f.existentials vs y.variable y names own_y in
      ap (λ xs. assignment_of xs (map values vs) y.variable) variables_are ∙ first.1 ∙ value_at row y first.0
      (k, below, get_or_default f.existentials k y d below) first.2

-- the values of the arbiters are points of a model
pub are_points : (f : Dqbf) (t : TableState) (es : List Entry) (values : Assignment) (variables : List ℕ)
    (bits : List (List Bool)) → IsWellFormed f → AreLogged es
    → IsTable f t es → MakesTrue values (clause_at es) → values t.group ≡ true → variables ≡ t.existentials →
    bits ≡ map (map values) t.pairs
    → ArePoints f t.rows (λ k y. assignment_of variables (slice_index_or bits (k - 1) []) y)
are_points f t es values variables bits formula logged table clauses active variables_are bits_are = record {
  model = pair_values values es f.variables;
  holds_there = instances_hold f formula es logged t.rows values t refl table.own clauses active;
  bits = λ k row row_is. at k row row_is (slice_get t.pairs k) refl;
}
  where
    no_pairs : (k : ℕ) (row : List Bool) → slice_get t.rows k ≡ Some row → slice_get t.pairs k ≡ None → ⊥
    no_pairs k row row_is none =
        let below = slice_get_within t.rows k row row_is in
        let long = table.own.pairs_long in
        let there = slice_get-get_or t.pairs k [] (omega (arith, below, long)) in cc

    at : (k : ℕ) (row : List Bool) → slice_get t.rows k ≡ Some row → (o : Option (List ℕ)) → slice_get t.pairs k ≡ o
        → All (λ y. assignment_of variables (slice_index_or bits (k + 1 - 1) []) y.variable
        ≡ pair_values values es f.variables (pair_number f t.rows row y)) f.existentials
    at k row row_is None pairs_are = absurd (no_pairs k row row_is pairs_are)
    at k row row_is (Some vs) pairs_are =
        let back : k + 1 - 1 ≡ k = omega arith in
        let here : slice_get bits k ≡ Some (map values vs) =
        ap (λ bs. slice_get bs k) bits_are ∙ slice_get-map (map values) t.pairs k ∙ ap
        (option_map (map values)) pairs_are in
        let below = slice_get_within bits k (map values vs) here in
        let is : slice_index_or bits (k + 1 - 1) [] ≡ map values vs =
        ap (λ n. slice_index_or bits n []) back ∙ some_is (get_or bits k []) (map values vs)
        (sym (slice_get-get_or bits k [] below) ∙ here) in
        rw is (row_bits f formula es logged t.rows values row variables vs (variables_are ∙ table.existentials)
        (table.own.arbiters k row vs row_is pairs_are))
      where
        some_is : (xs ys : List Bool) → Some xs ≡ Some ys → xs ≡ ys
        some_is xs ys e = cc
