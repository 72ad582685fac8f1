-- A row that isn't in the table extends the model of its instances: its new pairs are free.
use Rattle.std.proofs.Common.{◌≡◌, ℕ, ◌+◌, ◌-◌, ◌*◌, ◌≤◌, ◌<◌, ltb, Bool, true, false, cond, not, ◌||◌, inl, inr, List, [], ◌∷◌, map, length, get_or, Option, Some, None, refl, sym, ◌∙◌, ap, arith, mul-le-mul_right, add-mul, one-mul}
use Rattle.std.specs.List.{All, Contains, filter_map, cons_option, position_or_len}
use Rattle.std.specs.Option.{option_map}
use Rattle.std.proofs.lemmas.Bool.{cases_lt, cond-true, cond-false, lt-ltb, le-ltb}
use Rattle.std.proofs.lemmas.List.Elements.{All-contains, All-head, All-tail, Contains-append_right, Contains-get_or}
use Rattle.std.proofs.lemmas.List.Sums.{passes_at_first}
use Rattle.list_laws.proofs.Sequences.{position_most}
use Rattle.dq_lits.specs.Literal.{Assignment, Literal, positive, negative, variable_of, on_variable, literal_true, clause_true}
use Rattle.dq_lits.specs.Formula.{Existential, Dqbf, declared, existential_of, HasLawfulPrefix}
use Rattle.dq_lits.specs.Henkin.{restriction, same_bits}
use Rattle.dq_lits.specs.Skolem.{OutputFunction}
use Rattle.dq_lits.specs.Expansion.{row_assignment, agree_on, pair_number, pair_literal, InstanceHolds, IsExpansionModel}
use Rattle.dq_lits.proofs.Choices.{same_bits-sound, same_bits-refl}
use Rattle.dq_lits.proofs.FormulaVariables.{find_sound}
use Rattle.dq_lits.proofs.Followers.{find_own, existentials_once}
use Rattle.hint_log.specs.ProductiveLog.{HasModelWith}
use Rattle.expansion.specs.Table.{PointBits, ArePoints}
use Rattle.candidate_functions.specs.Candidates.{AgreeAtPairs}
use Rattle.circuit_cnf.specs.Failing.{IsFailure}
use Rattle.candidate_functions.proofs.AtRows.{contains_mapped}
use Rattle.log_laws.proofs.Found.{variable, slice_get_at, position_small}

mapped_same : (g h : Existential → Bool) (ys : List Existential) → All (λ y. g y ≡ h y) ys → map g ys ≡ map h ys
mapped_same g h [] a = refl
mapped_same g h (y ∷ ys) a = search (arith, All-head, (mapped_same g h ys), All-tail)

abbrev value_or_false : (Existential → Bool) → Option Existential → Bool
value_or_false g None = false
value_or_false g (Some y) = g y

-- the model's bits, and behind the table's pairs those of the new row
abbrev extended : Dqbf → ℕ → (Existential → Bool) → Assignment → Assignment
extended f rows g m p = cond (ltb (rows * f.variables) p) (value_or_false g
    (existential_of f (p - rows * f.variables))) (m p)

module _ (f : Dqbf) (lawful : HasLawfulPrefix f) (rows : List (List Bool)) (m : Assignment)
    (g : Existential → Bool) where
  abbrev more : Assignment
  more = extended f (length rows) g m

  same_below : (p : ℕ) → p ≤ length rows * f.variables → more p ≡ m p
  same_below p h = cond-false (ltb (length rows * f.variables) p) _ (m p) (le-ltb (length rows * f.variables) p h)

  range : (y : Existential) → Contains f.existentials y → (1 ≤ y.variable) × (y.variable ≤ f.variables)
  range y inside = All-contains (λ v. (1 ≤ v) × (v ≤ f.variables)) (declared f) y.variable lawful.in_range
      (Contains-append_right f.universals (map variable f.existentials) y.variable
      (contains_mapped f.existentials y inside))

  pair_below : (k v : ℕ) → k < length rows → v ≤ f.variables → k * f.variables + v ≤ length rows * f.variables
  pair_below k v small low = search (arith, mul-le-mul_right, add-mul, one-mul)

  literal_on : (p : ℕ) (l : Literal) → more p ≡ m p → literal_true more (on_variable p l) ≡ literal_true m
      (on_variable p l)
  literal_on p (positive v) h = h
  literal_on p (negative v) h = ap not h

  -- the pairs of the table's rows keep their bits
  instance_same : (k : ℕ) (d : List Bool) → k < length rows → (ls : List Literal) →
      clause_true more (filter_map (pair_literal f rows (get_or rows k d)) ls) ≡ clause_true m
      (filter_map (pair_literal f rows (get_or rows k d)) ls)
  instance_same k d below [] = refl
  instance_same k d below (l ∷ ls) = by_option (instance_same k d below ls)
      (existential_of f (variable_of l)) refl where
        by_option : clause_true more (filter_map (pair_literal f rows (get_or rows k d)) ls) ≡ clause_true m
            (filter_map (pair_literal f rows (get_or rows k d)) ls) → (o : Option Existential) →
            existential_of f (variable_of l) ≡ o →
            clause_true more (cons_option (option_map (λ y. on_variable (pair_number f rows (get_or rows k d) y) l) o)
            (filter_map (pair_literal f rows (get_or rows k d)) ls))
            ≡ clause_true m (cons_option (option_map (λ y. on_variable (pair_number f rows (get_or rows k d) y) l) o)
            (filter_map (pair_literal f rows (get_or rows k d)) ls))
        by_option later None e = later
        by_option later (Some y) e =
            let r = get_or rows k d in
            let own = find_sound (variable_of l) f.existentials y e in
            let place = position_small (agree_on f y r) rows k d below
            (same_bits-refl (restriction y (row_assignment f r))) in
            let p = pair_number f rows r y in
            let low = pair_below (position_or_len (agree_on f y r) rows) y.variable place (range y own.0).1 in
            let here = literal_on p l (same_below p low) in
            ap (λ b. b || clause_true more (filter_map (pair_literal f rows r) ls)) here
            ∙ ap (λ b. literal_true m (on_variable p l) || b) later

  instance_kept : (k : ℕ) (d : List Bool) → k < length rows → (b : Bool) (clause : List Literal) →
      InstanceHolds m (cond b None (Some (filter_map (pair_literal f rows (get_or rows k d)) clause))) →
      InstanceHolds more (cond b None (Some (filter_map (pair_literal f rows (get_or rows k d)) clause)))
  instance_kept k d below true clause h = tt
  instance_kept k d below false clause h = instance_same k d below clause ∙ h

  model_kept : IsExpansionModel f rows m → IsExpansionModel f rows more
  model_kept model k d below j e inside = search (arith, instance_kept)

-- the failing row's values are the bits of its pairs in a model of the table's instances
pub extends : (f : Dqbf) → HasLawfulPrefix f → (rows : List (List Bool)) (points : PointBits)
    (output : Existential → OutputFunction) →
    ArePoints f rows points → AgreeAtPairs f rows points output →
    (row values : List Bool) (j : ℕ) → IsFailure f output row values j → HasModelWith f rows row values
extends f lawful rows points output p agree row values j bad =
    let g : Existential → Bool = λ y. (output y).value (row_assignment f row) in
    let V = f.variables in
    let n = length rows in
    let more' = extended f n g p.model in
    let same : All (λ y. g y ≡ more' (pair_number f rows row y)) f.existentials = λ i d below.
    let y = get_or f.existentials i d in
    let inside = Contains-get_or f.existentials i d below in
    let k = position_or_len (agree_on f y row) rows in
    elim (cases_lt k n) [
      | inl small ↦ (
          let old = get_or rows k [] in
          let agreed : same_bits (restriction y (row_assignment f row)) (restriction y (row_assignment f old)) ≡ true =
          passes_at_first (agree_on f y row) rows [] small in
          let alike = same_bits-sound (restriction y (row_assignment f row))
          (restriction y (row_assignment f old)) agreed in
          let at = slice_get_at rows k [] small in
          let bit = agree i d below k old (row_assignment f row) at alike ∙ p.bits k old at i d below in
          let pair : pair_number f rows old y ≡ pair_number f rows row y =
          ap (λ bits. position_or_len (λ r. same_bits bits (restriction y (row_assignment f r))) rows * V +
          y.variable) (sym alike) in
          let low = pair_below f lawful rows p.model g k y.variable small (range f lawful rows p.model g y inside).1 in
          bit ∙ ap p.model pair ∙ sym (same_below f lawful rows p.model g (pair_number f rows row y) low))
      | inr large ↦ (
          let most = position_most (agree_on f y row) rows in
          let is : k ≡ n = omega arith in
          let place : pair_number f rows row y ≡ n * V + y.variable = ap (λ q. q * V + y.variable) is in
          let low = (range f lawful rows p.model g y inside).0 in
          let behind : ltb (n * V) (n * V + y.variable) ≡ true = lt-ltb (n * V) (n * V + y.variable) (omega arith) in
          let back : n * V + y.variable - n * V ≡ y.variable = omega arith in
          let own : existential_of f y.variable ≡ Some y = find_own f.existentials i d below
          (existentials_once f.universals f.existentials lawful.declared_once) in
          let found = ap (existential_of f) back ∙ own in
          sym (ap more' place
          ∙ cond-true (ltb (n * V) (n * V + y.variable)) _ (p.model (n * V + y.variable)) behind
          ∙ ap (value_or_false g) found))
    ] in
    record {
      model = more';
      holds_there = model_kept f lawful rows p.model g p.holds_there;
      values_are = bad.values_are ∙ mapped_same g (λ y. more' (pair_number f rows row y)) f.existentials same;
    }
