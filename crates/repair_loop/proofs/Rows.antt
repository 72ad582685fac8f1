-- A row of the table can't fail again, and a row that fails extends the model of the table.
use Rattle.std.proofs.Common.{◌≡◌, ℕ, ◌==◌, Bool, true, false, cond, inl, inr, List, [], ◌∷◌, map, slice_get, Some, refl, sym, ◌∙◌, ap}
use Rattle.std.specs.List.{All, Contains, find}
use Rattle.std.proofs.lemmas.Bool.{cases_Bool, false≢true}
use Rattle.std.proofs.lemmas.List.Elements.{All-contains}
use Rattle.dq_lits.specs.Literal.{Assignment, Literal, clause_true}
use Rattle.dq_lits.specs.Formula.{Existential, Dqbf, is_universal, HasLawfulPrefix}
use Rattle.dq_lits.specs.Row.{assignment_of}
use Rattle.dq_lits.specs.Skolem.{OutputFunction}
use Rattle.dq_lits.specs.Expansion.{row_assignment, pair_number, instance_clause, InstanceHolds, IsExpansionModel}
use Rattle.dq_lits.proofs.FormulaVariables.{find_sound}
use Rattle.hint_log.specs.Naming.{by_universality, round_assignment}
use Rattle.expansion.specs.Table.{PointBits, ArePoints}
use Rattle.candidate_functions.specs.Candidates.{AgreeAtPairs}
use Rattle.candidate_functions.proofs.AtRows.{apart, AtRow, clause_holds}
use Rattle.log_laws.proofs.Found.{variable, slice_get_at, numbered_among}
use Rattle.circuit_cnf.specs.Failing.{IsFailure}

values_at : (g : Existential → Bool) (v : ℕ) (ys : List Existential) (y : Existential) →
    find (λ z. z.variable == v) ys ≡ Some y → assignment_of (map variable ys) (map g ys) v ≡ g y
values_at g v [] y h = cc
values_at g v (x ∷ ys) y h = by_bit (values_at g v ys y) (x.variable == v) h where
  by_bit : (find (λ z. z.variable == v) ys ≡ Some y → assignment_of (map variable ys) (map g ys) v ≡ g y) → (b : Bool) →
      cond b (Some x) (find (λ z. z.variable == v) ys) ≡ Some y →
      cond b (g x) (assignment_of (map variable ys) (map g ys) v) ≡ g y
  by_bit later true h = let same : x ≡ y = cc in ap g same
  by_bit later false h = later h

-- under a row of the table, with the values of its pairs, every clause is true
pub holds_at_old_row : (f : Dqbf) → HasLawfulPrefix f → (rows : List (List Bool)) (m : Assignment) →
    IsExpansionModel f rows m →
    (row : List Bool) → Contains rows row → (g : Existential → Bool) →
    All (λ y. g y ≡ m (pair_number f rows row y)) f.existentials →
    (clause : List Literal) → Contains f.matrix clause → clause_true
    (round_assignment f row (map g f.existentials)) clause ≡ true
holds_at_old_row f lawful rows m model row inside g same clause among =
    let n = round_assignment f row (map g f.existentials) in
    let values = map g f.existentials in
    let t : AtRow f rows row m n = record {
      universal = λ v h. ap (λ b. by_universality b (row_assignment f row v)
          (assignment_of (map variable f.existentials) values v)) h;
      existential = λ v y found.
          let no : is_universal f v ≡ false = elim (cases_Bool (is_universal f v))
          [ inl h ↦ absurd (apart f lawful v y found h) | inr h ↦ h ] in
          ap (λ b. by_universality b (row_assignment f row v) (assignment_of (map variable f.existentials) values v)) no
          ∙ values_at g v f.existentials y found
          ∙ All-contains (λ z. g z ≡ m (pair_number f rows row z)) f.existentials y same
          (find_sound v f.existentials y found).0;
    } in
    let here = All-contains (λ r. All (λ c. InstanceHolds m (instance_clause f rows r c)) f.matrix) rows row model
    inside in
    clause_holds f rows row m n t clause (All-contains (λ c. InstanceHolds m (instance_clause f rows row c)) f.matrix
    clause here among)

-- candidates that agree with the points fail at no row of the table
pub no_old_row : (f : Dqbf) → HasLawfulPrefix f → (rows : List (List Bool)) (points : PointBits)
    (output : Existential → OutputFunction) →
    ArePoints f rows points → AgreeAtPairs f rows points output → (row values : List Bool) (j : ℕ) →
    IsFailure f output row values j → Contains rows row → ⊥
no_old_row f lawful rows points output p agree row values j bad inside =
    let k = inside.0 in
    let at : slice_get rows k ≡ Some row = slice_get_at rows k row inside.1 ∙ ap Some inside.2 in
    let g : Existential → Bool = λ y. (output y).value (row_assignment f row) in
    let same : All (λ y. g y ≡ p.model (pair_number f rows row y)) f.existentials =
    λ i d below. agree i d below k row (row_assignment f row) at refl ∙ p.bits k row at i d below in
    let holds = holds_at_old_row f lawful rows p.model p.holds_there row inside g same bad.clause
    (numbered_among f.matrix j bad.clause bad.clause_is) in
    false≢true (sym bad.is_false ∙ ap (λ vs. clause_true (round_assignment f row vs) bad.clause) bad.values_are ∙ holds)
