-- Clauses of literals that are named one after another.
use Rattle.std.proofs.Common.{◌≡◌, ◌≢◌, ℕ, zero, suc, ◌+◌, ◌<◌, ◌≤◌, true, false, List, [], ◌∷◌, ◌++◌, take, drop, length, reverse, Option, Some, None, is_some, slice_get, sym, ◌∙◌, ap, subst, arith, get_or, inr, inl, Bool}
use Rattle.std.specs.Prelude.{slice_index, slice_index_or}
use Rattle.std.proofs.lemmas.Bool.{cases_lt}
use Rattle.std.proofs.lemmas.Option.{slice_get-get_or, get_or_from_slice_get, slice_get_within}
use Rattle.std.proofs.lemmas.List.{append-nil, append_assoc, take_more, length-take, map-append}
use Rattle.list_laws.proofs.Elements.{drop-next}
use Rattle.list_laws.proofs.Sequences.{drop_end}
use Rattle.dq_lits.specs.Literal.{Literal}
use Rattle.dq_lits.specs.Formula.{Dqbf}
use Rattle.cert_text.specs.NegatedMatrix.{falsity_clauses, all_falsity_clauses}
use Rattle.dq_prep.specs.declared.traces.Taken.{Taken}
use Rattle.dq_prep.specs.Units.{AreUnits, taken_literals, is_satisfied}
use Rattle.dq_prep.specs.Simplified.{simplified_formula}
use Rattle.lifted_proofs.specs.Goals.{clause_at}
use Rattle.lifted_proofs.specs.KeptPlaces.{IsPart, all_gone, kept_places, dropped_places, places_of, kept_at}
use Rattle.lifted_proofs.specs.Liftables.{falsity, left_falsities}
use Rattle.lifted_proofs.specs.Sources.{IsSourceAt}
use Rattle.lifted_proofs.specs.declared.goals.Source.{Source}
use Rattle.lifted_proofs.proofs.KeptPlaces.{IsLeft, left-is, dropped-true, part-later, part-next, part-none, places-more, left-at, place-in}
use Rattle.skolem_checker.specs.Checks.{Candidate}
use Rattle.proof_checker.specs.CircuitProof.{circuit_literal}
use Rattle.std.specs.Bool.{beq}
use Rattle.list_laws.proofs.Options.{some_of}

-- ---- places

module _ (f : Dqbf) (units : List Taken) (kept : Bool) (place : ℕ) (o : Option Source) (old new : List ℕ)
    (at : IsSourceAt f units place o) (was : old ≡ places_of f (reverse units) kept place) where
  told : (o : Option Source) → IsSourceAt f units place o → is_some o ≡ is_some (kept_at f (reverse units) place)
  told None at = sym (ap (λ (x : Option (List Literal)). is_some x) at)
  told (Some s) at = sym (ap (λ (x : Option (List Literal)). is_some x) at.1)

  pub place-taken : beq (is_some o) kept ≡ true → new ≡ old ++ place ∷ []
      → new ≡ places_of f (reverse units) kept (place + 1)
  place-taken is more = search (arith, places-more)

  pub place-passed : beq (is_some o) kept ≡ false → new ≡ old → new ≡ places_of f (reverse units) kept (place + 1)
  place-passed is same = search (arith, places-more, append-nil)

-- ---- literals

falsities-append : (lit : ℕ → ℕ) (bad : ℕ) (clauses : List (List Literal)) (clause : List Literal)
    → all_falsity_clauses lit bad (clauses ++ clause ∷ [])
    ≡ all_falsity_clauses lit bad clauses ++ falsity_clauses lit (bad + length clauses) clause
falsities-append lit bad [] clause = search (arith, append-nil)
falsities-append lit bad (c ∷ cs) clause = search (arith, (falsities-append lit (bad + 1) cs clause), append_assoc)

-- those of the clauses up to a place
pub falsities-more : (c : Candidate) (j : ℕ) (clause : List Literal) → j < length c.formula.matrix
    → clause ≡ slice_index_or c.formula.matrix j []
    → left_falsities c (take (j + 1) c.formula.matrix)
    ≡ left_falsities c (take j c.formula.matrix)
    ++ falsity_clauses (circuit_literal c.circuit) (c.circuit.netlist.max_var + 1 + j) clause
falsities-more c j clause within is =
    search (arith, (take_more c.formula.matrix j [] within), falsities-append, (length-take j c.formula.matrix))

-- and of the literals of a clause
pub falsity-more : (lit : ℕ → ℕ) (bad : ℕ) (front : List (List ℕ)) (clause : List Literal) (k : ℕ) (l : Literal)
    → slice_get clause k ≡ Some l
    → front ++ falsity_clauses lit bad (take (k + 1) clause)
    ≡ (front ++ falsity_clauses lit bad (take k clause)) ++ falsity lit bad l ∷ []
falsity-more lit bad front clause k l at =
    search (
      arith,
      (slice_get_within clause k l at),
      (take_more clause k l),
      (get_or_from_slice_get clause k l l at),
      map-append,
      (append_assoc front),
    )

none-dropped : {X : Type 0} (xs : List X) (k : ℕ) → drop k xs ≡ [] → length xs ≤ k
none-dropped [] k none = omega arith
none-dropped (x ∷ xs) zero none = cc
none-dropped (x ∷ xs) (suc k) none = omega (arith, none-dropped xs k none)

-- the next literal is left, or not
pub part-found : (left clause : List Literal) (k q : ℕ) (l : Literal) → IsPart (drop k left) (drop q clause)
    → slice_get left k ≡ Some l → slice_get clause q ≡ Some l → IsPart (drop (k + 1) left) (drop (q + 1) clause)
part-found left clause k q l part at-left at = search (arith, part-next, drop-next)

pub part-passed : (left clause : List Literal) (k q : ℕ) (l : Literal) → IsPart (drop k left) (drop q clause)
    → slice_get clause q ≡ Some l → ((m : Literal) → slice_get left k ≡ Some m → m ≢ l)
    → IsPart (drop k left) (drop (q + 1) clause)
part-passed left clause k q l part at apart = elim (cases_lt k (length left)) [
  | inl within ↦
      let m = get_or left k l in
      let next = drop-next left k m (slice_get-get_or left k l within) in
      subst (λ xs. IsPart xs (drop (q + 1) clause)) (sym next)
      (part-later (subst (λ xs. IsPart xs (l ∷ drop (q + 1) clause)) next
      (subst (λ ys. IsPart (drop k left) ys) (drop-next clause q l at) part))
      (apart m (slice_get-get_or left k l within)))
  | inr past ↦ subst (λ xs. IsPart xs (drop (q + 1) clause)) (sym (drop_end left k past)) all_gone
]

pub part-whole : (left clause : List Literal) (k q : ℕ) → IsPart (drop k left) (drop q clause) → length clause ≤ q
    → length left ≤ k
part-whole left clause k q part past = search (arith, none-dropped, part-none, drop_end)

-- ---- a kept clause by its places

-- the clauses at a place of what is left
pub record IsLeftAt (f : Dqbf) (units : List Taken) (c : Candidate) (j place : ℕ) : Type 0 where
  pub within : place < length f.matrix
  pub left_within : j < length c.formula.matrix
  pub place_at : slice_get (kept_places f units) j ≡ Some place
  pub clause : slice_get f.matrix place ≡ Some (clause_at f place)
  pub left : IsLeft units (clause_at f place) (slice_index_or c.formula.matrix j [])

pub left-place : (f : Dqbf) (units : List Taken) (c : Candidate) (kept : List ℕ) (j : ℕ) → AreUnits f units
    → c.formula ≡ simplified_formula f units → kept ≡ kept_places f units → j < length kept
    → IsLeftAt f units c j (slice_index kept j)
left-place f units c kept j are left is below =
    let p = slice_index kept j in
    let at : slice_get (kept_places f units) j ≡ Some p =
    ap (λ xs. slice_get xs j) (sym is) ∙ slice_get-get_or kept j 0 below in
    let it = place-in f units true (length f.matrix) j p at in
    let clause : slice_get f.matrix p ≡ Some (clause_at f p) = slice_get-get_or f.matrix p [] it.0 in
    let own = some_of (kept_at f units p) it.1 in
    let own-at : slice_get c.formula.matrix j ≡ Some own.0 =
    ap (λ (g : Dqbf). slice_get g.matrix j) left ∙ left-at f units j p at ∙ own.1 in
    record {
      within = it.0;
      left_within = slice_get_within c.formula.matrix j own.0 own-at;
      place_at = at;
      clause = clause;
      left = subst (IsLeft units (clause_at f p)) (sym (get_or_from_slice_get c.formula.matrix j own.0 [] own-at))
          (left-is f units p (clause_at f p) own.0 are clause own.1);
    }

-- a clause that goes
pub record IsGoneAt (f : Dqbf) (units : List Taken) (place : ℕ) : Type 0 where
  pub within : place < length f.matrix
  pub satisfied : is_satisfied (taken_literals units) (slice_index_or f.matrix place []) ≡ true

pub gone-place : (f : Dqbf) (units : List Taken) (dropped : List ℕ) (k : ℕ) → dropped ≡ dropped_places f units
    → k < length dropped → IsGoneAt f units (slice_index dropped k)
gone-place f units dropped k is below =
    let p = slice_index dropped k in
    let it = place-in f units false (length f.matrix) k p
    (ap (λ xs. slice_get xs k) (sym is) ∙ slice_get-get_or dropped k 0 below) in
    record { within = it.0; satisfied = dropped-true f units p it.1 }
