-- Names by place, written one after the other.
use Rattle.std.proofs.Common.{◌≡◌, nat_eq, ℕ, zero, suc, ◌+◌, ◌≤◌, ◌<◌, List, [], ◌∷◌, ◌++◌, take, length, get_or, None, Some, refl, sym, ◌∙◌, ap, arith}
use Rattle.std.specs.Fmt.{decimal}
use Rattle.std.proofs.lemmas.Bool.{ne_eqb, cond-false}
use Rattle.list_laws.proofs.Sequences.{take-few}
use Rattle.aiger_text.specs.Symbol.{SymbolTable, name_at}
use Rattle.cert_export.specs.ExportedCircuit.{number_names}

-- a place behind them has no name
pub unnamed : (from : ℕ) (vs : List ℕ) (p : ℕ) → from + length vs ≤ p → name_at (number_names from vs) p ≡ None
unnamed from [] p behind = refl
unnamed from (v ∷ vs) p behind =
    cond-false (nat_eq p from) (Some (decimal v)) (name_at (number_names (from + 1) vs) p)
    (ne_eqb p from (λ same. omega (arith, same, behind)))
    ∙ unnamed (from + 1) vs p (omega (arith, behind))

-- the first so many, and one more
pub one_more : (from : ℕ) (vs : List ℕ) (i d : ℕ) → i < length vs →
    number_names from (take (i + 1) vs) ≡ number_names from (take i vs) ++ (from + i, decimal (get_or vs i d)) ∷ []
one_more from [] i d below = absurd (omega arith)
one_more from (v ∷ vs) zero d below = let e : from ≡ from + 0 = omega arith in ap (λ n. (n, decimal v) ∷ []) e
one_more from (v ∷ vs) (suc i) d below =
    let e : suc i + 1 ≡ suc (i + 1) = omega arith in
    let n : from + 1 + i ≡ from + suc i = omega arith in
    ap (λ k. number_names from (take k (v ∷ vs))) e ∙ ap (λ ns. (from, decimal v) ∷ ns)
    (one_more (from + 1) vs i d (omega (arith, below)))
    ∙ ap (λ k. (from, decimal v) ∷ (number_names (from + 1) (take i vs) ++ (k, decimal (get_or vs i d)) ∷ [])) n

-- the next place has no name yet
pub next_unnamed : (names : List (ℕ × List ℕ)) (vs : List ℕ) (i : ℕ) → names ≡ number_names 0 (take i vs) →
    name_at names i ≡ None
next_unnamed names vs i is = ap (λ ns. name_at ns i) is ∙ unnamed 0 (take i vs) i
    (omega (arith, take-few i vs))

-- with its name there is one more
pub next_named : (names : List (ℕ × List ℕ)) (vs : List ℕ) (i d : ℕ) (name : List ℕ) →
    names ≡ number_names 0 (take i vs) → name ≡ decimal (get_or vs i d) → i < length vs →
    names ++ (i, name) ∷ [] ≡ number_names 0 (take (i + 1) vs)
next_named names vs i d name is name_is below =
    let e : 0 + i ≡ i = omega arith in
    ap (λ ns. ns ++ (i, name) ∷ []) is ∙ ap (λ n. number_names 0 (take i vs) ++ (i, n) ∷ []) name_is
    ∙ ap (λ k. number_names 0 (take i vs) ++ (k, decimal (get_or vs i d)) ∷ []) (sym e) ∙ sym (one_more 0 vs i d below)

module _ (old before after : SymbolTable) (vs : List ℕ) (i d : ℕ) (name : List ℕ)
    (name_is : name ≡ decimal (get_or vs i d)) (below : i < length vs) where
  pub inputs_more : before ≡ record old { inputs = number_names 0 (take i vs) } →
      after ≡ record before { inputs = before.inputs ++ (i, name) ∷ [] } →
      after ≡ record old { inputs = number_names 0 (take (i + 1) vs) }
  inputs_more was is = search (arith, next_named)

  pub outputs_more : before ≡ record old { outputs = number_names 0 (take i vs) } →
      after ≡ record before { outputs = before.outputs ++ (i, name) ∷ [] } →
      after ≡ record old { outputs = number_names 0 (take (i + 1) vs) }
  outputs_more was is = search (arith, next_named)
