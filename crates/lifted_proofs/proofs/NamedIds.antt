-- Ids are named one after another, with lines for those that have none.
use Rattle.std.proofs.Common.{◌≡◌, ℕ, ◌+◌, ◌<◌, ◌==◌, Bool, false, List, [], ◌∷◌, ◌++◌, length, Some, refl, ◌∙◌, arith, length-append}
use Rattle.std.proofs.lemmas.Bool.{cond-true, cond-false, ne_eqb, eq-eqb}
use Rattle.std.proofs.lemmas.Option.{slice_get_within}
use Rattle.list_laws.proofs.Elements.{last_or_before, last_there}
use Rattle.dq_lits.specs.Literal.{Literal, positive, negative, variable_of}
use Rattle.dq_lits.specs.Derivation.{LiveClauses, with_clause, IsDerived, ProofStep, is_tautology}
use Rattle.dq_lits.proofs.SignedLiterals.{same_literal-refl}
use Rattle.cert_text.specs.Grammar.{AreSteps, IsStep}
use Rattle.lifted_proofs.specs.Lines.{behind_steps}
use Rattle.lifted_proofs.specs.NamedIds.{HasName, AreNamed}
use Rattle.lifted_proofs.proofs.WrittenLines.{behind-more, derived-more, steps-more}

-- ids below the steps' have the clauses that they had
pub behind-same : (live : LiveClauses) (p : ℕ → Bool) (n : ℕ) (ss : List ProofStep) (id : ℕ) → AreSteps p n ss
    → id < n → behind_steps live ss id ≡ live id
behind-same live p n [] id all below = refl
behind-same live p n (s ∷ ss) id all below =
    behind-same (with_clause live s.id s.literals) p (n + 1) ss id all.1 (omega (arith, below))
    ∙ cond-false (id == s.id) (Some s.literals) (live id)
    (ne_eqb id s.id (λ same. absurd (omega (arith, same, below, all.0.numbered))))

module _ (is_variable : ℕ → Bool) (first : ℕ) (to : Literal → Literal) (base : LiveClauses) where
  abbrev Named : List (List ℕ) → List ℕ → List ProofStep → Type 0
  Named falsities ids steps = AreNamed is_variable first to base falsities ids steps

  -- one more id
  pub name-more : (falsities : List (List ℕ)) (ids : List ℕ) (steps : List ProofStep) (falsity : List ℕ) (id : ℕ)
      → AreNamed is_variable first to base falsities ids steps
      → HasName to (behind_steps base steps) (first + length steps) falsity id
      → AreNamed is_variable first to base (falsities ++ falsity ∷ []) (ids ++ id ∷ []) steps
  name-more falsities ids steps falsity id named has =
      search (arith, length-append, last_or_before, slice_get_within, last_there)

  -- one more line
  pub line-more : (falsities : List (List ℕ)) (ids : List ℕ) (steps : List ProofStep) (s : ProofStep)
      → AreNamed is_variable first to base falsities ids steps → IsStep is_variable (first + length steps) s
      → IsDerived (behind_steps base steps) s.literals s.hints
      → AreNamed is_variable first to base falsities ids (steps ++ s ∷ [])
  line-more falsities ids steps s named it derived =
      search (arith, steps-more, derived-more, length-append, behind-more, cond-false, ne_eqb)

  -- the last line's clause
  pub line-clause : (steps : List ProofStep) (s : ProofStep)
      → behind_steps base (steps ++ s ∷ []) s.id ≡ Some s.literals
  line-clause steps s = search (arith, behind-more, cond-true, eq-eqb)

  pub none-named : AreNamed is_variable first to base [] [] []
  none-named = record { allowed = tt; derived = tt; many = refl; each = λ k id xs at there. cc }

-- a clause with one literal more is derived by the clause
pub weaker-derived : (live : LiveClauses) (k l : Literal) (hint : ℕ) → live hint ≡ Some (k ∷ [])
    → is_tautology (k ∷ l ∷ []) ≡ false → IsDerived live (k ∷ l ∷ []) (hint ∷ [])
weaker-derived live k l hint at plain = search (arith, same_literal-refl)

pub two-plain : (k l : Literal) → (variable_of k ≡ variable_of l → ⊥) → is_tautology (k ∷ l ∷ []) ≡ false
two-plain (positive v) (positive w) apart = refl
two-plain (positive v) (negative w) apart = search (arith, ne_eqb)
two-plain (negative v) (positive w) apart = search (arith, ne_eqb)
two-plain (negative v) (negative w) apart = refl
