-- Lemmas on the truth of literals and clauses.
use Rattle.std.proofs.Common.{◌≡◌, true, false, not, ap, true≢false, sym, ℕ, ◌||◌, List, [], ◌∷◌, refl, ◌∙◌}
use Rattle.list_laws.proofs.Truths.{not_true}
use Rattle.dq_lits.specs.Literal.{Assignment, Literal, positive, negative, opposite, literal_true, variable_of, is_negative, on_variable, clause_true}

pub opposite-false : (m : Assignment) (l : Literal) → literal_true m (opposite l) ≡ true → literal_true m l ≡ false
opposite-false m (positive v) h = not_true (m v) h
opposite-false m (negative v) h = ap not h

pub same_sign : (a m : Assignment) (p : ℕ) (r l : Literal) → is_negative r ≡ is_negative l → a (variable_of r) ≡ m p →
    literal_true a r ≡ literal_true m (on_variable p l)
same_sign a m p (positive v) (positive w) e h = h
same_sign a m p (positive v) (negative w) e h = absurd (true≢false (sym e))
same_sign a m p (negative v) (positive w) e h = absurd (true≢false e)
same_sign a m p (negative v) (negative w) e h = ap not h

pub positive_true : (values : Assignment) (l : Literal) → is_negative l ≡ false → literal_true values l ≡ true →
    values (variable_of l) ≡ true
positive_true values (positive v) plain on = on
positive_true values (negative v) plain on = cc

pub clause_same : (m n : Assignment) (c : List Literal) → ((v : ℕ) → m v ≡ n v) → clause_true m c ≡ clause_true n c
clause_same m n [] h = refl
clause_same m n (l ∷ c) h = ap (λ b. b || clause_true m c) (literal l) ∙ ap (λ b. literal_true n l || b)
    (clause_same m n c h) where
      literal : (k : Literal) → literal_true m k ≡ literal_true n k
      literal (positive v) = h v
      literal (negative v) = ap not (h v)
