-- Literals as AIGER writes them, and what constants leave of a clause.
use Rattle.std.proofs.Common.{◌≡◌, ℕ, ◌≤◌, ◌==◌, false, cond, not, List, [], ◌∷◌, map, None, Some, refl, ◌∙◌, ap, arith}
use Rattle.std.specs.List.{list_any, filter}
use Rattle.std.proofs.lemmas.Bool.{ne_eqb, cond-false}
use Rattle.cert_text.specs.NegatedMatrix.{as_literal, without_constants}

-- no constant
abbrev pub AreVariables : List ℕ → Type 0
AreVariables [] = Unit {0}
AreVariables (l ∷ ls) = (2 ≤ l) × AreVariables ls

no_true : (ls : List ℕ) → AreVariables ls → list_any (λ l. l == 1) ls ≡ false
no_true [] h = refl
no_true (l ∷ ls) h = search (arith, ne_eqb, (no_true ls h.1))

all_stay : (ls : List ℕ) → AreVariables ls → filter (λ l. not (l == 0)) ls ≡ ls
all_stay [] h = refl
all_stay (l ∷ ls) h =
    ap (λ b. cond (not b) (l ∷ filter (λ k. not (k == 0)) ls) (filter (λ k. not (k == 0)) ls))
    (ne_eqb l 0 (λ e. omega (arith, h.0, e))) ∙ ap (λ ks. l ∷ ks) (all_stay ls h.1)

pub no_constants : (ls : List ℕ) → AreVariables ls → without_constants ls ≡ Some (map as_literal ls)
no_constants ls h = cond-false (list_any (λ l. l == 1) ls) None (Some (map as_literal (filter (λ l. not (l == 0)) ls)))
    (no_true ls h) ∙ ap (λ ks. Some (map as_literal ks)) (all_stay ls h)

-- a false literal behind one that is no constant, and a true one
pub false_behind : (l : ℕ) → 2 ≤ l → without_constants (l ∷ 0 ∷ []) ≡ Some (as_literal l ∷ [])
false_behind l two = search (arith, cond-false, ne_eqb)
