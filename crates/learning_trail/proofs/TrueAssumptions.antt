-- Which assumptions are true.
use Rattle.std.proofs.Common.{◌≡◌, ℕ, zero, suc, ◌+◌, true, ◌||◌, List, [], ◌∷◌, take, slice_get, Some, None, Option, refl, subst, arith}
use Rattle.std.specs.List.{list_any}
use Rattle.std.proofs.lemmas.Bool.{false≢true}
use Rattle.dq_lits.specs.Literal.{Literal, same_literal}
use Rattle.dq_lits.specs.Derivation.{holds}
use Rattle.dq_lits.proofs.HeldLiterals.{holds_cases, holds_here, holds_later}
use Rattle.oracle.specs.declared.groups.Group.{Group}
use Rattle.oracle.specs.Calls.{assumed}
use Rattle.learning_trail.specs.Sound.{AreTrue}

pub none_true : (assumptions trues : List Literal) → AreTrue (take 0 assumptions) trues
none_true [] trues = λ a h. absurd (false≢true h)
none_true (x ∷ xs) trues = λ a h. absurd (false≢true h)

pub true_later : (assumptions old new : List Literal) → ((t : Literal) → holds old t ≡ true → holds new t ≡ true) →
    AreTrue assumptions old → AreTrue assumptions new
true_later assumptions old new more h = λ a among. more a (h a among)

-- one more
true_next : (assumptions trues : List Literal) (i : ℕ) (l : Literal) → slice_get assumptions i ≡ Some l →
    holds trues l ≡ true → AreTrue (take i assumptions) trues
    → AreTrue (take (suc i) assumptions) trues
true_next [] trues i l at on before = let n : None ≡ Some l = at in cc
true_next (x ∷ xs) trues zero l at on before = search (arith, holds_cases, none_true)
true_next (x ∷ xs) trues (suc i) l at on before =
    search (arith, holds_later, holds_cases, holds_here, (true_next xs trues i l at on))

pub true_more : (assumptions trues : List Literal) (i : ℕ) (l : Literal) → slice_get assumptions i ≡ Some l →
    holds trues l ≡ true → AreTrue (take i assumptions) trues
    → AreTrue (take (i + 1) assumptions) trues
true_more assumptions trues i l at on before =
    let one : suc i ≡ i + 1 = omega arith in subst (λ n. AreTrue (take n assumptions) trues) one
    (true_next assumptions trues i l at on before)

-- there is none behind them
pub true_all : (assumptions trues : List Literal) (i : ℕ) → slice_get assumptions i ≡ None →
    AreTrue (take i assumptions) trues → AreTrue assumptions trues
true_all [] trues i at before = λ a h. absurd (false≢true h)
true_all (x ∷ xs) trues zero at before = let n : Some x ≡ None = at in cc
true_all (x ∷ xs) trues (suc i) at before =
    search (arith, holds_later, holds_cases, holds_here, (true_all xs trues i at))

pub among_assumed : (active : List Group) (literals : List Literal) (l : Literal) →
    holds (assumed active literals) l ≡ (list_any (λ g. same_literal l g.selector) active || holds literals l)
among_assumed [] literals l = refl
among_assumed (g ∷ active) literals l = search (arith, (among_assumed active literals l))

pub none_from : (o : Option Literal) → ((l : Literal) → o ≡ Some l → ⊥) → o ≡ None
none_from None other = refl
none_from (Some l) other = absurd (other l refl)
