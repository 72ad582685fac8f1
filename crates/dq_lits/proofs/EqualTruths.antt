-- Propagation depends on the set of true literals alone.
use Rattle.std.proofs.Common.{◌≡◌, not, cond, ◌&&◌, List, [], ◌∷◌, refl, ap, Option, None, Some, ◌∙◌, ℕ, ◌+◌, ◌||◌}
use Rattle.std.specs.List.{list_all, filter}
use Rattle.dq_lits.specs.Literal.{Literal, same_literal, opposite}
use Rattle.dq_lits.specs.Derivation.{unit, stuck, status_by, holds, status_of, LiveClauses, fault_by, hint_fault, AreSame}
use Rattle.list_laws.proofs.Folds.{filter-same}
use Rattle.dq_lits.proofs.HeldLiterals.{fault_by-same}

pub status_by-same : (xs ys rest : List Literal) → AreSame xs ys → status_by xs rest ≡ status_by ys rest
status_by-same xs ys [] same = refl
status_by-same xs ys (l ∷ rest) same = ap (λ b. cond (list_all (same_literal l) rest && not b) (unit l) stuck) (same l)

pub status_of-same : (xs ys : List Literal) (clause : Option (List Literal)) → AreSame xs ys →
    status_of xs clause ≡ status_of ys clause
status_of-same xs ys None same = refl
status_of-same xs ys (Some clause) same =
    ap (status_by xs) (filter-same (λ l. not (holds xs (opposite l))) (λ l. not (holds ys (opposite l)))
    (λ l. ap not (same (opposite l))) clause)
    ∙ status_by-same xs ys (filter (λ l. not (holds ys (opposite l))) clause) same

pub hint_fault-same : (live : LiveClauses) (hints : List ℕ) (xs ys : List Literal) (place : ℕ) → AreSame xs ys →
    hint_fault live xs place hints ≡ hint_fault live ys place hints
hint_fault-same live [] xs ys place same = refl
hint_fault-same live (hint ∷ hints) xs ys place same =
    ap (λ s. fault_by s place hints (λ l. hint_fault live (l ∷ xs) (place + 1) hints))
    (status_of-same xs ys (live hint) same)
    ∙ fault_by-same (status_of ys (live hint)) place hints (λ l. hint_fault live (l ∷ xs) (place + 1) hints)
    (λ l. hint_fault live (l ∷ ys) (place + 1) hints)
    (λ l. hint_fault-same live hints (l ∷ xs) (l ∷ ys) (place + 1) (λ k. ap (λ b. same_literal k l || b) (same k)))
