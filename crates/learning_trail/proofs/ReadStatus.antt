-- A clause's status, as its literals are read one by one.
use Rattle.std.proofs.Common.{◌≡◌, ℕ, ◌+◌, ◌<◌, ◌≤◌, true, List, [], ◌∷◌, ◌++◌, take, drop, length, get_or, Some, refl, sym, ◌∙◌, ap, arith}
use Rattle.std.specs.List.{list_any}
use Rattle.std.proofs.lemmas.List.{append-nil, take_all, take_more, take-append-drop, append_assoc}
use Rattle.std.proofs.lemmas.List.Folds.{list_any_at}
use Rattle.dq_lits.specs.Literal.{Literal, opposite}
use Rattle.dq_lits.specs.Derivation.{ClauseStatus, stuck, holds, status_of}
use Rattle.dq_lits.specs.Extension.{with_literal}
use Rattle.dq_lits.specs.Truth.{literal_value}
use Rattle.dq_lits.specs.declared.truth_values.TruthValue.{TruthValue}
use Rattle.dq_lits.specs.declared.truth_values.TruthValue.TheVariants.{True, False, Unassigned}
use Rattle.dq_lits.proofs.LiteralValues.{value_true}
use Rattle.dq_lits.proofs.ReadStatus.{status_more}
use Rattle.learning_trail.proofs.StatusLaws.{is_falsified}

pub read_more : (trues clause : List Literal) (l : Literal) (i : ℕ) (s s' : ClauseStatus) (t : TruthValue) →
    i < length clause → get_or clause i l ≡ l
    → s ≡ status_of trues (Some (take i clause)) → t ≡ literal_value trues l → s' ≡ with_literal s l t →
    s' ≡ status_of trues (Some (take (i + 1) clause))
read_more trues clause l i s s' t lt at before value is = search (arith, take_more, status_more)

stays : (trues clause more : List Literal) → status_of trues (Some clause) ≡ stuck →
    status_of trues (Some (clause ++ more)) ≡ stuck
stays trues clause [] h = ap (λ c. status_of trues (Some c)) (append-nil clause) ∙ h
stays trues clause (l ∷ more) h =
    let one : status_of trues (Some (clause ++ l ∷ [])) ≡ stuck =
    sym (status_more trues clause l) ∙ ap (λ s. with_literal s l (literal_value trues l)) h ∙ still
    (literal_value trues l) in
    ap (λ c. status_of trues (Some c)) (sym (append_assoc clause (l ∷ []) more)) ∙ stays trues
    (clause ++ l ∷ []) more one
  where
    still : (t : TruthValue) → with_literal stuck l t ≡ stuck
    still True = refl
    still False = refl
    still Unassigned = refl

-- a clause that is stuck by some of its literals is stuck
pub stuck_stays : (trues clause : List Literal) (i : ℕ) → stuck ≡ status_of trues (Some (take i clause)) →
    stuck ≡ status_of trues (Some clause)
stuck_stays trues clause i h =
    sym (ap (λ c. status_of trues (Some c)) (sym (take-append-drop i clause)) ∙ stays trues (take i clause)
    (drop i clause) (sym h))

pub status_whole : (trues clause : List Literal) (i : ℕ) (s : ClauseStatus) → length clause ≤ i →
    s ≡ status_of trues (Some (take i clause)) → s ≡ status_of trues (Some clause)
status_whole trues clause i s all h = h ∙ ap (λ c. status_of trues (Some c)) (take_all i clause all)

-- some literal of the clause is true
pub true_at : (trues clause : List Literal) (l : Literal) (i : ℕ) → i < length clause → get_or clause i l ≡ l →
    literal_value trues l ≡ True → list_any (holds trues) clause ≡ true
true_at trues clause l i lt at value = search (arith, list_any_at, value_true)

-- not all literals of a stuck clause are false
pub all_false : (trues clause : List Literal) (i : ℕ) → length clause ≤ i → status_of trues (Some clause) ≡ stuck
    → ((k : Literal) → holds (take i clause) k ≡ true → holds trues (opposite k) ≡ true) → ⊥
all_false trues clause i all is_stuck is_false = search (arith, is_falsified, take_all)
