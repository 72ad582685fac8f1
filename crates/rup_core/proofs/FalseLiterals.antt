-- A line's literals, made false one by one.
use Rattle.std.proofs.Common.{◌≡◌, ℕ, ◌<◌, Bool, true, false, not, cond, List, [], ◌∷◌, map, take, drop, length, Option, Some, Result, Ok, Err, IfOk, refl, sym, ◌∙◌, ap, get_or}
use Rattle.std.specs.List.{list_any}
use Rattle.std.proofs.lemmas.Bool.{not-true, or_from, or_left, or_right}
use Rattle.std.proofs.lemmas.List.{take-append-drop}
use Rattle.std.proofs.lemmas.List.Folds.{list_any_at}
use Rattle.dq_lits.specs.Literal.{Literal, opposite, same_literal}
use Rattle.dq_lits.specs.Derivation.{LiveClauses, holds, is_tautology, hint_fault, line_fault, AreSame}
use Rattle.dq_lits.proofs.HeldLiterals.{any_one, holds-append, holds-map}
use Rattle.dq_lits.proofs.SignedLiterals.{same_literal-refl, opposite-opposite}
use Rattle.dq_lits.specs.Truth.{literal_value}
use Rattle.dq_lits.specs.declared.truth_values.TruthValue.TheVariants.{True}
use Rattle.dq_lits.proofs.LiteralValues.{value_true}
use Rattle.dq_lits.proofs.EqualTruths.{hint_fault-same}

-- no literal beside its negation
abbrev pub IsConsistent : List Literal → Type 0
IsConsistent literals = (l : Literal) → holds literals l ≡ true → holds literals (opposite l) ≡ false

any_none : (p : Literal → Bool) (line : List Literal) → ((l : Literal) → holds line l ≡ true → p l ≡ false) →
    list_any p line ≡ false
any_none p [] none = refl
any_none p (l ∷ line) none =
    or_from (p l) (list_any p line) (none l (or_left (same_literal l l) (holds line l) (same_literal-refl l)))
    (any_none p line (λ k h. none k (or_right (same_literal k l) (holds line k) h)))

-- all literals of a line are false without a conflict
pub no_tautology : (trues line : List Literal) → IsConsistent trues → AreSame trues (map opposite line) →
    is_tautology line ≡ false
no_tautology trues line consistent same =
    any_none (λ l. holds line (opposite l)) line
    (λ l h.
    let held : holds trues (opposite l) ≡ true = same (opposite l) ∙ holds-map line l ∙ h in
    sym (holds-map line (opposite l)) ∙ sym (same (opposite (opposite l))) ∙ consistent (opposite l) held)

-- a literal of the line is true, since its negation was made false
pub tautology : (trues line : List Literal) (n : ℕ) (l : Literal) → AreSame trues (map opposite (take n line)) →
    n < length line → get_or line n l ≡ l →
    literal_value trues l ≡ True → is_tautology line ≡ true
tautology trues line n l same lt at is_true =
    let before : holds (take n line) (opposite l) ≡ true =
    sym (holds-map (take n line) (opposite l)) ∙ ap (holds (map opposite (take n line))) (opposite-opposite l) ∙ sym
    (same l) ∙ value_true trues l is_true in
    any_one (λ k. holds line (opposite k)) line l (held_at line n l lt at) (held_before line n (opposite l) before)
  where
    held_at : (xs : List Literal) (i : ℕ) (k : Literal) → i < length xs → get_or xs i k ≡ k → holds xs k ≡ true
    held_at xs i k h e = list_any_at (same_literal k) xs i k h (ap (same_literal k) e ∙ same_literal-refl k)

    held_before : (xs : List Literal) (i : ℕ) (k : Literal) → holds (take i xs) k ≡ true → holds xs k ≡ true
    held_before xs i k h =
        ap (λ ys. holds ys k) (sym (take-append-drop i xs)) ∙ holds-append (take i xs) (drop i xs) k ∙ or_left
        (holds (take i xs) k) (holds (drop i xs) k) h

pub line_goes_on : (live : LiveClauses) (line trues : List Literal) (hints : List ℕ) (b : Bool) (fault : Option ℕ) →
    b ≡ true → b ≡ not (is_tautology line) →
    AreSame trues (map opposite line) → fault ≡ hint_fault live trues 1 hints → fault ≡ line_fault live line hints
line_goes_on live line trues hints b fault went consistent same is =
    let plain : is_tautology line ≡ false = not-true (is_tautology line) (sym consistent ∙ went) in
    is ∙ hint_fault-same live hints trues (map opposite line) 1 same ∙ sym
    (ap (λ t. cond t (Some 0) (hint_fault live (map opposite line) 1 hints)) plain)

-- where the hints are read
pub hints_go_on : (E : Type 0) (live : LiveClauses) (line trues : List Literal) (hints : List ℕ) (b : Bool)
    (read : Result (Option ℕ) E) → b ≡ true → b ≡ not (is_tautology line) →
    AreSame trues (map opposite line) → IfOk read (λ fault. fault ≡ hint_fault live trues 1 hints) →
    IfOk read (λ fault. fault ≡ line_fault live line hints)
hints_go_on E live line trues hints b (Ok fault) went consistent same is =
    line_goes_on live line trues hints b fault went consistent same is
hints_go_on E live line trues hints b (Err stop) went consistent same is = tt
