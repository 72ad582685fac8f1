-- The bit of a variable under a valuation, by its place among the universals or the existentials.
use Rattle.std.proofs.Common.{◌≡◌, ℕ, zero, suc, ◌≤◌, ◌<◌, ◌==◌, Bool, true, false, cond, List, [], ◌∷◌, ◌++◌, length, get_or, Option, None, Some, refl, sym, ap, ap₂, ◌∙◌, arith, append-nil}
use Rattle.std.specs.List.{position, position_or_len}
use Rattle.std.proofs.lemmas.Grind.{common_steps}
use Rattle.std.proofs.lemmas.List.Quantifiers.{position-Some}
use Rattle.std.proofs.lemmas.List.Sums.{fails_before_first}
use Rattle.dq_lits.specs.Row.{assignment_of, bit_of}

-- none of the variables is v
abbrev AreOthers : List ℕ → ℕ → Type 0
AreOthers us v = (k : ℕ) → k < length us → (get_or us k 0 == v) ≡ false

not_there : (us : List ℕ) (bits more : List Bool) (es : List ℕ) (v : ℕ) → length bits ≡ length us →
    AreOthers us v → assignment_of (us ++ es) (bits ++ more) v ≡ assignment_of es more v
not_there [] [] more es v whole none = refl
not_there [] (b ∷ bits) more es v whole none = absurd (omega (arith, whole))
not_there (u ∷ us) [] more es v whole none = absurd (omega (arith, whole))
not_there (u ∷ us) (b ∷ bits) more es v whole none =
    ap (λ t. cond t b (assignment_of (us ++ es) (bits ++ more) v)) (none 0 (omega arith))
    ∙ not_there us bits more es v (omega (arith, whole)) (λ k below. none (suc k) (omega (arith, below)))

at_place : (us : List ℕ) (bits more : List Bool) (es : List ℕ) (v k : ℕ) → length bits ≡ length us → k < length us →
    (get_or us k 0 == v) ≡ true → ((j : ℕ) → j < k → (get_or us j 0 == v) ≡ false) →
    assignment_of (us ++ es) (bits ++ more) v ≡ bit_of bits k
at_place [] bits more es v k whole below here before = absurd (omega (arith, below))
at_place (u ∷ us) [] more es v k whole below here before = absurd (omega (arith, whole))
at_place (u ∷ us) (b ∷ bits) more es v zero whole below here before =
    ap (λ t. cond t b (assignment_of (us ++ es) (bits ++ more) v)) here
at_place (u ∷ us) (b ∷ bits) more es v (suc k) whole below here before =
    ap (λ t. cond t b (assignment_of (us ++ es) (bits ++ more) v)) (before 0 (omega arith))
    ∙ at_place us bits more es v k (omega (arith, whole)) (omega (arith, below)) here
    (λ j less. before (suc j) (omega (arith, less)))

pub there : (us : List ℕ) (bits more : List Bool) (es : List ℕ) (v k : ℕ) → length bits ≡ length us →
    position (λ u. u == v) us ≡ Some k → assignment_of (us ++ es) (bits ++ more) v ≡ bit_of bits k
there us bits more es v k whole is =
    let p = position-Some (λ u. u == v) us k 0 is in
    at_place us bits more es v k whole p.0 p.1 p.2

others : (us : List ℕ) (v : ℕ) → position (λ u. u == v) us ≡ None → AreOthers us v
others us v none k below =
    let all : length us ≤ position_or_len (λ u. u == v) us = grind (arith, common_steps) in
    fails_before_first (λ u. u == v) us k 0 (omega (arith, all, below))

-- among the second variables alone
pub behind : (us : List ℕ) (bits more : List Bool) (es : List ℕ) (v k : ℕ) → length bits ≡ length us →
    length more ≡ length es → position (λ u. u == v) us ≡ None → position (λ u. u == v) es ≡ Some k →
    assignment_of (us ++ es) (bits ++ more) v ≡ bit_of more k
behind us bits more es v k whole full none is =
    not_there us bits more es v whole (others us v none)
    ∙ ap₂ (λ vs bs. assignment_of vs bs v) (sym (append-nil es)) (sym (append-nil more))
    ∙ there es more [] [] v k full is

-- nowhere
pub nowhere : (us : List ℕ) (bits more : List Bool) (es : List ℕ) (v : ℕ) → length bits ≡ length us →
    length more ≡ length es → position (λ u. u == v) us ≡ None → position (λ u. u == v) es ≡ None →
    assignment_of (us ++ es) (bits ++ more) v ≡ false
nowhere us bits more es v whole full none neither =
    not_there us bits more es v whole (others us v none)
    ∙ ap₂ (λ vs bs. assignment_of vs bs v) (sym (append-nil es)) (sym (append-nil more))
    ∙ not_there es more [] [] v full (others es v neither)

pub not_some : (o : Option ℕ) → ((k : ℕ) → o ≡ Some k → ⊥) → o ≡ None
not_some None none = refl
not_some (Some k) none = absurd (none k refl)
