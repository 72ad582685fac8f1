-- Skolem functions show that a formula is true, and a true formula has them.
use Rattle.std.proofs.Common.{◌≡◌, ℕ, zero, suc, ◌<◌, ◌==◌, Bool, inl, inr, List, [], ◌∷◌, map, length, get_or, refl, sym, ◌∙◌, ap, arith}
use Rattle.std.specs.List.{All, Contains, list_any}
use Rattle.std.proofs.lemmas.Bool.{cases_eq, cond-true, cond-false, eq-eqb, ne_eqb}
use Rattle.std.proofs.lemmas.List.Elements.{All-weaker, All-contains_itself}
use Rattle.dq_lits.specs.Literal.{Assignment}
use Rattle.dq_lits.specs.Formula.{Existential, Dqbf}
use Rattle.dq_lits.specs.Henkin.{same_bits, HenkinChoice, choice_value, IsTrueFormula}
use Rattle.dq_lits.specs.Row.{assignment_of}
use Rattle.dq_lits.specs.Skolem.{OutputFunction, IsSupported, AreSkolemFunctions}
use Rattle.dq_lits.proofs.Choices.{choice_of, choice_of-value}
use Rattle.dq_lits.proofs.Followers.{map-agree}

-- an assignment is what its bits at these variables say of them
at_index : (xs : List ℕ) (m : Assignment) (k d : ℕ) → k < length xs →
    assignment_of xs (map m xs) (get_or xs k d) ≡ m (get_or xs k d)
at_index [] m k d below = absurd (omega arith)
at_index (x ∷ xs) m zero d below = cond-true (x == x) (m x) (assignment_of xs (map m xs) x) (eq-eqb x x refl)
at_index (x ∷ xs) m (suc k) d below =
    let v = get_or xs k d in
    elim (cases_eq x v) [
      | inl same ↦ cond-true (x == v) (m x) (assignment_of xs (map m xs) v) (eq-eqb x v same) ∙ ap m same
      | inr other ↦ cond-false (x == v) (m x) (assignment_of xs (map m xs) v) (ne_eqb x v other) ∙ at_index xs m k d
          (omega arith)
    ]

pub assignment_of-map : (xs : List ℕ) (m : Assignment) (x : ℕ) → Contains xs x → assignment_of xs (map m xs) x ≡ m x
assignment_of-map xs m x (k, below, is) =
    ap (assignment_of xs (map m xs)) (sym is) ∙ at_index xs m k x below ∙ ap m is

-- the value of an output, from the bits that its existential sees
abbrev pub seen_value : (Existential → OutputFunction) → Existential → List Bool → Bool
seen_value output y bits = (output y).value (assignment_of y.sees bits)

value_is_seen : (o : OutputFunction) (sees : List ℕ) (m : Assignment) → IsSupported o → All (Contains sees) o.support →
    o.value (assignment_of sees (map m sees)) ≡ o.value m
value_is_seen o sees m supported reads =
    supported _ _ (All-weaker (Contains sees) (λ x. assignment_of sees (map m sees) x ≡ m x)
    (assignment_of-map sees m) o.support reads)

pub skolem_functions_solve : (f : Dqbf) (output : Existential → OutputFunction) → AreSkolemFunctions f output →
    IsTrueFormula f
skolem_functions_solve f output h = (
  choice_of (seen_value output),
  λ m follows. h.holds m (λ k d below.
      let y = get_or f.existentials k d in
      follows k d below
      ∙ choice_of-value (seen_value output) y m
      ∙ value_is_seen (output y) y.sees m (h.supported k d below) (h.reads_declared k d below)),
)

-- what a choice gives, as an output that reads all that its existential sees
abbrev choice_output : HenkinChoice → Existential → OutputFunction
choice_output choice y = record { value = choice_value choice y; support = y.sees }

choice_supported : (choice : HenkinChoice) (y : Existential) → IsSupported (choice_output choice y)
choice_supported choice y m n same = ap (λ bits. list_any (same_bits bits) (choice y)) (map-agree m n y.sees same)

pub true_formula_has_functions : (f : Dqbf) → IsTrueFormula f →
    (output : Existential → OutputFunction) × AreSkolemFunctions f output
true_formula_has_functions f (choice, solves) = (
  choice_output choice,
  record {
    supported = λ k d below. choice_supported choice (get_or f.existentials k d);
    reads_declared = λ k d below. All-contains_itself (get_or f.existentials k d).sees;
    holds = solves;
  },
)
