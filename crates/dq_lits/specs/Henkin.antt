-- Henkin semantics of DQBF: existentials are functions of the universals that they see.
use Rattle.std.specs.Prelude.{◌≡◌, Bool, true, false, not, ◌&&◌, List, [], ◌∷◌, map}
use Rattle.std.specs.List.{All, list_any}
use Rattle.dq_lits.specs.Literal.{Assignment, clause_true}
use Rattle.dq_lits.specs.Formula.{Existential, Dqbf}

abbrev pub same_bit : Bool → Bool → Bool
same_bit true b = b
same_bit false b = not b

abbrev pub same_bits : List Bool → List Bool → Bool
same_bits [] [] = true
same_bits [] (_ ∷ _) = false
same_bits (_ ∷ _) [] = false
same_bits (a ∷ as') (b ∷ bs) = same_bit a b && same_bits as' bs

-- the bits that an existential sees
abbrev pub restriction : Existential → Assignment → List Bool
restriction y m = map m y.sees

-- a function for each existential: the set of the bit lists over its dependency set at which it is
-- true
abbrev pub HenkinChoice : Type 0
HenkinChoice = Existential → List (List Bool)

abbrev pub choice_value : HenkinChoice → Existential → Assignment → Bool
choice_value choice y m = list_any (same_bits (restriction y m)) (choice y)

-- each existential has the value that the choice gives it
abbrev pub Follows : Dqbf → HenkinChoice → Assignment → Type 0
Follows f choice m = All (λ y. m y.variable ≡ choice_value choice y m) f.existentials

abbrev pub MatrixHolds : Dqbf → Assignment → Type 0
MatrixHolds f m = All (λ clause. clause_true m clause ≡ true) f.matrix

-- whatever the universals are, every clause is true
abbrev pub Solves : HenkinChoice → Dqbf → Type 0
Solves choice f = (m : Assignment) → Follows f choice m → MatrixHolds f m

abbrev pub IsTrueFormula : Dqbf → Type 0
IsTrueFormula f = (choice : HenkinChoice) × Solves choice f

abbrev pub IsFalseFormula : Dqbf → Type 0
IsFalseFormula f = (choice : HenkinChoice) → Solves choice f → ⊥
