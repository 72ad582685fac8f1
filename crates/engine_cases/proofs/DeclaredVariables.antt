-- What the test shows whether a variable is declared.
use Rattle.std.proofs.Common.{◌≡◌, ◌∙◌, ℕ, ◌==◌, Bool, true, sym, ap}
use Rattle.std.specs.List.{Contains}
use Rattle.std.proofs.lemmas.Bool.{eqb-true}
use Rattle.std.proofs.lemmas.Map.Views.{Contains-from_any}
use Rattle.dq_lits.specs.Formula.{Dqbf, declared}
use Rattle.dq_lits.specs.Literal.{Literal, variable_of}
use Rattle.dq_formula.specs.Prefix.{is_declared}

pub declared_by_test : (f : Dqbf) (l : Literal) (v : ℕ) (test : Bool) → v ≡ variable_of l → test ≡ is_declared f v →
    test ≡ true → Contains (declared f) (variable_of l)
declared_by_test f l v test same is holds =
    Contains-from_any {eq = λ x y. y == x} (λ x y e. sym (eqb-true y x e)) (variable_of l) (declared f)
    (ap (is_declared f) (sym same) ∙ sym is ∙ holds)
