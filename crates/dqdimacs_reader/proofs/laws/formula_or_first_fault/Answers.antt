use Rattle.std.proofs.Common.{◌≡◌, ◌⊎◌, inl, inr, ℕ, List, Result, Ok, Err, refl, sym, ◌∙◌}
use Rattle.dq_lits.specs.Formula.{Dqbf}
use Rattle.dqdimacs_reader.specs.Grammar.{SpellsFormula}
use Rattle.dqdimacs_reader.specs.Machine.{TextFault, reading}
use Rattle.dqdimacs_reader.proofs.ReadIsSpelled.{read_is_spelled}
use Rattle.dqdimacs_reader.proofs.SpelledIsRead.{spelled_is_read}
use Rattle.dqdimacs_reader.proofs.laws.formula_or_first_fault.Goals as goal

pub returns-clause-exact : goal.returns-clause-exact
returns-clause-exact c text f = (spelled_is_read text f, read_is_spelled text f)

pub returns-clause-unique : goal.returns-clause-unique
returns-clause-unique c text f g one other =
    let same : Ok f ≡ Ok g = sym (spelled_is_read text f one) ∙ spelled_is_read text g other in
    cc

by_result : (text : List ℕ) (r : Result Dqbf TextFault) → reading text ≡ r →
    ((f : Dqbf) × SpellsFormula text f) ⊎ ((fault : TextFault) × (reading text ≡ Err fault))
by_result text (Ok f) h = inl (f, read_is_spelled text f h)
by_result text (Err fault) h = inr (fault, h)

pub returns-clause-either : goal.returns-clause-either
returns-clause-either c text = by_result text (reading text) refl
