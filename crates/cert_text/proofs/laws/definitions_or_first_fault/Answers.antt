use Rattle.std.proofs.Common.{◌≡◌, ◌⊎◌, inl, inr, ℕ, List, Result, Ok, Err, refl, sym, ◌∙◌, arith}
use Rattle.dq_lits.specs.Formula.{Dqbf}
use Rattle.cert_text.specs.DefinitionBlocks.{DefinitionBlock}
use Rattle.cert_text.specs.DefinitionGrammar.{SpellsDefinitions}
use Rattle.cert_text.specs.DefinitionText.{definitions_of}
use Rattle.cert_text.specs.declared.faults.CertRefusal.{CertRefusal}
use Rattle.cert_text.proofs.SpelledDefinitions.{read_is_spelled}
use Rattle.cert_text.proofs.TakenDefinitions.{spelled_is_read}
use Rattle.cert_text.proofs.laws.definitions_or_first_fault.Goals as goal

pub returns-clause-exact : goal.returns-clause-exact
returns-clause-exact c text first f blocks lawful = search (arith, spelled_is_read, read_is_spelled)

pub returns-clause-spelled : goal.returns-clause-spelled
returns-clause-spelled c text first f blocks read = read_is_spelled text first f blocks read

pub returns-clause-unique : goal.returns-clause-unique
returns-clause-unique c text f a b lawful one other =
    let same : Ok a ≡ Ok b = sym (spelled_is_read text 1 f a lawful one) ∙ spelled_is_read text 1 f b lawful other in
    cc

by_result : (text : List ℕ) (first : ℕ) (f : Dqbf) (r : Result (List DefinitionBlock) CertRefusal) →
    definitions_of f text first ≡ r →
    ((blocks : List DefinitionBlock) × SpellsDefinitions text f blocks)
    ⊎ ((fault : CertRefusal) × (definitions_of f text first ≡ Err fault))
by_result text first f (Ok blocks) h = inl (blocks, read_is_spelled text first f blocks h)
by_result text first f (Err fault) h = inr (fault, h)

pub returns-clause-either : goal.returns-clause-either
returns-clause-either c text first f = by_result text first f (definitions_of f text first) refl
