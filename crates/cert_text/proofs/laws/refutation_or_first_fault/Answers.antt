use Rattle.std.proofs.Common.{◌≡◌, ◌⊎◌, inl, inr, ℕ, List, Result, Ok, Err, refl, sym, ◌∙◌}
use Rattle.dq_lits.specs.Formula.{Dqbf}
use Rattle.cert_text.specs.Grammar.{SpellsRefutation}
use Rattle.cert_text.specs.Scan.{refutation_of}
use Rattle.cert_text.specs.declared.faults.CertRefusal.{CertRefusal}
use Rattle.cert_text.specs.declared.refutations.Dqr.{Dqr}
use Rattle.cert_text.proofs.SpelledRefutations.{read_is_spelled, spelled_is_read}
use Rattle.cert_text.proofs.laws.refutation_or_first_fault.Goals as goal

pub returns-clause-exact : goal.returns-clause-exact
returns-clause-exact c text first f d lawful = (spelled_is_read text first f d lawful, read_is_spelled text first f d)

pub returns-clause-unique : goal.returns-clause-unique
returns-clause-unique c text f d e lawful one other =
    let same : Ok d ≡ Ok e = sym (spelled_is_read text 1 f d lawful one) ∙ spelled_is_read text 1 f e lawful other in
    cc

by_result : (text : List ℕ) (first : ℕ) (f : Dqbf) (r : Result Dqr CertRefusal) → refutation_of f text first ≡ r →
    ((d : Dqr) × SpellsRefutation text f d) ⊎ ((fault : CertRefusal) × (refutation_of f text first ≡ Err fault))
by_result text first f (Ok d) h = inl (d, read_is_spelled text first f d h)
by_result text first f (Err fault) h = inr (fault, h)

pub returns-clause-either : goal.returns-clause-either
returns-clause-either c text first f = by_result text first f (refutation_of f text first) refl

pub returns-clause-allowed : goal.returns-clause-allowed
returns-clause-allowed c text first f d read = (read_is_spelled text first f d read).allowed
