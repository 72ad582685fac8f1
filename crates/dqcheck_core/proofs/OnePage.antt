-- From an accepted certificate to the headline's page.
use Rattle.std.proofs.Common.{inl, inr, ℕ, List, [], ◌∷◌, ◌++◌, codes, Option, refl}
use Rattle.std.specs.Fmt.{decimal}
use Rattle.dq_lits.specs.Formula.{Dqbf, IsWellFormed}
use Rattle.dqdimacs_reader.specs.Grammar.{SpellsFormula}
use Rattle.defined_checker.specs.declared.checks.DefinedCounts.{DefinedCounts}
use Rattle.cert_judge.specs.Judgement.{HoldsRightDefinitions, HoldsSkolemCircuit}
use Rattle.headline.specs.Headline.{AreDefined, Formula, HoldsSkolem, existentials_of}
use Rattle.headline_laws.specs.Formulas.{IsOnPage}
use Rattle.dqcheck_core.specs.OnePage.{ShowsHeadline}
use Rattle.dqcheck_core.specs.Told.{IsAcceptance}

-- what the page's laws give
pub record PageLaw : Type 0 where
  pub formulas : (text : List ℕ) (read : Dqbf) → SpellsFormula text read → IsWellFormed read →
      (f : Formula) × IsOnPage text read f
  pub circuits : (formula certificate : List ℕ) (read : Dqbf) (f : Formula) → IsOnPage formula read f → IsWellFormed read →
      HoldsSkolemCircuit read certificate → HoldsSkolem f certificate
  pub definitions : (formula certificate : List ℕ) (read : Dqbf) (f : Formula) (counts : DefinedCounts) → IsOnPage formula read f →
      IsWellFormed read → HoldsRightDefinitions read certificate counts →
      AreDefined f certificate (existentials_of f) counts.defined counts.free

pub shows : PageLaw → (formula certificate : List ℕ) (before now : Option (List ℕ)) →
    IsAcceptance formula certificate before now → ShowsHeadline formula certificate before now
shows law formula certificate before now a = elim a.verdict [
  | inl proved ↦ record {
    written = codes "VALID TRUE" ++ 10 ∷ [];
    appended = proved.written;
    headline = record {
      f = page.0;
      spelled = page.1.spelled;
      says = inl (
        refl,
        page.1.is_true proved.is_true,
        law.circuits formula certificate a.f page.0 page.1 a.well_formed proved.circuit,
      );
    };
  }
  | inr (inl proved) ↦ record {
    written = codes "VALID FALSE" ++ 10 ∷ [];
    appended = proved.written;
    headline = record {
      f = page.0;
      spelled = page.1.spelled;
      says = inr (inl (refl, page.1.is_false proved.is_false));
    };
  }
  | inr (inr proved) ↦ record {
    written =
        (codes "VALID DEFINED " ++ (decimal proved.counts.defined ++ (codes " FREE " ++ decimal proved.counts.free))) ++ 10 ∷ [];
    appended = proved.written;
    headline = record {
      f = page.0;
      spelled = page.1.spelled;
      says = inr (inr (
        proved.counts.defined,
        proved.counts.free,
        law.definitions formula certificate a.f page.0 proved.counts page.1 a.well_formed proved.definitions,
        refl,
      ));
    };
  }
]
  where
    page : (f : Formula) × IsOnPage formula a.f f
    page = law.formulas formula a.f a.spelled a.well_formed
