-- Why what is shown over two circuits pins what is written: their texts have one first refusal, or
-- make one design, and never both.
use Rattle.std.specs.Prelude.{◌≡◌, ℕ, List}
use Rattle.pec_front.specs.Boxes.{PartialDesign}
use Rattle.pec_runs.specs.declared.designs.NoDesign.{NoDesign}
use Rattle.dqsolve_core.specs.ToldCircuits.{AreDesignTexts, IsTextRefusal}

pub record HaveOneAnswer (spec imp : List ℕ) : Type 0 where
  pub one_refusal : (a b : NoDesign) → IsTextRefusal spec imp a → IsTextRefusal spec imp b → a ≡ b
  pub one_design : (d e : PartialDesign) → AreDesignTexts spec imp d → AreDesignTexts spec imp e
      → d ≡ e
  pub never_both : (said : NoDesign) (d : PartialDesign) → IsTextRefusal spec imp said
      → ¬ AreDesignTexts spec imp d
