-- Ranges that boxes give the inputs that they drive.
use Rattle.std.proofs.Common.{◌≡◌, ℕ, zero, suc, ◌<◌, ◌==◌, cond, List, [], ◌∷◌, length, get_or, set, Some, arith}
use Rattle.std.specs.List.{All, AllByRecursion}
use Rattle.std.proofs.lemmas.Bool.{eqb-true, eq-eqb}
use Rattle.std.proofs.lemmas.List.{get_or-set_same, get_or-set_other}
use Rattle.std.proofs.lemmas.List.Elements.{All-from_recursion, recursion_from_All}
use Rattle.std.proofs.lemmas.List.Quantifiers.{position-Some}
use Rattle.list_laws.proofs.Sequences.{all_behind, all_before}
use Rattle.number_tables.specs.Numbers.{place_of}
use Rattle.pec_front.specs.Boxes.{BlackBox, driven}
use Rattle.pec_front.specs.Copies.{span_at}
use Rattle.pec_front.specs.declared.copies.Span.{Span}

-- one place is written
pub span-set : (variables : List ℕ) (spans : List Span) (variable place : ℕ) (span : Span)
    → place_of variables variable ≡ Some place → length spans ≡ length variables → (v : ℕ)
    → span_at (set spans place span) (place_of variables v)
    ≡ cond (v == variable) span (span_at spans (place_of variables v))
span-set variables spans variable place span found sized v =
    search (
      arith,
      position-Some,
      (get_or-set_other spans place),
      eqb-true,
      (eqb-true (get_or variables place 0) variable),
      (eqb-true v variable),
      (get_or-set_same spans place span),
      (eq-eqb v variable),
    )

-- what holds of all that boxes drive holds of what each drives
pub each-drives : (P : ℕ → Type 0) (boxes : List BlackBox) (k : ℕ) (d : BlackBox) → k < length boxes
    → All P (driven boxes) → All P (get_or boxes k d).outs
each-drives P boxes k d below all =
    All-from_recursion P (get_or boxes k d).outs (parts boxes k below (recursion_from_All P (driven boxes) all))
  where
    parts : (bs : List BlackBox) (i : ℕ) → i < length bs → AllByRecursion P (driven bs)
        → AllByRecursion P (get_or bs i d).outs
    parts [] i low each = absurd (omega (arith, low))
    parts (b ∷ bs) zero low each = all_before P b.outs (driven bs) each
    parts (b ∷ bs) (suc i) low each = parts bs i (omega (arith, low)) (all_behind P b.outs (driven bs) each)
