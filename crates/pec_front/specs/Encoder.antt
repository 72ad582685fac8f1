-- Words of private contracts: a formula that is being built of a design.
use Rattle.std.specs.Prelude.{◌≡◌, ℕ, ◌+◌, ◌-◌, ◌≤◌, List, ◌∷◌, ◌++◌, length, map}
use Rattle.std.specs.List.{range_with_len}
use Rattle.dq_lits.specs.Formula.{Dqbf}
use Rattle.dq_lits.specs.Literal.{Literal, positive, negative}
use Rattle.dq_formula.specs.declared.formula.TheConstants.{MAX_CLAUSES}
use Rattle.pec_front.specs.Boxes.{PartialDesign, signals}
use Rattle.pec_front.specs.Encoding.{signals_of, first_same, first_agree, specified_variable, implemented_variable, end_of}
use Rattle.pec_front.specs.Kept.{kept}
use Rattle.pec_front.specs.Layout.{IsLayout}
use Rattle.pec_front.specs.Numbering.{IsNumberingOf}
use Rattle.pec_front.specs.declared.encoders.Encoder.{Encoder}

pub record IsEncoder (e : Encoder) (d : PartialDesign) : Type 0 where
  pub design : e.design.now ≡ d
  pub layout : IsLayout d e.layout
  pub signals : e.signals.items ≡ signals d.boxes
  pub specified : IsNumberingOf e.specified d.specification (specified_variable d)
  pub implemented : IsNumberingOf e.implemented d.implementation (implemented_variable d)

-- the formula has the design's variables, and room for so many clauses more
pub record HasRoom (d : PartialDesign) (f : Dqbf) (more : ℕ) : Type 0 where
  pub variables : f.variables ≡ end_of d - 1
  pub clauses : length f.matrix + more ≤ MAX_CLAUSES

-- what is left of clauses was added, at most so many
pub record AreAdded (old new : Dqbf) (added : List (List ℕ)) (count : ℕ) : Type 0 where
  pub clauses : new ≡ record old { matrix = old.matrix ++ kept added }
  pub few : length new.matrix ≤ length old.matrix + count

-- a pair of outputs agrees, or some copy hasn't its signal's value
abbrev pub demand_clause : PartialDesign → ℕ → List Literal
demand_clause d o =
    positive (first_agree d + o)
    ∷ map (λ i. negative (first_same d + i)) (range_with_len 0 (signals_of d))
