-- Skolem functions of a design's formula give functions that fit.
use Rattle.std.proofs.Common.{◌≡◌, ℕ, ◌+◌, ◌*◌, ◌<◌, ◌==◌, nat_lt, Bool, false, List, map, length, get_or, refl, sym, ◌∙◌, ap, arith}
use Rattle.std.specs.List.{Contains, list_any, position_or_len}
use Rattle.std.proofs.lemmas.Bool.{eqb-true, eq-eqb, le-ltb, cond-false}
use Rattle.std.proofs.lemmas.List.{get_or-map}
use Rattle.std.proofs.lemmas.List.Elements.{All-contains}
use Rattle.std.proofs.lemmas.List.Sums.{position_or_len_is}
use Rattle.dq_lits.specs.Literal.{Assignment}
use Rattle.dq_lits.specs.Formula.{Existential}
use Rattle.dq_lits.specs.Henkin.{HenkinChoice, Solves, choice_value, restriction, same_bits}
use Rattle.dq_lits.specs.Skolem.{OutputFunction}
use Rattle.circuit_plain.specs.Netlist.{literal_bit}
use Rattle.pec_front.specs.Boxes.{bits_read, driven, IsFurtherInput, AreFilled, signals}
use Rattle.pec_front.specs.Encoding.{first_copy, design_formula}
use Rattle.pec_front.specs.Choices.{chosen_functions, signal_bits, ChosenBoxesFit}
use Rattle.pec_front.specs.Laws.{DesignFormulasAreWellFormed}
use Rattle.pec_front.specs.Outputs.{placed_at, driven_by_literal, OutputsAreBoxes}
use Rattle.pec_front.proofs.Values.{any-contained}
use Rattle.pec_front.proofs.Rows.{drives-box}
use Rattle.pec_front.proofs.Numbers.{first-place}
use Rattle.pec_front.proofs.Choosing.{Choosing, box-copies}
use Rattle.list_laws.proofs.Members.{contained_at}

-- what stands at a variable's place of a restriction is its bit
placed-bit : (sees : List ℕ) (m : Assignment) (v : ℕ) → Contains sees v → placed_at sees (map m sees) v ≡ m v
placed-bit sees m v inside =
    let r = first-place (λ x. x == v) sees 0
    (any-contained (λ x. x == v) sees inside.0 v inside.1 inside.2 (eq-eqb v v refl)) in
    get_or-map m sees (position_or_len (λ x. x == v) sees) 0 false r.0
    ∙ ap m (eqb-true (get_or sees (position_or_len (λ x. x == v) sees) 0) v r.1)

-- an output as a function of what its existential sees
abbrev seen_values : (Existential → OutputFunction) → Existential → List Bool → Bool
seen_values output y bits = (output y).value (placed_at y.sees bits)

pub outputs-fit : Choosing → ChosenBoxesFit → DesignFormulasAreWellFormed → OutputsAreBoxes
outputs-fit choices chosen formed d output keeps acyclic boxes all-driven skolem bits ms mi specified implemented
    filled =
    chosen d made.0 keeps all-driven (formed d keeps acyclic).prefix solves bits ms mi specified implemented by-choice
  where
    inputs : List ℕ
    inputs = d.implementation.inputs

    made : (choice : HenkinChoice)
        × ((y : Existential) (m : Assignment) → choice_value choice y m ≡ seen_values output y (restriction y m))
    made = choices (seen_values output)

    solves : Solves made.0 (design_formula d)
    solves m follows = skolem.holds m (λ k e below.
        let y = get_or (design_formula d).existentials k e in
        follows k e below ∙ made.1 y m
        ∙ skolem.supported k e below (placed_at y.sees (map m y.sees)) m
        (λ j f under.
        let x = get_or (output y).support j f in
        placed-bit y.sees m x (skolem.reads_declared k e below j f under)))

    signals-read : (j : ℕ) → j < length (signals d.boxes) → signal_bits d bits mi (first_copy d + j)
        ≡ literal_bit mi (get_or (signals d.boxes) j 0)
    signals-read j below = search (arith, nat_lt, le-ltb, cond-false)

    by-choice : AreFilled d.boxes (chosen_functions d made.0) mi
    by-choice k e below j f under =
        let box = get_or d.boxes k e in
        let out = get_or box.outs j f in
        let in-boxes : Contains d.boxes box = contained_at d.boxes k e below in
        let in-box : Contains box.outs out = contained_at box.outs j f under in
        let further : IsFurtherInput d out = All-contains (IsFurtherInput d) (driven d.boxes) out boxes.further
        (drives-box d.boxes box out in-boxes in-box) in
        let i = further.0 in
        let two : out ≡ 2 * get_or inputs i 0 = further.3 in
        let inside : i < length inputs = further.2 in
        let place : position_or_len (λ x. 2 * x == out) inputs ≡ i = search (arith, position_or_len_is) in
        let y = driven_by_literal d out in
        let m = signal_bits d bits mi in
        let reads : restriction y m ≡ bits_read mi box = search (arith, box-copies, signals-read) in
        filled k e below j f under
        ∙ ap (seen_values output y) (sym reads)
        ∙ sym (made.1 y m)
        ∙ ap (λ bs. list_any (same_bits bs) (made.0 y)) reads
