-- Contents fit on the page where they fit to the reader.
use Rattle.std.proofs.Common.{◌≡◌, ℕ, zero, suc, ◌/◌, ◌<◌, ◌&&◌, Bool, true, List, [], ◌∷◌, length, map, refl, ◌∙◌, ap, subst, arith}
use Rattle.std.specs.List.{All}
use Rattle.std.specs.Prelude.{slice_index}
use Rattle.std.proofs.lemmas.List.{get_or-map, length-map}
use Rattle.std.proofs.lemmas.List.Elements.{All-map}
use Rattle.circuit_plain.specs.Netlist.{Netlist}
use Rattle.circuit_plain.specs.Value.{IsValuation}
use Rattle.headline.specs.BlackBoxes.{AreFilled, Box, Contents, Fit}
use Rattle.headline.specs.Headline.{Fits, Gate, literal_bit}
use Rattle.headline_laws.proofs.Circuits.{fits_valuation, page_circuit, page_gate}
use Rattle.pec_front.specs.Boxes.{BlackBox, BoxesFit}
use Rattle.pec_front.specs.Boxes.{AreFilled as AreReadFilled}
use Rattle.pec_front.specs.Reading.{design_with}
use Rattle.box_laws.proofs.LawfulDesigns.{page_design}
use Rattle.box_laws.proofs.StatedBoxes.{page_box}

valuation_fits : (net : Netlist) (inputs m : ℕ → Bool) → IsValuation net inputs m → Fits (page_circuit net) inputs m
valuation_fits net inputs m v = record {
  constant = v.constant;
  given = v.inputs;
  gates = All-map (λ (g : Gate). m g.variable ≡ (literal_bit m g.left && literal_bit m g.right)) page_gate net.gates v.gates;
}

-- the driven inputs of a box
abbrev IsFilled : Contents → (ℕ → Bool) → Box → Type 0
IsFilled value m b = All (λ out. m (out / 2) ≡ value out (map (literal_bit m) b.reads)) b.drives

filled : (boxes : List BlackBox) (value : Contents) (m : ℕ → Bool) → AreReadFilled boxes value m →
    AreFilled (map page_box boxes) value m
filled boxes value m all = All-map (IsFilled value m) page_box boxes all

filled_there : (boxes : List BlackBox) (value : Contents) (m : ℕ → Bool) → AreFilled (map page_box boxes) value m →
    AreReadFilled boxes value m
filled_there boxes value m all = λ k d below.
    let there : k < length (map page_box boxes) = omega (arith, below, length-map boxes page_box) in
    subst (IsFilled value m) (get_or-map page_box boxes k d (page_box d) below) (all k (page_box d) there)

abbrev first : Bool → List Bool → Bool
first bit [] = bit
first bit (b ∷ _) = b

abbrev rest : List Bool → List Bool
rest [] = []
rest (_ ∷ bits) = bits

agree : (xs ys : List ℕ) (g h : ℕ → Bool) → length xs ≡ length ys →
    ((o : ℕ) → o < length xs → g (slice_index xs o) ≡ h (slice_index ys o)) → map g xs ≡ map h ys
agree [] [] g h long each = refl
agree [] (y ∷ ys) g h long each = absurd (omega (arith, long))
agree (x ∷ xs) [] g h long each = absurd (omega (arith, long))
agree (x ∷ xs) (y ∷ ys) g h long each =
    ap (λ b. b ∷ map g xs) (each 0 (omega arith))
    ∙ ap (λ bits. h y ∷ bits) (agree xs ys g h (omega (arith, long)) (λ o below. each (suc o) (omega (arith, below))))

agree_there : (xs ys : List ℕ) (g h : ℕ → Bool) → map g xs ≡ map h ys → (o : ℕ) → o < length xs →
    g (slice_index xs o) ≡ h (slice_index ys o)
agree_there [] ys g h same o below = absurd (omega (arith, below))
agree_there (x ∷ xs) [] g h same o below = cc
agree_there (x ∷ xs) (y ∷ ys) g h same zero below = ap (first true) same
agree_there (x ∷ xs) (y ∷ ys) g h same (suc o) below = agree_there xs ys g h (ap rest same) o (omega (arith, below))

pub fit : (specification implementation : Netlist) (boxes : List BlackBox) (value : Contents) →
    length specification.outputs ≡ length implementation.outputs →
    BoxesFit (design_with specification implementation boxes) value →
    Fit (page_design specification implementation boxes) value
fit specification implementation boxes value long fits inputs m n specified implemented contents =
    agree specification.outputs implementation.outputs (literal_bit m) (literal_bit n) long
    (fits inputs m n (fits_valuation specification inputs m specified) (fits_valuation implementation inputs n implemented)
    (filled_there boxes value n contents))

pub fit_there : (specification implementation : Netlist) (boxes : List BlackBox) (value : Contents) →
    Fit (page_design specification implementation boxes) value →
    BoxesFit (design_with specification implementation boxes) value
fit_there specification implementation boxes value fits inputs m n specified implemented contents o below =
    agree_there specification.outputs implementation.outputs (literal_bit m) (literal_bit n)
    (fits inputs m n (valuation_fits specification inputs m specified) (valuation_fits implementation inputs n implemented)
    (filled boxes value n contents)) o below
