-- Words of private contracts. No public contract cites them.
use Rattle.std.specs.Prelude.{◌≡◌, ◌≢◌, ℕ, ◌+◌, ◌<◌, ◌≤◌, ◌⊎◌, ◌==◌, max, true, List, length, slice_index, slice_index_or, Option, None, Some, Result, Ok, Err, Vec, if◌then◌else◌}
use Rattle.std.specs.List.{All, AllPairs, Contains}
use Rattle.circuit_plain.specs.Netlist.{Netlist, gate_at, literal_variable, left_variable, right_variable}
use Rattle.std.specs.declared.alloc.Global.{Global}
use Rattle.number_tables.specs.Numbers.{place_of}
use Rattle.pec_front.specs.BoxLine.{is_box}
use Rattle.pec_front.specs.Boxes.{BlackBox, PartialDesign, StandInOrder}
use Rattle.pec_front.specs.Latest.{ReachesBox}
use Rattle.pec_front.specs.Reading.{Refusal, wires_of, driven_inputs, first_undriven, design_with, IsFirstOutOfOrder}
use Rattle.pec_front.specs.declared.box_lines.ReadBoxes.{ReadBoxes}
use Rattle.pec_front.specs.declared.faults.LineStop.{LineStop}
use Rattle.pec_front.specs.declared.faults.LineStop.TheVariants.{Fault, Memory as LineMemory}
use Rattle.pec_front.specs.declared.faults.PecFault.{PecFault}
use Rattle.pec_front.specs.declared.faults.PecFault.TheVariants.{BoxOrder}
use Rattle.pec_front.specs.declared.faults.PecStop.{PecStop}
use Rattle.pec_front.specs.declared.faults.PecStop.TheVariants.{Refused, Memory}
use Rattle.pec_front.specs.declared.levels.Levels.{Levels}

-- a line's stop as one of the reading
abbrev pub StopsAt : ℕ → LineStop → PecStop → Type 0
StopsAt line (Fault name) stop = stop ≡ Refused line name
StopsAt line LineMemory stop = stop ≡ Memory

-- the boxes behind a line, or the line's fault, or want of memory
abbrev pub AreBoxesOf : Result (List BlackBox) PecFault → Result (Unit {0}) LineStop
    → List BlackBox → Type 0
AreBoxesOf line (Ok _) boxes = line ≡ Ok boxes
AreBoxesOf line (Err (Fault name)) boxes = line ≡ Err name
AreBoxesOf line (Err LineMemory) boxes = Unit {0}

-- the set has the inputs that the boxes drive
abbrev pub KnowsDriven : ReadBoxes → Type 0
KnowsDriven read = read.driven ≡ driven_inputs read.boxes.items

-- what lines give, or want of memory
abbrev pub IsBoxReading : Result (List BlackBox) Refusal → Result ReadBoxes PecStop → Type 0
IsBoxReading lines (Ok read) = (lines ≡ Ok read.boxes.items) × KnowsDriven read
IsBoxReading lines (Err (Refused line name)) = lines ≡ Err (record { line = line; name = name })
IsBoxReading lines (Err Memory) = Unit {0}

-- the same of the boxes alone
abbrev pub IsListReading : Result (List BlackBox) Refusal → Result (Vec BlackBox Global) PecStop
    → Type 0
IsListReading lines (Ok boxes) = lines ≡ Ok boxes.items
IsListReading lines (Err (Refused line name)) = lines ≡ Err (record { line = line; name = name })
IsListReading lines (Err Memory) = Unit {0}

-- boxes that were read: each is admitted, none drives what was driven before, and together they
-- drive all further inputs
pub record AreReadBoxes (specification implementation : Netlist)
    (boxes : List BlackBox) : Type 0 where
  pub admitted : All (λ box. is_box (wires_of specification implementation) box ≡ true) boxes
  pub once : AllPairs (λ v w. v ≢ w) (driven_inputs boxes)
  pub all_driven : first_undriven (wires_of specification implementation) boxes ≡ None

-- what the test of the boxes' order answers, where they begin behind a line
abbrev pub IsOrderReading : Netlist → Netlist → ℕ → List BlackBox → Result PartialDesign PecStop
    → Type 0
IsOrderReading specification implementation line boxes (Ok d) =
    (d ≡ design_with specification implementation boxes) × StandInOrder implementation boxes
IsOrderReading specification implementation line boxes (Err (Refused at name)) =
    (name ≡ BoxOrder) × ((place : ℕ) × IsFirstOutOfOrder implementation boxes place
    × (at ≡ line + 1 + place))
IsOrderReading specification implementation line boxes (Err Memory) = Unit {0}

-- each box drives inputs of the circuit alone
abbrev pub DriveInputs : Netlist → List BlackBox → Type 0
DriveInputs net boxes =
    All (λ box. All (λ out. Contains net.inputs (literal_variable out)) box.outs) boxes

abbrev pub level_at : List ℕ → Option ℕ → ℕ
level_at levels None = 0
level_at levels (Some place) = slice_index levels place

-- a variable's level, by its place; 0 for a variable that has none
abbrev pub level_in : Levels → ℕ → ℕ
level_in l v = level_at l.levels.items (place_of l.variables.now v)

abbrev pub IsSized : Levels → Type 0
IsSized l = length l.levels.items ≡ length l.variables.now

abbrev pub SameVariables : Levels → Levels → Type 0
SameVariables old new = new.variables.now ≡ old.variables.now

-- one variable's level changes
abbrev pub IsLevelSet : (ℕ → ℕ) → (ℕ → ℕ) → ℕ → ℕ → Type 0
IsLevelSet old new variable level =
    (v : ℕ) → new v ≡ (if v == variable then level else old v)

-- the variables of these literals have this level, and the others stay
pub record IsMarked (old new : ℕ → ℕ) (outs : List ℕ) (level : ℕ) : Type 0 where
  pub marked : All (λ out. new (literal_variable out) ≡ level) outs
  pub others : (v : ℕ)
      → (new v ≡ old v)
      ⊎ ((new v ≡ level) × ((out : ℕ) × Contains outs out × (literal_variable out ≡ v)))

-- the first boxes, so many, have marked the inputs that they drive
pub record AreMarked (net : Netlist) (boxes : List BlackBox) (count : ℕ)
    (levels : ℕ → ℕ) : Type 0 where
  pub outs : (j : ℕ) (default : BlackBox) → j < count
      → All (λ out. j < levels (literal_variable out)) (slice_index_or boxes j default).outs
  pub bounded : (v : ℕ) → levels v ≤ count
  pub reached : (v place : ℕ) → place < levels v → ReachesBox net boxes v place

-- the gate at a place gets the greater level of those that it reads
abbrev pub IsRaised : Netlist → ℕ → (ℕ → ℕ) → (ℕ → ℕ) → Type 0
IsRaised net place old new =
    let g = gate_at net place in
    IsLevelSet old new g.variable (max (old (left_variable g)) (old (right_variable g)))

-- no literal that the box at a place reads has a level above the place
abbrev pub IsBelow : (ℕ → ℕ) → List BlackBox → ℕ → Type 0
IsBelow levels boxes i =
    (default : BlackBox) → i < length boxes
    → All (λ l. levels (literal_variable l) ≤ i) (slice_index_or boxes i default).ins

-- one does
pub record IsAbove (levels : ℕ → ℕ) (boxes : List BlackBox) (i : ℕ) : Type 0 where
  pub in_range : i < length boxes
  pub signal : ℕ
  pub default : BlackBox
  pub reads : Contains (slice_index_or boxes i default).ins signal
  pub above : i < levels (literal_variable signal)

abbrev pub IsFirstAbove : (ℕ → ℕ) → List BlackBox → Option ℕ → Type 0
IsFirstAbove levels boxes None = (i : ℕ) → IsBelow levels boxes i
IsFirstAbove levels boxes (Some place) =
    IsAbove levels boxes place × ((i : ℕ) → i < place → IsBelow levels boxes i)
