-- How the comment of an implementation states its boxes: a line `pec B`, and B lines of boxes
-- behind it. Where it doesn't, or its boxes make no design, there is a first refusal, by line and
-- name.
use Rattle.std.specs.Prelude.{◌≡◌, ℕ, zero, suc, ◌+◌, ◌==◌, ◌<◌, ◌^◌, nat_lt, Bool, false, not, ◌||◌, List, [], ◌∷◌, ◌++◌, map, length, drop, Option, None, Some, Result, Ok, Err, codes, Contains, slice_index_or, if◌then◌else◌}
use Rattle.std.specs.List.{position}
use Rattle.std.specs.Str.{bytes_eq}
use Rattle.aiger_text.specs.declared.files.ReadCircuit.{ReadCircuit}
use Rattle.circuit_plain.specs.Netlist.{Netlist, literal_variable}
use Rattle.dq_text.specs.Line.{TextLine, LineCursor, line_tokens, lines_from}
use Rattle.dq_text.specs.Number.{natural_of}
use Rattle.number_tables.specs.Numbers.{has_number}
use Rattle.pec_front.specs.BoxLine.{box_line, variables_of}
use Rattle.pec_front.specs.Boxes.{BlackBox, PartialDesign, StandInOrder, driven}
use Rattle.pec_front.specs.Latest.{ReachesBox}
use Rattle.pec_front.specs.declared.faults.PecFault.{PecFault}
use Rattle.pec_front.specs.declared.faults.PecFault.TheVariants.{InputShort, OutputCount, NoPec, Limit, Truncated, BadBox, BoxTwice, BoxMissing, BoxOrder}
use Rattle.pec_front.specs.declared.faults.PecStop.{PecStop}
use Rattle.pec_front.specs.declared.faults.PecStop.TheVariants.{Refused, Memory}
use Rattle.pec_front.specs.declared.wires.Wires.{Wires}

-- a refusal by its line and name
pub record Refusal : Type 0 where
  pub line : ℕ
  pub name : PecFault

abbrev pub max_boxes : ℕ
max_boxes = 1000000

abbrev pub wires_of : Netlist → Netlist → Wires
wires_of specification implementation =
    record {
      variables = variables_of implementation;
      further = drop (length specification.inputs) implementation.inputs;
    }

-- the inputs that boxes drive, end to end
abbrev pub driven_inputs : List BlackBox → List ℕ
driven_inputs boxes = map literal_variable (driven boxes)

-- some literal drives an input that was driven before
abbrev pub repeats : List ℕ → List ℕ → Bool
repeats before [] = false
repeats before (out ∷ outs) =
    has_number before (literal_variable out) || repeats (before ++ literal_variable out ∷ []) outs

-- one more box behind those of earlier lines
abbrev pub with_box : List BlackBox → Option BlackBox → Result (List BlackBox) PecFault
with_box boxes None = Err BadBox
with_box boxes (Some box) =
    if repeats (driven_inputs boxes) box.outs then Err BoxTwice else Ok (boxes ++ box ∷ [])

abbrev pub go_on : ℕ → Result (List BlackBox) PecFault
    → (List BlackBox → Result (List BlackBox) Refusal)
    → Result (List BlackBox) Refusal
go_on line (Ok boxes) next = next boxes
go_on line (Err name) next = Err (record { line = line; name = name })

-- so many lines of boxes, behind those of earlier lines; the next line has, or would have, a number
abbrev pub read_boxes : Wires → ℕ → List BlackBox → List TextLine → ℕ
    → Result (List BlackBox) Refusal
read_boxes wires zero boxes lines number = Ok boxes
read_boxes wires (suc count) boxes [] number = Err (record { line = number; name = Truncated })
read_boxes wires (suc count) boxes (line ∷ lines) number =
    go_on line.number (with_box boxes (box_line wires (line_tokens line.text)))
    (λ more. read_boxes wires count more lines (line.number + 1))

-- the number in a line `pec B`
abbrev pub box_count : List (List ℕ) → Option ℕ
box_count (word ∷ number ∷ []) = if bytes_eq word (codes "pec") then natural_of number else None
box_count _ = None

abbrev pub behind_pec : Wires → ℕ → Option ℕ → List TextLine → Result (List BlackBox) Refusal
behind_pec wires line None lines = Err (record { line = line; name = NoPec })
behind_pec wires line (Some count) lines =
    if nat_lt max_boxes count then Err (record { line = line; name = Limit })
    else read_boxes wires count [] lines (line + 1)

abbrev pub read_lines : Wires → List TextLine → ℕ → Result (List BlackBox) Refusal
read_lines wires [] number = Err (record { line = number; name = NoPec })
read_lines wires (line ∷ lines) number =
    behind_pec wires line.number (box_count (line_tokens line.text)) lines

abbrev pub read_comment : Wires → LineCursor → Result (List BlackBox) Refusal
read_comment wires comment = read_lines wires (lines_from comment.number comment.rest) comment.number

-- the place among the further inputs of the first that no box drives
abbrev pub first_undriven : Wires → List BlackBox → Option ℕ
first_undriven wires boxes =
    position (λ v. not (has_number (driven_inputs boxes) v)) wires.further

abbrev pub unless_undriven : ℕ → List BlackBox → Option ℕ → Result (List BlackBox) Refusal
unless_undriven further_line boxes None = Ok boxes
unless_undriven further_line boxes (Some place) =
    Err (record { line = further_line + place; name = BoxMissing })

-- the lines of the inputs follow the header
abbrev pub all_driven : Wires → ℕ → Result (List BlackBox) Refusal → Result (List BlackBox) Refusal
all_driven wires further_line (Ok boxes) =
    unless_undriven further_line boxes (first_undriven wires boxes)
all_driven wires further_line (Err refusal) = Err refusal

-- the boxes of a comment, or the first refusal but for their order; the lines of the inputs begin
-- with this one
abbrev pub comment_boxes : Netlist → Netlist → LineCursor → ℕ → Result (List BlackBox) Refusal
comment_boxes specification implementation comment first_input =
    let wires = wires_of specification implementation in
    all_driven wires (first_input + length specification.inputs) (read_comment wires comment)

-- the comment, if there is one, from the line on on which it begins
abbrev pub comment_of : Option (List ℕ) → Option ℕ → Option LineCursor
comment_of (Some text) (Some line) = Some (record { rest = text; number = line })
comment_of (Some text) None = None
comment_of None line = None

abbrev pub stated_boxes : Netlist → Netlist → Option LineCursor → ℕ → Result (List BlackBox) Refusal
stated_boxes specification implementation None first =
    Err (record { line = first; name = NoPec })
stated_boxes specification implementation (Some comment) first =
    comment_boxes specification implementation comment (first + 1)

-- the same where the inputs and the outputs may be too few or too many; the header has the line
-- `first`
abbrev pub boxes_of : Netlist → Netlist → Option LineCursor → ℕ → Result (List BlackBox) Refusal
boxes_of specification implementation comment first =
    if nat_lt (length implementation.inputs) (length specification.inputs)
    then Err (record { line = first; name = InputShort }) else
    if not (length specification.outputs == length implementation.outputs)
    then Err (record { line = first; name = OutputCount }) else
    stated_boxes specification implementation comment first

abbrev pub design_with : Netlist → Netlist → List BlackBox → PartialDesign
design_with specification implementation boxes =
    record { specification = specification; implementation = implementation; boxes = boxes }

-- the box at a place reads what reaches an input that it drives itself, or that a later box drives
pub record IsOutOfOrder (net : Netlist) (boxes : List BlackBox) (place : ℕ) : Type 0 where
  pub in_range : place < length boxes
  pub signal : ℕ
  pub default : BlackBox
  pub reads : Contains (slice_index_or boxes place default).ins signal
  pub reaches : ReachesBox net boxes (literal_variable signal) place

-- it is the first such box
pub record IsFirstOutOfOrder (net : Netlist) (boxes : List BlackBox) (place : ℕ) : Type 0 where
  pub is : IsOutOfOrder net boxes place
  pub first : (k : ℕ) → k < place → IsOutOfOrder net boxes k → ⊥

-- the line of that box, where the comment begins with the line before the first box
pub record IsOrderFault (net : Netlist) (boxes : List BlackBox) (comment : Option LineCursor)
    (line : ℕ) : Type 0 where
  pub place : ℕ
  pub box : IsFirstOutOfOrder net boxes place
  pub begins : LineCursor
  pub is : comment ≡ Some begins
  pub on_line : line ≡ begins.number + 1 + place

-- what the reading answers, by what the lines give
abbrev pub IsReadingOf : Netlist → Netlist → Option LineCursor → Result (List BlackBox) Refusal
    → Result PartialDesign PecStop → Type 0
IsReadingOf specification implementation comment (Ok boxes) (Ok d) =
    (d ≡ design_with specification implementation boxes) × StandInOrder implementation boxes
IsReadingOf specification implementation comment (Ok boxes) (Err (Refused line name)) =
    (name ≡ BoxOrder) × IsOrderFault implementation boxes comment line
IsReadingOf specification implementation comment (Err refusal) (Ok d) = ⊥
IsReadingOf specification implementation comment (Err refusal) (Err (Refused line name)) =
    refusal ≡ record { line = line; name = name }
IsReadingOf specification implementation comment (Ok boxes) (Err Memory) = Unit {0}
IsReadingOf specification implementation comment (Err refusal) (Err Memory) = Unit {0}

abbrev pub IsDesignReading : Netlist → ReadCircuit → ℕ → Result PartialDesign PecStop → Type 0
IsDesignReading specification imp first result =
    let comment = comment_of imp.file.comment imp.comment_line in
    IsReadingOf specification imp.file.circuit comment
    (boxes_of specification imp.file.circuit comment first) result

-- lines have numbers that fit
abbrev pub IsNumbered : Option (List ℕ) → Option ℕ → Type 0
IsNumbered (Some text) (Some line) = line + length text < 2 ^ 62
IsNumbered (Some text) None = Unit {0}
IsNumbered None line = Unit {0}

abbrev pub CanNumber : ReadCircuit → ℕ → Type 0
CanNumber imp first = (first < 2 ^ 62) × IsNumbered imp.file.comment imp.comment_line
