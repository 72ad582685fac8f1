-- Steps of the loops that add a design's clauses.
use Rattle.std.proofs.Common.{◌≡◌, ℕ, zero, suc, ◌+◌, ◌-◌, ◌*◌, ◌<◌, ◌≤◌, ◌==◌, nat_lt, Bool, true, false, cond, List, [], ◌∷◌, ◌++◌, map, length, get_or, take, drop, set, refl, sym, ◌∙◌, ap, subst, arith, length-append}
use Rattle.std.specs.List.{All, flat_map, list_any, range_with_len, position_or_len}
use Rattle.std.proofs.lemmas.Bool.{cond-true, lt-ltb}
use Rattle.std.proofs.lemmas.List.{take_all}
use Rattle.std.proofs.lemmas.List.Elements.{All-from_recursion, recursion_from_All, All-map}
use Rattle.circuit_plain.specs.Netlist.{Netlist, IsNetlist, gate_at}
use Rattle.circuit_plain.specs.Ground.{IsGrounded}
use Rattle.circuit_plain.specs.declared.circuits.Gate.{Gate}
use Rattle.cert_text.specs.NegatedMatrix.{gate_clauses}
use Rattle.dq_lits.specs.Formula.{Dqbf}
use Rattle.dq_lits.specs.Literal.{Literal, positive, negative, variable_of}
use Rattle.pec_front.specs.Boxes.{PartialDesign, IsDesign, signals, inputs_of}
use Rattle.pec_front.specs.Encoder.{AreAdded, IsEncoder, demand_clause}
use Rattle.pec_front.specs.Encoding.{signals_of, first_copy, first_driven, first_specified, first_implemented, first_same, first_agree, end_of, numbered_variable, specified_variable, implemented_variable, on_number, numbered_gate, agreement_clauses, all_copies, all_outputs, demand, raw_clauses}
use Rattle.pec_front.specs.Kept.{kept, AreWithin}
use Rattle.pec_front.specs.Numbering.{input_number, number_in, IsNumberingOf, AreNumbersWithin}
use Rattle.pec_front.specs.declared.encoders.Encoder.{Encoder}
use Rattle.pec_front.specs.declared.numberings.Numbering.{Numbering}
use Rattle.pec_front.proofs.AddedClauses.{with_clauses, three-within}
use Rattle.pec_front.proofs.AddedParts.{part-added, parts-join, next-part, copy_clauses, next-copy, output_clauses, next-output, next-demand}
use Rattle.pec_front.proofs.Demands.{demand-kept}
use Rattle.pec_front.proofs.NumberedVariables.{gate-sides}
use Rattle.pec_front.proofs.Numbers.{first-place, map-join, range-all}
use Rattle.pec_front.proofs.RaisedLevels.{no-gate}
use Rattle.pec_front.proofs.WellFormed.{double-small, on-small, spec-small, imp-small}
use Rattle.list_laws.proofs.Numbers.{range_append}
use mathlib.Core.Path.{fun_ext}

-- a gate's literals stand on variables up to a number where all that can be evaluated do
pub gate-within : (net : Netlist) (number : ℕ → ℕ) (variables : ℕ) → IsNetlist net
    → ((v : ℕ) → IsGrounded net v → number v < variables + 1) → (i : ℕ) → i < length net.gates
    → IsGrounded net (gate_at net i).variable → (g : Gate) → g ≡ numbered_gate number (gate_at net i)
    → AreWithin variables (2 * g.variable ∷ g.left ∷ g.right ∷ [])
gate-within net number variables is fits i below ground g same =
    search (arith, gate-sides, three-within, double-small, on-small)

abbrev pub gate_part : (ℕ → ℕ) → Gate → List (List ℕ)
gate_part number g = gate_clauses (numbered_gate number g)

-- one gate more
pub gates-next : (net : Netlist) (number : ℕ → ℕ) (f old new : Dqbf) (i : ℕ) (g : Gate) → i < length net.gates
    → AreAdded f old (flat_map (gate_part number) (take i net.gates)) (3 * i)
    → g ≡ numbered_gate number (gate_at net i) → new ≡ with_clauses old (kept (gate_clauses g))
    → length new.matrix ≤ length old.matrix + 3
    → AreAdded f new (flat_map (gate_part number) (take (i + 1) net.gates)) (3 * (i + 1))
gates-next net number f old new i g below before same added few =
    subst (AreAdded f new (flat_map (gate_part number) (take (i + 1) net.gates)))
    (let e : 3 * i + 3 ≡ 3 * (i + 1) = omega arith in e)
    (part-added f old new (flat_map (gate_part number) (take i net.gates)) (gate_clauses g)
    (flat_map (gate_part number) (take (i + 1) net.gates)) (3 * i) 3 before added few
    (next-part (gate_part number) net.gates i no-gate below
    ∙ ap (λ h. flat_map (gate_part number) (take i net.gates) ++ gate_clauses h) (sym same)))

-- the literals of a copy's clauses
pub copy-within : (d : PartialDesign) → IsDesign d → (variables i flag copy signal : ℕ) → variables ≡ end_of d - 1
    → i < signals_of d → flag ≡ first_same d + i → copy ≡ 2 * (first_copy d + i)
    → signal ≡ on_number (implemented_variable d) (get_or (signals d.boxes) i 0)
    → AreWithin variables (2 * flag ∷ copy ∷ signal ∷ [])
copy-within d keeps variables i flag copy signal many below is-flag is-copy is-signal =
    search (arith, three-within, double-small, on-small, imp-small)

-- one copy more
pub copies-next : (d : PartialDesign) (f old new : Dqbf) (ss : List ℕ) (i flag copy signal : ℕ)
    → ss ≡ signals d.boxes → i < length ss → flag ≡ first_same d + i → copy ≡ 2 * (first_copy d + i)
    → signal ≡ on_number (implemented_variable d) (get_or ss i 0)
    → AreAdded f old (all_copies d 0 (take i ss)) (4 * i)
    → new ≡ with_clauses old (kept (agreement_clauses flag copy signal))
    → length new.matrix ≤ length old.matrix + 4
    → AreAdded f new (all_copies d 0 (take (i + 1) ss)) (4 * (i + 1))
copies-next d f old new ss i flag copy signal are below is-flag is-copy is-signal before added few =
    let part : agreement_clauses flag copy signal ≡ copy_clauses d (0 + i) (get_or ss i 0) = search arith in
    subst (AreAdded f new (all_copies d 0 (take (i + 1) ss)))
    (let e : 4 * i + 4 ≡ 4 * (i + 1) = omega arith in e)
    (part-added f old new (all_copies d 0 (take i ss)) (agreement_clauses flag copy signal)
    (all_copies d 0 (take (i + 1) ss)) (4 * i) 4 before added few
    (ap (λ k. all_copies d 0 (take k ss)) (let e : i + 1 ≡ suc i = omega arith in e)
    ∙ next-copy d 0 ss i below ∙ ap (λ cs. all_copies d 0 (take i ss) ++ cs) (sym part)))

-- the literals of the clauses on a pair of outputs
pub output-within : (d : PartialDesign) → IsDesign d → (variables o flag a b : ℕ) → variables ≡ end_of d - 1
    → o < length d.specification.outputs → flag ≡ first_agree d + o
    → a ≡ on_number (specified_variable d) (get_or d.specification.outputs o 0)
    → b ≡ on_number (implemented_variable d) (get_or d.implementation.outputs o 0)
    → AreWithin variables (2 * flag ∷ a ∷ b ∷ [])
output-within d keeps variables o flag a b many below is-flag is-a is-b =
    search (arith, three-within, double-small, on-small, spec-small, imp-small)

-- one pair more
pub outputs-next : (d : PartialDesign) (f old new : Dqbf) (o flag a b : ℕ) → o < length d.specification.outputs
    → flag ≡ first_agree d + o
    → a ≡ on_number (specified_variable d) (get_or d.specification.outputs o 0)
    → b ≡ on_number (implemented_variable d) (get_or d.implementation.outputs o 0)
    → AreAdded f old (all_outputs d 0 (take o d.specification.outputs)) (4 * o)
    → new ≡ with_clauses old (kept (agreement_clauses flag a b))
    → length new.matrix ≤ length old.matrix + 4
    → AreAdded f new (all_outputs d 0 (take (o + 1) d.specification.outputs)) (4 * (o + 1))
outputs-next d f old new o flag a b below is-flag is-a is-b before added few =
    let outs = d.specification.outputs in
    let part : agreement_clauses flag a b ≡ output_clauses d (0 + o) (get_or outs o 0) = search arith in
    subst (AreAdded f new (all_outputs d 0 (take (o + 1) outs)))
    (let e : 4 * o + 4 ≡ 4 * (o + 1) = omega arith in e)
    (part-added f old new (all_outputs d 0 (take o outs)) (agreement_clauses flag a b)
    (all_outputs d 0 (take (o + 1) outs)) (4 * o) 4 before added few
    (ap (λ k. all_outputs d 0 (take k outs)) (let e : o + 1 ≡ suc o = omega arith in e)
    ∙ next-output d 0 outs o below ∙ ap (λ cs. all_outputs d 0 (take o outs) ++ cs) (sym part)))

-- one demand more
pub demands-next : (d : PartialDesign) (f old new : Dqbf) (o : ℕ) (clause : List Literal)
    → AreAdded f old (map (demand d) (range_with_len 0 o)) o → clause ≡ demand_clause d o
    → new ≡ record old { matrix = old.matrix ++ clause ∷ [] }
    → AreAdded f new (map (demand d) (range_with_len 0 (o + 1))) (o + 1)
demands-next d f old new o clause before is added =
    let kept-clause : new ≡ with_clauses old (kept (demand d o ∷ [])) =
    added ∙ ap (λ c. record old { matrix = old.matrix ++ c ∷ [] }) is
    ∙ ap (with_clauses old) (sym (demand-kept d o)) in
    part-added f old new (map (demand d) (range_with_len 0 o)) (demand d o ∷ [])
    (map (demand d) (range_with_len 0 (o + 1))) o 1 before kept-clause
    (let long : length new.matrix ≡ length old.matrix + 1 =
    ap (λ (g : Dqbf). length g.matrix) added ∙ length-append old.matrix (clause ∷ []) in omega (arith, long))
    (next-demand d o)

-- the specification's inputs have the numbers from 1 on
pub specified-numbers : (d : PartialDesign) (further : ℕ)
    → numbered_variable d.specification (input_number (inputs_of d) further) (first_specified d)
    ≡ specified_variable d
specified-numbers d further = fun_ext by
  where
    by : (v : ℕ) → numbered_variable d.specification (input_number (inputs_of d) further) (first_specified d) v
        ≡ specified_variable d v
    by zero = refl
    by (suc u) = on (list_any (λ x. x == suc u) d.specification.inputs) refl
      where
        place : ℕ
        place = position_or_len (λ x. x == suc u) d.specification.inputs

        gate : ℕ
        gate = first_specified d + position_or_len (λ (g : Gate). g.variable == suc u) d.specification.gates

        on : (b : Bool) → list_any (λ x. x == suc u) d.specification.inputs ≡ b →
            cond b (input_number (inputs_of d) further place) gate ≡ cond b (1 + place) gate
        on true e =
            cond-true (nat_lt place (inputs_of d)) (1 + place) (further + (place - inputs_of d))
            (lt-ltb place (inputs_of d) (first-place (λ x. x == suc u) d.specification.inputs 0 e).0)
        on false e = refl

-- one negated flag more
pub flag-more : (d : PartialDesign) (items new : List Literal) (flag : Literal) (i number : ℕ)
    → items ≡ positive (first_agree d) ∷ map (λ k. negative (first_same d + k)) (range_with_len 0 i)
    → new ≡ items ++ flag ∷ [] → flag ≡ negative number → number ≡ first_same d + i
    → new ≡ positive (first_agree d) ∷ map (λ k. negative (first_same d + k)) (range_with_len 0 (i + 1))
flag-more d items new flag i number so_far added is-flag is-number = search (arith, map-join, (range_append 0 i 1))

-- another first literal
pub demand-set : (d : PartialDesign) (items : List Literal) (o number : ℕ) (first : Literal) → 1 ≤ length items
    → drop 1 items ≡ drop 1 (demand_clause d 0) → first ≡ positive number → number ≡ first_agree d + o
    → set items 0 first ≡ demand_clause d o
demand-set d [] o number first some flags is is-number = absurd (omega (arith, some))
demand-set d (l ∷ ls) o number first some flags is is-number = search arith

-- a demand has a literal
pub demand-some : (d : PartialDesign) (o : ℕ) (clause : List Literal) → clause ≡ demand_clause d o → 1 ≤ length clause
demand-some d o clause is = search arith

pub demand-in-range : (d : PartialDesign) (o variables : ℕ) (clause : List Literal) → variables ≡ end_of d - 1
    → o < length d.specification.outputs → clause ≡ demand_clause d o
    → All (λ l. variable_of l ≤ variables) clause
demand-in-range d o variables clause many below is =
    let flags = map (λ i. negative (first_same d + i)) (range_with_len 0 (signals_of d)) in
    subst (λ (c : List Literal). All (λ l. variable_of l ≤ variables) c) (sym is)
    (All-from_recursion (λ l. variable_of l ≤ variables) (demand_clause d o) (
      omega (arith, many, below),
      recursion_from_All (λ l. variable_of l ≤ variables) flags
          (All-map (λ l. variable_of l ≤ variables) (λ i. negative (first_same d + i)) (range_with_len 0 (signals_of d))
          (range-all (λ i. first_same d + i ≤ variables) 0 (signals_of d) (λ i low high. omega (arith, many, high)))),
    ))

-- all gates
pub gates-all : (net : Netlist) (number : ℕ → ℕ) (f new : Dqbf) (i : ℕ) → i ≡ length net.gates
    → AreAdded f new (flat_map (gate_part number) (take i net.gates)) (3 * i)
    → AreAdded f new (flat_map (gate_part number) net.gates) (3 * length net.gates)
gates-all net number f new i all added = search (arith, take_all)

-- the numbers of a numbering are those of the design
pub numbers-within : (n : Numbering) (net : Netlist) (number : ℕ → ℕ) (end variables : ℕ)
    → IsNumberingOf n net number → ((v : ℕ) → IsGrounded net v → number v < end) → end ≡ variables + 1
    → AreNumbersWithin n variables
numbers-within n net number end variables is fits same v ground = search arith

numbered-part : (n : Numbering) (net : Netlist) (number : ℕ → ℕ) → IsNumberingOf n net number
    → flat_map (gate_part (number_in n)) n.circuit.now.gates ≡ flat_map (gate_part number) net.gates
numbered-part n net number is = search arith

-- all parts
pub matrix-built : (e : Encoder) (d : PartialDesign) → IsEncoder e d → (f g h i j k : Dqbf) (l m n o p : ℕ)
    → f.matrix ≡ []
    → AreAdded f g (flat_map (gate_part (number_in e.specified)) e.specified.circuit.now.gates) l
    → AreAdded g h (flat_map (gate_part (number_in e.implemented)) e.implemented.circuit.now.gates) m
    → AreAdded h i (all_copies d 0 (signals d.boxes)) n
    → AreAdded i j (all_outputs d 0 d.specification.outputs) o
    → AreAdded j k (map (demand d) (range_with_len 0 (length d.specification.outputs))) p
    → k ≡ record f { matrix = kept (raw_clauses d) }
matrix-built e d is f g h i j k l m n o p none first second third fourth fifth =
    let spec = flat_map (gate_part (specified_variable d)) d.specification.gates in
    let imp = flat_map (gate_part (implemented_variable d)) d.implementation.gates in
    let copies = all_copies d 0 (signals d.boxes) in
    let outs = all_outputs d 0 d.specification.outputs in
    let demands = map (demand d) (range_with_len 0 (length d.specification.outputs)) in
    let one = subst (λ cs. AreAdded f g cs l)
    (numbered-part e.specified d.specification (specified_variable d) is.specified) first in
    let two = subst (λ cs. AreAdded g h cs m)
    (numbered-part e.implemented d.implementation (implemented_variable d) is.implemented) second in
    let all = parts-join f g k spec (imp ++ (copies ++ (outs ++ demands))) l (m + (n + (o + p))) one
    (parts-join g h k imp (copies ++ (outs ++ demands)) m (n + (o + p)) two
    (parts-join h i k copies (outs ++ demands) n (o + p) third
    (parts-join i j k outs demands o p fourth fifth))) in
    all.clauses ∙ ap (λ (ms : List (List Literal)). record f { matrix = ms ++ kept (raw_clauses d) }) none

-- the numberings of an encoder
pub specified-is : (d : PartialDesign) (n : Numbering) (net : Netlist) (shared further gate : ℕ)
    → IsNumberingOf n net (numbered_variable net (input_number shared further) gate) → net ≡ d.specification
    → shared ≡ inputs_of d → gate ≡ first_specified d → IsNumberingOf n d.specification (specified_variable d)
specified-is d n net shared further gate of same is-shared is-gate = search (arith, (specified-numbers d further))

pub implemented-is : (d : PartialDesign) (n : Numbering) (net : Netlist) (shared further gate : ℕ)
    → IsNumberingOf n net (numbered_variable net (input_number shared further) gate) → net ≡ d.implementation
    → shared ≡ inputs_of d → further ≡ first_driven d → gate ≡ first_implemented d
    → IsNumberingOf n d.implementation (implemented_variable d)
implemented-is d n net shared further gate of same is-shared is-further is-gate = record {
  is = of.is;
  circuit = of.circuit ∙ same;
  numbered = of.numbered ∙ ap (λ (m : Netlist). numbered_variable m (input_number shared further) gate) same
      ∙ ap (λ s. numbered_variable d.implementation (input_number s further) gate) is-shared
      ∙ ap (λ k. numbered_variable d.implementation (input_number (inputs_of d) k) gate) is-further
      ∙ ap (numbered_variable d.implementation (input_number (inputs_of d) (first_driven d))) is-gate;
}

pub own-design : (e : Encoder) (d : PartialDesign) → IsEncoder e d → IsEncoder e e.design.now
own-design e d is = subst (IsEncoder e) (sym is.design) is
