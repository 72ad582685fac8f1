-- The formula of a design binds every variable of its matrix.
use Rattle.std.proofs.Common.{◌≡◌, ◌≢◌, ℕ, suc, ◌+◌, ◌-◌, ◌*◌, ◌/◌, ◌<◌, ◌≤◌, ◌==◌, nat_lt, false, not, List, [], ◌∷◌, ◌++◌, map, length, get_or, sym, subst, arith}
use Rattle.std.specs.List.{All, AllByRecursion, Contains, list_any, filter, filter_map, flat_map, range_with_len}
use Rattle.std.specs.Option.{option_map}
use Rattle.std.proofs.lemmas.Bool.{eqb-true, or_parts, cond-true, cond-false, ltb-true, ltb-false}
use Rattle.std.proofs.lemmas.List.Elements.{All-from_recursion, recursion_from_All, All-map}
use Rattle.dq_lits.specs.Literal.{Literal, variable_of}
use Rattle.circuit_plain.specs.Netlist.{Netlist}
use Rattle.circuit_plain.specs.declared.circuits.Gate.{Gate}
use Rattle.circuit_plain.specs.Ground.{IsGrounded}
use Rattle.circuit_plain.specs.Netlist.{IsNetlist}
use Rattle.cert_text.specs.NegatedMatrix.{opposite_of, gate_clauses, as_literal, without_constants}
use Rattle.dqdimacs_reader.specs.Building.{distinct}
use Rattle.pec_front.specs.Boxes.{PartialDesign, IsAcyclic, signals, IsDesign}
use Rattle.pec_front.specs.Encoding.{signals_of, first_copy, first_same, first_agree, end_of, numbered_variable, specified_variable, implemented_variable, on_number, numbered_gate, agreement_clauses, all_copies, all_outputs, demand, raw_clauses, design_formula}
use Rattle.pec_front.specs.Choices.{ChosenBoxesFit, chosen_functions}
use Rattle.pec_front.specs.Laws.{FittingBoxesChoose, DesignFormulasAreWellFormed, EncodingIsFaithful}
use Rattle.pec_front.proofs.Values.{sides}
use Rattle.pec_front.proofs.Numbers.{number-cases, range-all, range-contains, declared-is, lawful-prefix}
use Rattle.pec_front.proofs.Distinct.{distinct-each}
use Rattle.pec_front.proofs.Truths.{join-each}
use Rattle.list_laws.proofs.Quantified.{rec_append}
use Rattle.list_laws.proofs.Members.{contained_at}

-- a literal is that of a number below the end
abbrev Small : ℕ → ℕ → Type 0
Small end l = l / 2 < end

abbrev SmallClause : ℕ → List ℕ → Type 0
SmallClause end clause = AllByRecursion (Small end) clause

abbrev Within : ℕ → Literal → Type 0
Within end l = (1 ≤ variable_of l) × (variable_of l < end)

opposite-small : (end l : ℕ) → Small end l → Small end (opposite_of l)
opposite-small end l small = search (arith, eqb-true, cond-true, cond-false)

pub double-small : (end v : ℕ) → v < end → Small end (2 * v)
double-small end v h = let half : 2 * v / 2 ≡ v = omega arith in omega (arith, half, h)

pub on-small : (end : ℕ) (number : ℕ → ℕ) (l : ℕ) → number (l / 2) < end → Small end (on_number number l)
on-small end number l h = search arith

gate-small : (end : ℕ) (number : ℕ → ℕ) (g : Gate) → number g.variable < end → number (g.left / 2) < end
    → number (g.right / 2) < end → AllByRecursion (SmallClause end) (gate_clauses (numbered_gate number g))
gate-small end number g out left right = search (arith, double-small, on-small, opposite-small)

agreement-small : (end flag a b : ℕ) → flag < end → Small end a → Small end b → AllByRecursion (SmallClause end)
    (agreement_clauses flag a b)
agreement-small end flag a b f x y = search (arith, double-small, opposite-small)

number-small : (end : ℕ) (net : Netlist) (input : ℕ → ℕ) (first_gate : ℕ) → 1 ≤ end
    → ((i : ℕ) → i < length net.inputs → input i < end) → first_gate + length net.gates ≤ end → (v : ℕ)
    → IsGrounded net v →
    numbered_variable net input first_gate v < end
number-small end net input first_gate low inputs gates v ground = search (arith, number-cases)

pub spec-small : (d : PartialDesign) (v : ℕ) → IsGrounded d.specification v → specified_variable d v < end_of d
spec-small d v ground = search (arith, number-small)

pub imp-small : (d : PartialDesign) → IsDesign d → (v : ℕ) → IsGrounded d.implementation v
    → implemented_variable d v < end_of d
imp-small d keeps v ground = search (arith, number-small, nat_lt, cond-true, ltb-true, cond-false, ltb-false)

gates-small : (end : ℕ) (net : Netlist) (number : ℕ → ℕ) → IsNetlist net
    → All (λ (g : Gate). IsGrounded net g.variable) net.gates → ((v : ℕ) → IsGrounded net v → number v < end) →
    AllByRecursion (SmallClause end) (flat_map (λ g. gate_clauses (numbered_gate number g)) net.gates)
gates-small end net number is gates small = join-each (SmallClause end) (λ g. gate_clauses (numbered_gate number g))
    net.gates (λ k e below.
    let g = get_or net.gates k e in
    let ground = gates k e below in
    let two = sides net is g (contained_at net.gates k e below) ground in
    gate-small end number g (small g.variable ground) (small (g.left / 2) two.0) (small (g.right / 2) two.1))

copies-small : (d : PartialDesign) (i : ℕ) (rest : List ℕ) → i + length rest ≤ signals_of d
    → ((j : ℕ) → j < length rest → Small (end_of d) (on_number (implemented_variable d) (get_or rest j 0))) →
    AllByRecursion (SmallClause (end_of d)) (all_copies d i rest)
copies-small d i [] few each = tt
copies-small d i (l ∷ rest) few each =
    rec_append (SmallClause (end_of d))
    (agreement_clauses (first_same d + i) (2 * (first_copy d + i)) (on_number (implemented_variable d) l))
    (all_copies d (suc i) rest)
    (agreement-small (end_of d) (first_same d + i) (2 * (first_copy d + i)) (on_number (implemented_variable d) l)
    (omega (arith, few)) (double-small (end_of d) (first_copy d + i) (omega (arith, few))) (each 0 (omega arith)))
    (copies-small d (suc i) rest (omega (arith, few)) (λ j below. each (suc j) (omega (arith, below))))

outputs-small : (d : PartialDesign) (i : ℕ) (rest : List ℕ) → i + length rest ≤ length d.specification.outputs
    → ((j : ℕ) → j < length rest → Small (end_of d) (on_number (specified_variable d) (get_or rest j 0))) →
    ((o : ℕ) → o < length d.specification.outputs
    → Small (end_of d) (on_number (implemented_variable d) (get_or d.implementation.outputs o 0)))
    → AllByRecursion (SmallClause (end_of d)) (all_outputs d i rest)
outputs-small d i [] few each others = tt
outputs-small d i (l ∷ rest) few each others =
    rec_append (SmallClause (end_of d))
    (agreement_clauses (first_agree d + i) (on_number (specified_variable d) l)
    (on_number (implemented_variable d) (get_or d.implementation.outputs i 0))) (all_outputs d (suc i) rest)
    (agreement-small (end_of d) (first_agree d + i) (on_number (specified_variable d) l)
    (on_number (implemented_variable d) (get_or d.implementation.outputs i 0)) (omega (arith, few))
    (each 0 (omega arith)) (others i (omega (arith, few))))
    (outputs-small d (suc i) rest (omega (arith, few)) (λ j below. each (suc j) (omega (arith, below))) others)

demand-small : (d : PartialDesign) (o : ℕ) → o < length d.specification.outputs → SmallClause (end_of d) (demand d o)
demand-small d o below = (
  double-small (end_of d) (first_agree d + o) (omega (arith, below)),
  recursion_from_All (Small (end_of d))
      (map (λ i. opposite_of (2 * (first_same d + i))) (range_with_len 0 (signals_of d)))
      (All-map (Small (end_of d)) (λ i. opposite_of (2 * (first_same d + i))) (range_with_len 0 (signals_of d))
      (range-all (λ i. Small (end_of d) (opposite_of (2 * (first_same d + i)))) 0 (signals_of d)
      (λ i low high. opposite-small (end_of d) (2 * (first_same d + i))
      (double-small (end_of d) (first_same d + i) (omega (arith, high)))))),
)

raw-small : (d : PartialDesign) → IsDesign d → IsAcyclic d → AllByRecursion (SmallClause (end_of d)) (raw_clauses d)
raw-small d keeps acyclic =
    let P = SmallClause (end_of d) in
    let outs = d.specification.outputs in
    let spec-part = flat_map (λ g. gate_clauses (numbered_gate (specified_variable d) g)) d.specification.gates in
    let imp-part = flat_map (λ g. gate_clauses (numbered_gate (implemented_variable d) g)) d.implementation.gates in
    let copies = all_copies d 0 (signals d.boxes) in
    let outputs = all_outputs d 0 outs in
    let demands = map (demand d) (range_with_len 0 (length outs)) in
    let many = keeps.outputs in
    rec_append P spec-part (imp-part ++ (copies ++ (outputs ++ demands)))
    (gates-small (end_of d) d.specification (specified_variable d) keeps.specification acyclic.specification
    (spec-small d))
    (rec_append P imp-part (copies ++ (outputs ++ demands))
    (gates-small (end_of d) d.implementation (implemented_variable d) keeps.implementation acyclic.implementation
    (imp-small d keeps))
    (rec_append P copies (outputs ++ demands)
    (copies-small d 0 (signals d.boxes) (omega arith)
    (λ j low. on-small (end_of d) (implemented_variable d) (get_or (signals d.boxes) j 0)
    (imp-small d keeps (get_or (signals d.boxes) j 0 / 2) (keeps.signals_stand j low))))
    (rec_append P outputs demands
    (outputs-small d 0 outs (omega arith)
    (λ j low. on-small (end_of d) (specified_variable d) (get_or outs j 0)
    (spec-small d (get_or outs j 0 / 2) (keeps.specified_outputs j low)))
    (λ o low. on-small (end_of d) (implemented_variable d) (get_or d.implementation.outputs o 0)
    (imp-small d keeps (get_or d.implementation.outputs o 0 / 2)
    (keeps.implemented_outputs o (omega (arith, low, many))))))
    (recursion_from_All P demands
    (All-map P (demand d) (range_with_len 0 (length outs))
    (range-all (λ o. P (demand d o)) 0 (length outs) (λ o low high. demand-small d o (omega (arith, high)))))))))

-- what is left of a clause stands on numbers from 1 on
literal-within : (end l : ℕ) → l ≢ 0 → l ≢ 1 → Small end l → Within end (as_literal l)
literal-within end l nonzero nonone small = search arith

plain-within : (end : ℕ) (clause : List ℕ) → list_any (λ l. l == 1) clause ≡ false → SmallClause end clause
    → AllByRecursion (Within end) (map as_literal (filter (λ l. not (l == 0)) clause))
plain-within end [] none all = tt
plain-within end (l ∷ ls) none all = search (arith, or_parts, (plain-within end ls), literal-within)

matrix-within : (end : ℕ) (clauses : List (List ℕ)) → AllByRecursion (SmallClause end) clauses →
    AllByRecursion (AllByRecursion (Within end))
    (filter_map (λ clause. option_map distinct (without_constants clause)) clauses)
matrix-within end [] all = tt
matrix-within end (c ∷ cs) all = search (arith, (matrix-within end cs all.1), distinct-each, plain-within)

pub well-formed : DesignFormulasAreWellFormed
well-formed d keeps acyclic = record {
  prefix = lawful-prefix d;
  bound = λ k e below j f under.
      let clauses = All-from_recursion (AllByRecursion (Within (end_of d))) (design_formula d).matrix
      (matrix-within (end_of d) (raw_clauses d) (raw-small d keeps acyclic)) in
      let clause = get_or (design_formula d).matrix k e in
      let two = All-from_recursion (Within (end_of d)) clause (clauses k e below) j f under in
      let v = variable_of (get_or clause j f) in
      subst (λ (vs : List ℕ). Contains vs v) (sym (declared-is d))
      (range-contains 1 (end_of d - 1) v two.0 (let high = two.1 in omega (arith, high)));
}

pub faithful : FittingBoxesChoose → ChosenBoxesFit → DesignFormulasAreWellFormed → EncodingIsFaithful
faithful choose fit formed d keeps acyclic boxes driven = (
  λ some. choose d some.0 keeps acyclic boxes some.1,
  λ true-formula. (
    chosen_functions d true-formula.0,
    fit d true-formula.0 keeps driven (formed d keeps acyclic).prefix
        true-formula.1,
  ),
)
