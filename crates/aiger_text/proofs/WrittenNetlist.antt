-- The header's line and those of a netlist, as the canonical text has them.
use Rattle.std.proofs.Common.{◌≡◌, ℕ, ◌*◌, ◌<◌, ◌≤◌, ◌^◌, List, [], ◌∷◌, ◌++◌, map, length, codes, refl, sym, ◌∙◌, ap, ap₂, arith, append_assoc}
use Rattle.std.specs.Fmt.{decimal}
use Rattle.std.specs.List.{AllByRecursion, flat_map}
use Rattle.std.proofs.lemmas.Fmt.{decimal_digit}
use Rattle.std.proofs.lemmas.Grind.{flat_map-append}
use Rattle.std.proofs.lemmas.List.{map-append}
use Rattle.std.proofs.lemmas.List.Elements.{recursion_from_All}
use Rattle.circuit_plain.specs.Netlist.{Netlist, IsNetlist, IsVariable, IsLiteral, IsGate}
use Rattle.circuit_plain.specs.declared.circuits.Gate.{Gate}
use Rattle.dq_text.specs.Written.{number_text, number_line}
use Rattle.dq_text.proofs.LineWords.{AreWords, AreNoFeed}
use Rattle.aiger_text.specs.Canonical.{counts_text, header_text, input_text, gate_text, netlist_text}
use Rattle.aiger_text.specs.Grammar.{input_numbers, output_numbers, gate_numbers, netlist_numbers, SpellsHeader, counts_in}
use Rattle.aiger_text.specs.Lines.{max_count}
use Rattle.aiger_text.specs.Spellable.{IsSpellable}
use Rattle.aiger_text.specs.declared.files.AagFile.{AagFile}
use Rattle.aiger_text.proofs.WrittenLines.{AreSmall, joined_lines, line_numbers_of, both_lines, numbers_line, numbers_tokens, numbers_no_feed, numbers_are_read, line_is_read}

-- the header
abbrev pub front_counts : Netlist → List ℕ
front_counts net = net.max_var ∷ length net.inputs ∷ 0 ∷ length net.outputs ∷ []

abbrev pub header_of_form : List ℕ → Netlist → List ℕ
header_of_form form net = numbers_line (form ∷ []) (front_counts net) (length net.gates)

abbrev pub header_words : Netlist → List ℕ
header_words net = header_of_form (codes "aag") net

zero_text : codes "0 " ≡ number_text 0
zero_text = ap (λ digits. digits ++ 32 ∷ []) (sym (decimal_digit 0 (omega arith)))

pub counts_are_words : (net : Netlist) → counts_text net
    ≡ (flat_map number_text (front_counts net) ++ decimal (length net.gates)) ++ 10 ∷ []
counts_are_words net =
    let m = number_text net.max_var in
    let i = number_text (length net.inputs) in
    let o = number_text (length net.outputs) in
    let a = decimal (length net.gates) in
    ap (λ zero. m ++ (i ++ (zero ++ (o ++ (a ++ 10 ∷ []))))) zero_text
    ∙ parted m i (number_text 0) o a (10 ∷ [])
  where
    parted : (m i z o a end : List ℕ) → m ++ (i ++ (z ++ (o ++ (a ++ end)))) ≡
        ((m ++ (i ++ (z ++ (o ++ [])))) ++ a) ++ end
    parted m i z o a end =
        sym (append_assoc (m ++ (i ++ (z ++ (o ++ [])))) a end
        ∙ append_assoc m (i ++ (z ++ (o ++ []))) (a ++ end)
        ∙ ap (λ bytes. m ++ bytes) (append_assoc i (z ++ (o ++ [])) (a ++ end)
        ∙ ap (λ bytes. i ++ bytes) (append_assoc z (o ++ []) (a ++ end) ∙ ap (λ bytes. z ++ bytes)
        (append_assoc o [] (a ++ end)))))

pub header_is_line : (net : Netlist) → header_text net ≡ header_words net ++ 10 ∷ []
header_is_line net = ap (λ bytes. codes "aag " ++ bytes) (counts_are_words net)

counts_small : (file : AagFile) → IsSpellable file → AreSmall (front_counts file.circuit)
counts_small file is = search arith

gates_small : (file : AagFile) → IsSpellable file → length file.circuit.gates < 10 ^ 18
gates_small file is = omega (arith, is.enough, is.few_variables)

aag_is_word : AreWords (codes "aag" ∷ [])
aag_is_word = ((refl, (refl, (refl, tt))), tt)

pub form_no_feed : (form : List ℕ) → AreWords (form ∷ []) → (file : AagFile) → IsSpellable file →
    AreNoFeed (header_of_form form file.circuit)
form_no_feed form are file is = search (arith, numbers_no_feed, counts_small, gates_small)

pub header_no_feed : (file : AagFile) → IsSpellable file → AreNoFeed (header_words file.circuit)
header_no_feed file is = form_no_feed (codes "aag") aag_is_word file is

pub form_spells : (form : List ℕ) → AreWords (form ∷ []) → (file : AagFile) → IsSpellable file →
    SpellsHeader form (header_of_form form file.circuit) (counts_in file.circuit)
form_spells form are file is =
    let net = file.circuit in
    let all = net.max_var ∷ length net.inputs ∷ 0 ∷ length net.outputs ∷ length net.gates ∷ [] in
    let small = counts_small file is in
    let few = gates_small file is in
    record {
      zeros = 0;
      tokens = map decimal all;
      word = numbers_tokens (form ∷ []) (front_counts net) (length net.gates) are small few;
      numbers = numbers_are_read all (small.0, (small.1.0, (small.1.1.0, (small.1.1.1.0, (few, tt)))));
      few_sections = omega arith;
      enough = is.enough;
      few_variables = is.few_variables;
      few_outputs = is.few_outputs;
    }

pub header_spells : (file : AagFile) → IsSpellable file →
    SpellsHeader (codes "aag") (header_words file.circuit) (counts_in file.circuit)
header_spells file is = form_spells (codes "aag") aag_is_word file is

-- the netlist's lines
abbrev input_line : ℕ → List ℕ
input_line v = decimal (2 * v)

abbrev gate_line : Gate → List ℕ
gate_line g = numbers_line [] (2 * g.variable ∷ g.left ∷ []) g.right

abbrev pub netlist_texts : Netlist → List (List ℕ)
netlist_texts net = map input_line net.inputs ++ (map decimal net.outputs ++ map gate_line net.gates)

gate_is_line : (g : Gate) → gate_text g ≡ gate_line g ++ 10 ∷ []
gate_is_line g = search (arith, append_assoc)

inputs_joined : (vs : List ℕ) → flat_map input_text vs ≡ joined_lines (map input_line vs)
inputs_joined [] = refl
inputs_joined (v ∷ vs) = ap (λ bytes. input_text v ++ bytes) (inputs_joined vs)

outputs_joined : (ls : List ℕ) → flat_map number_line ls ≡ joined_lines (map decimal ls)
outputs_joined [] = refl
outputs_joined (l ∷ ls) = ap (λ bytes. number_line l ++ bytes) (outputs_joined ls)

gates_joined : (gs : List Gate) → flat_map gate_text gs ≡ joined_lines (map gate_line gs)
gates_joined [] = refl
gates_joined (g ∷ gs) = ap₂ (λ xs ys. xs ++ ys) (gate_is_line g) (gates_joined gs)

pub netlist_joined : (net : Netlist) → netlist_text net ≡ joined_lines (netlist_texts net)
netlist_joined net = search (arith, inputs_joined, outputs_joined, gates_joined, flat_map-append)

-- numbers in range are small
module _ (max_var : ℕ) (few : max_var ≤ max_count) where
  input_small : (v : ℕ) → IsVariable max_var v → 2 * v < 10 ^ 18
  input_small v is = omega (arith, is.1, few)

  literal_small : (l : ℕ) → IsLiteral max_var l → l < 10 ^ 18
  literal_small l is = omega (arith, is, few)

  inputs_read : (vs : List ℕ) → AllByRecursion (IsVariable max_var) vs →
      map line_numbers_of (map input_line vs) ≡ map input_numbers vs
  inputs_read [] are = refl
  inputs_read (v ∷ vs) are = search (arith, (line_is_read [] (2 * v)), (input_small v are.0), (inputs_read vs are.1))

  outputs_read : (ls : List ℕ) → AllByRecursion (IsLiteral max_var) ls →
      map line_numbers_of (map decimal ls) ≡ map output_numbers ls
  outputs_read [] are = refl
  outputs_read (l ∷ ls) are = search (arith, (line_is_read [] l), (literal_small l are.0), (outputs_read ls are.1))

  gate_small : (g : Gate) → IsGate max_var g → AreSmall (2 * g.variable ∷ g.left ∷ [])
  gate_small g is = (input_small g.variable is.variable, (literal_small g.left is.left, tt))

  gates_read : (gs : List Gate) → AllByRecursion (IsGate max_var) gs →
      map line_numbers_of (map gate_line gs) ≡ map gate_numbers gs
  gates_read [] are = refl
  gates_read (g ∷ gs) are = search (arith, line_is_read, gate_small, literal_small, (gates_read gs are.1))

  inputs_no_feed : (vs : List ℕ) → AllByRecursion (IsVariable max_var) vs → AllByRecursion AreNoFeed (map input_line vs)
  inputs_no_feed [] are = tt
  inputs_no_feed (v ∷ vs) are = (numbers_no_feed [] [] (2 * v) tt tt (input_small v are.0), inputs_no_feed vs are.1)

  outputs_no_feed : (ls : List ℕ) → AllByRecursion (IsLiteral max_var) ls → AllByRecursion AreNoFeed (map decimal ls)
  outputs_no_feed [] are = tt
  outputs_no_feed (l ∷ ls) are = (numbers_no_feed [] [] l tt tt (literal_small l are.0), outputs_no_feed ls are.1)

  gates_no_feed : (gs : List Gate) → AllByRecursion (IsGate max_var) gs → AllByRecursion AreNoFeed (map gate_line gs)
  gates_no_feed [] are = tt
  gates_no_feed (g ∷ gs) are = search (arith, numbers_no_feed, gate_small, literal_small, (gates_no_feed gs are.1))

pub netlist_read : (net : Netlist) → IsNetlist net → net.max_var ≤ max_count →
    map line_numbers_of (netlist_texts net) ≡ netlist_numbers net
netlist_read net is few = search (arith, map-append, inputs_read, recursion_from_All, outputs_read, gates_read)

pub netlist_no_feed : (net : Netlist) → IsNetlist net → net.max_var ≤ max_count →
    AllByRecursion AreNoFeed (netlist_texts net)
netlist_no_feed net is few =
    search (arith, both_lines, inputs_no_feed, recursion_from_All, outputs_no_feed, gates_no_feed)
