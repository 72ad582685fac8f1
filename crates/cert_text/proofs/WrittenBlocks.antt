-- The tokens of a text of definitions that was written, line by line.
use Rattle.std.proofs.Common.{◌≡◌, ℕ, ◌*◌, ◌^◌, ◌<◌, Bool, List, [], ◌∷◌, ◌++◌, map, length, codes, refl, ◌∙◌, ap, append_assoc, arith}
use Rattle.std.specs.Fmt.{decimal}
use Rattle.std.specs.List.{AllByRecursion, flat_map, zip}
use Rattle.dq_lits.specs.Derivation.{ProofStep}
use Rattle.dq_lits.specs.Formula.{Dqbf}
use Rattle.dq_formula.specs.Prefix.{existential_variables}
use Rattle.dq_text.specs.Written.{number_text, number_line, line_end}
use Rattle.dq_text.proofs.LineWords.{natural_is_word, spaced}
use Rattle.circuit_plain.specs.declared.circuits.Gate.{Gate}
use Rattle.cert_text.specs.Canonical.{step_text}
use Rattle.cert_text.specs.CanonicalDefinitions.{definition_text, definitions_header_text, gate_text, pair_text, valuation_text, values_text}
use Rattle.cert_text.specs.DefinitionBlocks.{Definition, FreePair, Valuation}
use Rattle.cert_text.specs.Grammar.{Tokens}
use Rattle.cert_text.proofs.CanonicalLines.{IsSmallStep, bit_text, bit_word, bits_are_words, bits_spaced, row_line, row_tokens, step_line, step_tokens, zero_is_word}
use Rattle.cert_text.proofs.LineWords.{tokens_of, line_of_words}
use Rattle.cert_text.proofs.NumberWords.{IsSpellable}

abbrev pub AreSmallSteps : List ProofStep → Type 0
AreSmallSteps steps = AllByRecursion IsSmallStep steps

-- numbers that are words
pub record IsSmallGate (g : Gate) : Type 0 where
  pub variable : 2 * g.variable < 10 ^ 18
  pub left : g.left < 10 ^ 18
  pub right : g.right < 10 ^ 18

pub record IsSmallDefinition (d : Definition) : Type 0 where
  pub existential : d.existential < 10 ^ 18
  pub output : d.output < 10 ^ 18
  pub few_gates : length d.gates < 10 ^ 18
  pub few_steps : length d.steps < 10 ^ 18
  pub gates : AllByRecursion IsSmallGate d.gates
  pub steps : AreSmallSteps d.steps

-- the header
abbrev pub header_tokens : ℕ → Tokens
header_tokens count = codes "p" ∷ codes "dqd" ∷ decimal count ∷ []

pub header_line : (count : ℕ) (rest : List ℕ) → count < 10 ^ 18 →
    tokens_of (definitions_header_text count ++ rest) ≡ header_tokens count ∷ tokens_of rest
header_line count rest few =
    ap (λ bytes. tokens_of (112 ∷ 32 ∷ 100 ∷ 113 ∷ 100 ∷ 32 ∷ bytes)) (append_assoc (decimal count) (10 ∷ []) rest)
    ∙ line_of_words (codes "p" ∷ codes "dqd" ∷ []) (decimal count) rest
    ((refl, tt), ((refl, (refl, (refl, tt))), tt)) (natural_is_word count few)

-- numbers with a space behind each, before other bytes
abbrev number_texts : List ℕ → List ℕ → List ℕ
number_texts [] rest = rest
number_texts (n ∷ ns) rest = number_text n ++ number_texts ns rest

texts_spaced : (ns : List ℕ) (rest : List ℕ) → number_texts ns rest ≡ spaced (map decimal ns) ++ rest
texts_spaced [] rest = refl
texts_spaced (n ∷ ns) rest = search (arith, append_assoc, spaced, (texts_spaced ns rest))

line_rest : (n : ℕ) (rest : List ℕ) → number_line n ++ rest ≡ decimal n ++ 10 ∷ rest
line_rest n rest = append_assoc (decimal n) (10 ∷ []) rest

-- a gate
abbrev pub gate_tokens : Gate → Tokens
gate_tokens g = decimal (2 * g.variable) ∷ decimal g.left ∷ decimal g.right ∷ []

gate_line : (g : Gate) (rest : List ℕ) → IsSmallGate g →
    tokens_of (gate_text g ++ rest) ≡ gate_tokens g ∷ tokens_of rest
gate_line g rest small =
    let a = 2 * g.variable in
    ap tokens_of (append_assoc (number_text a) (number_text g.left ++ number_line g.right) rest
    ∙ ap (λ bytes. number_text a ++ bytes) (append_assoc (number_text g.left) (number_line g.right) rest
    ∙ ap (λ bytes. number_text g.left ++ bytes) (line_rest g.right rest))
    ∙ texts_spaced (a ∷ g.left ∷ []) (decimal g.right ++ 10 ∷ rest))
    ∙ line_of_words (decimal a ∷ decimal g.left ∷ []) (decimal g.right) rest
    (natural_is_word a small.variable, (natural_is_word g.left small.left, tt))
    (natural_is_word g.right small.right)

gates_lines : (gates : List Gate) (rest : List ℕ) → AllByRecursion IsSmallGate gates →
    tokens_of (flat_map gate_text gates ++ rest) ≡ map gate_tokens gates ++ tokens_of rest
gates_lines [] rest small = refl
gates_lines (g ∷ gates) rest small =
    search (arith, tokens_of, append_assoc, gate_line, (gates_lines gates rest small.1))

steps_lines : (steps : List ProofStep) (rest : List ℕ) → AreSmallSteps steps →
    tokens_of (flat_map step_text steps ++ rest) ≡ map step_tokens steps ++ tokens_of rest
steps_lines [] rest small = refl
steps_lines (s ∷ steps) rest small =
    search (arith, tokens_of, append_assoc, step_line, step_tokens, (steps_lines steps rest small.1))

-- a definition
abbrev pub head_tokens : Definition → Tokens
head_tokens d = codes "t" ∷ decimal d.existential ∷ decimal d.output ∷ decimal (length d.gates)
    ∷ decimal (length d.steps) ∷ []

pub definition_lines : (d : Definition) (rest : List ℕ) → IsSmallDefinition d →
    tokens_of (definition_text d ++ rest)
    ≡ head_tokens d ∷ (map gate_tokens d.gates ++ (map step_tokens d.steps ++ tokens_of rest))
definition_lines d rest small =
    let y = d.existential in
    let g = length d.gates in
    let n = length d.steps in
    let gs = flat_map gate_text d.gates in
    let ss = flat_map step_text d.steps in
    let behind = gs ++ (ss ++ rest) in
    ap (λ bytes. tokens_of (116 ∷ 32 ∷ bytes))
    (append_assoc (number_text y ++ (number_text d.output ++ (number_text g ++ number_line n))) (gs ++ ss) rest
    ∙ ap (λ bytes. (number_text y ++ (number_text d.output ++ (number_text g ++ number_line n))) ++ bytes)
    (append_assoc gs ss rest)
    ∙ append_assoc (number_text y) (number_text d.output ++ (number_text g ++ number_line n)) behind
    ∙ ap (λ bytes. number_text y ++ bytes)
    (append_assoc (number_text d.output) (number_text g ++ number_line n) behind
    ∙ ap (λ bytes. number_text d.output ++ bytes) (append_assoc (number_text g) (number_line n) behind
    ∙ ap (λ bytes. number_text g ++ bytes) (line_rest n behind)))
    ∙ texts_spaced (y ∷ d.output ∷ g ∷ []) (decimal n ++ 10 ∷ behind))
    ∙ line_of_words (codes "t" ∷ decimal y ∷ decimal d.output ∷ decimal g ∷ []) (decimal n) behind (
      (refl, tt),
      (
        natural_is_word y small.existential,
        (
          natural_is_word d.output small.output,
          (natural_is_word g small.few_gates, tt),
        ),
      ),
    ) (natural_is_word n small.few_steps)
    ∙ ap (λ lines. head_tokens d ∷ lines) (gates_lines d.gates (ss ++ rest) small.gates
    ∙ ap (λ lines. map gate_tokens d.gates ++ lines) (steps_lines d.steps rest small.steps))

-- two assignments
abbrev pub values_tokens : List ℕ → List Bool → Tokens
values_tokens vs values = codes "v" ∷ (map bit_word (zip vs values) ++ codes "0" ∷ [])

values_line : (vs : List ℕ) (values : List Bool) (rest : List ℕ) → AllByRecursion IsSpellable vs →
    tokens_of (values_text vs values ++ rest) ≡ values_tokens vs values ∷ tokens_of rest
values_line vs values rest are =
    let bits = zip vs values in
    ap (λ bytes. tokens_of (118 ∷ 32 ∷ bytes))
    (append_assoc (flat_map bit_text bits) line_end rest ∙ ap (λ front. front ++ (48 ∷ 10 ∷ rest)) (bits_spaced bits))
    ∙ line_of_words (codes "v" ∷ map bit_word bits) (codes "0") rest ((refl, tt), bits_are_words vs values are)
    zero_is_word

abbrev pub valuation_tokens : Dqbf → Valuation → List Tokens → List Tokens
valuation_tokens f v behind =
    row_tokens f.universals v.row ∷ values_tokens (existential_variables f) v.values ∷ behind

valuation_lines : (f : Dqbf) (v : Valuation) (rest : List ℕ) → AllByRecursion IsSpellable f.universals →
    AllByRecursion IsSpellable (existential_variables f) →
    tokens_of (valuation_text f v ++ rest) ≡ valuation_tokens f v (tokens_of rest)
valuation_lines f v rest us ys = search (arith, tokens_of, append_assoc, row_line, row_tokens, values_line)

abbrev pub free_tokens : ℕ → Tokens
free_tokens y = codes "f" ∷ decimal y ∷ []

pub pair_lines : (f : Dqbf) (p : FreePair) (rest : List ℕ) → p.existential < 10 ^ 18 →
    AllByRecursion IsSpellable f.universals → AllByRecursion IsSpellable (existential_variables f) →
    tokens_of (pair_text f p ++ rest)
    ≡ free_tokens p.existential ∷ valuation_tokens f p.first (valuation_tokens f p.second (tokens_of rest))
pair_lines f p rest small us ys =
    let y = p.existential in
    let first = valuation_text f p.first in
    let second = valuation_text f p.second in
    ap (λ bytes. tokens_of (102 ∷ 32 ∷ bytes)) (append_assoc (number_line y) (first ++ second) rest
    ∙ line_rest y ((first ++ second) ++ rest))
    ∙ line_of_words (codes "f" ∷ []) (decimal y) ((first ++ second) ++ rest) ((refl, tt), tt) (natural_is_word y small)
    ∙ ap (λ lines. free_tokens y ∷ lines) (ap tokens_of (append_assoc first second rest)
    ∙ valuation_lines f p.first (second ++ rest) us ys
    ∙ ap (valuation_tokens f p.first) (valuation_lines f p.second rest us ys))
