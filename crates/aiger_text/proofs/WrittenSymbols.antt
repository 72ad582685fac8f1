-- The lines of symbols and the comment, as the canonical text has them.
use Rattle.std.proofs.Common.{◌≡◌, ◌≢◌, ℕ, ◌+◌, ◌<◌, ◌^◌, ◌==◌, Bool, true, false, not, List, [], ◌∷◌, ◌++◌, map, length, Option, None, Some, refl, sym, ◌∙◌, ap, ap₂, subst, arith, append_assoc, append-nil}
use Rattle.std.specs.Fmt.{decimal}
use Rattle.std.specs.List.{AllByRecursion, flat_map}
use Rattle.std.proofs.lemmas.Bool.{ne_eqb}
use Rattle.std.proofs.lemmas.List.Elements.{recursion_from_All}
use Rattle.dq_text.specs.Line.{lines_from}
use Rattle.dq_text.proofs.LineWords.{AreNoFeed, both_no_feed, word_no_feed, natural_is_word}
use Rattle.dq_text.proofs.Numerals.{decimal_digits, natural_is_read}
use Rattle.aiger_text.specs.Canonical.{symbol_text, comment_text}
use Rattle.aiger_text.specs.Grammar.{letter_of, names, table_of, SpellsSymbol, SpellSymbols, EndsWith}
use Rattle.dq_text.specs.BlankLine.{is_blank_line}
use Rattle.aiger_text.specs.Lines.{SymbolLine}
use Rattle.aiger_text.specs.Spellable.{IsName, IsSpellable}
use Rattle.aiger_text.specs.Symbol.{SymbolTable}
use Rattle.aiger_text.specs.declared.files.AagFile.{AagFile}
use Rattle.aiger_text.proofs.SpelledSymbols.{not_blank}
use Rattle.aiger_text.proofs.WrittenLines.{joined_lines, lines_before}

-- a symbol of an input or of an output
abbrev pub symbol_at : Bool → ℕ × List ℕ → SymbolLine
symbol_at of_input x = record { of_input = of_input; place = x.0; name = x.1 }

abbrev pub symbols_at : List (ℕ × List ℕ) → List (ℕ × List ℕ) → List SymbolLine
symbols_at inputs outputs = map (symbol_at true) inputs ++ map (symbol_at false) outputs

abbrev pub symbol_line_text : SymbolLine → List ℕ
symbol_line_text s = letter_of s.of_input ∷ (decimal s.place ++ (32 ∷ s.name))

-- a symbol that a line can hold
pub record IsWritable (s : SymbolLine) : Type 0 where
  pub place : s.place < 10 ^ 18
  pub name : IsName s.name

text_is_line : (b : Bool) (x : ℕ × List ℕ) → symbol_text (letter_of b) x ≡ symbol_line_text (symbol_at b x) ++ 10 ∷ []
text_is_line b x = search (arith, append_assoc)

kind_joined : (b : Bool) (xs : List (ℕ × List ℕ)) → flat_map (symbol_text (letter_of b)) xs ≡ joined_lines
    (map symbol_line_text (map (symbol_at b) xs))
kind_joined b [] = refl
kind_joined b (x ∷ xs) = ap₂ (λ ys zs. ys ++ zs) (text_is_line b x) (kind_joined b xs)

both_joined : (ss ts : List SymbolLine) → joined_lines (map symbol_line_text ss) ++ joined_lines
    (map symbol_line_text ts) ≡ joined_lines (map symbol_line_text (ss ++ ts))
both_joined [] ts = refl
both_joined (s ∷ ss) ts = search (arith, append_assoc, (both_joined ss ts))

pub symbols_joined : (inputs outputs : List (ℕ × List ℕ)) (rest : List ℕ) →
    flat_map (symbol_text 105) inputs ++ (flat_map (symbol_text 111) outputs ++ rest) ≡ joined_lines
    (map symbol_line_text (symbols_at inputs outputs)) ++ rest
symbols_joined inputs outputs rest =
    sym (append_assoc (flat_map (symbol_text 105) inputs) (flat_map (symbol_text 111) outputs) rest)
    ∙ ap (λ bytes. bytes ++ rest)
    (ap₂ (λ xs ys. xs ++ ys) (kind_joined true inputs) (kind_joined false outputs) ∙ both_joined
    (map (symbol_at true) inputs) (map (symbol_at false) outputs))

-- each line spells its symbol
spells_symbol : (s : SymbolLine) → IsWritable s → SpellsSymbol (symbol_line_text s) s
spells_symbol s is = search (arith, (decimal_digits s.place is.place), (natural_is_read s.place is.place))

letter_shows : (b : Bool) (bytes : List ℕ) → is_blank_line (letter_of b ∷ bytes) ≡ false
letter_shows true bytes = not_blank 105 bytes refl
letter_shows false bytes = not_blank 111 bytes refl

pub symbols_spell : (n : ℕ) (symbols : List SymbolLine) (rest : List ℕ) → AllByRecursion IsWritable symbols →
    SpellSymbols (lines_before n (map symbol_line_text symbols) rest) symbols
symbols_spell n [] rest are = tt
symbols_spell n (s ∷ symbols) rest are =
    search (arith, letter_shows, spells_symbol, (symbols_spell (n + 1) symbols rest are.1))

-- and is one line
name_no_feed : (name : List ℕ) → AllByRecursion (λ byte. byte ≢ 10) name → AreNoFeed name
name_no_feed [] are = tt
name_no_feed (byte ∷ bytes) are = (ne_eqb byte 10 are.0, name_no_feed bytes are.1)

letter_no_feed : (b : Bool) → (letter_of b == 10) ≡ false
letter_no_feed true = refl
letter_no_feed false = refl

pub symbols_no_feed : (symbols : List SymbolLine) → AllByRecursion IsWritable symbols →
    AllByRecursion AreNoFeed (map symbol_line_text symbols)
symbols_no_feed [] are = tt
symbols_no_feed (s ∷ symbols) are =
    search (
      arith,
      letter_no_feed,
      both_no_feed,
      word_no_feed,
      natural_is_word,
      name_no_feed,
      recursion_from_All,
      (symbols_no_feed symbols are.1),
    )

kind_writable : (b : Bool) (count : ℕ) (xs : List (ℕ × List ℕ)) (behind : List SymbolLine) → count < 10 ^ 18 →
    AllByRecursion (λ x. x.0 < count) xs →
    AllByRecursion (λ x. IsName x.1) xs → AllByRecursion IsWritable behind →
    AllByRecursion IsWritable (map (symbol_at b) xs ++ behind)
kind_writable b count [] behind few placed named are = are
kind_writable b count (x ∷ xs) behind few placed named are =
    search (arith, (kind_writable b count xs behind few placed.1 named.1 are))

pub symbols_writable : (file : AagFile) → IsSpellable file →
    AllByRecursion IsWritable (symbols_at file.symbols.inputs file.symbols.outputs)
symbols_writable file is =
    let ins = file.symbols.inputs in
    let outs = file.symbols.outputs in
    let few_inputs : length file.circuit.inputs < 10 ^ 18 = omega (arith, is.enough, is.few_variables) in
    let few_outputs : length file.circuit.outputs < 10 ^ 18 = omega (arith, is.few_outputs) in
    let outputs = kind_writable false (length file.circuit.outputs) outs [] few_outputs
    (recursion_from_All (λ x. x.0 < length file.circuit.outputs) outs is.output_names.placed)
    (recursion_from_All (λ x. IsName x.1) outs is.outputs_named) tt in
    kind_writable true (length file.circuit.inputs) ins (map (symbol_at false) outs) few_inputs
    (recursion_from_All (λ x. x.0 < length file.circuit.inputs) ins is.input_names.placed)
    (recursion_from_All (λ x. IsName x.1) ins is.inputs_named)
    (subst (AllByRecursion IsWritable) (append-nil (map (symbol_at false) outs)) outputs)

-- the names of these symbols are those of the table
no_inputs : (xs : List (ℕ × List ℕ)) → names (λ s. s.of_input) (map (symbol_at false) xs) ≡ []
no_inputs [] = refl
no_inputs (x ∷ xs) = no_inputs xs

all_outputs : (xs : List (ℕ × List ℕ)) → names (λ s. not s.of_input) (map (symbol_at false) xs) ≡ xs
all_outputs [] = refl
all_outputs (x ∷ xs) = ap (λ ys. x ∷ ys) (all_outputs xs)

names_of_inputs : (xs outputs : List (ℕ × List ℕ)) → names (λ s. s.of_input) (symbols_at xs outputs) ≡ xs
names_of_inputs [] outputs = no_inputs outputs
names_of_inputs (x ∷ xs) outputs = ap (λ ys. x ∷ ys) (names_of_inputs xs outputs)

names_of_outputs : (xs outputs : List (ℕ × List ℕ)) → names (λ s. not s.of_input) (symbols_at xs outputs) ≡ outputs
names_of_outputs [] outputs = all_outputs outputs
names_of_outputs (x ∷ xs) outputs = names_of_outputs xs outputs

pub table_is : (t : SymbolTable) → t ≡ table_of (symbols_at t.inputs t.outputs)
table_is t = search (arith, names_of_inputs, names_of_outputs)

-- the comment
pub comment_ends : (n : ℕ) (comment : Option (List ℕ)) → EndsWith (lines_from n (comment_text comment)) comment
comment_ends n None = tt
comment_ends n (Some bytes) = record { blanks = []; mark = refl; blank = refl; behind = refl }
