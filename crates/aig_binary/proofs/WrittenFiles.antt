-- What is written in the binary form is spelled.
use Rattle.std.proofs.Common.{◌≡◌, ℕ, ◌+◌, ◌<◌, ◌≤◌, ◌^◌, List, [], ◌∷◌, ◌++◌, length, map, Option, None, Some, codes, refl, ◌∙◌, ap, arith, append_assoc}
use Rattle.std.specs.Fmt.{decimal}
use Rattle.std.specs.List.{AllByRecursion, flat_map}
use Rattle.std.proofs.lemmas.List.Elements.{recursion_from_All}
use Rattle.circuit_plain.specs.Netlist.{IsLiteral}
use Rattle.dq_text.specs.Line.{TextLine, lines_from}
use Rattle.dq_text.specs.Written.{number_line}
use Rattle.dq_text.proofs.LineWords.{AreWords, word_no_feed, natural_is_word}
use Rattle.aiger_text.specs.Canonical.{comment_text, ending_text}
use Rattle.aiger_text.specs.Lines.{max_count}
use Rattle.aiger_text.specs.declared.files.AagFile.{AagFile}
use Rattle.aiger_text.proofs.WrittenLines.{lines_before, number_after, one_line, joined_are, line_is_read}
use Rattle.aiger_text.proofs.WrittenNetlist.{header_of_form, counts_are_words, form_no_feed, form_spells}
use Rattle.aiger_text.proofs.WrittenSymbols.{symbols_at, symbol_line_text, symbols_joined, symbols_spell, symbols_no_feed, symbols_writable, table_is}
use Rattle.aig_binary.specs.Grammar.{SpellsOutputs, EndsOn, SpellsBinary}
use Rattle.aig_binary.specs.Written.{gate_code, binary_text, IsBinaryFile}
use Rattle.aig_binary.proofs.WrittenDeltas.{gates_spelled}

aig_is_word : AreWords (codes "aig" ∷ [])
aig_is_word = ((refl, (refl, (refl, tt))), tt)

outputs_spelled : (max_var : ℕ) (os : List ℕ) (number : ℕ) (rest : List ℕ) → max_var ≤ max_count →
    AllByRecursion (IsLiteral max_var) os → SpellsOutputs number (flat_map number_line os ++ rest) os rest
outputs_spelled max_var [] number rest few range = refl
outputs_spelled max_var (o ∷ os) number rest few range =
    let bytes = flat_map number_line os ++ rest in
    let small : o < 10 ^ 18 = omega (arith, few, range.0) in
    let line : TextLine = record { text = decimal o; number = number; behind = bytes } in (
      record {
        line = line;
        others = lines_from (number + 1) bytes;
        lines = ap (lines_from number) (append_assoc (decimal o ++ 10 ∷ []) (flat_map number_line os) rest
            ∙ append_assoc (decimal o) (10 ∷ []) bytes)
            ∙ one_line number (decimal o) bytes (word_no_feed (decimal o) (natural_is_word o small));
        spelled = line_is_read [] o tt small;
      },
      outputs_spelled max_var os (number + 1) rest few range.1,
    )

abbrev comment_line : ℕ → Option (List ℕ) → Option ℕ
comment_line number None = None
comment_line number (Some comment) = Some (number + 1)

ends_on : (number : ℕ) (comment : Option (List ℕ)) →
    EndsOn (lines_from number (comment_text comment)) comment (comment_line number comment)
ends_on number None = tt
ends_on number (Some comment) = (record { blanks = []; mark = refl; blank = refl; behind = refl }, refl)

pub written_spells : (file : AagFile) (first : ℕ) → IsBinaryFile file →
    (line : Option ℕ) × SpellsBinary (binary_text file) first (record { file = file; comment_line = line })
written_spells file first is =
    let net = file.circuit in
    let spellable = is.spellable in
    let header = header_of_form (codes "aig") net in
    let code = flat_map gate_code net.gates in
    let ending = ending_text file in
    let bytes = flat_map number_line net.outputs ++ (code ++ ending) in
    let symbols = symbols_at file.symbols.inputs file.symbols.outputs in
    let texts = map symbol_line_text symbols in
    let number = first + 1 + length net.outputs + 1 in
    let after = number_after number texts in
    let writable = symbols_writable file spellable in
    let header_is : binary_text file ≡ header ++ 10 ∷ bytes = search (arith, counts_are_words, append_assoc) in (
      comment_line after file.comment,
      record {
        header_line = record { text = header; number = first; behind = bytes };
        other_lines = lines_from (first + 1) bytes;
        binary = code ++ ending;
        code = code;
        behind = ending;
        symbol_lines = lines_before number texts (comment_text file.comment);
        comment_lines = lines_from after (comment_text file.comment);
        symbols = symbols;
        lines = ap (lines_from first) header_is
            ∙ one_line first header bytes (form_no_feed (codes "aig") aig_is_word file spellable);
        header = form_spells (codes "aig") aig_is_word file spellable;
        all_defined = is.all_defined;
        inputs = is.inputs;
        outputs = outputs_spelled net.max_var net.outputs (first + 1) (code ++ ending) spellable.few_variables
            (recursion_from_All (IsLiteral net.max_var) net.outputs spellable.lawful.outputs_fit);
        in_range = spellable.lawful.outputs_fit;
        parted = refl;
        gates = gates_spelled net.gates (length net.inputs + 1)
            (omega (arith, is.all_defined, spellable.few_variables)) is.gates;
        lines_behind = search (arith, symbols_joined, joined_are, symbols_no_feed);
        symbols_spelled = symbols_spell number symbols (comment_text file.comment) writable;
        comment = ends_on after file.comment;
        table = table_is file.symbols;
        input_names = spellable.input_names;
        output_names = spellable.output_names;
      },
    )
