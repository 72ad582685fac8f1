-- The text of an implementation spells its boxes on the page.
use Rattle.std.proofs.Common.{◌≡◌, ◌≢◌, ℕ, ◌+◌, ◌==◌, nat_lt, Bool, true, false, not, cond, List, [], ◌∷◌, ◌++◌, length, map, Option, Some, None, Result, Ok, Err, codes, refl, sym, ◌∙◌, ap, subst, arith, append_assoc}
use Rattle.std.specs.List.{AllByRecursion, AllZip, filter}
use Rattle.std.proofs.lemmas.List.{length-map, map-append}
use Rattle.std.proofs.lemmas.List.Elements.{All-from_recursion}
use Rattle.list_laws.proofs.Options.{some_same}
use Rattle.circuit_plain.specs.Netlist.{Netlist}
use Rattle.dq_text.specs.BlankLine.{has_no_token, is_blank_line}
use Rattle.dq_text.specs.Line.{LineCursor, TextLine, line_tokens, lines_from}
use Rattle.aiger_text.specs.Grammar.{EndsWith, IsComment, SpellsCircuit, SpellsSymbol, letter_of}
use Rattle.aiger_text.specs.Lines.{SymbolLine}
use Rattle.aiger_text.specs.declared.files.AagFile.{AagFile}
use Rattle.aiger_text.specs.declared.files.ReadCircuit.{ReadCircuit}
use Rattle.headline.specs.BlackBoxes.{SpellsBoxes, box_symbols}
use Rattle.headline.specs.Headline.{Spells, ends_word, lines, natural, put_front, word, words}
use Rattle.headline_laws.proofs.AsciiTexts.{body_spelled, header_spelled, split}
use Rattle.headline_laws.proofs.Circuits.{page_circuit}
use Rattle.headline_laws.proofs.Tokens.{lines_are, texts, words_are}
use Rattle.pec_front.specs.Boxes.{BlackBox, PartialDesign, StandInOrder}
use Rattle.pec_front.specs.Reading.{IsDesignReading, IsReadingOf, Refusal, all_driven, boxes_of, comment_of, design_with, first_undriven, read_comment, stated_boxes, unless_undriven, wires_of}
use Rattle.pec_front.specs.declared.faults.PecFault.TheVariants.{InputShort, OutputCount}
use Rattle.box_laws.proofs.StatedBoxes.{AreBoxLines, AreStated, lines_stated, page_box}

-- ---- what the reader took

pub record IsTaken (specification implementation : Netlist) (comment : Option LineCursor) (d : PartialDesign) : Type 0 where
  pub boxes : List BlackBox
  pub same : d ≡ design_with specification implementation boxes
  pub ordered : StandInOrder implementation boxes
  pub begins : LineCursor
  pub is : comment ≡ Some begins
  pub stated : AreStated (lines_from begins.number begins.rest) boxes

behind_err : {A E : Type 0} (b : Bool) (e : E) (r : Result A E) (x : A) → cond b (Err e) r ≡ Ok x → r ≡ Ok x
behind_err true e r x h = cc
behind_err false e r x h = h

driven_read : (s i : Netlist) (line : ℕ) (r : Result (List BlackBox) Refusal) (boxes : List BlackBox) →
    all_driven (wires_of s i) line r ≡ Ok boxes → r ≡ Ok boxes
driven_read s i line (Err refusal) boxes h = cc
driven_read s i line (Ok read) boxes h = by (first_undriven (wires_of s i) read) h where
  by : (undriven : Option ℕ) → unless_undriven line read undriven ≡ Ok boxes →
      ◌≡◌ {A = Result (List BlackBox) Refusal} (Ok read) (Ok boxes)
  by None h = h
  by (Some place) h = cc

cursor_there : (specification implementation : Netlist) (comment : Option LineCursor) (first : ℕ) (boxes : List BlackBox) →
    stated_boxes specification implementation comment first ≡ Ok boxes →
    (begins : LineCursor) × (comment ≡ Some begins) × AreStated (lines_from begins.number begins.rest) boxes
cursor_there specification implementation None first boxes h = cc
cursor_there specification implementation (Some begins) first boxes h = (
  begins,
  refl,
  lines_stated specification implementation (lines_from begins.number begins.rest) begins.number boxes
      (driven_read specification implementation (first + 1 + length specification.inputs) (read_comment (wires_of specification implementation) begins) boxes h),
)

taken : (specification implementation : Netlist) (comment : Option LineCursor) (first : ℕ) (d : PartialDesign) →
    (r : Result (List BlackBox) Refusal) → boxes_of specification implementation comment first ≡ r →
    IsReadingOf specification implementation comment r (Ok d) → IsTaken specification implementation comment d
taken specification implementation comment first d (Err refusal) is reading = absurd reading
taken specification implementation comment first d (Ok boxes) is reading =
    let stated = stated_boxes specification implementation comment first in
    let behind = behind_err (not (length specification.outputs == length implementation.outputs))
    (record { line = first; name = OutputCount }) stated boxes
    (behind_err (nat_lt (length implementation.inputs) (length specification.inputs))
    (record { line = first; name = InputShort })
    (cond (not (length specification.outputs == length implementation.outputs))
    (Err (record { line = first; name = OutputCount })) stated) boxes is) in
    let there = cursor_there specification implementation comment first boxes behind in
    record {
      boxes = boxes;
      same = reading.0;
      ordered = reading.1;
      begins = there.0;
      is = there.1;
      stated = there.2;
    }

pub design_taken : (specification : Netlist) (read : ReadCircuit) (first : ℕ) (d : PartialDesign) →
    IsDesignReading specification read first (Ok d) →
    IsTaken specification read.file.circuit (comment_of read.file.comment read.comment_line) d
design_taken specification read first d reading =
    let comment = comment_of read.file.comment read.comment_line in
    taken specification read.file.circuit comment first d (boxes_of specification read.file.circuit comment first) refl reading

-- ---- the lines

-- behind some lines stand those of the text behind the last one
suffix : (number : ℕ) (text : List ℕ) (before : List TextLine) (line : TextLine) (others : List TextLine) →
    lines_from number text ≡ before ++ (line ∷ others) → (k : ℕ) × (others ≡ lines_from k line.behind)
suffix number text [] line others h = (number + 1, (split number text line others h).next)
suffix number text (first ∷ before) line others h =
    let one = split number text first (before ++ (line ∷ others)) h in
    suffix (number + 1) first.behind before line others (sym one.next)

record IsMarked (ls : List TextLine) (begins : LineCursor) : Type 0 where
  pub mark : TextLine
  pub others : List TextLine
  pub is : ls ≡ mark ∷ others
  pub comment : IsComment mark begins.rest

marked : (ls : List TextLine) (comment : Option (List ℕ)) (line : Option ℕ) (begins : LineCursor) → EndsWith ls comment →
    comment_of comment line ≡ Some begins → IsMarked ls begins
marked [] None line begins ends h = cc
marked [] (Some comment) line begins ends h = absurd ends
marked (l ∷ ls) None line begins ends h = absurd ends
marked (l ∷ ls) (Some comment) None begins ends h = cc
marked (l ∷ ls) (Some comment) (Some number) begins ends h = record {
  mark = l;
  others = ls;
  is = refl;
  comment = subst (IsComment l)
      (ap (λ (c : LineCursor). c.rest) (some_same (record { rest = comment; number = number }) begins h)) ends;
}

-- words
abbrev first_byte : List (List ℕ) → ℕ
first_byte [] = 0
first_byte ([] ∷ _) = 0
first_byte ((byte ∷ _) ∷ _) = byte

begins_so : (e : Bool) (byte : ℕ) (ws : List (List ℕ)) → first_byte (cond e ((byte ∷ []) ∷ ws) (put_front byte ws)) ≡ byte
begins_so true byte ws = refl
begins_so false byte [] = refl
begins_so false byte (w ∷ ws) = refl

first_marked : first_byte (codes "c" ∷ []) ≡ 99
first_marked = refl

first_named : (of_input : Bool) (bytes : List ℕ) → first_byte (words (letter_of of_input ∷ bytes)) ≡ letter_of of_input
first_named true bytes = begins_so (ends_word bytes) 105 (words bytes)
first_named false bytes = begins_so (ends_word bytes) 111 (words bytes)

no_letter : (of_input : Bool) → letter_of of_input ≡ 99 → ⊥
no_letter true is = omega (arith, is)
no_letter false is = omega (arith, is)

name_unmarked : (line : List ℕ) (s : SymbolLine) → SpellsSymbol line s → words line ≢ codes "c" ∷ []
name_unmarked line s spelled is =
    let letter = subst (λ l. first_byte (words l) ≡ letter_of s.of_input) (sym spelled.spelling)
    (first_named s.of_input (spelled.digits ++ (spelled.separator ∷ spelled.rest))) in
    no_letter s.of_input (sym letter ∙ (ap first_byte is ∙ first_marked))

blank_unmarked : (line : List ℕ) → is_blank_line line ≡ true → words line ≢ codes "c" ∷ []
blank_unmarked line blank is =
    let none : has_no_token (codes "c" ∷ []) ≡ true =
    subst (λ ws. has_no_token ws ≡ true) (sym (words_are line) ∙ is) blank in
    cc

unmarked : (ls : List TextLine) (symbols : List SymbolLine) →
    AllZip (λ (l : TextLine) s. SpellsSymbol l.text s) (filter (λ l. not (is_blank_line l.text)) ls) symbols →
    AllByRecursion (λ line. words line ≢ codes "c" ∷ []) (texts ls)
unmarked [] symbols each = tt
unmarked (l ∷ ls) symbols each = by (is_blank_line l.text) refl symbols (λ others rest. unmarked ls others rest) each where
  by : (b : Bool) → is_blank_line l.text ≡ b → (ss : List SymbolLine) → ((others : List SymbolLine) →
      AllZip (λ (k : TextLine) s. SpellsSymbol k.text s) (filter (λ k. not (is_blank_line k.text)) ls) others →
      AllByRecursion (λ line. words line ≢ codes "c" ∷ []) (texts ls)) →
      AllZip (λ (k : TextLine) s. SpellsSymbol k.text s)
      (cond (not b) (l ∷ filter (λ k. not (is_blank_line k.text)) ls) (filter (λ k. not (is_blank_line k.text)) ls)) ss →
      AllByRecursion (λ line. words line ≢ codes "c" ∷ []) (texts (l ∷ ls))
  by true blank ss later each = (blank_unmarked l.text blank, later ss each)
  by false some [] later each = absurd each
  by false some (s ∷ ss) later each = (name_unmarked l.text s each.0, later ss each.1)

no_words : (ws : List (List ℕ)) → has_no_token ws ≡ true → ws ≡ []
no_words [] h = refl
no_words (w ∷ ws) h = cc

alone : (e : Bool) (ws : List (List ℕ)) → ws ≡ [] → cond e ((99 ∷ []) ∷ ws) (put_front 99 ws) ≡ (99 ∷ []) ∷ []
alone true ws is = ap (λ xs. (99 ∷ []) ∷ xs) is
alone false ws is = ap (put_front 99) is

mark_spelled : (mark : TextLine) (comment : List ℕ) → IsComment mark comment → words mark.text ≡ codes "c" ∷ []
mark_spelled mark comment is =
    ap words is.mark ∙ alone (ends_word is.blanks) (words is.blanks)
    (no_words (words is.blanks) (ap has_no_token (words_are is.blanks) ∙ is.blank))

boxes_on_page : (ls : List TextLine) (boxes : List BlackBox) → AreBoxLines ls boxes →
    AllZip (λ line b. AllZip Spells (words line) (box_symbols b)) (texts ls) (map page_box boxes)
boxes_on_page [] [] each = tt
boxes_on_page [] (box ∷ boxes) each = absurd each
boxes_on_page (l ∷ ls) [] each = absurd each
boxes_on_page (l ∷ ls) (box ∷ boxes) each = (
  subst (λ ws. AllZip Spells ws (box_symbols (page_box box))) (sym (words_are l.text)) each.0,
  boxes_on_page ls boxes each.1,
)

abbrev text_of : TextLine → List ℕ
text_of l = l.text

pub boxes_spelled : (text : List ℕ) (file : AagFile) (line : Option ℕ) (s : SpellsCircuit text file) (boxes : List BlackBox)
    (begins : LineCursor) → comment_of file.comment line ≡ Some begins →
    AreStated (lines_from begins.number begins.rest) boxes →
    SpellsBoxes text (page_circuit file.circuit) (map page_box boxes)
boxes_spelled text file line s boxes begins is stated = record {
  header = s.header_line.text;
  body = texts s.netlist_lines;
  names = texts s.symbol_lines;
  mark = end.mark.text;
  count = stated.count.text;
  stated = texts stated.stated;
  others = texts stated.others;
  zeros = s.header.zeros;
  few = s.header.few_sections;
  lines_are = all_lines;
  header_is = header_spelled (codes "aag") s.header_line.text file.circuit s.header;
  body_is = body_spelled s.netlist_lines file.circuit s.netlist;
  unmarked = All-from_recursion (λ l. words l ≢ codes "c" ∷ []) (texts s.symbol_lines)
      (unmarked s.symbol_lines s.symbols s.symbols_spelled);
  mark_is = mark_spelled end.mark begins.rest end.comment;
  count_is = subst (λ ws. AllZip Spells ws (word (codes "pec") ∷ natural (length (map page_box boxes)) ∷ []))
      (sym (words_are stated.count.text))
      (subst (λ n. AllZip Spells (line_tokens stated.count.text) (word (codes "pec") ∷ natural n ∷ []))
      (sym (length-map boxes page_box)) stated.count_is);
  boxes_are = boxes_on_page stated.stated boxes stated.boxes_are;
}
  where
    end : IsMarked s.comment_lines begins
    end = marked s.comment_lines file.comment line begins s.comment is

    cut : lines_from 1 text ≡ (s.header_line ∷ (s.netlist_lines ++ s.symbol_lines)) ++ (end.mark ∷ end.others)
    cut = s.lines ∙ ap (λ ls. s.header_line ∷ ls)
        (ap (λ ls. s.netlist_lines ++ (s.symbol_lines ++ ls)) end.is
        ∙ sym (append_assoc s.netlist_lines s.symbol_lines (end.mark ∷ end.others)))

    behind : texts end.others ≡ stated.count.text ∷ (texts stated.stated ++ texts stated.others)
    behind =
        let rest = suffix 1 text (s.header_line ∷ (s.netlist_lines ++ s.symbol_lines)) end.mark end.others cut in
        ap texts rest.1 ∙ (sym (lines_are rest.0 end.mark.behind)
        ∙ (ap lines (sym end.comment.behind) ∙ (lines_are begins.number begins.rest
        ∙ (ap texts stated.lines
        ∙ ap (λ ls. stated.count.text ∷ ls) (map-append text_of stated.stated stated.others)))))

    all_lines : lines text ≡ s.header_line.text
        ∷ (texts s.netlist_lines ++ (texts s.symbol_lines
        ++ (end.mark.text ∷ (stated.count.text ∷ (texts stated.stated ++ texts stated.others)))))
    all_lines =
        lines_are 1 text ∙ (ap texts s.lines
        ∙ ap (λ ls. s.header_line.text ∷ ls) (map-append text_of s.netlist_lines (s.symbol_lines ++ s.comment_lines)
        ∙ ap (λ ls. texts s.netlist_lines ++ ls) (map-append text_of s.symbol_lines s.comment_lines
        ∙ ap (λ ls. texts s.symbol_lines ++ ls) (ap texts end.is ∙ ap (λ ls. end.mark.text ∷ ls) behind))))
