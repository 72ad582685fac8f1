-- Which file is read doesn't depend on the number of the first line.
use Rattle.std.proofs.Common.{◌≡◌, ℕ, ◌+◌, Bool, true, false, cond, List, [], ◌∷◌, Option, Some, None, Result, Ok, Err, refl, sym, ◌∙◌, ap, ap₂, arith}
use Rattle.std.specs.List.{AllZip}
use Rattle.std.proofs.lemmas.Bool.{cases_Bool}
use Rattle.circuit_plain.specs.Netlist.{Netlist}
use Rattle.dq_text.specs.Line.{TextLine, line_tokens, extend_line, lines_from}
use Rattle.aiger_text.specs.Lines.{header_of}
use Rattle.aiger_text.specs.Scan.{Body, LineFault, next_part, start, go_on, with_symbol, or_gate, unless_undefined, finish, read_line, at_end, behind_header, read_lines, read_body, scan}
use Rattle.aiger_text.specs.Symbol.{SymbolTable}
use Rattle.aiger_text.specs.declared.headers.Header.{Header}
use Rattle.aiger_text.specs.declared.files.AagFile.{AagFile}
use Rattle.aiger_text.specs.declared.faults.AagFault.{AagFault}
use Rattle.aiger_text.specs.declared.body.NextLine.{NextLine}
use Rattle.aiger_text.specs.declared.body.NextLine.TheVariants.{InputLine, OutputLine, GateLine, SymbolLine}

-- two lines but for their numbers
record SameLine (k l : TextLine) : Type 0 where
  text : k.text ≡ l.text
  behind : k.behind ≡ l.behind

extend_same : (byte n m : ℕ) (ks ls : List TextLine) → AllZip SameLine ks ls →
    AllZip SameLine (extend_line byte n ks) (extend_line byte m ls)
extend_same byte n m [] [] same = (record { text = refl; behind = refl }, tt)
extend_same byte n m [] (l ∷ ls) same = absurd same
extend_same byte n m (k ∷ ks) [] same = absurd same
extend_same byte n m (k ∷ ks) (l ∷ ls) same = search arith

lines_same : (text : List ℕ) (n m : ℕ) → AllZip SameLine (lines_from n text) (lines_from m text)
lines_same [] n m = tt
lines_same (byte ∷ bytes) n m =
    search (arith, cases_Bool, (lines_same bytes (n + 1) (m + 1)), extend_same, (lines_same bytes n m))

-- a body behind a header on another line
abbrev relined : ℕ → Body → Body
relined line b = record b { header_line = line }

module _ (file : AagFile) (line : ℕ) where
  unless_same : (b : Body) (output gate : Option ℕ) (made : AagFile) →
      unless_undefined (or_gate b output gate) made ≡ Ok file →
      unless_undefined (or_gate (relined line b) output gate) made ≡ Ok file
  unless_same b (Some j) gate made read = cc
  unless_same b None (Some i) made read = cc
  unless_same b None None made read = read

  finish_same : (b : Body) (comment : Option (List ℕ)) → finish b comment ≡ Ok file →
      finish (relined line b) comment ≡ Ok file
  finish_same b comment read = search (arith, unless_same)

  end_same : (part : NextLine) (b : Body) (n m : ℕ) → at_end part b n ≡ Ok file → at_end part (relined line b) m ≡ Ok file
  end_same InputLine b n m read = cc
  end_same OutputLine b n m read = cc
  end_same GateLine b n m read = cc
  end_same SymbolLine b n m read = finish_same b None read

  -- two ways to go on of which the second reads what the first reads
  abbrev GoesOnAs : (Body → Result AagFile LineFault) → (Body → Result AagFile LineFault) → Type 0
  GoesOnAs next other = (c : Body) → next c ≡ Ok file → other (relined line c) ≡ Ok file

  netlist_same : (n m : ℕ) (b : Body) (r : Result Netlist AagFault) (next other : Body → Result AagFile LineFault) →
      GoesOnAs next other → go_on n b r next ≡ Ok file →
      go_on m (relined line b) r other ≡ Ok file
  netlist_same n m b (Ok net) next other goes read = goes (record b { netlist = net }) read
  netlist_same n m b (Err name) next other goes read = cc

  table_same : (n m : ℕ) (b : Body) (r : Result SymbolTable AagFault) (next other : Body → Result AagFile LineFault) →
      GoesOnAs next other → with_symbol n b r next ≡ Ok file →
      with_symbol m (relined line b) r other ≡ Ok file
  table_same n m b (Ok table) next other goes read = goes (record b { symbols = table }) read
  table_same n m b (Err name) next other goes read = cc

  choice_same : (blank mark : Bool) (n m : ℕ) (b : Body) (r : Result SymbolTable AagFault) (comment : List ℕ)
      (next other : Body → Result AagFile LineFault) → GoesOnAs next other →
      cond blank (next b) (cond mark (finish b (Some comment)) (with_symbol n b r next)) ≡ Ok file →
      cond blank (other (relined line b)) (cond mark (finish (relined line b) (Some comment))
      (with_symbol m (relined line b) r other)) ≡ Ok file
  choice_same true mark n m b r comment next other goes read = goes b read
  choice_same false true n m b r comment next other goes read = finish_same b (Some comment) read
  choice_same false false n m b r comment next other goes read = table_same n m b r next other goes read

  line_same : (part : NextLine) (b : Body) (text behind : List ℕ) (n m : ℕ) (next other : Body → Result AagFile LineFault) →
      GoesOnAs next other →
      read_line part b (record { text = text; number = n; behind = behind }) next ≡ Ok file →
      read_line part (relined line b) (record { text = text; number = m; behind = behind }) other ≡ Ok file
  line_same InputLine b text behind n m next other goes read = search (arith, netlist_same)
  line_same OutputLine b text behind n m next other goes read = search (arith, netlist_same)
  line_same GateLine b text behind n m next other goes read = search (arith, netlist_same)
  line_same SymbolLine b text behind n m next other goes read = search (arith, choice_same)

  body_same : (ks ls : List TextLine) → AllZip SameLine ks ls → (b : Body) (n m : ℕ) → read_body b ks n ≡ Ok file →
      read_body (relined line b) ls m ≡ Ok file
  body_same [] [] same b n m read = end_same (next_part b) b n m read
  body_same [] (l ∷ ls) same b n m read = absurd same
  body_same (k ∷ ks) [] same b n m read = absurd same
  body_same (k ∷ ks) (l ∷ ls) same b n m read =
      let other : Body → Result AagFile LineFault = λ c. read_body c ls (l.number + 1) in
      let moved = line_same (next_part b) b k.text k.behind k.number l.number (λ c. read_body c ks (k.number + 1)) other
      (λ c. body_same ks ls same.1 c (k.number + 1) (l.number + 1)) read in
      ap₂ (λ text behind. read_line (next_part b) (relined line b)
      (record { text = text; number = l.number; behind = behind }) other) (sym same.0.text)
      (sym same.0.behind) ∙ moved

header_same : (file : AagFile) (n m : ℕ) (r : Result Header AagFault) (ks ls : List TextLine) → AllZip SameLine ks ls →
    behind_header n r (λ b. read_body b ks (n + 1)) ≡ Ok file →
    behind_header m r (λ b. read_body b ls (m + 1)) ≡ Ok file
header_same file n m (Ok h) ks ls same read = body_same file m ks ls same (start n h) (n + 1) (m + 1) read
header_same file n m (Err name) ks ls same read = cc

read_same : (file : AagFile) (ks ls : List TextLine) (n m : ℕ) → AllZip SameLine ks ls → read_lines ks n ≡ Ok file →
    read_lines ls m ≡ Ok file
read_same file [] ls n m same read = cc
read_same file (k ∷ ks) [] n m same read = absurd same
read_same file (k ∷ ks) (l ∷ ls) n m same read =
    ap (λ text. behind_header l.number (header_of (line_tokens text)) (λ b. read_body b ls (l.number + 1)))
    (sym same.0.text)
    ∙ header_same file k.number l.number (header_of (line_tokens k.text)) ks ls same.1 read

pub scan_same : (text : List ℕ) (file : AagFile) (n m : ℕ) → scan text n ≡ Ok file → scan text m ≡ Ok file
scan_same text file n m read = read_same file (lines_from n text) (lines_from m text) n m (lines_same text n m) read
