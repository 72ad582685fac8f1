-- The lines behind the gates, as their reader takes them and as the grammar spells them.
use Rattle.std.proofs.Common.{◌≡◌, ℕ, ◌+◌, ◌≤◌, true, false, not, cond, Bool, inl, inr, List, [], ◌∷◌, ◌++◌, filter, Option, Some, None, Result, Ok, refl, sym, ◌∙◌, ap, subst, arith}
use Rattle.std.specs.List.{AllZip}
use Rattle.std.proofs.lemmas.Bool.{cases_Bool, cond-true, cond-false}
use Rattle.dq_text.specs.BlankLine.{is_blank_line}
use Rattle.dq_text.specs.Line.{TextLine}
use Rattle.aiger_text.specs.Grammar.{AreNames, SpellsSymbol, SpellSymbols}
use Rattle.aiger_text.specs.Lines.{SymbolLine, max_count, symbol_of, add_symbol, symbol_line, begins_comment}
use Rattle.aiger_text.specs.Scan.{LineFault}
use Rattle.aiger_text.specs.Symbol.{SymbolTable}
use Rattle.aiger_text.specs.declared.headers.Header.{Header}
use Rattle.aiger_text.proofs.ReadSymbols.{added_parts, comment_is}
use Rattle.aiger_text.proofs.SpelledSymbolLines.{symbol_is, symbol_from}
use Rattle.aiger_text.proofs.SpelledSymbols.{joined, joined-nil, joined-cons, with_name, symbol_passes, not_blank, no_mark}
use Rattle.aig_binary.specs.Grammar.{EndsOn}
use Rattle.aig_binary.specs.Scan.{Ending, on_line, read_symbols}
use Rattle.aig_binary.proofs.SpelledOutputs.{on_line_goes}

module _ (h : Header) where
  abbrev marked : SymbolTable → TextLine → Result Ending LineFault
  marked t line = Ok (record { symbols = t; comment = Some line.behind; comment_line = Some (line.number + 1) })

  abbrev named : SymbolTable → TextLine → List TextLine → Result Ending LineFault
  named t line lines =
      on_line line.number (symbol_line h t (symbol_of line.text)) (λ more. read_symbols h more lines)

  pub on_blank : (t : SymbolTable) (line : TextLine) (lines : List TextLine) → is_blank_line line.text ≡ true →
      read_symbols h t (line ∷ lines) ≡ read_symbols h t lines
  on_blank t line lines blank = search (arith, cond-true)

  pub on_mark : (t : SymbolTable) (line : TextLine) (lines : List TextLine) → is_blank_line line.text ≡ false →
      begins_comment line.text ≡ true → read_symbols h t (line ∷ lines) ≡ marked t line
  on_mark t line lines other mark = search (arith, cond-false, cond-true)

  pub on_name : (t : SymbolTable) (line : TextLine) (lines : List TextLine) → is_blank_line line.text ≡ false →
      begins_comment line.text ≡ false → read_symbols h t (line ∷ lines) ≡ named t line lines
  on_name t line lines other symbol = search (arith, cond-false)

  module _ (ending : Ending) where
    symbol_step : (t : SymbolTable) (line : TextLine) (lines : List TextLine) (s : SymbolLine) →
        is_blank_line line.text ≡ false → SpellsSymbol line.text s → add_symbol h t s ≡ Ok (with_name t s) →
        read_symbols h (with_name t s) lines ≡ Ok ending → read_symbols h t (line ∷ lines) ≡ Ok ending
    symbol_step t line lines s other spells added goes =
        search (
          arith,
          (on_name t line lines other (no_mark line.text s spells)),
          (no_mark line.text s spells),
          (symbol_from line.text s spells),
        )

    pub symbols_from : (table : SymbolTable) (behind : List TextLine) → AreNames h.inputs table.inputs →
        AreNames h.outputs table.outputs → read_symbols h table behind ≡ Ok ending →
        (lines : List TextLine) (symbols : List SymbolLine) (t : SymbolTable) → joined t symbols ≡ table →
        SpellSymbols lines symbols → read_symbols h t (lines ++ behind) ≡ Ok ending
    symbols_from table behind inputs outputs next [] [] t whole spelled = search (arith, joined-nil)
    symbols_from table behind inputs outputs next [] (s ∷ symbols) t whole spelled = absurd spelled
    symbols_from table behind inputs outputs next (line ∷ lines) [] t whole spelled =
        search (arith, cases_Bool, on_blank, (symbols_from table behind inputs outputs next lines [] t whole))
    symbols_from table behind inputs outputs next (line ∷ lines) (s ∷ symbols) t whole spelled =
        let own = filter (λ (l : TextLine). not (is_blank_line l.text)) lines in
        let Zip : Bool → Type 0 = λ b. AllZip (λ (l : TextLine) e. SpellsSymbol l.text e)
        (cond (not b) (line ∷ own) own) (s ∷ symbols) in
        elim (cases_Bool (is_blank_line line.text)) [
          | inl blank ↦ on_blank t line (lines ++ behind) blank
              ∙ symbols_from table behind inputs outputs next lines (s ∷ symbols) t whole (subst Zip blank spelled)
          | inr other ↦
              let both = subst Zip other spelled in
              symbol_step t line (lines ++ behind) s other both.0
              (symbol_passes h table t s.of_input s.place s.name symbols inputs outputs whole)
              (symbols_from table behind inputs outputs next lines symbols (with_name t s)
              (joined-cons t s symbols ∙ whole) both.1)
        ]

  pub ending_from : (t : SymbolTable) (lines : List TextLine) (comment : Option (List ℕ)) (number : Option ℕ) →
      EndsOn lines comment number →
      read_symbols h t lines ≡ Ok (record { symbols = t; comment = comment; comment_line = number })
  ending_from t [] None None ends = refl
  ending_from t [] None (Some n) ends = absurd ends
  ending_from t [] (Some c) None ends = absurd ends
  ending_from t [] (Some c) (Some n) ends = absurd ends
  ending_from t (line ∷ lines) None None ends = absurd ends
  ending_from t (line ∷ lines) None (Some n) ends = absurd ends
  ending_from t (line ∷ lines) (Some c) None ends = absurd ends
  ending_from t (line ∷ lines) (Some c) (Some n) (is, number_is) = search (arith, on_mark, not_blank)

  -- the symbols and the comment that were read
  pub record AreSymbolsRead (t : SymbolTable) (lines : List TextLine) (ending : Ending) : Type 0 where
    pub symbols : List SymbolLine
    pub own : List TextLine
    pub rest : List TextLine
    pub parted : lines ≡ own ++ rest
    pub spelled : SpellSymbols own symbols
    pub whole : joined t symbols ≡ ending.symbols
    pub ends : EndsOn rest ending.comment ending.comment_line
    pub inputs : AreNames h.inputs ending.symbols.inputs
    pub outputs : AreNames h.outputs ending.symbols.outputs

  at_last : (t : SymbolTable) (rest : List TextLine) (ending : Ending) →
      EndsOn rest ending.comment ending.comment_line →
      t ≡ ending.symbols → AreNames h.inputs t.inputs → AreNames h.outputs t.outputs → AreSymbolsRead t rest ending
  at_last t rest ending ends same inputs outputs = record {
    symbols = [];
    own = [];
    rest = rest;
    parted = refl;
    spelled = tt;
    whole = joined-nil t ∙ same;
    ends = ends;
    inputs = subst (λ (x : SymbolTable). AreNames h.inputs x.inputs) same inputs;
    outputs = subst (λ (x : SymbolTable). AreNames h.outputs x.outputs) same outputs;
  }

  blank_front : (t : SymbolTable) (line : TextLine) (lines : List TextLine) (ending : Ending) →
      is_blank_line line.text ≡ true → AreSymbolsRead t lines ending → AreSymbolsRead t (line ∷ lines) ending
  blank_front t line lines ending blank c =
      let kept = filter (λ (l : TextLine). not (is_blank_line l.text)) c.own in
      record {
        symbols = c.symbols;
        own = line ∷ c.own;
        rest = c.rest;
        parted = ap (λ ls. line ∷ ls) {y = c.own ++ c.rest} c.parted;
        spelled = subst (λ b. AllZip (λ (l : TextLine) s. SpellsSymbol l.text s)
            (cond (not b) (line ∷ kept) kept) c.symbols) (sym blank) c.spelled;
        whole = c.whole;
        ends = c.ends;
        inputs = c.inputs;
        outputs = c.outputs;
      }

  symbol_front : (t : SymbolTable) (line : TextLine) (lines : List TextLine) (s : SymbolLine) (ending : Ending) →
      is_blank_line line.text ≡ false → SpellsSymbol line.text s → AreSymbolsRead (with_name t s) lines ending →
      AreSymbolsRead t (line ∷ lines) ending
  symbol_front t line lines s ending other spells c =
      let kept = filter (λ (l : TextLine). not (is_blank_line l.text)) c.own in
      record {
        symbols = s ∷ c.symbols;
        own = line ∷ c.own;
        rest = c.rest;
        parted = ap (λ ls. line ∷ ls) {y = c.own ++ c.rest} c.parted;
        spelled = subst (λ b. AllZip (λ (l : TextLine) e. SpellsSymbol l.text e) (cond (not b) (line ∷ kept) kept)
            (s ∷ c.symbols)) (sym other) (spells, c.spelled);
        whole = sym (joined-cons t s c.symbols) ∙ c.whole;
        ends = c.ends;
        inputs = c.inputs;
        outputs = c.outputs;
      }

  -- a symbol's line, and what is read behind it
  record IsNameRead (t : SymbolTable) (found : Option SymbolLine) (next : SymbolTable → Result Ending LineFault)
      (ending : Ending) : Type 0 where
    symbol : SymbolLine
    made : SymbolTable
    found_is : found ≡ Some symbol
    added : add_symbol h t symbol ≡ Ok made
    goes : next made ≡ Ok ending

  name_is : (line : ℕ) (t : SymbolTable) (found : Option SymbolLine) (next : SymbolTable → Result Ending LineFault)
      (ending : Ending) → on_line line (symbol_line h t found) next ≡ Ok ending → IsNameRead t found next ending
  name_is line t None next ending read = cc
  name_is line t (Some s) next ending read =
      let on = on_line_goes line (add_symbol h t s) next ending read in
      record { symbol = s; made = on.0; found_is = refl; added = on.1; goes = on.2 }

  module _ (few_inputs : h.inputs ≤ max_count) (few_outputs : h.outputs ≤ max_count) (ending : Ending) where
    pub symbols_are : (lines : List TextLine) (t : SymbolTable) → AreNames h.inputs t.inputs →
        AreNames h.outputs t.outputs → read_symbols h t lines ≡ Ok ending → AreSymbolsRead t lines ending
    symbols_are [] t inputs outputs read =
        let last : Ending = record { symbols = t; comment = None; comment_line = None } in
        let same : last ≡ ending = cc in
        subst (AreSymbolsRead t []) same (at_last t [] last tt refl inputs outputs)
    symbols_are (line ∷ lines) t inputs outputs read =
        elim (cases_Bool (is_blank_line line.text)) [
          | inl blank ↦ blank_front t line lines ending blank
              (symbols_are lines t inputs outputs (sym (on_blank t line lines blank) ∙ read))
          | inr other ↦
              elim (cases_Bool (begins_comment line.text)) [
                | inl mark ↦
                    let last : Ending = record {
                      symbols = t;
                      comment = Some line.behind;
                      comment_line = Some (line.number + 1);
                    } in
                    let ends : Ok last ≡ Ok ending = sym (on_mark t line lines other mark) ∙ read in
                    let same : last ≡ ending = cc in
                    subst (AreSymbolsRead t (line ∷ lines)) same (at_last t (line ∷ lines) last
                    (comment_is line line.text refl mark, refl) refl inputs outputs)
                | inr symbol ↦
                    let on = name_is line.number t (symbol_of line.text) (λ more. read_symbols h more lines) ending
                    (sym (on_name t line lines other symbol) ∙ read) in
                    let s = on.symbol in
                    let adds = added_parts h t on.made s.of_input s.place s.name few_inputs few_outputs inputs outputs
                    on.added in
                    symbol_front t line lines s ending other (symbol_is line.text s on.found_is adds.small)
                    (subst (λ x. AreSymbolsRead x lines ending) (sym adds.made_is)
                    (symbols_are lines on.made adds.inputs adds.outputs on.goes))
              ]
        ]
