-- The lines behind the gates that are read are those that the grammar spells.
use Rattle.std.proofs.Common.{◌≡◌, ◌≢◌, ℕ, ◌+◌, ◌<◌, ◌≤◌, ◌^◌, ◌==◌, nat_lt, nat_eq, get_or, Bool, true, false, not, cond, ◌&&◌, inl, inr, is_none, List, [], ◌∷◌, ◌++◌, length, filter, Option, Some, None, Result, Ok, Err, refl, sym, ◌∙◌, ap, arith, subst}
use Rattle.std.specs.List.{AllZip}
use Rattle.std.proofs.lemmas.Bool.{and_parts, ltb-true, eqb-true, eqb-false, cases_Bool, cond-true, cond-false}
use Rattle.std.proofs.lemmas.List.Elements.{All-push, All-from_recursion}
use Rattle.std.proofs.lemmas.List.Quantifiers.{all_pairs_push}
use Rattle.std.proofs.lemmas.Map.{none_passes_from_lookup}
use Rattle.circuit_plain.specs.declared.circuits.Gate.{Gate}
use Rattle.dq_text.specs.Line.{TextLine}
use Rattle.aiger_text.specs.Grammar.{AreNames, SpellsSymbol, SpellSymbols, IsComment, EndsWith}
use Rattle.dq_text.specs.BlankLine.{is_blank_line}
use Rattle.aiger_text.specs.Lines.{SymbolLine, max_count, symbol_of, add_symbol, symbol_line, begins_comment}
use Rattle.aiger_text.specs.Scan.{Body, LineFault, finish, at_end, with_symbol, behind_gates, read_body}
use Rattle.aiger_text.specs.Symbol.{SymbolTable, name_at}
use Rattle.aiger_text.specs.declared.headers.Header.{Header}
use Rattle.aiger_text.specs.declared.files.AagFile.{AagFile}
use Rattle.aiger_text.specs.declared.faults.AagFault.{AagFault}
use Rattle.aiger_text.specs.declared.faults.AagFault.TheVariants.{BadSymbol}
use Rattle.aiger_text.specs.declared.body.NextLine.TheVariants.{SymbolLine as AtSymbol}
use Rattle.aiger_text.proofs.SpelledNetlist.{body_with, at_symbol, on_part}
use Rattle.aiger_text.proofs.SpelledSymbols.{joined, joined-nil, joined-cons, with_name}
use Rattle.aiger_text.proofs.SpelledSymbolLines.{symbol_is}

if_fault : (b : Bool) (r : SymbolTable) (table : SymbolTable) → cond b (Ok r) (Err BadSymbol) ≡ Ok table →
    (b ≡ true) × (r ≡ table)
if_fault true r table h = let same : r ≡ table = cc in (refl, same)
if_fault false r table h = cc

is_none_is : (o : Option (List ℕ)) → is_none o ≡ true → o ≡ None
is_none_is None h = refl
is_none_is (Some name) h = cc

-- a name more, at a place that has none
one_more : (count : ℕ) (symbols : List (ℕ × List ℕ)) (place : ℕ) (name : List ℕ) → AreNames count symbols →
    place < count → name_at symbols place ≡ None →
    AreNames count (symbols ++ (place, name) ∷ [])
one_more count symbols place name are below free =
    let apart = All-from_recursion (λ e. nat_eq place e.0 ≡ false) symbols
    (none_passes_from_lookup (nat_eq place) symbols free) in
    record {
      placed = All-push (λ symbol. symbol.0 < count) symbols (place, name) are.placed below;
      once = all_pairs_push (λ a b. a.0 ≢ b.0) symbols (place, name) are.once
          (λ k d within same. eqb-false place (get_or symbols k d).0 (apart k d within) (sym same));
    }

-- a symbol that passes, and the table behind it
pub record AddsSymbol (h : Header) (t made : SymbolTable) (s : SymbolLine) : Type 0 where
  pub made_is : with_name t s ≡ made
  pub small : s.place < 10 ^ 18
  pub inputs : AreNames h.inputs made.inputs
  pub outputs : AreNames h.outputs made.outputs

pub added_parts : (h : Header) (t made : SymbolTable) (b : Bool) (place : ℕ) (name : List ℕ) → h.inputs ≤ max_count →
    h.outputs ≤ max_count →
    AreNames h.inputs t.inputs → AreNames h.outputs t.outputs →
    let s : SymbolLine = record { of_input = b; place = place; name = name } in add_symbol h t s ≡ Ok made →
    AddsSymbol h t made s
added_parts h t made true place name few_inputs few_outputs inputs outputs read =
    let parts = if_fault (nat_lt place h.inputs && is_none (name_at t.inputs place))
    (record t { inputs = t.inputs ++ (place, name) ∷ [] }) made read in
    let tests = and_parts (nat_lt place h.inputs) (is_none (name_at t.inputs place)) parts.0 in
    let below = ltb-true place h.inputs tests.0 in
    record {
      made_is = parts.1;
      small = omega arith;
      inputs = subst (λ (x : SymbolTable). AreNames h.inputs x.inputs) parts.1
          (one_more h.inputs t.inputs place name inputs below (is_none_is (name_at t.inputs place) tests.1));
      outputs = subst (λ (x : SymbolTable). AreNames h.outputs x.outputs) parts.1 outputs;
    }
added_parts h t made false place name few_inputs few_outputs inputs outputs read =
    let parts = if_fault (nat_lt place h.outputs && is_none (name_at t.outputs place))
    (record t { outputs = t.outputs ++ (place, name) ∷ [] }) made read in
    let tests = and_parts (nat_lt place h.outputs) (is_none (name_at t.outputs place)) parts.0 in
    let below = ltb-true place h.outputs tests.0 in
    record {
      made_is = parts.1;
      small = omega arith;
      inputs = subst (λ (x : SymbolTable). AreNames h.inputs x.inputs) parts.1 inputs;
      outputs = subst (λ (x : SymbolTable). AreNames h.outputs x.outputs) parts.1
          (one_more h.outputs t.outputs place name outputs below (is_none_is (name_at t.outputs place) tests.1));
    }

-- what a symbol line that is read leaves
record GoesOn (h : Header) (t : SymbolTable) (found : Option SymbolLine) (b : Body)
    (next : Body → Result AagFile LineFault) (file : AagFile) : Type 0 where
  symbol : SymbolLine
  made : SymbolTable
  found_is : found ≡ Some symbol
  added : add_symbol h t symbol ≡ Ok made
  goes : next (record b { symbols = made }) ≡ Ok file

table_goes_on : (line : ℕ) (b : Body) (r : Result SymbolTable AagFault) (next : Body → Result AagFile LineFault)
    (file : AagFile) → with_symbol line b r next ≡ Ok file →
    (made : SymbolTable) × (r ≡ Ok made) × (next (record b { symbols = made }) ≡ Ok file)
table_goes_on line b (Ok made) next file read = (made, refl, read)
table_goes_on line b (Err name) next file read = cc

goes_on : (line : ℕ) (h : Header) (t : SymbolTable) (found : Option SymbolLine) (b : Body)
    (next : Body → Result AagFile LineFault) (file : AagFile) →
    with_symbol line b (symbol_line h t found) next ≡ Ok file → GoesOn h t found b next file
goes_on line h t None b next file read = cc
goes_on line h t (Some s) b next file read =
    let parts = table_goes_on line b (add_symbol h t s) next file read in
    record { symbol = s; made = parts.0; found_is = refl; added = parts.1; goes = parts.2 }

pub comment_is : (line : TextLine) (text : List ℕ) → line.text ≡ text → begins_comment text ≡ true →
    IsComment line line.behind
comment_is line [] same mark = cc
comment_is line (byte ∷ bytes) same mark =
    let parts = and_parts (byte == 99) (is_blank_line bytes) mark in
    record {
      blanks = bytes;
      mark = same ∙ ap (λ k. k ∷ bytes) (eqb-true byte 99 parts.0);
      blank = parts.1;
      behind = refl;
    }

-- the symbols and the comment that complete a reading behind the gates
pub record CompletesSymbols (h : Header) (body : SymbolTable → Body) (file : AagFile) (t : SymbolTable)
    (lines : List TextLine) : Type 0 where
  pub symbols : List SymbolLine
  pub table : SymbolTable
  pub comment : Option (List ℕ)
  pub own : List TextLine
  pub rest : List TextLine
  pub parted : lines ≡ own ++ rest
  pub spelled : SpellSymbols own symbols
  pub whole : joined t symbols ≡ table
  pub ends : EndsWith rest comment
  pub inputs : AreNames h.inputs table.inputs
  pub outputs : AreNames h.outputs table.outputs
  pub finished : finish (body table) comment ≡ Ok file

module _ (header_line : ℕ) (h : Header) (is os : List ℕ) (gs : List Gate) (all_inputs : length is ≡ h.inputs)
    (all_outputs : length os ≡ h.outputs) (all_gates : length gs ≡ h.gates)
    (few_inputs : h.inputs ≤ max_count) (few_outputs : h.outputs ≤ max_count) (file : AagFile) where
  abbrev with_table : SymbolTable → Body
  with_table t = body_with header_line h t is os gs

  abbrev ReadSymbols : SymbolTable → List TextLine → Type 0
  ReadSymbols t lines = CompletesSymbols h with_table file t lines

  at_last : (t : SymbolTable) (rest : List TextLine) (comment : Option (List ℕ)) → EndsWith rest comment →
      AreNames h.inputs t.inputs → AreNames h.outputs t.outputs →
      finish (with_table t) comment ≡ Ok file → ReadSymbols t rest
  at_last t rest comment ends inputs outputs finished = record {
    symbols = [];
    table = t;
    comment = comment;
    own = [];
    rest = rest;
    parted = refl;
    spelled = tt;
    whole = joined-nil t;
    ends = ends;
    inputs = inputs;
    outputs = outputs;
    finished = finished;
  }

  blank_front : (t : SymbolTable) (line : TextLine) (lines : List TextLine) → is_blank_line line.text ≡ true →
      ReadSymbols t lines → ReadSymbols t (line ∷ lines)
  blank_front t line lines blank c =
      let kept = filter (λ (l : TextLine). not (is_blank_line l.text)) c.own in
      record {
        symbols = c.symbols;
        table = c.table;
        comment = c.comment;
        own = line ∷ c.own;
        rest = c.rest;
        parted = ap (λ ls. line ∷ ls) {y = c.own ++ c.rest} c.parted;
        spelled = subst (λ b. AllZip (λ (l : TextLine) s. SpellsSymbol l.text s)
            (cond (not b) (line ∷ kept) kept) c.symbols) (sym blank) c.spelled;
        whole = c.whole;
        ends = c.ends;
        inputs = c.inputs;
        outputs = c.outputs;
        finished = c.finished;
      }

  symbol_front : (t : SymbolTable) (line : TextLine) (lines : List TextLine) (s : SymbolLine) →
      is_blank_line line.text ≡ false → SpellsSymbol line.text s →
      ReadSymbols (with_name t s) lines → ReadSymbols t (line ∷ lines)
  symbol_front t line lines s other spells c =
      let kept = filter (λ (l : TextLine). not (is_blank_line l.text)) c.own in
      record {
        symbols = s ∷ c.symbols;
        table = c.table;
        comment = c.comment;
        own = line ∷ c.own;
        rest = c.rest;
        parted = ap (λ ls. line ∷ ls) {y = c.own ++ c.rest} c.parted;
        spelled = subst (λ b. AllZip (λ (l : TextLine) e. SpellsSymbol l.text e) (cond (not b) (line ∷ kept) kept)
            (s ∷ c.symbols)) (sym other) (spells, c.spelled);
        whole = sym (joined-cons t s c.symbols) ∙ c.whole;
        ends = c.ends;
        inputs = c.inputs;
        outputs = c.outputs;
        finished = c.finished;
      }

  pub symbols_spelled : (lines : List TextLine) (t : SymbolTable) (number : ℕ) → AreNames h.inputs t.inputs →
      AreNames h.outputs t.outputs →
      read_body (with_table t) lines number ≡ Ok file → ReadSymbols t lines
  symbols_spelled [] t number inputs outputs read =
      at_last t [] None tt inputs outputs
      (sym (ap (λ p. at_end p (with_table t) number) (at_symbol header_line h t is os gs all_inputs all_outputs
      all_gates)) ∙ read)
  symbols_spelled (line ∷ lines) t number inputs outputs read =
      let b = with_table t in
      let next : Body → Result AagFile LineFault = λ c. read_body c lines (line.number + 1) in
      let named = with_symbol line.number b (symbol_line h t (symbol_of line.text)) next in
      let behind : behind_gates b line next ≡ Ok file =
      sym (on_part AtSymbol b line lines number (at_symbol header_line h t is os gs all_inputs all_outputs all_gates))
      ∙ read in
      elim (cases_Bool (is_blank_line line.text)) [
        | inl blank ↦ blank_front t line lines blank
            (symbols_spelled lines t (line.number + 1) inputs outputs
            (sym (cond-true (is_blank_line line.text) (next b) _ blank) ∙ behind))
        | inr other ↦
            let more : cond (begins_comment line.text) (finish b (Some line.behind)) named ≡ Ok file =
            sym (cond-false (is_blank_line line.text) (next b) _ other) ∙ behind in
            elim (cases_Bool (begins_comment line.text)) [
              | inl mark ↦ at_last t (line ∷ lines) (Some line.behind)
                  (comment_is line line.text refl mark) inputs outputs
                  (sym (cond-true (begins_comment line.text) (finish b (Some line.behind)) named mark) ∙ more)
              | inr symbol ↦
                  let on = goes_on line.number h t (symbol_of line.text) b next file
                  (sym (cond-false (begins_comment line.text) (finish b (Some line.behind)) named symbol) ∙ more) in
                  let s = on.symbol in
                  let adds = added_parts h t on.made s.of_input s.place s.name few_inputs few_outputs inputs outputs
                  on.added in
                  symbol_front t line lines s other (symbol_is line.text s on.found_is adds.small)
                  (subst (λ x. ReadSymbols x lines) (sym adds.made_is)
                  (symbols_spelled lines on.made (line.number + 1) adds.inputs adds.outputs on.goes))
            ]
      ]
