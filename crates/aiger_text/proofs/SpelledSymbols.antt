-- The lines behind the gates that the grammar spells are read.
use Rattle.std.proofs.Common.{◌≡◌, ℕ, ◌+◌, ◌<◌, ◌==◌, nat_lt, nat_eq, Bool, true, false, not, cond, ◌&&◌, inl, inr, is_none, List, [], ◌∷◌, ◌++◌, length, filter, Option, Some, None, Ok, refl, ◌∙◌, ap, subst, append_assoc, append-nil, arith}
use Rattle.std.specs.List.{list_any, AllZip}
use Rattle.std.specs.Map.{lookup}
use Rattle.std.proofs.lemmas.Bool.{and_from, or_parts, lt-ltb, ne_eqb, cases_Bool, cond-true, cond-false}
use Rattle.std.proofs.lemmas.List.Elements.{All-contains}
use Rattle.circuit_plain.specs.declared.circuits.Gate.{Gate}
use Rattle.dq_text.specs.Bytes.{kind_of}
use Rattle.dq_text.specs.Line.{TextLine, extend_token}
use Rattle.dq_text.specs.Token.{is_separator}
use Rattle.aiger_text.specs.Grammar.{names, AreNames, letter_of, SpellsSymbol, SpellSymbols, EndsWith}
use Rattle.dq_text.specs.BlankLine.{has_no_token, is_blank_line}
use Rattle.aiger_text.specs.Lines.{SymbolLine, add_symbol, begins_comment}
use Rattle.aiger_text.specs.Scan.{Body, finish, behind_gates, read_body}
use Rattle.aiger_text.specs.Symbol.{SymbolTable, name_at}
use Rattle.aiger_text.specs.declared.headers.Header.{Header}
use Rattle.aiger_text.specs.declared.files.AagFile.{AagFile}
use Rattle.aiger_text.proofs.SpelledNetlist.{body_with, at_symbol, on_part, is_member, not_before}
use Rattle.aiger_text.proofs.SpelledSymbolLines.{symbol_from}

-- the symbols behind those of a table
abbrev pub joined : SymbolTable → List SymbolLine → SymbolTable
joined t symbols = record {
  inputs = t.inputs ++ names (λ s. s.of_input) symbols;
  outputs =
      t.outputs ++ names (λ s. not s.of_input) symbols;
}

abbrev pub with_name : SymbolTable → SymbolLine → SymbolTable
with_name t s = cond s.of_input (record t { inputs = t.inputs ++ (s.place, s.name) ∷ [] })
    (record t { outputs = t.outputs ++ (s.place, s.name) ∷ [] })

pub joined-nil : (t : SymbolTable) → joined t [] ≡ t
joined-nil t = search (arith, append-nil)

joined_parts : (t : SymbolTable) (b : Bool) (place : ℕ) (name : List ℕ) (symbols : List SymbolLine) →
    let s : SymbolLine = record { of_input = b; place = place; name = name } in
    joined (with_name t s) symbols ≡ joined t (s ∷ symbols)
joined_parts t true place name symbols = search (arith, append_assoc)
joined_parts t false place name symbols = search (arith, append_assoc)

pub joined-cons : (t : SymbolTable) (s : SymbolLine) (symbols : List SymbolLine) →
    joined (with_name t s) symbols ≡ joined t (s ∷ symbols)
joined-cons t s symbols = joined_parts t s.of_input s.place s.name symbols

absent_from : (symbols : List (ℕ × List ℕ)) (place : ℕ) → list_any (λ s. s.0 == place) symbols ≡ false →
    lookup (nat_eq place) symbols ≡ None
absent_from [] place h = refl
absent_from (s ∷ symbols) place h = search (arith, or_parts, cond-false, nat_eq, ne_eqb, (absent_from symbols place))

-- a name of the whole table that has its place free
name_passes : (count : ℕ) (all done todo : List (ℕ × List ℕ)) (place : ℕ) (name : List ℕ) → AreNames count all →
    done ++ ((place, name) ∷ todo) ≡ all →
    (nat_lt place count && is_none (name_at done place)) ≡ true
name_passes count all done todo place name are whole =
    and_from (nat_lt place count) (is_none (name_at done place))
    (lt-ltb place count (All-contains (λ symbol. symbol.0 < count) all (place, name) are.placed
    (is_member all done todo (place, name) whole)))
    (ap is_none (absent_from done place (not_before (λ symbol. symbol.0) all done todo (place, name) whole are.once)))

pub symbol_passes : (h : Header) (table t : SymbolTable) (b : Bool) (place : ℕ) (name : List ℕ)
    (todo : List SymbolLine) →
    AreNames h.inputs table.inputs → AreNames h.outputs table.outputs →
    let s : SymbolLine = record { of_input = b; place = place; name = name } in joined t (s ∷ todo) ≡ table →
    add_symbol h t s ≡ Ok (with_name t s)
symbol_passes h table t true place name todo inputs outputs whole =
    search (arith, cond-true, (nat_lt place h.inputs), (name_passes h.inputs table.inputs t.inputs))
symbol_passes h table t false place name todo inputs outputs whole =
    search (arith, cond-true, (nat_lt place h.outputs), (name_passes h.outputs table.outputs t.outputs))

extended : (byte : ℕ) (tokens : List (List ℕ)) → has_no_token tokens ≡ false →
    has_no_token (extend_token byte tokens) ≡ false
extended byte [] h = h
extended byte (token ∷ tokens) h = refl

-- a line with a byte of a token in front isn't blank
pub not_blank : (byte : ℕ) (bytes : List ℕ) → is_separator (kind_of byte) ≡ false → is_blank_line (byte ∷ bytes) ≡ false
not_blank byte [] h = ap has_no_token (cond-false (is_separator (kind_of byte)) [] ((byte ∷ []) ∷ []) h)
not_blank byte (next ∷ bytes) h = search (arith, cond-false, cases_Bool, cond-true, (not_blank next bytes))

no_mark_parts : (b : Bool) (bytes : List ℕ) → begins_comment (letter_of b ∷ bytes) ≡ false
no_mark_parts true bytes = refl
no_mark_parts false bytes = refl

pub no_mark : (text : List ℕ) (s : SymbolLine) → SpellsSymbol text s → begins_comment text ≡ false
no_mark text s spells = search (arith, no_mark_parts)

module _ (header_line : ℕ) (h : Header) (is os : List ℕ) (gs : List Gate) (all_inputs : length is ≡ h.inputs)
    (all_outputs : length os ≡ h.outputs) (all_gates : length gs ≡ h.gates) (file : AagFile) where
  abbrev with_table : SymbolTable → Body
  with_table t = body_with header_line h t is os gs

  on_symbol : (t : SymbolTable) (line : TextLine) (lines : List TextLine) (number : ℕ) →
      read_body (with_table t) (line ∷ lines) number ≡ behind_gates (with_table t) line
      (λ c. read_body c lines (line.number + 1))
  on_symbol t line lines number = search (arith, on_part, at_symbol)

  blank_step : (t : SymbolTable) (line : TextLine) (lines : List TextLine) (number : ℕ) →
      is_blank_line line.text ≡ true →
      read_body (with_table t) lines (line.number + 1) ≡ Ok file →
      read_body (with_table t) (line ∷ lines) number ≡ Ok file
  blank_step t line lines number blank goes = search (arith, on_symbol, cond-true)

  symbol_step : (t : SymbolTable) (line : TextLine) (lines : List TextLine) (number : ℕ) (s : SymbolLine) →
      is_blank_line line.text ≡ false → SpellsSymbol line.text s →
      add_symbol h t s ≡ Ok (with_name t s) → read_body (with_table (with_name t s)) lines (line.number + 1) ≡ Ok file →
      read_body (with_table t) (line ∷ lines) number ≡ Ok file
  symbol_step t line lines number s other spells added goes =
      search (
        arith,
        (on_symbol t line lines number),
        cond-false,
        (no_mark line.text s spells),
        (symbol_from line.text s spells),
      )

  pub symbols_read : (table : SymbolTable) (behind : List TextLine) → AreNames h.inputs table.inputs →
      AreNames h.outputs table.outputs →
      ((number : ℕ) → read_body (with_table table) behind number ≡ Ok file) →
      (lines : List TextLine) (symbols : List SymbolLine) (t : SymbolTable) (number : ℕ) → joined t symbols ≡ table →
      SpellSymbols lines symbols →
      read_body (with_table t) (lines ++ behind) number ≡ Ok file
  symbols_read table behind inputs outputs next [] [] t number whole spelled = search (arith, joined-nil)
  symbols_read table behind inputs outputs next [] (s ∷ symbols) t number whole spelled = absurd spelled
  symbols_read table behind inputs outputs next (line ∷ lines) [] t number whole spelled =
      search (
        arith,
        cases_Bool,
        blank_step,
        (symbols_read table behind inputs outputs next lines [] t (line.number + 1) whole),
      )
  symbols_read table behind inputs outputs next (line ∷ lines) (s ∷ symbols) t number whole spelled =
      let own = filter (λ (l : TextLine). not (is_blank_line l.text)) lines in
      let Zip : Bool → Type 0 = λ b. AllZip (λ (l : TextLine) e. SpellsSymbol l.text e) (cond (not b) (line ∷ own) own)
      (s ∷ symbols) in
      elim (cases_Bool (is_blank_line line.text)) [
        | inl blank ↦ blank_step t line (lines ++ behind) number blank
            (symbols_read table behind inputs outputs next lines (s ∷ symbols) t (line.number + 1) whole
            (subst Zip blank spelled))
        | inr other ↦
            let both = subst Zip other spelled in
            symbol_step t line (lines ++ behind) number s other both.0
            (symbol_passes h table t s.of_input s.place s.name symbols inputs outputs whole)
            (symbols_read table behind inputs outputs next lines symbols (with_name t s) (line.number + 1)
            (joined-cons t s symbols ∙ whole) both.1)
      ]

  pub comment_read : (t : SymbolTable) (lines : List TextLine) (comment : Option (List ℕ)) (number : ℕ) →
      EndsWith lines comment →
      finish (with_table t) comment ≡ Ok file → read_body (with_table t) lines number ≡ Ok file
  comment_read t [] None number ends done = search (arith, at_symbol)
  comment_read t [] (Some comment) number ends done = absurd ends
  comment_read t (line ∷ lines) None number ends done = absurd ends
  comment_read t (line ∷ lines) (Some comment) number ends done =
      search (arith, on_symbol, cond-false, not_blank, cond-true)
