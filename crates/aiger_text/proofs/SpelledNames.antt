-- A circuit file that a text spells is spellable.
use Rattle.std.proofs.Common.{◌≡◌, ℕ, ◌+◌, ◌==◌, Bool, false, List, [], ◌∷◌, refl, ap, arith}
use Rattle.std.specs.List.{AllByRecursion}
use Rattle.std.proofs.lemmas.Bool.{cases_Bool, cond-true, cond-false}
use Rattle.std.proofs.lemmas.List.Elements.{All-from_recursion}
use Rattle.list_laws.proofs.Sequences.{all_behind, all_before}
use Rattle.dq_text.specs.Line.{TextLine, extend_line, lines_from}
use Rattle.dq_text.proofs.LineWords.{AreNoFeed}
use Rattle.aiger_text.specs.Grammar.{names, SpellsSymbol, SpellSymbols, SpellsCircuit}
use Rattle.aiger_text.specs.Lines.{SymbolLine, keep_byte, without_end_crs}
use Rattle.aiger_text.specs.Spellable.{IsName, IsSpellable}
use Rattle.aiger_text.specs.declared.files.AagFile.{AagFile}

abbrev AreLines : List TextLine → Type 0
AreLines lines = AllByRecursion (λ (l : TextLine). AreNoFeed l.text) lines

-- no line holds an LF
extended : (byte n : ℕ) (lines : List TextLine) → (byte == 10) ≡ false → AreLines lines →
    AreLines (extend_line byte n lines)
extended byte n [] other are = ((other, tt), tt)
extended byte n (line ∷ lines) other are = ((other, are.0), are.1)

lines_no_feed : (n : ℕ) (bytes : List ℕ) → AreLines (lines_from n bytes)
lines_no_feed n [] = tt
lines_no_feed n (byte ∷ bytes) = search (arith, cases_Bool, (lines_no_feed (n + 1) bytes), (lines_no_feed n bytes))

-- a name without the CRs at its end
kept_no_feed : (byte : ℕ) (bytes : List ℕ) → (byte == 10) ≡ false → AreNoFeed bytes → AreNoFeed (keep_byte byte bytes)
kept_no_feed byte [] other none = search (arith, cases_Bool, cond-true, cond-false)
kept_no_feed byte (next ∷ bytes) other none = (other, none)

name_no_feed : (bytes : List ℕ) → AreNoFeed bytes → AreNoFeed (without_end_crs bytes)
name_no_feed [] none = tt
name_no_feed (byte ∷ bytes) none = kept_no_feed byte (without_end_crs bytes) none.0 (name_no_feed bytes none.1)

kept_twice : (byte : ℕ) (bytes : List ℕ) → without_end_crs bytes ≡ bytes →
    without_end_crs (keep_byte byte bytes) ≡ keep_byte byte bytes
kept_twice byte [] same = search (arith, cases_Bool, cond-true, cond-false)
kept_twice byte (next ∷ bytes) same = ap (keep_byte byte) same

cut_twice : (bytes : List ℕ) → without_end_crs (without_end_crs bytes) ≡ without_end_crs bytes
cut_twice [] = refl
cut_twice (byte ∷ bytes) = kept_twice byte (without_end_crs bytes) (cut_twice bytes)

symbol_named : (text : List ℕ) (s : SymbolLine) → AreNoFeed text → SpellsSymbol text s → IsName s.name
symbol_named text s none spells = search (arith, all_behind, name_no_feed, All-from_recursion, cut_twice)

symbols_named : (lines : List TextLine) (symbols : List SymbolLine) → AreLines lines → SpellSymbols lines symbols →
    AllByRecursion (λ s. IsName s.name) symbols
symbols_named [] [] are spelled = tt
symbols_named [] (s ∷ symbols) are spelled = absurd spelled
symbols_named (line ∷ lines) [] are spelled = tt
symbols_named (line ∷ lines) (s ∷ symbols) are spelled =
    search (
      arith,
      cases_Bool,
      (symbols_named lines (s ∷ symbols) are.1),
      (symbol_named line.text s are.0),
      (symbols_named lines symbols are.1),
    )

names_named : (of_kind : SymbolLine → Bool) (symbols : List SymbolLine) → AllByRecursion (λ s. IsName s.name) symbols →
    AllByRecursion (λ x. IsName x.1) (names of_kind symbols)
names_named of_kind [] are = tt
names_named of_kind (s ∷ symbols) are = search (arith, cases_Bool, (names_named of_kind symbols are.1))

pub spelled_is_spellable : (text : List ℕ) (file : AagFile) → SpellsCircuit text file → IsSpellable file
spelled_is_spellable text file spells =
    search (arith, lines_no_feed, all_behind, symbols_named, all_before, All-from_recursion, names_named)
