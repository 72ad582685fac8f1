-- The symbols of a circuit's text are names on the page.
use Rattle.std.proofs.Common.{◌≡◌, ◌≢◌, ℕ, ◌<◌, ◌==◌, ◌⊎◌, inl, inr, Bool, true, false, not, ◌&&◌, cond, List, [], ◌∷◌, ◌++◌, length, map, get_or, Option, Some, None, refl, sym, ◌∙◌, ap, subst, arith}
use Rattle.std.specs.List.{AllPairs, AllByRecursion, AllZip, filter, list_all}
use Rattle.std.proofs.lemmas.List.{get_or-map, length-map, map-append}
use Rattle.std.proofs.lemmas.List.Kept.{AllPairs-cons}
use Rattle.std.proofs.lemmas.List.Elements.{All-from_recursion}
use Rattle.dq_text.specs.BlankLine.{has_no_token, is_blank_line}
use Rattle.dq_text.specs.Line.{TextLine}
use Rattle.aiger_text.specs.Grammar.{letter_of, table_of, AreNames, EndsWith, SpellsSymbol, SpellSymbols}
use Rattle.aiger_text.specs.Lines.{SymbolLine, keep_byte, without_end_crs}
use Rattle.aiger_text.specs.Symbol.{SymbolTable}
use Rattle.headline.specs.Headline.{Named, SpellsName, SpellsNames, IsEnd, is_space, words}
use Rattle.headline_laws.proofs.Declarations.{Apart, pairs_rec}
use Rattle.headline_laws.proofs.Skolems.{entry_of, page_name, page_names}
use Rattle.headline_laws.proofs.Tokens.{texts, words_are}

-- a line without a word
pub blank_same : (line : List ℕ) → list_all is_space line ≡ is_blank_line line
blank_same line = by_words line ∙ ap has_no_token (words_are line) where
  by_words : (line : List ℕ) → list_all is_space line ≡ has_no_token (words line)
  by_words [] = refl
  by_words (byte ∷ bytes) = search (arith, (by_words bytes))

-- a name, and the CRs behind it
record HasEnds (rest name : List ℕ) : Type 0 where
  pub ends : List ℕ
  pub parts : rest ≡ name ++ ends
  pub crs : list_all (λ byte. byte == 13) ends ≡ true

with_ends : (rest : List ℕ) → HasEnds rest (without_end_crs rest)
with_ends [] = record { ends = []; parts = refl; crs = refl }
with_ends (byte ∷ bytes) = by (without_end_crs bytes) (with_ends bytes) where
  by : (name : List ℕ) → HasEnds bytes name → HasEnds (byte ∷ bytes) (keep_byte byte name)
  by [] has = last (byte == 13) refl where
    last : (b : Bool) → (byte == 13) ≡ b → HasEnds (byte ∷ bytes) (cond b [] (byte ∷ []))
    last true at = record {
      ends = byte ∷ has.ends;
      parts = ap (λ bs. byte ∷ bs) has.parts;
      crs = ap (λ b. b && list_all (λ c. c == 13) has.ends) at ∙ has.crs;
    }
    last false at = record { ends = has.ends; parts = ap (λ bs. byte ∷ bs) has.parts; crs = has.crs }
  by (n ∷ name) has = record { ends = has.ends; parts = ap (λ bs. byte ∷ bs) has.parts; crs = has.crs }

name_spelled : (line : List ℕ) (s : SymbolLine) → SpellsSymbol line s → SpellsName line (page_name s)
name_spelled line s h = search (arith, (with_ends h.rest))

kept_lines : (ls : List TextLine) → filter (λ line. not (list_all is_space line)) (texts ls)
    ≡ texts (filter (λ l. not (is_blank_line l.text)) ls)
kept_lines [] = refl
kept_lines (l ∷ ls) = search (arith, blank_same, (kept_lines ls))

zipped : (ls : List TextLine) (ss : List SymbolLine) → AllZip (λ (l : TextLine) s. SpellsSymbol l.text s) ls ss →
    AllZip SpellsName (texts ls) (page_names ss)
zipped [] [] h = tt
zipped [] (s ∷ ss) h = absurd h
zipped (l ∷ ls) [] h = absurd h
zipped (l ∷ ls) (s ∷ ss) h = (name_spelled l.text s h.0, zipped ls ss h.1)

-- each letter and place once
abbrev places : List SymbolLine → List ℕ
places symbols = map (λ (s : SymbolLine). s.place) symbols

abbrev Differ : SymbolLine → SymbolLine → Type 0
Differ s t = (letter_of s.of_input ≢ letter_of t.of_input) ⊎ (s.place ≢ t.place)

abbrev AreApart : List SymbolLine → Type 0
AreApart [] = Unit {0}
AreApart (s ∷ symbols) = AllByRecursion (Differ s) symbols × AreApart symbols

from_inputs : (s : SymbolLine) → s.of_input ≡ true → (symbols : List SymbolLine) →
    AllByRecursion (λ p. s.place ≢ p) (places (filter (λ t. t.of_input) symbols)) → AllByRecursion (Differ s) symbols
from_inputs s is [] all = tt
from_inputs s is (t ∷ symbols) all = by t.of_input refl (λ rest. from_inputs s is symbols rest) all where
  by : (b : Bool) → t.of_input ≡ b →
      (AllByRecursion (λ p. s.place ≢ p) (places (filter (λ u. u.of_input) symbols)) → AllByRecursion (Differ s) symbols) →
      AllByRecursion (λ p. s.place ≢ p) (places (cond b (t ∷ filter (λ u. u.of_input) symbols) (filter (λ u. u.of_input) symbols))) →
      AllByRecursion (Differ s) (t ∷ symbols)
  by true at later each = (inr each.0, later each.1)
  by false at later each = (inl (λ same. letters (sym (ap letter_of is) ∙ (same ∙ ap letter_of at))), later each) where
    letters : letter_of true ≡ letter_of false → ⊥
    letters e = absurd (omega (arith, e))

from_outputs : (s : SymbolLine) → s.of_input ≡ false → (symbols : List SymbolLine) →
    AllByRecursion (λ p. s.place ≢ p) (places (filter (λ t. not t.of_input) symbols)) → AllByRecursion (Differ s) symbols
from_outputs s is [] all = tt
from_outputs s is (t ∷ symbols) all = by t.of_input refl (λ rest. from_outputs s is symbols rest) all where
  by : (b : Bool) → t.of_input ≡ b →
      (AllByRecursion (λ p. s.place ≢ p) (places (filter (λ u. not u.of_input) symbols)) → AllByRecursion (Differ s) symbols) →
      AllByRecursion (λ p. s.place ≢ p) (places (cond (not b) (t ∷ filter (λ u. not u.of_input) symbols) (filter (λ u. not u.of_input) symbols))) →
      AllByRecursion (Differ s) (t ∷ symbols)
  by false at later each = (inr each.0, later each.1)
  by true at later each = (inl (λ same. letters (sym (ap letter_of is) ∙ (same ∙ ap letter_of at))), later each) where
    letters : letter_of false ≡ letter_of true → ⊥
    letters e = absurd (omega (arith, e))

all_apart : (symbols : List SymbolLine) → Apart (places (filter (λ t. t.of_input) symbols)) →
    Apart (places (filter (λ t. not t.of_input) symbols)) → AreApart symbols
all_apart [] inputs outputs = tt
all_apart (s ∷ symbols) inputs outputs = by s.of_input refl inputs outputs (λ a b. all_apart symbols a b) where
  by : (b : Bool) → s.of_input ≡ b →
      Apart (places (cond b (s ∷ filter (λ t. t.of_input) symbols) (filter (λ t. t.of_input) symbols))) →
      Apart (places (cond (not b) (s ∷ filter (λ t. not t.of_input) symbols) (filter (λ t. not t.of_input) symbols))) →
      (Apart (places (filter (λ t. t.of_input) symbols)) → Apart (places (filter (λ t. not t.of_input) symbols)) → AreApart symbols) →
      AreApart (s ∷ symbols)
  by true is a b rest = (from_inputs s is symbols a.0, rest a.1 b)
  by false is a b rest = (from_outputs s is symbols b.0, rest a b.1)

entries_apart : (symbols : List SymbolLine) (entries : List (ℕ × List ℕ)) → entries ≡ map entry_of symbols →
    AllPairs (λ (a : ℕ × List ℕ) (b : ℕ × List ℕ). a.0 ≢ b.0) entries → AllPairs (λ v w. v ≢ w) (places symbols)
entries_apart symbols entries are pairs i j d less below =
    let there : j < length symbols = omega (arith, below, length-map symbols (λ (s : SymbolLine). s.place)) in
    let here : i < length symbols = omega (arith, less, there) in
    let long : length entries ≡ length symbols = ap length are ∙ length-map symbols entry_of in
    let e : SymbolLine = record { of_input = true; place = 0; name = [] } in
    let first = get_or-map (λ (s : SymbolLine). s.place) symbols i e d here in
    let second = get_or-map (λ (s : SymbolLine). s.place) symbols j e d there in
    let one : get_or entries i (entry_of e) ≡ entry_of (get_or symbols i e) =
    ap (λ es. get_or es i (entry_of e)) are ∙ get_or-map entry_of symbols i e (entry_of e) here in
    let other : get_or entries j (entry_of e) ≡ entry_of (get_or symbols j e) =
    ap (λ es. get_or es j (entry_of e)) are ∙ get_or-map entry_of symbols j e (entry_of e) there in
    λ same. pairs i j (entry_of e) less (omega (arith, there, long))
    (ap (λ (p : ℕ × List ℕ). p.0) one ∙ (sym first ∙ (same ∙ (second ∙ sym (ap (λ (p : ℕ × List ℕ). p.0) other)))))

apart_names : (symbols : List SymbolLine) → AreApart symbols →
    AllPairs (λ (s : Named) (t : Named). (s.letter ≢ t.letter) ⊎ (s.place ≢ t.place)) (page_names symbols)
apart_names [] all = λ i j d less below. absurd (omega (arith, below))
apart_names (s ∷ symbols) all =
    AllPairs-cons (λ (s : Named) (t : Named). (s.letter ≢ t.letter) ⊎ (s.place ≢ t.place)) (page_name s) (page_names symbols)
    (All-from_recursion (λ (t : Named). (letter_of s.of_input ≢ t.letter) ⊎ (s.place ≢ t.place)) (page_names symbols)
    (each symbols all.0))
    (apart_names symbols all.1)
  where
    each : (ts : List SymbolLine) → AllByRecursion (Differ s) ts →
        AllByRecursion (λ (t : Named). (letter_of s.of_input ≢ t.letter) ⊎ (s.place ≢ t.place)) (page_names ts)
    each [] h = tt
    each (t ∷ ts) h = (h.0, each ts h.1)

pub names_spelled : (symbol_lines comment_lines : List TextLine) (symbols : List SymbolLine) (table : SymbolTable)
    (inputs outputs : ℕ) → table ≡ table_of symbols → AreNames inputs table.inputs → AreNames outputs table.outputs →
    SpellSymbols symbol_lines symbols → IsEnd (texts comment_lines) →
    SpellsNames (texts (symbol_lines ++ comment_lines)) (page_names symbols)
names_spelled symbol_lines comment_lines symbols table inputs outputs is ins outs spelled end = record {
  symbols = texts symbol_lines;
  end = texts comment_lines;
  parts = map-append (λ (l : TextLine). l.text) symbol_lines comment_lines;
  symbols_are = subst (λ ls. AllZip SpellsName ls (page_names symbols)) (sym (kept_lines symbol_lines))
      (zipped (filter (λ l. not (is_blank_line l.text)) symbol_lines) symbols spelled);
  once = apart_names symbols (all_apart symbols
      (pairs_rec (places (filter (λ t. t.of_input) symbols)) (entries_apart (filter (λ t. t.of_input) symbols) table.inputs
      (ap (λ (t : SymbolTable). t.inputs) is) ins.once))
      (pairs_rec (places (filter (λ t. not t.of_input) symbols)) (entries_apart (filter (λ t. not t.of_input) symbols) table.outputs
      (ap (λ (t : SymbolTable). t.outputs) is) outs.once)));
  end_is = end;
}

pub ends_on_page : (ls : List TextLine) (comment : Option (List ℕ)) → EndsWith ls comment → IsEnd (texts ls)
ends_on_page [] comment h = tt
ends_on_page (l ∷ ls) None h = absurd h
ends_on_page (l ∷ ls) (Some comment) h = (h.blanks, h.mark, blank_same h.blanks ∙ h.blank)
