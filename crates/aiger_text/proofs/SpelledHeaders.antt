-- Header lines, as their reader takes them and as the grammar spells them.
use Rattle.std.proofs.Common.{◌≡◌, ℕ, zero, suc, ◌+◌, ◌≤◌, ◌==◌, nat_lt, Bool, true, false, not, cond, ◌||◌, List, [], ◌∷◌, length, replicate, map, Option, Some, None, Result, Ok, Err, refl, ◌∙◌, ap, arith}
use Rattle.std.specs.List.{list_any, AllByRecursion}
use Rattle.std.specs.Str.{bytes_eq}
use Rattle.std.proofs.lemmas.Bool.{or_from, or_parts, le-ltb, ltb-false, eqb-true, not-false, cond-true, cond-false}
use Rattle.std.proofs.lemmas.List.{length-replicate}
use Rattle.std.proofs.lemmas.Slice.Eq.{bytes_eq-Decides}
use Rattle.dq_text.specs.Line.{line_tokens}
use Rattle.dq_text.specs.Number.{number_of}
use Rattle.aiger_text.specs.Grammar.{naturals, SpellsHeader}
use Rattle.aiger_text.specs.Lines.{numbers_of, max_count, counts_of, limited_counts_of, header_numbers, header_behind}
use Rattle.aiger_text.specs.declared.headers.Header.{Header}
use Rattle.aiger_text.specs.declared.faults.AagFault.{AagFault}
use Rattle.aiger_text.specs.declared.faults.AagFault.TheVariants.{BadHeader, NotCombinational, TooBig}
use Rattle.aiger_text.proofs.NaturalTokens.{IsSmallNumber, numbers_are, numbers_from}

zeros_small : (n : ℕ) → list_any (λ k. nat_lt max_count k) (replicate n 0) ≡ false
zeros_small zero = refl
zeros_small (suc n) = search (arith, or_from, nat_lt, replicate, (zeros_small n))

zeros_none : (n : ℕ) → list_any (λ k. not (k == 0)) (replicate n 0) ≡ false
zeros_none zero = refl
zeros_none (suc n) = zeros_none n

zeros_are : (ns : List ℕ) → list_any (λ k. not (k == 0)) ns ≡ false → ns ≡ replicate (length ns) 0
zeros_are [] h = refl
zeros_are (n ∷ ns) h = search (arith, or_parts, eqb-true, not-false, (zeros_are ns))

pub header_from : (form text : List ℕ) (h : Header) → SpellsHeader form text h →
    header_behind form (line_tokens text) ≡ Ok h
header_from form text h spells =
    let zs : List ℕ = replicate spells.zeros 0 in
    let ns : List ℕ = h.max_var ∷ h.inputs ∷ 0 ∷ h.outputs ∷ h.gates ∷ zs in
    let Large : ℕ → Bool = λ n. nat_lt max_count n in
    let long : length zs ≡ spells.zeros = length-replicate spells.zeros 0 in
    let counted : length ns ≡ 5 + spells.zeros = omega arith in
    let shaped = or_from (nat_lt (length ns) 5) (nat_lt 9 (length ns)) (le-ltb (length ns) 5 (omega arith))
    (le-ltb 9 (length ns) (omega (arith, spells.few_sections))) in
    let small = or_from (Large h.max_var) (list_any Large (h.inputs ∷ 0 ∷ h.outputs ∷ h.gates ∷ zs))
    (le-ltb max_count h.max_var (omega arith))
    (or_from (Large h.inputs) (list_any Large (0 ∷ h.outputs ∷ h.gates ∷ zs)) (le-ltb max_count h.inputs (omega arith))
    (or_from (Large 0) (list_any Large (h.outputs ∷ h.gates ∷ zs)) refl
    (or_from (Large h.outputs) (list_any Large (h.gates ∷ zs)) (le-ltb max_count h.outputs (omega arith))
    (or_from (Large h.gates) (list_any Large zs) (le-ltb max_count h.gates (omega arith))
    (zeros_small spells.zeros))))) in
    ap (header_behind form) spells.word
    ∙ cond-true (bytes_eq form form) (header_numbers (numbers_of spells.tokens)) (Err BadHeader)
    ((bytes_eq-Decides form form).1 refl)
    ∙ ap header_numbers (numbers_from spells.tokens ns spells.numbers)
    ∙ cond-false (nat_lt (length ns) 5 || nat_lt 9 (length ns)) (Err BadHeader) (limited_counts_of ns) shaped
    ∙ cond-false (list_any Large ns) (Err TooBig) (counts_of ns) small
    ∙ cond-false (list_any (λ n. not (n == 0)) zs) (Err NotCombinational) _ (zeros_none spells.zeros)
    ∙ cond-false (nat_lt h.max_var (h.inputs + h.gates)) (Err BadHeader) (Ok h)
    (le-ltb h.max_var (h.inputs + h.gates) spells.enough)

unless_error : (b : Bool) (name : AagFault) (r : Result Header AagFault) (h : Header) → cond b (Err name) r ≡ Ok h →
    (b ≡ false) × (r ≡ Ok h)
unless_error true name r h same = cc
unless_error false name r h same = (refl, same)

if_error : (b : Bool) (name : AagFault) (r : Result Header AagFault) (h : Header) → cond b r (Err name) ≡ Ok h →
    (b ≡ true) × (r ≡ Ok h)
if_error true name r h same = (refl, same)
if_error false name r h same = cc

small_are : (ns : List ℕ) → list_any (λ n. nat_lt max_count n) ns ≡ false → AllByRecursion IsSmallNumber ns
small_are [] h = tt
small_are (n ∷ ns) h = search (arith, or_parts, nat_lt, ltb-false, (small_are ns))

counts_are : (form text : List ℕ) (tokens : List (List ℕ)) (ns : List ℕ) (h : Header) →
    line_tokens text ≡ form ∷ tokens → map number_of tokens ≡ naturals ns →
    5 ≤ length ns → length ns ≤ 9 → list_any (λ n. nat_lt max_count n) ns ≡ false → counts_of ns ≡ Ok h →
    SpellsHeader form text h
counts_are form text tokens [] h word numbers enough few small counts = absurd (omega arith)
counts_are form text tokens (m ∷ []) h word numbers enough few small counts = absurd (omega arith)
counts_are form text tokens (m ∷ i ∷ []) h word numbers enough few small counts = absurd (omega arith)
counts_are form text tokens (m ∷ i ∷ l ∷ []) h word numbers enough few small counts = absurd (omega arith)
counts_are form text tokens (m ∷ i ∷ l ∷ o ∷ []) h word numbers enough few small counts = absurd (omega arith)
counts_are form text tokens (m ∷ i ∷ l ∷ o ∷ a ∷ zs) h word numbers enough few small counts =
    search (
      arith,
      or_parts,
      unless_error,
      (nat_lt m (i + a)),
      (or_parts (not (l == 0))),
      (unless_error (nat_lt m (i + a))),
      (eqb-true l 0),
      (not-false (l == 0)),
      (zeros_are zs),
      (ltb-false m (i + a)),
      ltb-false,
    )

numbers_spell : (form text : List ℕ) (tokens : List (List ℕ)) (found : Option (List ℕ)) (h : Header) →
    line_tokens text ≡ form ∷ tokens → numbers_of tokens ≡ found →
    header_numbers found ≡ Ok h → SpellsHeader form text h
numbers_spell form text tokens None h word are read = cc
numbers_spell form text tokens (Some ns) h word are read =
    let shaped = unless_error (nat_lt (length ns) 5 || nat_lt 9 (length ns)) BadHeader (limited_counts_of ns) h read in
    let bounds = or_parts (nat_lt (length ns) 5) (nat_lt 9 (length ns)) shaped.0 in
    let small = unless_error (list_any (λ n. nat_lt max_count n) ns) TooBig (counts_of ns) h shaped.1 in
    counts_are form text tokens ns h word (numbers_are tokens ns are (small_are ns small.0))
    (ltb-false (length ns) 5 bounds.0) (ltb-false 9 (length ns) bounds.1) small.0 small.1

tokens_spell : (form text : List ℕ) (tokens : List (List ℕ)) (h : Header) → line_tokens text ≡ tokens →
    header_behind form tokens ≡ Ok h → SpellsHeader form text h
tokens_spell form text [] h are read = cc
tokens_spell form text (word ∷ tokens) h are read =
    search (arith, if_error, (numbers_spell form text tokens), (bytes_eq-Decides word form))

pub header_is : (form text : List ℕ) (h : Header) → header_behind form (line_tokens text) ≡ Ok h →
    SpellsHeader form text h
header_is form text h read = tokens_spell form text (line_tokens text) h refl read
