-- Rows side by side in words: how they are written, and the values that are read from them.
use Rattle.std.proofs.Common.{◌≡◌, ◌≢◌, ℕ, ◌+◌, ◌<◌, ◌≤◌, Bool, false, ◌==◌, List, [], ◌∷◌, ◌++◌, map, length, get_or, take, drop, min, ◌*◌, sym, ◌∙◌, ap, subst, arith, length-append}
use Rattle.std.specs.List.{All}
use Rattle.std.proofs.Math.Seq.{take-append_seam}
use Rattle.std.proofs.lemmas.List.{get_or_past}
use Rattle.std.proofs.lemmas.Nat.Bits.{bit_at-zero}
use Rattle.std.proofs.lemmas.Option.{slice_get-get_or}
use Rattle.list_laws.proofs.Numbers.{below_or_here}
use Rattle.dq_lits.specs.Row.{bit_of}
use Rattle.aig_graph.specs.Graph.{AigGraph, node_value}
use Rattle.aig_graph.specs.Words.{word_bit, row_at}
use Rattle.aig_graph.specs.declared.nodes.Node.{Node}
use Rattle.candidate_functions.specs.Differing.{values_under, AreValues, AreWordsFrom}
use Rattle.candidate_functions.proofs.KnownPoints.{row_valued}

-- how far the word of an input was written
pub record IsWordSoFar (rows : List (List Bool)) (first place b word : ℕ) : Type 0 where
  pub bits : (j : ℕ) → j < b → word_bit j word ≡ bit_of (get_or rows (first + j) []) place
  pub clear : (j : ℕ) → b ≤ j → word_bit j word ≡ false

pub no_bit : (b : ℕ) → word_bit b 0 ≡ false
no_bit b = ap (λ n. n == 1) (bit_at-zero b)

pub word_begins : (rows : List (List Bool)) (first place : ℕ) → IsWordSoFar rows first place 0 0
word_begins rows first place = search arith

pub word_goes_on : (rows : List (List Bool)) (first place b word next : ℕ) → IsWordSoFar rows first place b word →
    word_bit b next ≡ bit_of (get_or rows (first + b) []) place →
    ((j : ℕ) → j ≢ b → word_bit j next ≡ word_bit j word) → IsWordSoFar rows first place (b + 1) next
word_goes_on rows first place b word next before here others = search (arith, below_or_here)

-- how many of the inputs' words were made
pub record AreInputsSoFar (rows : List (List Bool)) (first count : ℕ) (words : List ℕ) : Type 0 where
  pub long : length words ≡ count
  pub bits : (b i : ℕ) → b < 64 → i < count → row_at words b i ≡ bit_of (get_or rows (first + b) []) i

-- the words have the rows
same_row : (words : List ℕ) (row : List Bool) (b : ℕ) → length row ≤ length words →
    ((i : ℕ) → i < length words → row_at words b i ≡ bit_of row i) → row_at words b ≡ bit_of row
same_row words row b short bits = search (arith, get_or_past, no_bit)

short_row : (rows : List (List Bool)) (inputs k : ℕ) → All (λ row. length row ≤ inputs) rows →
    length (get_or rows k []) ≤ inputs
short_row rows inputs k short = search (arith, get_or_past)

pub words_from : (rows : List (List Bool)) (graph : AigGraph) (nodes : List Node) (first : ℕ) (inputs words : List ℕ) →
    All (λ row. length row ≤ length inputs) rows →
    ((b i : ℕ) → b < 64 → i < length inputs → row_at inputs b i ≡ bit_of (get_or rows (first + b) []) i) →
    ((b : ℕ) → b < 64 → map (word_bit b) words ≡ map (node_value graph (row_at inputs b)) nodes) →
    AreWordsFrom rows graph nodes first words
words_from rows graph nodes first inputs words short bits values b below =
    let row = get_or rows (first + b) [] in
    values b below ∙ ap (λ m. map (node_value graph m) nodes)
    (same_row inputs row b (short_row rows (length inputs) (first + b) short) (λ i inside. bits b i below inside))

-- what a list that was lent has behind the call
pub lent_back : (old new : List ℕ) (count : ℕ) → count ≡ length new →
    take count (new ++ drop (length new) old) ≡ new
lent_back old new count long = search (arith, take-append_seam)

-- how many rows were added
pub record ArePushed (rows : List (List Bool)) (graph : AigGraph) (nodes : List Node) (old values : List (List Bool))
    (b : ℕ) : Type 0 where
  pub are : AreValues rows graph nodes values
  pub long : length values ≡ length old + b

pub pushed_more : (rows : List (List Bool)) (graph : AigGraph) (nodes : List Node) (words : List ℕ)
    (old values next : List (List Bool)) (row : List Bool) (b : ℕ) → b < 64 →
    AreWordsFrom rows graph nodes (length old) words → length old + b < length rows →
    ArePushed rows graph nodes old values b → row ≡ map (word_bit b) words → next ≡ values ++ row ∷ [] →
    ArePushed rows graph nodes old next (b + 1)
pushed_more rows graph nodes words old values next row b below from inside before row_is next_is =
    let k = length old + b in
    let more : length (values ++ row ∷ []) ≡ k + 1 =
    length-append values (row ∷ []) ∙ ap (λ n. n + 1) before.long in
    subst (λ v. ArePushed rows graph nodes old v (b + 1)) (sym next_is) (record {
      are = subst (λ n. values ++ row ∷ [] ≡ map (values_under graph nodes) (take n rows)) (sym more)
          (row_valued rows graph nodes k (get_or rows k []) row values (slice_get-get_or rows k [] inside)
          (row_is ∙ from b below)
          (subst (λ n. values ≡ map (values_under graph nodes) (take n rows)) before.long before.are));
      long = more ∙ (let e : length old + b + 1 ≡ length old + (b + 1) = omega arith in e);
    })

-- the same of whatever table and graph the words are
pub record AreRowsPushed (words : List ℕ) (old values : List (List Bool)) (count b : ℕ) : Type 0 where
  pub long : length values ≡ length old + b
  pub are : (rows : List (List Bool)) (graph : AigGraph) (nodes : List Node) → AreValues rows graph nodes old →
      AreWordsFrom rows graph nodes (length old) words → length old + count ≤ length rows →
      ArePushed rows graph nodes old values b

-- how many parts of the rows were seen
pub record AreSeen (rows : List (List Bool)) (graph : AigGraph) (nodes : List Node) (count part : ℕ)
    (values : List (List Bool)) : Type 0 where
  pub are : AreValues rows graph nodes values
  pub long : length values ≡ min count (part * 64)
