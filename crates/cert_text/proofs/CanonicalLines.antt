-- The canonical text of a refutation spells it.
use Rattle.std.proofs.Common.{◌≡◌, ℕ, ◌+◌, ◌*◌, ◌^◌, ◌≤◌, ◌<◌, pos, Bool, true, false, not, ◌||◌, cond, List, [], ◌∷◌, ◌++◌, map, length, codes, refl, sym, ◌∙◌, ap, ap₂, arith, subst, append_assoc, append-nil}
use Rattle.std.specs.Fmt.{decimal}
use Rattle.std.specs.List.{AllByRecursion, AllZip, flat_map, list_any, zip}
use Rattle.std.proofs.Math.Nat.{mul-le-mul}
use Rattle.std.proofs.lemmas.Grind.{flat_map-append}
use Rattle.std.proofs.lemmas.List.Elements.{recursion_from_All}
use Rattle.dq_lits.specs.Derivation.{ProofStep}
use Rattle.dq_lits.specs.Formula.{Dqbf}
use Rattle.dq_lits.specs.Literal.{Literal, positive, negative, variable_of, is_negative, dimacs_number}
use Rattle.rup_core.specs.Items.{ProofItem, derived, gone}
use Rattle.dq_formula.specs.Prefix.{IsLawful}
use Rattle.dq_text.specs.Number.{number_of}
use Rattle.dq_text.specs.declared.numbers.Number.TheVariants.{Int}
use Rattle.dq_text.specs.Written.{number_text, line_end}
use Rattle.cert_text.specs.Canonical.{signed_text, literal_text, header_text, row_text, step_text, deletion_text, item_text, version_for, canonical}
use Rattle.cert_text.specs.Grammar.{Tokens, integers, row_numbers, SpellsRow, SpellsStep, SpellsDeletion, SpellsItem, AreItems, IsDqrOf, SpellsRefutation}
use Rattle.cert_text.specs.Header.{max_count, refutation_word}
use Rattle.cert_text.specs.KeptItems.{is_deletion}
use Rattle.cert_text.specs.Numbering.{Numbering, numbered_from, with_next, without_all}
use Rattle.cert_text.specs.Pairs.{is_pair_number}
use Rattle.cert_text.specs.Scan.{first_id}
use Rattle.cert_text.specs.declared.refutations.Dqr.{Dqr}
use Rattle.cert_text.specs.declared.versions.Version.{Version}
use Rattle.cert_text.specs.declared.versions.Version.TheVariants.{One, Two}
use Rattle.cert_text.proofs.Numberings.{Live, live_line, live_gone, live_ids, none_live, next_kept}
use Rattle.cert_text.proofs.LineTokens.{tokens_by_text}
use Rattle.dq_text.proofs.LineWords.{IsWord, AreWords, spaced, natural_is_word}
use Rattle.cert_text.proofs.LineWords.{tokens_of, line_of_words}
use Rattle.dq_text.proofs.Numerals.{natural_is_read}
use Rattle.cert_text.proofs.NumberWords.{IsSpellable, signed_word, signed_is_word, signed_number_is}
use Rattle.cert_text.proofs.PairNumbers.{pair_small}
use Rattle.cert_text.proofs.Parts.{pair_positive, universals_in_range}

pub zero_is_word : IsWord (codes "0")
zero_is_word = (refl, tt)

-- the header
abbrev header_tokens : Version → ℕ → ℕ → Tokens
header_tokens version rows items = codes "p" ∷ refutation_word version ∷ decimal rows ∷ decimal items ∷ []

counts_bytes : (rows items : ℕ) (rest : List ℕ) → (number_text rows ++ (decimal items ++ 10 ∷ [])) ++ rest ≡ spaced
    (decimal rows ∷ []) ++ (decimal items ++ 10 ∷ rest)
counts_bytes rows items rest = search (arith, append_assoc, append-nil)

header_line : (version : Version) (rows items : ℕ) (rest : List ℕ) → rows < 10 ^ 18 → items < 10 ^ 18 →
    tokens_of (header_text version rows items ++ rest) ≡ header_tokens version rows items ∷ tokens_of rest
header_line One rows items rest few_rows few_items =
    ap (λ bytes. tokens_of (112 ∷ 32 ∷ 100 ∷ 113 ∷ 114 ∷ 32 ∷ bytes)) (counts_bytes rows items rest)
    ∙ line_of_words (codes "p" ∷ codes "dqr" ∷ decimal rows ∷ []) (decimal items) rest
    ((refl, tt), ((refl, (refl, (refl, tt))), (natural_is_word rows few_rows, tt))) (natural_is_word items few_items)
header_line Two rows items rest few_rows few_items =
    ap (λ bytes. tokens_of (112 ∷ 32 ∷ 100 ∷ 113 ∷ 114 ∷ 50 ∷ 32 ∷ bytes)) (counts_bytes rows items rest)
    ∙ line_of_words (codes "p" ∷ codes "dqr2" ∷ decimal rows ∷ []) (decimal items) rest
    ((refl, tt), ((refl, (refl, (refl, (refl, tt)))), (natural_is_word rows few_rows, tt)))
    (natural_is_word items few_items)

-- a row
abbrev pub Bits : Type 0
Bits = List (ℕ × Bool)

abbrev pub bit_text : ℕ × Bool → List ℕ
bit_text x = signed_text x.1 x.0

abbrev pub bit_word : ℕ × Bool → List ℕ
bit_word x = signed_word x.1 x.0

text_is_word : (b : Bool) (v : ℕ) → signed_text b v ≡ signed_word b v ++ 32 ∷ []
text_is_word true v = refl
text_is_word false v = refl

pub bits_spaced : (xs : Bits) → flat_map bit_text xs ≡ spaced (map bit_word xs)
bits_spaced [] = refl
bits_spaced (x ∷ xs) = ap₂ (λ a b. a ++ b) (text_is_word x.1 x.0) (bits_spaced xs)

abbrev pub row_words : List ℕ → List Bool → List (List ℕ)
row_words us row = codes "u" ∷ map bit_word (zip us row)

abbrev pub row_tokens : List ℕ → List Bool → Tokens
row_tokens us row = codes "u" ∷ (map bit_word (zip us row) ++ codes "0" ∷ [])

pub bits_are_words : (us : List ℕ) (row : List Bool) → AllByRecursion IsSpellable us → AreWords (map bit_word (zip us row))
bits_are_words [] row are = tt
bits_are_words (x ∷ us) [] are = tt
bits_are_words (x ∷ us) (b ∷ row) are = (signed_is_word b x are.0, bits_are_words us row are.1)

pub row_line : (us : List ℕ) (row : List Bool) (rest : List ℕ) → AllByRecursion IsSpellable us →
    tokens_of (row_text us row ++ rest) ≡ row_tokens us row ∷ tokens_of rest
row_line us row rest are =
    let bits = zip us row in
    ap (λ bytes. tokens_of (117 ∷ 32 ∷ bytes))
    (append_assoc (flat_map bit_text bits) line_end rest ∙ ap (λ front. front ++ (48 ∷ 10 ∷ rest)) (bits_spaced bits))
    ∙ line_of_words (row_words us row) (codes "0") rest ((refl, tt), bits_are_words us row are) zero_is_word

pub bits_numbers : (us : List ℕ) (row : List Bool) → AllByRecursion IsSpellable us →
    map number_of (map bit_word (zip us row) ++ codes "0" ∷ []) ≡ integers (row_numbers us row)
bits_numbers [] row are = refl
bits_numbers (x ∷ us) [] are = refl
bits_numbers (x ∷ us) (b ∷ row) are = ap₂ (λ n ns. n ∷ ns) (signed_number_is b x are.0) (bits_numbers us row are.1)

pub row_spells : (us : List ℕ) (row : List Bool) → AllByRecursion IsSpellable us → SpellsRow us (row_tokens us row) row
row_spells us row are = search (arith, bits_numbers)

rows_lines : (us : List ℕ) (rows : List (List Bool)) (rest : List ℕ) → AllByRecursion IsSpellable us →
    tokens_of (flat_map (row_text us) rows ++ rest) ≡ map (row_tokens us) rows ++ tokens_of rest
rows_lines us [] rest are = refl
rows_lines us (row ∷ rows) rest are = search (arith, tokens_of, append_assoc, row_line, (rows_lines us rows rest are))

rows_spell : (us : List ℕ) (rows : List (List Bool)) → AllByRecursion IsSpellable us →
    AllZip (SpellsRow us) (map (row_tokens us) rows) rows
rows_spell us [] are = tt
rows_spell us (row ∷ rows) are = (row_spells us row are, rows_spell us rows are)

-- a step
abbrev pub literal_word : Literal → List ℕ
literal_word l = signed_word (not (is_negative l)) (variable_of l)

abbrev pub HasSmallLiterals : List Literal → Type 0
HasSmallLiterals ls = AllByRecursion (λ l. IsSpellable (variable_of l)) ls

abbrev pub AreSmall : List ℕ → Type 0
AreSmall ns = AllByRecursion (λ n. n < 10 ^ 18) ns

pub record IsSmallStep (s : ProofStep) : Type 0 where
  pub id : s.id < 10 ^ 18
  pub literals : HasSmallLiterals s.literals
  pub hints : AreSmall s.hints

abbrev pub step_words : ProofStep → List (List ℕ)
step_words s = decimal s.id ∷ (map literal_word s.literals ++ codes "0" ∷ map decimal s.hints)

abbrev pub step_tokens : ProofStep → Tokens
step_tokens s = step_words s ++ codes "0" ∷ []

literals_spaced : (ls : List Literal) → flat_map literal_text ls ≡ spaced (map literal_word ls)
literals_spaced [] = refl
literals_spaced (l ∷ ls) = ap₂ (λ a b. a ++ b) (text_is_word (not (is_negative l)) (variable_of l)) (literals_spaced ls)

numbers_spaced : (ns : List ℕ) → flat_map number_text ns ≡ spaced (map decimal ns)
numbers_spaced [] = refl
numbers_spaced (n ∷ ns) = ap (λ rest. number_text n ++ rest) (numbers_spaced ns)

literals_are_words : (ls : List Literal) → HasSmallLiterals ls → AreWords (map literal_word ls)
literals_are_words [] are = tt
literals_are_words (l ∷ ls) are = search (arith, signed_is_word, (literals_are_words ls are.1))

numbers_are_words : (ns : List ℕ) → AreSmall ns → AreWords (map decimal ns)
numbers_are_words [] are = tt
numbers_are_words (n ∷ ns) are = (natural_is_word n are.0, numbers_are_words ns are.1)

both_words : (xs ys : List (List ℕ)) → AreWords xs → AreWords ys → AreWords (xs ++ ys)
both_words [] ys left right = right
both_words (x ∷ xs) ys left right = (left.0, both_words xs ys left.1 right)

step_bytes : (s : ProofStep) (rest : List ℕ) → step_text s ++ rest ≡ spaced (step_words s) ++ (48 ∷ 10 ∷ rest)
step_bytes s rest = search (arith, spaced, flat_map-append, append_assoc, literals_spaced, numbers_spaced)

pub step_line : (s : ProofStep) (rest : List ℕ) → IsSmallStep s →
    tokens_of (step_text s ++ rest) ≡ step_tokens s ∷ tokens_of rest
step_line s rest is =
    ap tokens_of (step_bytes s rest)
    ∙ line_of_words (step_words s) (codes "0") rest (
      natural_is_word s.id is.id,
      both_words (map literal_word s.literals) (codes "0" ∷ map decimal s.hints)
          (literals_are_words s.literals is.literals)
          (zero_is_word, numbers_are_words s.hints is.hints),
    ) zero_is_word

literal_number : (l : Literal) → IsSpellable (variable_of l) → number_of (literal_word l) ≡ Int (dimacs_number l)
literal_number (positive v) is = signed_number_is true v is
literal_number (negative v) is = signed_number_is false v is

hints_numbers : (hs : List ℕ) → AreSmall hs → map number_of (map decimal hs ++ codes "0" ∷ []) ≡ integers
    (map (λ hint. pos hint) hs ++ pos 0 ∷ [])
hints_numbers [] are = refl
hints_numbers (h ∷ hs) are = ap₂ (λ n ns. n ∷ ns) (natural_is_read h are.0) (hints_numbers hs are.1)

literals_numbers : (ls : List Literal) (hs : List ℕ) → HasSmallLiterals ls → AreSmall hs →
    map number_of ((map literal_word ls ++ codes "0" ∷ map decimal hs) ++ codes "0" ∷ [])
    ≡ integers (map dimacs_number ls ++ (pos 0 ∷ (map (λ hint. pos hint) hs ++ pos 0 ∷ [])))
literals_numbers [] hs are small = ap (λ ns. Int (pos 0) ∷ ns) (hints_numbers hs small)
literals_numbers (l ∷ ls) hs are small = search (arith, literal_number, (literals_numbers ls hs are.1 small))

pub step_spells : (s : ProofStep) → IsSmallStep s → SpellsStep (step_tokens s) s
step_spells s is = search (arith, natural_is_read, literals_numbers)

-- a deletion
abbrev pub deletion_tokens : List ℕ → Tokens
deletion_tokens ids = codes "d" ∷ (map decimal ids ++ codes "0" ∷ [])

deletion_line : (ids : List ℕ) (rest : List ℕ) → AreSmall ids →
    tokens_of (deletion_text ids ++ rest) ≡ deletion_tokens ids ∷ tokens_of rest
deletion_line ids rest small =
    ap (λ bytes. tokens_of (100 ∷ 32 ∷ bytes))
    (append_assoc (flat_map number_text ids) line_end rest ∙ ap (λ front. front ++ (48 ∷ 10 ∷ rest))
    (numbers_spaced ids))
    ∙ line_of_words (codes "d" ∷ map decimal ids) (codes "0") rest
    ((refl, tt), numbers_are_words ids small) zero_is_word

deletion_spells : (ids : List ℕ) → AreSmall ids → SpellsDeletion (deletion_tokens ids) ids
deletion_spells ids small = search (arith, hints_numbers)

-- an item
abbrev pub IsSpelledSmall : ProofItem → Type 0
IsSpelledSmall (derived s) = IsSmallStep s
IsSpelledSmall (gone ids) = AreSmall ids

abbrev pub AreSpelledSmall : List ProofItem → Type 0
AreSpelledSmall items = AllByRecursion IsSpelledSmall items

abbrev pub item_tokens : ProofItem → Tokens
item_tokens (derived s) = step_tokens s
item_tokens (gone ids) = deletion_tokens ids

item_line : (item : ProofItem) (rest : List ℕ) → IsSpelledSmall item →
    tokens_of (item_text item ++ rest) ≡ item_tokens item ∷ tokens_of rest
item_line (derived s) rest is = step_line s rest is
item_line (gone ids) rest is = deletion_line ids rest is

pub items_lines : (items : List ProofItem) → AreSpelledSmall items →
    tokens_of (flat_map item_text items) ≡ map item_tokens items
items_lines [] are = refl
items_lines (item ∷ items) are = search (arith, item_line, (items_lines items are.1))

item_spells : (version : Version) (item : ProofItem) → IsSpelledSmall item → (is_deletion item ≡ true → version ≡ Two) →
    SpellsItem version (item_tokens item) item
item_spells version (derived s) is two = step_spells s is
item_spells version (gone ids) is two = (two refl, deletion_spells ids is)

either : (a b : Bool) (version : Version) → (a || b ≡ true → version ≡ Two) →
    (a ≡ true → version ≡ Two) × (b ≡ true → version ≡ Two)
either true b version h = (h, λ _. h refl)
either false b version h = search arith

items_spell_in : (version : Version) (items : List ProofItem) → AreSpelledSmall items →
    (list_any is_deletion items ≡ true → version ≡ Two) →
    AllZip (SpellsItem version) (map item_tokens items) items
items_spell_in version [] are two = tt
items_spell_in version (item ∷ items) are two =
    search (arith, either, item_spells, (items_spell_in version items are.1))

needs_two : (b : Bool) → b ≡ true → cond b Two One ≡ Two
needs_two true h = refl
needs_two false h = cc

pub items_spell : (items : List ProofItem) → AreSpelledSmall items →
    AllZip (SpellsItem (version_for items)) (map item_tokens items) items
items_spell items are = items_spell_in (version_for items) items are (needs_two (list_any is_deletion items))

-- what the format allows has small numbers
pub spellable : (variables : ℕ) (us : List ℕ) → variables < 10 ^ 18 → AllByRecursion (λ v. (1 ≤ v) × (v ≤ variables)) us →
    AllByRecursion IsSpellable us
spellable variables [] few are = tt
spellable variables (x ∷ us) few are = ((are.0.0, omega (arith, are.0.1, few)), spellable variables us few are.1)

small_literals : (p : ℕ → Bool) (ls : List Literal) → ((v : ℕ) → p v ≡ true → IsSpellable v) →
    AllByRecursion (λ l. p (variable_of l) ≡ true) ls → HasSmallLiterals ls
small_literals p [] small are = tt
small_literals p (l ∷ ls) small are = (small (variable_of l) are.0, small_literals p ls small are.1)

pub small_hints : (id : ℕ) (hs : List ℕ) → id < 10 ^ 18 → AllByRecursion (λ h. (1 ≤ h) × (h < id)) hs → AreSmall hs
small_hints id [] small are = tt
small_hints id (h ∷ hs) small are = (omega (arith, are.0.1, small), small_hints id hs small are.1)

abbrev IsSmallId : ℕ → Type 0
IsSmallId id = id < 10 ^ 18

small_items : (p : ℕ → Bool) (n : Numbering) (items : List ProofItem) → ((v : ℕ) → p v ≡ true → IsSpellable v) →
    n.next + length items < 10 ^ 18 → Live IsSmallId n →
    AreItems p n items → AreSpelledSmall items
small_items p n [] small few live are = tt
small_items p n (derived s ∷ items) small few live are =
    let is = are.0 in
    let below : n.next < 10 ^ 18 = omega (arith, few) in (
      record {
        id = subst (λ id. id < 10 ^ 18) (sym is.numbered) below;
        literals = small_literals p s.literals small (recursion_from_All
            (λ l. p (variable_of l) ≡ true) s.literals is.on_variables);
        hints = small_hints n.next s.hints below (recursion_from_All
            (λ h. (1 ≤ h) × (h < n.next)) s.hints is.hints_before);
      },
      small_items p (with_next n) items small (omega (arith, few)) (live_line IsSmallId n below live) are.1,
    )
small_items p n (gone ids ∷ items) small few live are = (
  live_ids IsSmallId n ids live are.0.live,
  small_items p (without_all n ids) items small (omega (arith, few, next_kept n ids))
      (live_gone IsSmallId n ids live) are.1,
)

pub canonical_spells : (f : Dqbf) (d : Dqr) → IsLawful f → IsDqrOf f d → SpellsRefutation (canonical f.universals d) f d
canonical_spells f d lawful is =
    let us = f.universals in
    let rows = length d.rows in
    let items = length d.items in
    let version = version_for d.items in
    let p : ℕ → Bool = is_pair_number f rows in
    let few_ids : rows * length f.matrix ≤ max_count * 10000000 = mul-le-mul is.few_rows lawful.few_clauses in
    let spelled_universals = spellable f.variables us (omega (arith, lawful.few_variables))
    (universals_in_range f lawful) in
    let small = small_items p (numbered_from (first_id f rows)) d.items
    (λ v h. (pair_positive f rows v h, pair_small f rows v lawful is.few_rows h))
    (omega (arith, few_ids, is.few_items)) (none_live IsSmallId (first_id f rows)) is.items in
    record {
      version = version;
      header = header_tokens version rows items;
      row_lines = map (row_tokens us) d.rows;
      item_lines = map item_tokens d.items;
      blank_lines = 0;
      lines = tokens_by_text 1 (canonical us d)
          ∙ header_line version rows items (flat_map (row_text us) d.rows ++ flat_map item_text d.items)
          (omega (arith, is.few_rows)) (omega (arith, is.few_items))
          ∙ ap (λ lines. header_tokens version rows items ∷ lines)
          (rows_lines us d.rows (flat_map item_text d.items) spelled_universals
          ∙ ap (λ lines. map (row_tokens us) d.rows ++ lines)
          (items_lines d.items small ∙ sym (append-nil (map item_tokens d.items))));
      header_spelled = record {
        rows_token = decimal rows;
        items_token = decimal items;
        words = refl;
        rows_number = natural_is_read rows (omega (arith, is.few_rows));
        items_number = natural_is_read items (omega (arith, is.few_items));
      };
      rows_spelled = rows_spell us d.rows spelled_universals;
      items_spelled = items_spell d.items small;
      allowed = is;
    }
