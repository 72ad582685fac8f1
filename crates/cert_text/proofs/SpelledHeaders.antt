-- Header lines, as their reader takes them and as the grammar spells them.
use Rattle.std.proofs.Common.{◌≡◌, ℕ, ◌≤◌, nat_lt, Bool, true, false, cond, List, [], ◌∷◌, Option, Some, None, Result, Ok, Err, codes, refl, ◌∙◌, ap, ap₂, arith}
use Rattle.std.specs.Str.{bytes_eq}
use Rattle.std.proofs.lemmas.Bool.{or_from, or_parts, le-ltb, ltb-false, cond-false}
use Rattle.std.proofs.lemmas.Slice.Eq.{bytes_eq-Decides}
use Rattle.cert_text.specs.Grammar.{Tokens, SpellsHeader}
use Rattle.cert_text.specs.Header.{max_count, counts_of, count_of, header_of, proof_header, proof_word, refutation_word, version_of}
use Rattle.cert_text.specs.ProofGrammar.{SpellsProofHeader}
use Rattle.dq_text.proofs.Naturals.{natural_taken, natural_spelled}
use Rattle.dq_text.specs.Number.{natural_of}
use Rattle.cert_text.specs.declared.faults.CertFault.{CertFault}
use Rattle.cert_text.specs.declared.faults.CertFault.TheVariants.{BadHeader}
use Rattle.cert_text.specs.declared.headers.RowsAndItems.{RowsAndItems}
use Rattle.cert_text.specs.declared.headers.ItemCount.{ItemCount}
use Rattle.cert_text.specs.declared.versions.Version.{Version}
use Rattle.cert_text.specs.declared.versions.Version.TheVariants.{One, Two}
use Rattle.cert_text.proofs.Integers.{passed}

refutation_version : (version : Version) → version_of refutation_word (refutation_word version) ≡ Some version
refutation_version One = refl
refutation_version Two = refl

proof_version : (version : Version) → version_of proof_word (proof_word version) ≡ Some version
proof_version One = refl
proof_version Two = refl

by_words : (one two : Bool) (word_of : Version → List ℕ) (word : List ℕ) (version : Version) →
    (one ≡ true → word ≡ word_of One) → (two ≡ true → word ≡ word_of Two) →
    cond one (Some One) (cond two (Some Two) None) ≡ Some version → word ≡ word_of version
by_words true two word_of word version first second h = let is : One ≡ version = cc in first refl ∙ ap word_of is
by_words false true word_of word version first second h = let is : Two ≡ version = cc in second refl ∙ ap word_of is
by_words false false word_of word version first second h = cc

word_is : (word_of : Version → List ℕ) (word : List ℕ) (version : Version) → version_of word_of word ≡ Some version →
    word ≡ word_of version
word_is word_of word version h = search (arith, by_words, bytes_eq-Decides)

pub header_taken : (tokens : Tokens) (version : Version) (rows items : ℕ) → SpellsHeader tokens version rows items →
    rows ≤ max_count → items ≤ max_count →
    header_of tokens ≡ Ok (record { version = version; rows = rows; items = items })
header_taken tokens version rows items spelled few_rows few_items =
    search (arith, refutation_version, natural_taken, cond-false, nat_lt, or_from, le-ltb)

pub record IsHeader (tokens : Tokens) (c : RowsAndItems) : Type 0 where
  pub spelled : SpellsHeader tokens c.version c.rows c.items
  pub few_rows : c.rows ≤ max_count
  pub few_items : c.items ≤ max_count

-- the word stands there, and the numbers are counts
passed_word : {A : Type 0} (word : Bool) (r : Result A CertFault) (c : A) → cond word r (Err BadHeader) ≡ Ok c →
    (word ≡ true) × (r ≡ Ok c)
passed_word true r c h = (refl, h)
passed_word false r c h = cc

record AreCounts (version : Option Version) (rows items : Option ℕ) (c : RowsAndItems) : Type 0 where
  version_is : version ≡ Some c.version
  rows_are : rows ≡ Some c.rows
  items_are : items ≡ Some c.items
  few_rows : c.rows ≤ max_count
  few_items : c.items ≤ max_count

are_counts : (version : Option Version) (rows items : Option ℕ) (c : RowsAndItems) → counts_of version rows items ≡ Ok c →
    AreCounts version rows items c
are_counts None rows items c h = cc
are_counts (Some v) None items c h = cc
are_counts (Some v) (Some k) None c h = cc
are_counts (Some v) (Some k) (Some n) c h = search (arith, passed, nat_lt, or_parts, ltb-false)

four_tokens : (letter word k n : List ℕ) (c : RowsAndItems) → header_of (letter ∷ word ∷ k ∷ n ∷ []) ≡ Ok c →
    IsHeader (letter ∷ word ∷ k ∷ n ∷ []) c
four_tokens letter word k n c h =
    let outer = passed_word (bytes_eq letter (codes "p")) (counts_of (version_of refutation_word word) (natural_of k)
    (natural_of n)) c h in
    let counted = are_counts (version_of refutation_word word) (natural_of k) (natural_of n) c outer.1 in
    let few_rows = counted.few_rows in
    let few_items = counted.few_items in
    record {
      spelled = record {
        rows_token = k;
        items_token = n;
        words = ap₂ (λ a b. a ∷ b ∷ k ∷ n ∷ []) ((bytes_eq-Decides letter (codes "p")).0 outer.0)
            (word_is refutation_word word c.version counted.version_is);
        rows_number = natural_spelled k c.rows counted.rows_are (omega (arith, few_rows));
        items_number = natural_spelled n c.items counted.items_are (omega (arith, few_items));
      };
      few_rows = few_rows;
      few_items = few_items;
    }

pub header_spelled : (tokens : Tokens) (c : RowsAndItems) → header_of tokens ≡ Ok c → IsHeader tokens c
header_spelled [] c h = cc
header_spelled (a ∷ []) c h = cc
header_spelled (a ∷ b ∷ []) c h = cc
header_spelled (a ∷ b ∷ k ∷ []) c h = cc
header_spelled (a ∷ b ∷ k ∷ n ∷ []) c h = four_tokens a b k n c h
header_spelled (a ∷ b ∷ k ∷ n ∷ more ∷ rest) c h = cc

-- the same of a circuit's proof
pub proof_header_taken : (tokens : Tokens) (version : Version) (items : ℕ) → SpellsProofHeader tokens version items →
    items ≤ max_count →
    proof_header tokens ≡ Ok (record { version = version; items = items })
proof_header_taken tokens version items spelled few =
    search (arith, proof_version, natural_taken, cond-false, nat_lt, le-ltb)

pub record IsProofHeader (tokens : Tokens) (c : ItemCount) : Type 0 where
  pub spelled : SpellsProofHeader tokens c.version c.items
  pub few : c.items ≤ max_count

record IsCount (version : Option Version) (items : Option ℕ) (c : ItemCount) : Type 0 where
  version_is : version ≡ Some c.version
  items_are : items ≡ Some c.items
  few : c.items ≤ max_count

is_count : (version : Option Version) (items : Option ℕ) (c : ItemCount) → count_of version items ≡ Ok c →
    IsCount version items c
is_count None items c h = cc
is_count (Some v) None c h = cc
is_count (Some v) (Some n) c h = search (arith, passed, nat_lt, ltb-false)

two_tokens : (word token : List ℕ) (c : ItemCount) → proof_header (word ∷ token ∷ []) ≡ Ok c →
    IsProofHeader (word ∷ token ∷ []) c
two_tokens word token c h =
    let counted = is_count (version_of proof_word word) (natural_of token) c h in
    let few = counted.few in
    record {
      spelled = record {
        items_token = token;
        words = ap (λ w. w ∷ token ∷ []) (word_is proof_word word c.version counted.version_is);
        items_number = natural_spelled token c.items counted.items_are (omega (arith, few));
      };
      few = few;
    }

pub proof_header_spelled : (tokens : Tokens) (c : ItemCount) → proof_header tokens ≡ Ok c → IsProofHeader tokens c
proof_header_spelled [] c h = cc
proof_header_spelled (word ∷ []) c h = cc
proof_header_spelled (word ∷ token ∷ []) c h = two_tokens word token c h
proof_header_spelled (word ∷ token ∷ more ∷ rest) c h = cc
