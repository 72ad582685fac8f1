-- How the texts begin that are written, and what kind the checker takes them for.
use Rattle.std.proofs.Common.{◌≡◌, ◌⊎◌, inl, inr, ◌+◌, ◌-◌, ◌==◌, ◌||◌, ℕ, suc, Bool, cond, true, false, refl, sym, ap, subst, arith, List, [], ◌∷◌, ◌++◌, length, take, Option, Some, None, Result, Ok, codes}
use Rattle.std.specs.Prelude.{nat_lt}
use Rattle.std.specs.List.{position, position_or_len}
use Rattle.std.proofs.lemmas.List.{length-append}
use Rattle.dq_text.specs.Line.{TextLine, extend_line, line_tokens, lines_from}
use Rattle.dq_text.specs.Written.{number_line}
use Rattle.cert_text.specs.Canonical.{proof_header_text}
use Rattle.cert_text.specs.Header.{refutation_word}
use Rattle.cert_text.specs.Kind.{certificate_kind, kind_of_lines, kind_at, agreeing, stated_verdict}
use Rattle.cert_text.specs.declared.faults.CertRefusal.{CertRefusal}
use Rattle.cert_text.specs.declared.kinds.Kind.{Kind}
use Rattle.cert_text.specs.declared.kinds.Kind.TheVariants.{Circuit, BinaryCircuit, Refutation}
use Rattle.cert_text.specs.declared.kinds.Verdict.TheVariants.{True, False}
use Rattle.cert_text.specs.declared.versions.Version.{Version}
use Rattle.cert_text.specs.declared.versions.Version.TheVariants.{One, Two}
use Rattle.cert_judge.specs.Judgement.{begins_with, begins_proof, first_line}
use Rattle.dq_runs.specs.Printed.{line}

-- where the header line stands behind the line with a verdict of so many bytes, or without one
abbrev pub header_at : Bool → ℕ → ℕ
header_at bare bytes = cond bare 0 bytes

abbrev pub header_number : Bool → ℕ
header_number bare = cond bare 1 2

less : (bytes k n : ℕ) → bytes ≡ k + n → bytes - n ≡ k
less bytes k n whole = omega (arith, whole)

-- ---- circuits

circuit_verdict : (rest : List (List ℕ)) → stated_verdict (codes "aag" ∷ rest) ≡ None
circuit_verdict [] = refl
circuit_verdict (_ ∷ []) = refl
circuit_verdict (_ ∷ _ ∷ _) = refl

abbrev circuit_lines : ℕ → List TextLine → List TextLine
circuit_lines n lines = extend_line 97 n (extend_line 97 n (extend_line 103 n (extend_line 32 n lines)))

circuit_header : (at n : ℕ) (lines : List TextLine) → kind_at at (circuit_lines n lines) ≡ Ok (Circuit at n)
circuit_header at n [] = refl
circuit_header at n (l ∷ ls) = refl

abbrev kind_of_first : ℕ → List TextLine → Result Kind CertRefusal
kind_of_first bytes lines = kind_of_lines bytes lines

circuit_alone : (bytes : ℕ) (lines : List TextLine) → kind_of_first bytes (circuit_lines 1 lines) ≡ Ok (Circuit 0 1)
circuit_alone bytes [] = refl
circuit_alone bytes (l ∷ ls) = search (arith, circuit_verdict)

circuit_behind : (bytes : ℕ) (text : List ℕ) (lines : List TextLine) → bytes ≡ 7 + length text →
    agreeing True (kind_at (bytes - length text) (circuit_lines 2 lines)) ≡ Ok (Circuit 7 2)
circuit_behind bytes text lines whole = search (arith, circuit_header)

pub circuit_kind : (bare : Bool) (rest : List ℕ) → certificate_kind
    ((cond bare [] (line (codes "s TRUE"))) ++ (codes "aag " ++ rest)) ≡ Ok
    (Circuit (header_at bare 7) (header_number bare))
circuit_kind true rest = circuit_alone (length (codes "aag " ++ rest)) (lines_from 1 rest)
circuit_kind false rest = search (arith, circuit_behind, codes, length-append)

-- ---- circuits in the binary form

binary_verdict : (rest : List (List ℕ)) → stated_verdict (codes "aig" ∷ rest) ≡ None
binary_verdict [] = refl
binary_verdict (_ ∷ []) = refl
binary_verdict (_ ∷ _ ∷ _) = refl

abbrev binary_lines : ℕ → List TextLine → List TextLine
binary_lines n lines = extend_line 97 n (extend_line 105 n (extend_line 103 n (extend_line 32 n lines)))

binary_header : (at n : ℕ) (lines : List TextLine) → kind_at at (binary_lines n lines) ≡ Ok (BinaryCircuit at n)
binary_header at n [] = refl
binary_header at n (l ∷ ls) = refl

binary_alone : (bytes : ℕ) (lines : List TextLine) →
    kind_of_first bytes (binary_lines 1 lines) ≡ Ok (BinaryCircuit 0 1)
binary_alone bytes [] = refl
binary_alone bytes (l ∷ ls) = search (arith, binary_verdict)

binary_behind : (bytes : ℕ) (text : List ℕ) (lines : List TextLine) → bytes ≡ 7 + length text →
    agreeing True (kind_at (bytes - length text) (binary_lines 2 lines)) ≡ Ok (BinaryCircuit 7 2)
binary_behind bytes text lines whole = search arith

pub binary_kind : (bare : Bool) (rest : List ℕ) → certificate_kind
    ((cond bare [] (line (codes "s TRUE"))) ++ (codes "aig " ++ rest)) ≡ Ok
    (BinaryCircuit (header_at bare 7) (header_number bare))
binary_kind true rest = binary_alone (length (codes "aig " ++ rest)) (lines_from 1 rest)
binary_kind false rest = search (arith, binary_behind, codes, length-append)

-- ---- refutations

refutation_verdict : (rest : List (List ℕ)) → stated_verdict (codes "p" ∷ rest) ≡ None
refutation_verdict [] = refl
refutation_verdict (_ ∷ []) = refl
refutation_verdict (_ ∷ _ ∷ _) = refl

-- the word behind `p`, and a space
abbrev word_lines : Version → ℕ → List TextLine → List TextLine
word_lines One n lines = extend_line 100 n (extend_line 113 n (extend_line 114 n (extend_line 32 n lines)))
word_lines Two n lines =
    extend_line 100 n (extend_line 113 n (extend_line 114 n (extend_line 50 n (extend_line 32 n lines))))

abbrev refutation_lines : Version → ℕ → List TextLine → List TextLine
refutation_lines version n lines = extend_line 112 n (extend_line 32 n (word_lines version n lines))

refutation_header : (version : Version) (at n : ℕ) (lines : List TextLine) →
    kind_at at (refutation_lines version n lines) ≡ Ok (Refutation at n)
refutation_header One at n [] = refl
refutation_header One at n (l ∷ ls) = refl
refutation_header Two at n [] = refl
refutation_header Two at n (l ∷ ls) = refl

refutation_alone : (version : Version) (bytes : ℕ) (lines : List TextLine) →
    kind_of_first bytes (refutation_lines version 1 lines) ≡ Ok (Refutation 0 1)
refutation_alone One bytes [] = refl
refutation_alone One bytes (l ∷ ls) = search (arith, codes, refutation_verdict)
refutation_alone Two bytes [] = refl
refutation_alone Two bytes (l ∷ ls) = search (arith, codes, refutation_verdict)

refutation_behind : (version : Version) (bytes : ℕ) (text : List ℕ) (lines : List TextLine) →
    bytes ≡ 8 + length text →
    agreeing False (kind_at (bytes - length text) (refutation_lines version 2 lines)) ≡ Ok (Refutation 8 2)
refutation_behind version bytes text lines whole = search (arith, refutation_header)

-- behind the header's word stand its counts, and then the other lines
abbrev pub refutation_begun : Version → List ℕ → List ℕ → List ℕ
refutation_begun version counts rest =
    (codes "p " ++ (refutation_word version ++ (codes " " ++ counts))) ++ rest

pub refutation_kind : (version : Version) (bare : Bool) (counts rest : List ℕ) → certificate_kind
    ((cond bare [] (line (codes "s FALSE"))) ++ refutation_begun version counts rest) ≡ Ok
    (Refutation (header_at bare 8) (header_number bare))
refutation_kind One true counts rest = search (arith, refutation_alone)
refutation_kind Two true counts rest = search (arith, refutation_alone)
refutation_kind One false counts rest = search (arith, refutation_behind, codes, length-append)
refutation_kind Two false counts rest = search (arith, refutation_behind, codes, length-append)

-- ---- proofs in comments

abbrev is_feed : ℕ → Bool
is_feed byte = byte == 10

abbrev cut_at : Option ℕ → List ℕ → List ℕ
cut_at None bytes = bytes
cut_at (Some end) bytes = take end bytes

-- a line that is cut behind its first four bytes
abbrev IsLaterCut : Option ℕ → Type 0
IsLaterCut o = (o ≡ None) ⊎ ((end : ℕ) × (o ≡ Some (suc (suc (suc (suc end))))))

begins_cut : (rest : List ℕ) (o : Option ℕ) → IsLaterCut o →
    begins_with (codes "dqp") (line_tokens (cut_at o (codes "dqp " ++ rest))) ≡ true
begins_cut rest o (inl none) = search (arith, codes)
begins_cut rest o (inr (end, some)) = search (arith, codes)

later_cut : (found : Bool) (place end : ℕ) → place ≡ suc (suc (suc (suc end))) →
    IsLaterCut (cond found (Some place) None)
later_cut true place end is = inr (end, ap Some is)
later_cut false place end is = inl refl

four_behind : (end : ℕ) → 1 + (1 + (1 + (1 + end))) ≡ suc (suc (suc (suc end)))
four_behind end = omega arith

one_begins : (rest : List ℕ) → begins_with (codes "dqp") (line_tokens (first_line (codes "dqp " ++ rest))) ≡ true
one_begins rest = begins_cut rest (position is_feed (codes "dqp " ++ rest))
    (later_cut (nat_lt (position_or_len is_feed (codes "dqp " ++ rest)) (length (codes "dqp " ++ rest)))
    (position_or_len is_feed (codes "dqp " ++ rest))
    (position_or_len is_feed rest) (four_behind (position_or_len is_feed rest)))

-- the same in version 2, behind five bytes
abbrev IsLastCut : Option ℕ → Type 0
IsLastCut o = (o ≡ None) ⊎ ((end : ℕ) × (o ≡ Some (suc (suc (suc (suc (suc end)))))))

abbrev begins_either : List ℕ → Bool
begins_either text = begins_with (codes "dqp") (line_tokens text) || begins_with (codes "dqp2") (line_tokens text)

two_cut : (rest : List ℕ) (o : Option ℕ) → IsLastCut o → begins_either (cut_at o (codes "dqp2 " ++ rest)) ≡ true
two_cut rest o (inl none) = subst (λ c. begins_either (cut_at c (codes "dqp2 " ++ rest)) ≡ true) (sym none) refl
two_cut rest o (inr (end, some)) = subst (λ c. begins_either (cut_at c (codes "dqp2 " ++ rest)) ≡ true) (sym some) refl

last_cut : (found : Bool) (place end : ℕ) → place ≡ suc (suc (suc (suc (suc end)))) →
    IsLastCut (cond found (Some place) None)
last_cut true place end is = inr (end, ap Some is)
last_cut false place end is = inl refl

five_behind : (end : ℕ) → 1 + (1 + (1 + (1 + (1 + end)))) ≡ suc (suc (suc (suc (suc end))))
five_behind end = omega arith

two_begins : (rest : List ℕ) → begins_either (first_line (codes "dqp2 " ++ rest)) ≡ true
two_begins rest = two_cut rest (position is_feed (codes "dqp2 " ++ rest))
    (last_cut (nat_lt (position_or_len is_feed (codes "dqp2 " ++ rest)) (length (codes "dqp2 " ++ rest)))
    (position_or_len is_feed (codes "dqp2 " ++ rest))
    (position_or_len is_feed rest) (five_behind (position_or_len is_feed rest)))

-- a proof's canonical text begins as one
pub proof_begins : (version : Version) (items : ℕ) (rest : List ℕ) →
    begins_proof (proof_header_text version items ++ rest) ≡ true
proof_begins One items rest = search (arith, codes, one_begins)
proof_begins Two items rest = two_begins (number_line items ++ rest)
