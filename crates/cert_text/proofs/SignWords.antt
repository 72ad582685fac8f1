-- Universals behind a sign, as a row's line has them.
use Rattle.std.proofs.Common.{◌≡◌, ℕ, suc, zero, ◌+◌, ◌-◌, ◌<◌, ◌≤◌, All, nat_abs, Bool, true, false, not, List, [], ◌∷◌, ◌++◌, map, set, length, get_or, take, drop, if◌then◌else◌, refl, sym, ◌∙◌, ap, subst, arith, append_assoc}
use Rattle.std.specs.Int.{is_positive}
use Rattle.std.specs.Fmt.{decimal}
use Rattle.std.proofs.lemmas.Bool.{lt-ltb}
use Rattle.std.proofs.lemmas.List.{ext_get_or, get_or-map, get_or-take, length-map, length-take-le, length-drop, take_all, take-append-drop}
use Rattle.dq_text.specs.Line.{line_tokens}
use Rattle.dq_text.specs.Line.{extend_token}
use Rattle.dq_text.specs.Token.{is_separator}
use Rattle.dq_text.specs.Number.{number_of}
use Rattle.dq_text.specs.Written.{number_text}
use Rattle.dq_text.specs.declared.numbers.Number.TheVariants.{Int}
use Rattle.dq_text.proofs.LineWords.{IsWord, first_byte}
use Rattle.cert_text.specs.Grammar.{Tokens, signed}
use Rattle.cert_text.specs.SignsTaken.{SignsTaken, IsSpelled, behind_sign}
use Rattle.cert_text.proofs.NumberWords.{signed_word, signed_is_word, signed_number_is}
use Rattle.cert_text.proofs.PlainSteps.{first_small, wide}
use Rattle.cert_text.proofs.SignsTaken.{one_sign}

-- a word in front of a space
word_first : (word rest : List ℕ) → IsWord word → line_tokens (word ++ 32 ∷ rest) ≡ word ∷ line_tokens rest
word_first [] rest is = absurd is
word_first (byte ∷ []) rest is = first_byte byte (32 ∷ rest) is.0
word_first (byte ∷ next ∷ word) rest is =
    first_byte byte (next ∷ (word ++ 32 ∷ rest)) is.0
    ∙ ap (λ kind. if not (is_separator kind) then extend_token byte (line_tokens (next ∷ (word ++ 32 ∷ rest)))
    else (byte ∷ []) ∷ line_tokens (next ∷ (word ++ 32 ∷ rest))) is.1.0
    ∙ ap (extend_token byte) (word_first (next ∷ word) rest (is.1.0, is.1.1))

signed_first : (b : Bool) (x : ℕ) (rest : List ℕ) → IsSpelled x →
    map number_of (line_tokens (behind_sign b (number_text x ++ rest)))
    ≡ Int (signed b x) ∷ map number_of (line_tokens rest)
signed_first b x rest is =
    ap (λ bytes. map number_of (line_tokens bytes)) (moved b)
    ∙ ap (map number_of) (word_first (signed_word b x) rest (signed_is_word b x is))
    ∙ ap (λ n. n ∷ map number_of (line_tokens rest)) (signed_number_is b x is)
  where
    moved : (b : Bool) → behind_sign b (number_text x ++ rest) ≡ signed_word b x ++ 32 ∷ rest
    moved true = append_assoc (decimal x) (32 ∷ []) rest
    moved false = ap (λ bytes. 45 ∷ bytes) (append_assoc (decimal x) (32 ∷ []) rest)

signed_size : (b : Bool) (x : ℕ) → IsSpelled x → nat_abs (signed b x) ≡ x
signed_size true x is = refl
signed_size false zero is = absurd (omega (arith, is.0))
signed_size false (suc n) is = refl

signed_sign : (b : Bool) (x : ℕ) → IsSpelled x → is_positive (signed b x) ≡ b
signed_sign true zero is = absurd (omega (arith, is.0))
signed_sign true (suc n) is = lt-ltb 0 (suc n) (omega arith)
signed_sign false zero is = absurd (omega (arith, is.0))
signed_sign false (suc n) is = refl

-- one sign more
pub sign_taken : (universals : List ℕ) (start : Tokens) (bytes behind : List ℕ) (row : List Bool) (i x : ℕ) (b : Bool)
    → SignsTaken universals start (line_tokens bytes) row i → i < length universals → x ≡ get_or universals i 0
    → IsSpelled x → bytes ≡ behind_sign b (number_text x ++ behind)
    → SignsTaken universals start (line_tokens behind) (set row i b) (i + 1)
sign_taken universals start bytes behind row i x b taken inside x_is is spelled =
    let first : map number_of (line_tokens bytes) ≡ Int (signed b x) ∷ map number_of (line_tokens behind) =
    ap (λ text. map number_of (line_tokens text)) spelled ∙ signed_first b x behind is in
    let same = wide (signed b x) (first_small (line_tokens bytes) (line_tokens behind) (signed b x) first) in
    subst (λ bit. SignsTaken universals start (line_tokens behind) (set row i bit) (i + 1))
    (ap is_positive same ∙ signed_sign b x is)
    (one_sign universals start (line_tokens bytes) (line_tokens behind) row i (signed b x) 0 taken inside first
    (ap nat_abs same ∙ signed_size b x is ∙ x_is))

-- bytes that begin as a word does
pub word_and_rest : (word bytes : List ℕ) → length word ≤ length bytes →
    ((k : ℕ) → k < length word → get_or bytes k 0 ≡ get_or word k 0)
    → bytes ≡ word ++ take (length bytes - length word) (drop (length word) bytes)
word_and_rest word bytes fits same =
    let rest = drop (length word) bytes in
    let whole : take (length bytes - length word) rest ≡ rest =
    take_all (length bytes - length word) rest (omega (arith, length-drop (length word) bytes)) in
    sym (take-append-drop (length word) bytes)
    ∙ ap (λ xs. xs ++ drop (length word) bytes)
    (ext_get_or 0 (take (length word) bytes) word (length-take-le (length word) bytes fits)
    (λ k below.
    let inside : k < length word = omega (arith, below, length-take-le (length word) bytes fits) in
    get_or-take (length word) bytes k 0 inside ∙ same k inside))
    ∙ ap (λ xs. word ++ xs) (sym whole)

-- the sign at a place of the universals
pub sign_at : (universals : List ℕ) (words : List (List ℕ)) (start : Tokens) (word bytes behind : List ℕ)
    (row : List Bool) (i : ℕ) (b : Bool)
    → words ≡ map number_text universals → word ≡ get_or words i [] → i < length words → All IsSpelled universals
    → SignsTaken universals start (line_tokens bytes) row i → bytes ≡ behind_sign b (word ++ behind)
    → SignsTaken universals start (line_tokens behind) (set row i b) (i + 1)
sign_at universals words start word bytes behind row i b words_are word_is below spelled taken is =
    search (arith, length-map, get_or-map, sign_taken)
