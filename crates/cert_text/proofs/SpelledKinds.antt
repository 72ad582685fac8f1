-- The kind of a certificate, as its first lines tell it.
use Rattle.std.proofs.Common.{◌≡◌, ◌≢◌, ℕ, ◌+◌, ◌-◌, ◌==◌, ◌≤◌, Bool, true, false, cond, inl, inr, List, [], ◌∷◌, length, Option, Some, None, Result, Ok, Err, codes, refl, sym, ◌∙◌, ap, arith, subst}
use Rattle.std.specs.Str.{bytes_eq}
use Rattle.std.proofs.lemmas.Slice.Eq.{bytes_eq-Decides}
use Rattle.dq_text.specs.Line.{TextLine, line_tokens, extend_line, lines_from}
use Rattle.cert_text.specs.Beginning.{header_word, verdict_word, header_place, header_number, BeginsPlainly, BeginsWithVerdict, HasRest, Begins}
use Rattle.cert_text.specs.Kind.{refusal, verdict_of_word, stated_verdict, shows, kind_of_p, header_kind, agreeing, kind_at, kind_behind, kind_of_lines, certificate_kind}
use Rattle.cert_text.specs.declared.faults.CertFault.TheVariants.{BadHeader, WrongVerdict}
use Rattle.cert_text.specs.declared.faults.CertRefusal.{CertRefusal}
use Rattle.cert_text.specs.declared.kinds.Kind.{Kind}
use Rattle.cert_text.specs.declared.kinds.Kind.TheVariants.{Circuit, BinaryCircuit, Refutation, Definitions}
use Rattle.cert_text.specs.declared.kinds.Verdict.{Verdict}
use Rattle.cert_text.specs.declared.kinds.Verdict.TheVariants.{True, False}

-- the first of the lines from a number on
record IsFirst (n : ℕ) (text : List ℕ) (line : TextLine) (lines : List TextLine) : Type 0 where
  number : line.number ≡ n
  next : lines ≡ lines_from (n + 1) line.behind
  short : length line.behind ≤ length text

fed : (n : ℕ) (bytes : List ℕ) (byte : ℕ) (line : TextLine) (lines : List TextLine) →
    record { text = []; number = n; behind = bytes } ∷ lines_from (n + 1) bytes ≡ line ∷ lines →
    IsFirst n (byte ∷ bytes) line lines
fed n bytes byte line lines h = search arith

extended : (n : ℕ) (bytes : List ℕ) (byte : ℕ) (line : TextLine) (lines found : List TextLine) →
    ((l : TextLine) (ls : List TextLine) → found ≡ l ∷ ls → IsFirst n bytes l ls) →
    extend_line byte n found ≡ line ∷ lines → IsFirst n (byte ∷ bytes) line lines
extended n bytes byte line lines [] later h = search arith
extended n bytes byte line lines (l ∷ ls) later h =
    let first = later l ls refl in
    let line_is : record { text = byte ∷ l.text; number = n; behind = l.behind } ≡ line = cc in
    let lines_are : ls ≡ lines = cc in
    let behind : l.behind ≡ line.behind = ap (λ (x : TextLine). x.behind) line_is in
    record {
      number = sym (ap (λ (x : TextLine). x.number) line_is);
      next = sym lines_are ∙ first.next ∙ ap (lines_from (n + 1)) behind;
      short = omega (arith, ap length behind, first.short);
    }

by_byte : (feed : Bool) (n : ℕ) (bytes : List ℕ) (byte : ℕ) (line : TextLine) (lines : List TextLine) →
    ((l : TextLine) (ls : List TextLine) → lines_from n bytes ≡ l ∷ ls → IsFirst n bytes l ls) →
    cond feed (record { text = []; number = n; behind = bytes } ∷ lines_from (n + 1) bytes)
    (extend_line byte n (lines_from n bytes)) ≡ line ∷ lines →
    IsFirst n (byte ∷ bytes) line lines
by_byte true n bytes byte line lines later h = fed n bytes byte line lines h
by_byte false n bytes byte line lines later h = extended n bytes byte line lines (lines_from n bytes) later h

first_line : (n : ℕ) (text : List ℕ) (line : TextLine) (lines : List TextLine) → lines_from n text ≡ line ∷ lines →
    IsFirst n text line lines
first_line n [] line lines h = cc
first_line n (byte ∷ bytes) line lines h = by_byte (byte == 10) n bytes byte line lines (first_line n bytes) h

-- a header line of this kind
record IsHeaderOf (place number : ℕ) (tokens : List (List ℕ)) (kind : Kind) : Type 0 where
  rest : List (List ℕ)
  word : tokens ≡ header_word kind ∷ rest
  behind : HasRest kind rest
  place_is : header_place kind ≡ place
  number_is : header_number kind ≡ number

first_same : (a b : List ℕ) (others more : List (List ℕ)) → a ∷ others ≡ b ∷ more → a ≡ b
first_same a b others more same = cc

-- by the token behind `p`
by_second : (is : Bool) (place number : ℕ) (word : List ℕ) (others : List (List ℕ)) (kind : Kind) →
    (is ≡ true → word ≡ codes "dqd") → (word ≡ codes "dqd" → is ≡ true) →
    cond is (Definitions place number) (Refutation place number) ≡ kind →
    IsHeaderOf place number (codes "p" ∷ word ∷ others) kind
by_second true place number word others kind found told h =
    subst (IsHeaderOf place number (codes "p" ∷ word ∷ others)) h (record {
      rest = word ∷ others;
      word = refl;
      behind = (others, ap (λ w. w ∷ others) (found refl));
      place_is = refl;
      number_is = refl;
    })
by_second false place number word others kind found told h =
    subst (IsHeaderOf place number (codes "p" ∷ word ∷ others)) h (record {
      rest = word ∷ others;
      word = refl;
      behind = λ more same. let both : false ≡ true = told (first_same word (codes "dqd") others more same) in cc;
      place_is = refl;
      number_is = refl;
    })

nothing_behind : (others : List (List ℕ)) → [] ≢ codes "dqd" ∷ others
nothing_behind others same = cc

behind_p : (place number : ℕ) (tokens : List (List ℕ)) (kind : Kind) → kind_of_p place number tokens ≡ kind →
    IsHeaderOf place number (codes "p" ∷ tokens) kind
behind_p place number [] kind h = search (arith, nothing_behind)
behind_p place number (word ∷ others) kind h = search (arith, by_second, bytes_eq-Decides)

by_words : (circuit binary refutation : Bool) (place number : ℕ) (word : List ℕ) (tokens : List (List ℕ))
    (kind : Kind) →
    (circuit ≡ true → word ≡ codes "aag") → (binary ≡ true → word ≡ codes "aig") →
    (refutation ≡ true → word ≡ codes "p") →
    cond circuit (Ok (Circuit place number)) (cond binary (Ok (BinaryCircuit place number))
    (cond refutation (Ok (kind_of_p place number tokens)) (Err (refusal number BadHeader)))) ≡ Ok kind →
    IsHeaderOf place number (word ∷ tokens) kind
by_words true binary refutation place number word tokens kind aag aig p h =
    let is : Circuit place number ≡ kind = cc in
    subst (IsHeaderOf place number (word ∷ tokens)) is (record
    { rest = tokens; word = ap (λ w. w ∷ tokens) (aag refl); behind = tt; place_is = refl; number_is = refl })
by_words false true refutation place number word tokens kind aag aig p h =
    let is : BinaryCircuit place number ≡ kind = cc in
    subst (IsHeaderOf place number (word ∷ tokens)) is (record
    { rest = tokens; word = ap (λ w. w ∷ tokens) (aig refl); behind = tt; place_is = refl; number_is = refl })
by_words false false true place number word tokens kind aag aig p h = search (arith, behind_p)
by_words false false false place number word tokens kind aag aig p h = cc

header_is : (place number : ℕ) (tokens : List (List ℕ)) (kind : Kind) → header_kind place number tokens ≡ Ok kind →
    IsHeaderOf place number tokens kind
header_is place number [] kind h = cc
header_is place number (word ∷ tokens) kind h = search (arith, by_words, bytes_eq-Decides)

abbrev word_of : Verdict → List ℕ
word_of True = codes "TRUE"
word_of False = codes "FALSE"

verdict_is : (t f : Bool) (word : List ℕ) (verdict : Verdict) → (t ≡ true → word ≡ codes "TRUE") →
    (f ≡ true → word ≡ codes "FALSE") →
    cond t (Some True) (cond f (Some False) None) ≡ Some verdict → word ≡ word_of verdict
verdict_is true f word verdict is_true is_false h = search arith
verdict_is false true word verdict is_true is_false h = search arith
verdict_is false false word verdict is_true is_false h = cc

by_letter : (s : Bool) (letter word : List ℕ) (verdict : Verdict) → (s ≡ true → letter ≡ codes "s") →
    cond s (verdict_of_word word) None ≡ Some verdict →
    letter ∷ word ∷ [] ≡ codes "s" ∷ word_of verdict ∷ []
by_letter true letter word verdict is_s h = search (arith, verdict_is, bytes_eq-Decides)
by_letter false letter word verdict is_s h = cc

stated_is : (tokens : List (List ℕ)) (verdict : Verdict) → stated_verdict tokens ≡ Some verdict →
    tokens ≡ codes "s" ∷ word_of verdict ∷ []
stated_is [] verdict h = cc
stated_is (letter ∷ []) verdict h = cc
stated_is (letter ∷ word ∷ []) verdict h = search (arith, by_letter, bytes_eq-Decides)
stated_is (letter ∷ word ∷ more ∷ rest) verdict h = cc

same_word : (verdict : Verdict) (kind : Kind) → shows kind verdict ≡ true →
    verdict_word kind ≡ Some (word_of verdict)
same_word True (Circuit place number) h = refl
same_word False (Circuit place number) h = cc
same_word True (BinaryCircuit place number) h = refl
same_word False (BinaryCircuit place number) h = cc
same_word True (Refutation place number) h = cc
same_word False (Refutation place number) h = refl
same_word True (Definitions place number) h = cc
same_word False (Definitions place number) h = cc

agreed : (same : Bool) (kind other : Kind) → cond same (Ok kind) (Err (refusal 1 WrongVerdict)) ≡ Ok other →
    (same ≡ true) × (kind ≡ other)
agreed true kind other h = let is : kind ≡ other = cc in (refl, is)
agreed false kind other h = cc

agrees : (verdict : Verdict) (found : Result Kind CertRefusal) (kind : Kind) → agreeing verdict found ≡ Ok kind →
    (found ≡ Ok kind) × (verdict_word kind ≡ Some (word_of verdict))
agrees verdict (Err fault) kind h = cc
agrees verdict (Ok found) kind h = search (arith, agreed, same_word)

behind_verdict : (text : List ℕ) (verdict : Verdict) (line : TextLine) (lines : List TextLine) (kind : Kind) →
    lines_from 1 text ≡ line ∷ lines →
    line_tokens line.text ≡ codes "s" ∷ word_of verdict ∷ [] →
    agreeing verdict (kind_at (length text - length line.behind) lines) ≡ Ok kind → BeginsWithVerdict text kind
behind_verdict text verdict line [] kind is stated h = cc
behind_verdict text verdict line (header ∷ others) kind is stated h =
    let first = first_line 1 text line (header ∷ others) is in
    let second = first_line 2 line.behind header others (sym first.next) in
    let both = agrees verdict (kind_at (length text - length line.behind) (header ∷ others)) kind h in
    let found = header_is (length text - length line.behind) header.number (line_tokens header.text) kind both.0 in
    record {
      stated = line;
      header = header;
      others = others;
      rest = found.rest;
      shown = word_of verdict;
      shows = both.1;
      lines = is;
      verdict = stated;
      word = found.word;
      behind = found.behind;
      place = omega (arith, found.place_is, first.short);
      number = found.number_is ∙ second.number;
    }

by_statement : (text : List ℕ) (line : TextLine) (lines : List TextLine) (stated : Option Verdict) (kind : Kind) →
    lines_from 1 text ≡ line ∷ lines →
    stated_verdict (line_tokens line.text) ≡ stated → kind_behind (length text) line lines stated ≡ Ok kind →
    Begins text kind
by_statement text line lines None kind is stated h =
    let found = header_is 0 line.number (line_tokens line.text) kind h in
    inl (record {
      header = line;
      others = lines;
      rest = found.rest;
      lines = is;
      word = found.word;
      behind = found.behind;
      place = found.place_is;
      number = found.number_is ∙ (first_line 1 text line lines is).number;
    })
by_statement text line lines (Some verdict) kind is stated h = search (arith, behind_verdict, stated_is)

by_lines : (text : List ℕ) (lines : List TextLine) (kind : Kind) → lines_from 1 text ≡ lines →
    kind_of_lines (length text) lines ≡ Ok kind → Begins text kind
by_lines text [] kind is h = cc
by_lines text (line ∷ lines) kind is h = search (arith, by_statement)

pub kind_spelled : (text : List ℕ) (kind : Kind) → certificate_kind text ≡ Ok kind → Begins text kind
kind_spelled text kind h = by_lines text (lines_from 1 text) kind refl h

-- the other way
unstated : (kind : Kind) (rest : List (List ℕ)) → stated_verdict (header_word kind ∷ rest) ≡ None
unstated (Circuit place number) [] = refl
unstated (Circuit place number) (word ∷ []) = refl
unstated (Circuit place number) (word ∷ more ∷ rest) = refl
unstated (BinaryCircuit place number) [] = refl
unstated (BinaryCircuit place number) (word ∷ []) = refl
unstated (BinaryCircuit place number) (word ∷ more ∷ rest) = refl
unstated (Refutation place number) [] = refl
unstated (Refutation place number) (word ∷ []) = refl
unstated (Refutation place number) (word ∷ more ∷ rest) = refl
unstated (Definitions place number) [] = refl
unstated (Definitions place number) (word ∷ []) = refl
unstated (Definitions place number) (word ∷ more ∷ rest) = refl

-- the token behind `p` isn't `dqd`
is_other : (is : Bool) (word : List ℕ) (others : List (List ℕ)) → (is ≡ true → word ≡ codes "dqd") →
    ((more : List (List ℕ)) → word ∷ others ≢ codes "dqd" ∷ more) → is ≡ false
is_other true word others found differ = absurd (differ others (ap (λ w. w ∷ others) (found refl)))
is_other false word others found differ = refl

refutation_told : (place number : ℕ) (rest : List (List ℕ)) →
    ((more : List (List ℕ)) → rest ≢ codes "dqd" ∷ more) → kind_of_p place number rest ≡ Refutation place number
refutation_told place number [] differ = refl
refutation_told place number (word ∷ others) differ =
    ap (λ b. cond b (Definitions place number) (Refutation place number))
    (is_other (bytes_eq word (codes "dqd")) word others (bytes_eq-Decides word (codes "dqd")).0 differ)

told : (kind : Kind) (place number : ℕ) (rest : List (List ℕ)) → HasRest kind rest → header_place kind ≡ place →
    header_number kind ≡ number →
    header_kind place number (header_word kind ∷ rest) ≡ Ok kind
told (Circuit at line) place number rest behind place_is number_is = search arith
told (BinaryCircuit at line) place number rest behind place_is number_is = search arith
told (Refutation at line) place number rest behind place_is number_is = search (arith, refutation_told)
told (Definitions at line) place number rest behind place_is number_is = search arith

plain_told : (text : List ℕ) (kind : Kind) → BeginsPlainly text kind → certificate_kind text ≡ Ok kind
plain_told text kind b = search (arith, first_line, unstated, told)

abbrev verdict_of : Kind → Verdict
verdict_of (Refutation _ _) = False
verdict_of _ = True

stated_told : (kind : Kind) (word : List ℕ) → verdict_word kind ≡ Some word →
    stated_verdict (codes "s" ∷ word ∷ []) ≡ Some (verdict_of kind)
stated_told (Circuit place number) word is = search arith
stated_told (BinaryCircuit place number) word is = search arith
stated_told (Refutation place number) word is = search arith
stated_told (Definitions place number) word is = cc

agreeing_told : (kind : Kind) (word : List ℕ) → verdict_word kind ≡ Some word →
    agreeing (verdict_of kind) (Ok kind) ≡ Ok kind
agreeing_told (Circuit place number) word is = refl
agreeing_told (BinaryCircuit place number) word is = refl
agreeing_told (Refutation place number) word is = refl
agreeing_told (Definitions place number) word is = cc

verdict_told : (text : List ℕ) (kind : Kind) → BeginsWithVerdict text kind → certificate_kind text ≡ Ok kind
verdict_told text kind b = search (arith, first_line, stated_told, told, agreeing_told)

pub kind_told : (text : List ℕ) (kind : Kind) → Begins text kind → certificate_kind text ≡ Ok kind
kind_told text kind begins = elim begins [
  | inl plain ↦ plain_told text kind plain
  | inr stated ↦
      verdict_told text kind stated
]
