-- The lines up to the header line tell the certificate's kind, whatever stands behind them.
use Rattle.std.proofs.Common.{◌≡◌, ℕ, ◌<◌, Bool, true, false, cond, inl, inr, List, [], ◌∷◌, ◌++◌, length, Option, None, Some, Result, Ok, Err, refl, sym, ◌∙◌, ap, subst, arith, append_assoc, append-nil, length-append}
use Rattle.std.specs.Prelude.{codes, drop}
use Rattle.std.specs.Str.{bytes_eq}
use Rattle.std.proofs.Math.Seq.{drop-append_seam}
use Rattle.dq_lits.specs.Formula.{Dqbf}
use Rattle.dq_text.specs.Line.{line_tokens, lines_from}
use Rattle.cert_text.specs.Beginning.{header_place}
use Rattle.cert_text.specs.Kind.{agreeing, certificate_kind, header_kind, kind_behind, kind_of_p, refusal, shows, stated_verdict}
use Rattle.cert_text.specs.declared.faults.CertFault.TheVariants.{BadHeader, WrongVerdict}
use Rattle.cert_text.specs.declared.faults.CertRefusal.{CertRefusal}
use Rattle.cert_text.specs.declared.kinds.Kind.{Kind}
use Rattle.cert_text.specs.declared.kinds.Kind.TheVariants.{Circuit as CircuitText, BinaryCircuit as BinaryText, Refutation as RefutationText, Definitions as DefinitionsText}
use Rattle.cert_text.specs.declared.kinds.Verdict.{Verdict}
use Rattle.cert_judge.specs.Beginnings.{BeginsAs, IsJudgementFrom, Starts}
use Rattle.cert_judge.specs.Judgement.{IsJudgement, IsJudgementOf}
use Rattle.cert_judge.specs.Phases.{line_end, HasNoEnd, IsBeginning, IsLastUnless, IsLawful, IsVerdictLine}
use Rattle.cert_judge.specs.declared.answers.Judgement.{Judgement}
use Rattle.cert_judge.specs.declared.answers.Judgement.TheVariants.{Refused}
use Rattle.cert_judge.specs.declared.answers.CertificateFault.TheVariants.{Text}
use Rattle.cert_judge.specs.declared.phases.Phase.{Phase}
use Rattle.cert_judge.specs.declared.phases.Phase.TheVariants.{Decided}
use Rattle.cert_judge.proofs.LinesToCome.{first_is, line_of}

-- the whole text
abbrev pub whole : List ℕ → Bool → List ℕ → List ℕ → List ℕ
whole before ended text behind = before ++ (text ++ (line_end ended ++ behind))

-- the text so far, as it is put together
pub put_together : (before text behind : List ℕ) (ended : Bool) →
    ((before ++ text) ++ line_end ended) ++ behind ≡ whole before ended text behind
put_together before text behind ended = search (arith, append_assoc)

pub so_far : (before text : List ℕ) (ended : Bool) →
    (before ++ text) ++ line_end ended ≡ whole before ended text []
so_far before text ended =
    sym (append-nil ((before ++ text) ++ line_end ended)) ∙ put_together before text [] ended

nothing_behind : (ended : Bool) (text behind : List ℕ) → IsLastUnless ended text behind → IsLastUnless ended text []
nothing_behind true text behind last = tt
nothing_behind false text behind last = (last.0, refl)

-- by the first line
first_kind : (ended : Bool) (text behind : List ℕ) → HasNoEnd text → IsLastUnless ended text behind →
    certificate_kind (whole [] ended text behind)
    ≡ kind_behind (length (whole [] ended text behind)) (line_of text 1 behind) (lines_from 2 behind)
    (stated_verdict (line_tokens text))
first_kind ended text behind free last = search (arith, first_is)

plain_kind : (ended : Bool) (text behind : List ℕ) → HasNoEnd text → IsLastUnless ended text behind →
    stated_verdict (line_tokens text) ≡ None →
    certificate_kind (whole [] ended text behind) ≡ header_kind 0 1 (line_tokens text)
plain_kind ended text behind free last none = search (arith, first_kind)

missing_kind : (ended : Bool) (text : List ℕ) (verdict : Verdict) → HasNoEnd text → IsLastUnless ended text [] →
    stated_verdict (line_tokens text) ≡ Some verdict →
    certificate_kind (whole [] ended text []) ≡ Err (refusal 2 BadHeader)
missing_kind ended text verdict free last states = search (arith, first_kind)

-- by the line behind the verdict's
second_kind : (lines : List ℕ) (missing : CertRefusal) (is : IsVerdictLine lines missing) (ended : Bool)
    (text behind : List ℕ) → HasNoEnd text → IsLastUnless ended text behind →
    certificate_kind (whole lines ended text behind)
    ≡ agreeing is.verdict (header_kind (length lines) 2 (line_tokens text))
second_kind lines missing is ended text behind free last =
    search (
      arith,
      (append_assoc is.text (10 ∷ [])),
      (length-append lines),
      (first_is true 1 is.text),
      (first_is ended 2 text behind free last),
    )

-- a refusal that no later line changes
abbrev pub IsFinal : CertRefusal → Bool → Result Kind CertRefusal → Type 0
IsFinal missing ended (Ok kind) = Unit {0}
IsFinal missing ended (Err fault) = ended ≡ true → ¬ (missing.line < fault.line)

first_same : (ended : Bool) (text behind : List ℕ) (missing : CertRefusal) (s : Option Verdict)
    (r : Result Kind CertRefusal) → missing ≡ refusal 1 BadHeader → HasNoEnd text → IsLastUnless ended text behind →
    stated_verdict (line_tokens text) ≡ s → ended ≡ true → certificate_kind (whole [] ended text []) ≡ r →
    IsFinal missing ended r → certificate_kind (whole [] ended text behind) ≡ r
first_same ended text behind missing None r is free last states end told final =
    plain_kind ended text behind free last states
    ∙ sym (plain_kind ended text [] free (nothing_behind ended text behind last) states) ∙ told
first_same ended text behind missing (Some verdict) (Ok kind) is free last states end told final =
    let none = missing_kind ended text verdict free (nothing_behind ended text behind last) states in cc
first_same ended text behind missing (Some verdict) (Err fault) is free last states end told final =
    let none = missing_kind ended text verdict free (nothing_behind ended text behind last) states in
    let same : refusal 2 BadHeader ≡ fault = cc in
    let two : fault.line ≡ 2 = ap (λ (x : CertRefusal). x.line) (sym same) in
    let one : missing.line ≡ 1 = ap (λ (x : CertRefusal). x.line) is in
    absurd (final end (omega (arith, one, two)))

by_end : (lines : List ℕ) (missing : CertRefusal) (ended : Bool) (text behind : List ℕ) (r : Result Kind CertRefusal) →
    IsBeginning lines missing → HasNoEnd text → IsLastUnless ended text behind →
    certificate_kind (whole lines ended text []) ≡ r → IsFinal missing ended r →
    certificate_kind (whole lines ended text behind) ≡ r
by_end lines missing false text behind r is free last told final = search arith
by_end lines missing true text behind r (inl is) free last told final =
    subst (λ l. certificate_kind (whole l true text behind) ≡ r) (sym is.0)
    (first_same true text behind missing (stated_verdict (line_tokens text)) r is.1 free last refl refl
    (subst (λ l. certificate_kind (whole l true text []) ≡ r) is.0 told) final)
by_end lines missing true text behind r (inr is) free last told final =
    second_kind lines missing is true text behind free last
    ∙ sym (second_kind lines missing is true text [] free tt) ∙ told

-- where the header line begins
placed_by_second : (is : Bool) (at line : ℕ) →
    header_place (cond is (DefinitionsText at line) (RefutationText at line)) ≡ at
placed_by_second true at line = refl
placed_by_second false at line = refl

p_placed : (at line : ℕ) (tokens : List (List ℕ)) → header_place (kind_of_p at line tokens) ≡ at
p_placed at line [] = refl
p_placed at line (word ∷ _) = placed_by_second (bytes_eq word (codes "dqd")) at line

placed : (a b c : Bool) (at line : ℕ) (tokens : List (List ℕ)) (fault : CertRefusal) (kind : Kind) →
    cond a (Ok (CircuitText at line)) (cond b (Ok (BinaryText at line)) (cond c (Ok (kind_of_p at line tokens))
    (Err fault))) ≡ (λ (r : Result Kind CertRefusal). r) (Ok kind) → header_place kind ≡ at
placed true b c at line tokens fault kind is =
    let same : CircuitText at line ≡ kind = cc in ap header_place (sym same)
placed false true c at line tokens fault kind is =
    let same : BinaryText at line ≡ kind = cc in ap header_place (sym same)
placed false false true at line tokens fault kind is =
    let same : kind_of_p at line tokens ≡ kind = cc in ap header_place (sym same) ∙ p_placed at line tokens
placed false false false at line tokens fault kind is = cc

header_placed : (at line : ℕ) (tokens : List (List ℕ)) (kind : Kind) → header_kind at line tokens ≡ Ok kind →
    header_place kind ≡ at
header_placed at line [] kind is = cc
header_placed at line (word ∷ rest) kind is = search arith

numbered : (a b c : Bool) (at line : ℕ) (tokens : List (List ℕ)) (fault : CertRefusal) →
    cond a (Ok (CircuitText at line)) (cond b (Ok (BinaryText at line)) (cond c (Ok (kind_of_p at line tokens))
    (Err (refusal line BadHeader)))) ≡ (λ (r : Result Kind CertRefusal). r) (Err fault) → fault.line ≡ line
numbered true b c at line tokens fault is = cc
numbered false true c at line tokens fault is = cc
numbered false false true at line tokens fault is = cc
numbered false false false at line tokens fault is =
    let same : refusal line BadHeader ≡ fault = cc in ap (λ (x : CertRefusal). x.line) (sym same)

header_numbered : (at line : ℕ) (tokens : List (List ℕ)) (fault : CertRefusal) →
    header_kind at line tokens ≡ Err fault → fault.line ≡ line
header_numbered at line [] fault is = search arith
header_numbered at line (word ∷ rest) fault is = search arith

agreed_or_not : (b : Bool) (kind shown : Kind) →
    cond b (Ok kind) (Err (refusal 1 WrongVerdict)) ≡ (λ (r : Result Kind CertRefusal). r) (Ok shown) → kind ≡ shown
agreed_or_not true kind shown is = cc
agreed_or_not false kind shown is = cc

agreed : (verdict : Verdict) (r : Result Kind CertRefusal) (kind : Kind) → agreeing verdict r ≡ Ok kind → r ≡ Ok kind
agreed verdict (Ok shown) kind is = ap Ok (agreed_or_not (shows shown verdict) shown kind is)
agreed verdict (Err fault) kind is = cc

disagreed : (b : Bool) (kind : Kind) (fault : CertRefusal) →
    cond b (Ok kind) (Err (refusal 1 WrongVerdict)) ≡ (λ (r : Result Kind CertRefusal). r) (Err fault) →
    fault.line ≡ 1
disagreed true kind fault is = cc
disagreed false kind fault is = search arith

agreeing_early : (verdict : Verdict) (at : ℕ) (tokens : List (List ℕ)) (r : Result Kind CertRefusal)
    (fault : CertRefusal) → header_kind at 2 tokens ≡ r → agreeing verdict r ≡ Err fault → fault.line < 3
agreeing_early verdict at tokens (Ok kind) fault header is = search (arith, disagreed)
agreeing_early verdict at tokens (Err other) fault header is = search (arith, header_numbered)

kind_place : (lines : List ℕ) (missing : CertRefusal) (ended : Bool) (text : List ℕ) (kind : Kind)
    (s : Option Verdict) → IsBeginning lines missing → HasNoEnd text → IsLastUnless ended text [] →
    stated_verdict (line_tokens text) ≡ s → certificate_kind (whole lines ended text []) ≡ Ok kind →
    header_place kind ≡ length lines
kind_place lines missing ended text kind None (inl is) free last states told =
    search (arith, header_placed, plain_kind)
kind_place lines missing ended text kind (Some verdict) (inl is) free last states told = search (arith, missing_kind)
kind_place lines missing ended text kind s (inr is) free last states told =
    search (arith, (header_placed (length lines) 2), (second_kind lines missing is ended text [] free last))

-- a missing header line
still_missing : (lines : List ℕ) (missing : CertRefusal) (text : List ℕ) (fault : CertRefusal) (s : Option Verdict) →
    IsBeginning lines missing → HasNoEnd text → stated_verdict (line_tokens text) ≡ s →
    certificate_kind (whole lines true text []) ≡ Err fault → missing.line < fault.line →
    IsVerdictLine (whole lines true text []) fault
still_missing lines missing text fault None (inl is) free states told later =
    search (arith, (header_numbered 0 1), (plain_kind true text [] free))
still_missing lines missing text fault (Some verdict) (inl is) free states told later =
    search (arith, (missing_kind true text verdict free))
still_missing lines missing text fault s (inr is) free states told later =
    search (arith, (agreeing_early is.verdict (length lines)), (second_kind lines missing is true text [] free))

behind_lines : (lines bytes : List ℕ) (at : ℕ) → at ≡ length lines → drop at (lines ++ bytes) ≡ bytes
behind_lines lines bytes at place = ap (λ n. drop n (lines ++ bytes)) place ∙ drop-append_seam lines bytes

judged_from : (f : Dqbf) (lines bytes : List ℕ) (kind : Kind) (answer : Judgement) → header_place kind ≡ length lines →
    IsJudgementFrom f bytes kind answer → IsJudgementOf f (lines ++ bytes) (Ok kind) answer
judged_from f lines bytes (CircuitText at h) answer place says = search (arith, behind_lines)
judged_from f lines bytes (BinaryText at h) answer place says = search (arith, behind_lines)
judged_from f lines bytes (RefutationText at h) answer place says = search (arith, behind_lines)
judged_from f lines bytes (DefinitionsText at h) answer place says = search (arith, behind_lines)

module _ (f : Dqbf) (lines : List ℕ) (missing : CertRefusal) (ended : Bool) (text : List ℕ)
    (is : IsBeginning lines missing) (free : HasNoEnd text) where
  -- as it is put together
  abbrev put : List ℕ
  put = (lines ++ text) ++ line_end ended

  told_as : (r : Result Kind CertRefusal) → r ≡ certificate_kind put →
      certificate_kind (whole lines ended text []) ≡ r
  told_as r told = ap certificate_kind (sym (so_far lines text ended)) ∙ sym told

  pub starts_begin : (kind : Kind) (phase : Phase) (r : Result Kind CertRefusal) → r ≡ Ok kind →
      r ≡ certificate_kind put → Starts f kind text ended phase → IsLawful phase →
      BeginsAs f lines text ended put missing (Some phase)
  starts_begin kind phase r found told starts lawful = (
    lawful,
    λ behind answer last says.
        let here = told_as (Ok kind) (sym found ∙ told) in
        let last_here = nothing_behind ended text behind last in
        subst (λ k. IsJudgementOf f (whole lines ended text behind) k answer)
        (sym (by_end lines missing ended text behind (Ok kind) is free last here tt))
        (judged_from f lines (text ++ (line_end ended ++ behind)) kind answer
        (kind_place lines missing ended text kind (stated_verdict (line_tokens text)) is free last_here refl here)
        (starts behind answer last says)),
  )

  pub refusal_begins : (fault : CertRefusal) (r : Result Kind CertRefusal) → r ≡ Err fault →
      r ≡ certificate_kind put → (ended ≡ true → ¬ (missing.line < fault.line)) →
      BeginsAs f lines text ended put missing (Some (Decided (Refused fault.line (Text fault.name))))
  refusal_begins fault r found told final = (
    tt,
    λ behind answer last says.
        subst (λ k. IsJudgementOf f (whole lines ended text behind) k answer)
        (sym (by_end lines missing ended text behind (Err fault) is free last
        (told_as (Err fault) (sym found ∙ told)) final)) says,
  )

  pub goes_on_beginning : (fault : CertRefusal) (r : Result Kind CertRefusal) → r ≡ Err fault →
      r ≡ certificate_kind put → ended ≡ true → missing.line < fault.line →
      BeginsAs f lines text ended put fault None
  goes_on_beginning fault r found told end later = (
    inr (subst (λ l. IsVerdictLine l fault) (sym (so_far lines text ended))
        (subst (λ e. IsVerdictLine (whole lines e text []) fault) (sym end)
        (still_missing lines missing text fault (stated_verdict (line_tokens text)) is free refl
        (subst (λ e. certificate_kind (whole lines e text []) ≡ Err fault) end
        (told_as (Err fault) (sym found ∙ told))) later))),
    λ behind answer says. subst (λ t. IsJudgement f t answer) (put_together lines text behind ended) says,
  )

-- no header line came
missing_told : (lines : List ℕ) (missing : CertRefusal) → IsBeginning lines missing →
    certificate_kind lines ≡ Err missing
missing_told lines missing (inl is) = ap certificate_kind is.0 ∙ ap Err (sym is.1)
missing_told lines missing (inr is) = search (arith, (missing_kind true is.text is.verdict is.one_line))

pub missing_says : (f : Dqbf) (lines : List ℕ) (missing : CertRefusal) (answer : Judgement) →
    IsBeginning lines missing → answer ≡ Refused missing.line (Text missing.name) → IsJudgement f (lines ++ []) answer
missing_says f lines missing answer is says = search (arith, (append-nil lines), (missing_told lines missing is))
