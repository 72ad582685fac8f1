-- Which kind a certificate is: a circuit, in one of AIGER's two forms, or a refutation, behind an
-- optional line with the verdict, as in the output of SAT solvers; or definitions.
use Rattle.std.specs.Prelude.{ℕ, ◌-◌, Bool, true, false, List, [], ◌∷◌, length, Option, Some, None, Result, Ok, Err, codes, if◌then◌else◌}
use Rattle.std.specs.Str.{bytes_eq}
use Rattle.dq_text.specs.Line.{TextLine, line_tokens, lines_from}
use Rattle.cert_text.specs.declared.faults.CertFault.{CertFault}
use Rattle.cert_text.specs.declared.faults.CertFault.TheVariants.{BadHeader, WrongVerdict}
use Rattle.cert_text.specs.declared.faults.CertRefusal.{CertRefusal}
use Rattle.cert_text.specs.declared.kinds.Kind.{Kind}
use Rattle.cert_text.specs.declared.kinds.Kind.TheVariants.{Circuit, BinaryCircuit, Refutation, Definitions}
use Rattle.cert_text.specs.declared.kinds.Verdict.{Verdict}
use Rattle.cert_text.specs.declared.kinds.Verdict.TheVariants.{True, False}

abbrev pub refusal : ℕ → CertFault → CertRefusal
refusal line name = record { line = line; name = name }

abbrev pub verdict_of_word : List ℕ → Option Verdict
verdict_of_word word =
    if bytes_eq word (codes "TRUE") then Some True else
    if bytes_eq word (codes "FALSE") then Some False else None

-- the verdict of a line of two tokens, `s` and `TRUE` or `FALSE`
abbrev pub stated_verdict : List (List ℕ) → Option Verdict
stated_verdict (letter ∷ word ∷ []) =
    if bytes_eq letter (codes "s") then verdict_of_word word else None
stated_verdict _ = None

abbrev pub same_verdict : Verdict → Verdict → Bool
same_verdict True True = true
same_verdict True False = false
same_verdict False True = false
same_verdict False False = true

-- definitions show neither verdict
abbrev pub shows : Kind → Verdict → Bool
shows (Circuit _ _) verdict = same_verdict verdict True
shows (BinaryCircuit _ _) verdict = same_verdict verdict True
shows (Refutation _ _) verdict = same_verdict verdict False
shows (Definitions _ _) verdict = false

-- by the tokens behind `p`
abbrev pub kind_of_p : ℕ → ℕ → List (List ℕ) → Kind
kind_of_p at line [] = Refutation at line
kind_of_p at line (word ∷ _) =
    if bytes_eq word (codes "dqd") then Definitions at line else Refutation at line

-- the first token of the header line decides, and behind `p` the second
abbrev pub header_kind : ℕ → ℕ → List (List ℕ) → Result Kind CertRefusal
header_kind at line [] = Err (refusal line BadHeader)
header_kind at line (word ∷ rest) =
    if bytes_eq word (codes "aag") then Ok (Circuit at line) else
    if bytes_eq word (codes "aig") then Ok (BinaryCircuit at line) else
    if bytes_eq word (codes "p") then Ok (kind_of_p at line rest) else
    Err (refusal line BadHeader)

-- a kind that doesn't show the verdict is refused
abbrev pub agreeing : Verdict → Result Kind CertRefusal → Result Kind CertRefusal
agreeing verdict (Ok kind) =
    if shows kind verdict then Ok kind else Err (refusal 1 WrongVerdict)
agreeing verdict (Err fault) = Err fault

-- the header line begins at the byte `at`; its number is 2 where it is missing
abbrev pub kind_at : ℕ → List TextLine → Result Kind CertRefusal
kind_at at [] = Err (refusal 2 BadHeader)
kind_at at (line ∷ _) = header_kind at line.number (line_tokens line.text)

-- the verdict that the first line states, if it does, has to agree with the kind behind it
abbrev pub kind_behind : ℕ → TextLine → List TextLine → Option Verdict → Result Kind CertRefusal
kind_behind bytes line lines None = kind_at 0 (line ∷ [])
kind_behind bytes line lines (Some verdict) =
    agreeing verdict (kind_at (bytes - length line.behind) lines)

abbrev pub kind_of_lines : ℕ → List TextLine → Result Kind CertRefusal
kind_of_lines bytes [] = Err (refusal 1 BadHeader)
kind_of_lines bytes (line ∷ lines) =
    kind_behind bytes line lines (stated_verdict (line_tokens line.text))

-- by the lines of the text
abbrev pub certificate_kind : List ℕ → Result Kind CertRefusal
certificate_kind text = kind_of_lines (length text) (lines_from 1 text)
