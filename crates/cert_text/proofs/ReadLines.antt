-- Reading so many lines, one after the other.
use Rattle.std.proofs.Common.{◌≡◌, ℕ, ◌+◌, ◌-◌, ◌≤◌, ◌<◌, List, [], ◌∷◌, ◌++◌, Result, Ok, Err, refl, sym, arith, subst, append_assoc, append-nil}
use Rattle.dq_text.specs.Line.{TextLine, LineCursor, line_tokens, lines_from}
use Rattle.cert_text.specs.Kind.{refusal}
use Rattle.cert_text.specs.LineStop.{IsLineOf, StopsAt}
use Rattle.cert_text.specs.Lines.{Format, IsReadInto, LinesRead, and_read, at_line, put_behind, read_from, read_some, read_up_to, with_item}
use Rattle.cert_text.specs.declared.faults.CertFault.{CertFault}
use Rattle.cert_text.specs.declared.faults.CertFault.TheVariants.{Truncated}
use Rattle.cert_text.specs.declared.faults.CertRefusal.{CertRefusal}
use Rattle.cert_text.specs.declared.faults.CertStop.{CertStop}
use Rattle.cert_text.specs.declared.faults.CertStop.TheVariants.{Refused}
use Rattle.cert_text.specs.declared.faults.LineStop.{LineStop}
use Rattle.cert_text.specs.declared.faults.LineStop.TheVariants.{Fault, Memory}

abbrev Read : Type 0 → Type 0
Read A = Result (LinesRead A) CertRefusal

module _ {A : Type 0} where
  -- a refusal is one of the text
  pub refused_at : (read : Read A) (fault : CertRefusal) (made : CertStop) (after : List A) (left : LineCursor) →
      made ≡ Refused fault → read ≡ Err fault →
      IsReadInto read (Err made) after left
  refused_at read fault made after left is h = subst (λ s. IsReadInto read (Err s) after left) (sym is) h

  -- a line's stop is one of the text
  pub stopped : (read : Read A) (line : ℕ) (taken : Result A CertFault) (stop : LineStop) (made : CertStop)
      (after : List A) (left : LineCursor) →
      IsLineOf taken (Err stop) → StopsAt line stop made → ((name : CertFault) → taken ≡ Err name →
      read ≡ Err (refusal line name)) →
      IsReadInto read (Err made) after left
  stopped read line taken (Fault name) made after left is stops fault = search arith
  stopped read line taken Memory made after left is stops fault = search arith

  one_behind : (before : List A) (item : A) (r : Read A) → put_behind before (and_read r (with_item item)) ≡ put_behind
      (before ++ item ∷ []) r
  one_behind before item (Ok r) = search (arith, append_assoc)
  one_behind before item (Err fault) = refl

module _ {S A : Type 0} (F : Format S A) (at : S) (k count : ℕ) (before : List A) where
  -- what is to be read from here on
  abbrev to_read : LineCursor → Result (LinesRead A) CertRefusal
  to_read left = put_behind before (read_from F at (count - k) left)

  pub nothing_more : (left : LineCursor) → count ≤ k → to_read left ≡ Ok (read_up_to before left)
  nothing_more left done = search (arith, append-nil)

  pub line_missing : (left : LineCursor) (number : ℕ) → k < count → left.rest ≡ [] → left.number ≡ number →
      to_read left ≡ Err (refusal number Truncated)
  line_missing left number more none is = search arith

  -- where a line stands in front
  by_line : (left : LineCursor) (line : TextLine) (rest : List TextLine) → k < count →
      lines_from left.number left.rest ≡ line ∷ rest →
      to_read left ≡ put_behind before (and_read (at_line line.number (F.line at (line_tokens line.text)))
      (λ item. and_read (read_some F (F.behind at item) (count - (k + 1)) rest (line.number + 1)) (with_item item)))
  by_line left line rest more is = search arith

  pub line_at_fault : (left : LineCursor) (line : TextLine) (rest : List TextLine) (name : CertFault) → k < count →
      lines_from left.number left.rest ≡ line ∷ rest → F.line at (line_tokens line.text) ≡ Err name →
      to_read left ≡ Err (refusal line.number name)
  line_at_fault left line rest name more is fault = search (arith, by_line)

  pub line_read : (left after_line : LineCursor) (line : TextLine) (item : A) (after : List A) → k < count →
      lines_from left.number left.rest ≡ line ∷ lines_from after_line.number after_line.rest →
      after_line.number ≡ line.number + 1 →
      F.line at (line_tokens line.text) ≡ Ok item → after ≡ before ++ item ∷ [] →
      to_read left ≡ put_behind after (read_from F (F.behind at item) (count - (k + 1)) after_line)
  line_read left after_line line item after more is next taken pushed = search (arith, by_line, one_behind)
