use Rattle.std.proofs.Common.{◌≡◌, ◌∙◌, map, slice_get, ap, sym}
use Rattle.dq_lits.specs.Literal.{opposite}
use Rattle.dq_lits.specs.Derivation.{line_fault}
use Rattle.cert_export.specs.Renaming.{cut_hints}
use Rattle.cert_export.proofs.NeededHints.{truncated, needed_is}
use Rattle.cert_export.proofs.lines.needed.Goals.{in-Yes, in-No}
use Rattle.cert_export.proofs.lines.needed.Goals as goal

pub returns : goal.returns
returns c =
    let live = slice_get c.args.clauses.now in
    let lits = c.args.line.lits.now in
    let places = c.in_ok-places.places.items in
    let cut : truncated c.in_ok-derive_any.field-0 places ≡ cut_hints live (map opposite lits) places =
    needed_is c.in_ok-derive_any.field-0 live lits places c.requires.consistent
    (c.in_ok-derive_any.ensures.answer ∙ ap (line_fault live lits) c.deref.ensures.value) in
    let all = cut ∙ ap (cut_hints live (map opposite lits)) c.in_ok-places.ensures in
    elim c.match-branch-3.branch [
      | in-Yes w ↦ ap (λ v. v.items) w.places-is ∙ ap (λ d. truncated d places) (sym w.in-Yes.is) ∙ all
      | in-No w ↦ ap (λ v. v.items) w.places-is ∙ w.truncate.ensures.items ∙ ap (λ d. truncated d places)
          (sym w.in-No.is) ∙ all
    ]
