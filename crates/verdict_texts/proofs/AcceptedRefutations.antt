-- The checker accepts refutations as they are written.
use Rattle.std.proofs.Common.{◌≡◌, ◌∙◌, ℕ, Bool, cond, true, false, sym, ap, subst, List, [], ◌++◌, length, None, Result, Ok, codes}
use Rattle.dq_lits.specs.Formula.{Dqbf}
use Rattle.std.specs.List.{flat_map}
use Rattle.dq_formula.specs.Prefix.{IsLawful}
use Rattle.dq_text.specs.Written.{number_line, number_text}
use Rattle.cert_text.specs.Canonical.{canonical, item_text, row_text, version_for}
use Rattle.cert_text.specs.Grammar.{IsDqrOf}
use Rattle.cert_text.specs.Scan.{refutation_of}
use Rattle.cert_text.specs.declared.faults.CertRefusal.{CertRefusal}
use Rattle.cert_text.specs.declared.kinds.Kind.TheVariants.{Refutation}
use Rattle.cert_text.specs.declared.refutations.Dqr.{Dqr}
use Rattle.refutation_checker.specs.Refutation.{refutation_fault}
use Rattle.cert_judge.specs.Judgement.{answer_of_derivation, answer_of_refutation, IsJudgementOf}
use Rattle.dq_runs.specs.Printed.{line}
use Rattle.cert_judge.specs.declared.answers.Judgement.TheVariants.{ValidFalse}
use Rattle.verdict_texts.specs.Accepted.{RefutationsAreAccepted}
use Rattle.proof_deletions.specs.Laws.{DeletionsChangeNoFault, DeletionsAreAllowed, ChangedLinesDeleteAlike}
use Rattle.verdict_texts.specs.Forms.{written_refutation}
use Rattle.verdict_texts.specs.Verdicts.{verdict_text, is_false}
use Rattle.verdict_texts.proofs.WrittenForms.{written_refutes, written_refutation_allowed}
use Rattle.verdict_texts.proofs.Beginnings.{header_at, header_number, refutation_kind}

-- ---- refutations

-- what the law of the refutations' canonical text gives
abbrev pub ReadsRefutationBack : Type 0
ReadsRefutationBack = (f : Dqbf) (d : Dqr) (first : ℕ) → IsLawful f → IsDqrOf f d →
    refutation_of f (canonical f.universals d) first ≡ Ok d

false_answer : (f : Dqbf) (d : Dqr) (read : Result Dqr CertRefusal) → read ≡ Ok d → refutation_fault f d ≡ None →
    ValidFalse ≡ answer_of_refutation f read
false_answer f d read is none = sym (ap (answer_of_refutation f) is ∙ ap (answer_of_derivation ValidFalse) none)

false_judgement : (bare : Bool) (f : Dqbf) (text : List ℕ)
    → ValidFalse ≡ answer_of_refutation f (refutation_of f text (header_number bare))
    → IsJudgementOf f (cond bare [] (line (codes "s FALSE")) ++ text)
    (Ok (Refutation (header_at bare 8) (header_number bare))) ValidFalse
false_judgement true f text is = is
false_judgement false f text is = is

pub refutations_accepted : ReadsRefutationBack → DeletionsChangeNoFault → DeletionsAreAllowed →
    ChangedLinesDeleteAlike →
    RefutationsAreAccepted
refutations_accepted back same laws alike f d form lawful none are allowed few =
    let bare = form.bare in
    let e = written_refutation form d in
    subst (λ kind. IsJudgementOf f (verdict_text form f (is_false d)) kind ValidFalse)
    (sym (refutation_kind (version_for e.items) bare (number_text (length e.rows) ++ number_line (length e.items))
    (flat_map (row_text f.universals) e.rows ++ flat_map item_text e.items)))
    (false_judgement bare f (canonical f.universals e)
    (false_answer f e (refutation_of f (canonical f.universals e) (header_number bare))
    (back f e (header_number bare) lawful (written_refutation_allowed laws f d form are few allowed))
    (written_refutes same alike f d form are none)))
