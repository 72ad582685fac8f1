use Rattle.std.proofs.Common.{◌≡◌, [], None, sym, ◌∙◌, ap, subst}
use Rattle.rup_core.specs.Judging.{is_derived_by, derive_line}
use Rattle.rup_core.specs.Proving.{ProofState}
use Rattle.refutation_checker.specs.Judging.{AreNamed, AreLines, IsJudged, normal_literals}
use Rattle.refutation_checker.specs.PairNames.{frame, names_in}
use Rattle.refutation_checker.specs.declared.pair_names.PairNames.{PairNames}
use Rattle.refutation_checker.proofs.NamedLines.{named_later, lines_later, hints_begin, line_judged}
use Rattle.refutation_checker.proofs.judging.Judging.judge.Goals as goal

pub returns-clause-judged : goal.returns-clause-judged
returns-clause-judged c lines held behind =
    let x = frame c.args.e.now in
    let whole = c.requires.frame.whole in
    let lits = c.args.lits.now in
    let named = c.name_line.new.line.items in
    let w = c.widen.new.self in
    let p = c.hint_all.new.self.proving in
    let first = names_in c.args.self.now.names in
    let second = names_in w.names in
    let third = names_in c.hint_all.new.self.names in
    let named_are : AreNamed x second (normal_literals x lits) named =
    subst (λ (n : PairNames). AreNamed x (names_in n) (normal_literals x lits) named)
    (sym c.widen.ensures.names) c.in_ok-name_line.ensures.named in
    let are : AreLines x second lines c.begin.new.self.lines =
    subst (AreLines x second lines)
    (sym (ap (λ (s : ProofState). s.lines) c.begin.ensures.rest ∙ ap
    (λ (s : ProofState). s.lines) c.widen.ensures.rest))
    (subst (λ (n : PairNames). AreLines x (names_in n) lines c.args.self.now.proving.lines) (sym c.widen.ensures.names)
    (lines_later x first (names_in c.name_line.new.names) lines c.args.self.now.proving.lines whole
    c.name_line.ensures.extends held.lines_are)) in
    let judged =
    c.in_ok-hint_all.ensures.judged lines (normal_literals x lits) are behind
    (hints_begin x second lines (normal_literals x lits) named c.args.hints.now c.begin.new.self.line whole named_are
    (λ clauses. c.in_ok-begin.ensures.judged clauses ∙ ap (λ ls. derive_line ls clauses)
    (c.deref.ensures.value ∙ c.widen.ensures.line))) in
    let same : p.lines ≡ c.begin.new.self.lines = ap (λ (s : ProofState). s.lines) c.hint_all.ensures.rest in
    let going : p.fault ≡ None =
    ap (λ (s : ProofState). s.fault) c.hint_all.ensures.rest ∙ ap (λ (s : ProofState). s.fault) c.begin.ensures.rest
    ∙ ap (λ (s : ProofState). s.fault) c.widen.ensures.rest
    ∙ held.going in
    subst (IsJudged x third lines c.args.id lits c.end.new.self) judged
    (line_judged x third lines c.args.id lits c.deref-2.result.now p c.end.new.self (is_derived_by p.line [])
    (subst (AreLines x third lines) (sym same) (lines_later x second third lines c.begin.new.self.lines whole
    c.hint_all.ensures.extends are)) going
    (subst (AreNamed x third (normal_literals x lits)) (sym (c.deref-2.ensures.value ∙ c.hint_all.ensures.line
    ∙ c.widen.ensures.line))
    (named_later x second third (normal_literals x lits) named whole c.hint_all.ensures.extends named_are))
    c.in_ok-end.ensures.ok)
