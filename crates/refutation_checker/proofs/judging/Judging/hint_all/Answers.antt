use Rattle.std.proofs.Common.{◌+◌, sym, ◌∙◌, ap, subst, arith}
use Rattle.list_laws.proofs.Sequences.{drop_end}
use Rattle.list_laws.proofs.Elements.{drop_at}
use Rattle.rup_core.specs.Proving.{ProofState}
use Rattle.refutation_checker.specs.Judging.{AreLines}
use Rattle.refutation_checker.specs.PairNames.{frame, names_in}
use Rattle.refutation_checker.proofs.NamedLines.{then_extends, lines_later, hints_next, hints_end, hints_fault}
use Rattle.refutation_checker.proofs.judging.Judging.hint_all.Goals as goal

pub returns-in_err-hint-clause-extends : goal.returns-in_err-hint-clause-extends
returns-in_err-hint-clause-extends c = search (arith, then_extends)

pub returns-then-is_faulty-clause-extends : goal.returns-then-is_faulty-clause-extends
returns-then-is_faulty-clause-extends c = search (arith, then_extends)

pub returns-then-is_faulty-clause-judged : goal.returns-then-is_faulty-clause-judged
returns-then-is_faulty-clause-judged c lines literals are behind begun =
    let x = frame c.args.e.now in
    let before = c.loop-id.self in
    let after = c.hint.new.self in
    let held : AreLines x (names_in before.names) lines before.proving.lines =
    subst (AreLines x (names_in before.names) lines) (sym (ap (λ (p : ProofState). p.lines) c.loop-id.invariant.rest))
    (lines_later x (names_in c.args.self.now.names) (names_in before.names) lines c.args.self.now.proving.lines
    c.requires.frame.whole c.loop-id.invariant.extends are) in
    let left =
    hints_next x (names_in before.names) (names_in after.names) lines literals c.args.hints.now before.proving.line
    after.proving.line c.loop-id.id-index _
    (drop_at c.args.hints.now c.loop-id.id-index 0 c.loop-id-test.true) c.hint.ensures.extends
    (λ m later clauses. c.in_ok-hint.ensures.judged lines m held behind later clauses)
    (c.loop-id.invariant.judged lines literals are behind begun) in
    hints_fault x (names_in after.names) lines literals c.args.hints.now after.proving.line
    (c.loop-id.id-index + 1) c.hint.ensures.names.naming c.requires.frame.bound
    c.requires.frame.whole (sym c.is_faulty.ensures ∙ c.if-is_faulty.true) left

pub loop-id-preserved : goal.loop-id-preserved
loop-id-preserved c =
    let x = frame c.args.e.now in
    let before = c.loop-id.self in
    let after = c.hint.new.self in
    record {
      names = c.hint.ensures.names;
      extends = then_extends x (names_in c.args.self.now.names) (names_in before.names)
          (names_in after.names) c.loop-id.invariant.extends c.hint.ensures.extends;
      rest = c.hint.ensures.rest ∙ ap (λ (p : ProofState). record p { line = after.proving.line })
          c.loop-id.invariant.rest;
      line = c.hint.ensures.line ∙ c.loop-id.invariant.line;
      judged = λ lines literals are behind begun.
          let held : AreLines x (names_in before.names) lines before.proving.lines =
          subst (AreLines x (names_in before.names) lines) (sym
          (ap (λ (p : ProofState). p.lines) c.loop-id.invariant.rest))
          (lines_later x (names_in c.args.self.now.names) (names_in before.names) lines c.args.self.now.proving.lines
          c.requires.frame.whole c.loop-id.invariant.extends are) in
          hints_next x (names_in before.names) (names_in after.names) lines literals c.args.hints.now
          before.proving.line after.proving.line c.loop-id.id-index _
          (drop_at c.args.hints.now c.loop-id.id-index 0 c.loop-id-test.true) c.hint.ensures.extends
          (λ m later clauses. c.in_ok-hint.ensures.judged lines m held behind later clauses)
          (c.loop-id.invariant.judged lines literals are behind begun);
    }

pub returns-clause-judged : goal.returns-clause-judged
returns-clause-judged c lines literals are behind begun =
    let x = frame c.args.e.now in
    hints_end x (names_in c.loop-id.self.names) lines literals c.args.hints.now c.loop-id.self.proving.line
    c.loop-id.id-index c.loop-id.invariant.names.naming
    c.requires.frame.bound c.requires.frame.whole (drop_end c.args.hints.now c.loop-id.id-index c.loop-id-test.false)
    (c.loop-id.invariant.judged lines literals are behind begun)
