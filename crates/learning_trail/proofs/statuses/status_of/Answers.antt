use Rattle.std.proofs.Common.{sym, ◌∙◌, ap, ◌≡◌, ◌+◌, arith}
use Rattle.dq_lits.specs.Derivation.{stuck}
use Rattle.learning_trail.specs.Steps.{literals_of}
use Rattle.learning_trail.specs.Extension.{seen}
use Rattle.dq_lits.specs.Extension.{with_literal}
use Rattle.learning_trail.proofs.ReadStatus.{read_more, stuck_stays, status_whole}
use Rattle.learning_trail.proofs.statuses.status_of.Goals as goal

pub loop-l-preserved : goal.loop-l-preserved
loop-l-preserved c =
    read_more (literals_of c.args.trail.now.steps) c.args.lits.now c.l-item.result c.loop-l.l-index
    (seen c.loop-l.status) (seen c.with_literal-status.result) c.code_value.result
    c.loop-l-test.true (sym c.l-item.is) c.loop-l.invariant c.code_value.ensures
    (c.with_literal-status.ensures ∙ ap (λ k. with_literal (seen c.loop-l.status) k c.code_value.result) c.lit.ensures)

pub returns-then-is_stuck : goal.returns-then-is_stuck
returns-then-is_stuck c =
    let trues = literals_of c.args.trail.now.steps in
    let more = read_more trues c.args.lits.now c.l-item.result c.loop-l.l-index (seen c.loop-l.status)
    (seen c.with_literal-status.result) c.code_value.result
    c.loop-l-test.true (sym c.l-item.is) c.loop-l.invariant c.code_value.ensures
    (c.with_literal-status.ensures ∙ ap (λ k. with_literal (seen c.loop-l.status) k c.code_value.result) c.lit.ensures) in
    let is : seen c.with_literal-status.result ≡ stuck = ap seen (c.is_stuck.ensures c.if-is_stuck.true) in
    is ∙ stuck_stays trues c.args.lits.now (c.loop-l.l-index + 1) (sym is ∙ more)

pub returns : goal.returns
returns c = search (arith, status_whole)
