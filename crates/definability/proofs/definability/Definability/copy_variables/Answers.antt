use Rattle.std.proofs.Common.{◌∙◌, subst, arith}
use Rattle.std.proofs.lemmas.List.{get_or_default}
use Rattle.dq_lits.specs.Literal.{variable_of}
use Rattle.definability.specs.Copies.{IsCopied}
use Rattle.definability.proofs.FollowedClauses.{can_still, marked_more, more_none, more_then}
use Rattle.definability.proofs.FlagSteps.{literals_more}
use Rattle.definability.proofs.definability.Definability.copy_variables.Goals as goal

pub loop-l-init : goal.loop-l-init
loop-l-init g c = search (arith, more_none)

pub copy_variable-requires-clause-standing : goal.copy_variable-requires-clause-standing
copy_variable-requires-clause-standing g c = search (arith, can_still)

pub returns-in_err-copy_variable-clause-more : goal.returns-in_err-copy_variable-clause-more
returns-in_err-copy_variable-clause-more g c = search (arith, more_then)

pub loop-l-preserved : goal.loop-l-preserved
loop-l-preserved g c =
    let f = c.args.f.now in
    let clause = c.args.clause.now in
    let i = c.loop-l.l-index in
    let old = c.loop-l.self.copied.items in
    let new = c.copy_variable.new.self.copied.items in (
      c.copy_variable.ensures.fit,
      more_then f c.args.self.now c.loop-l.self c.copy_variable.new.self c.args.log.now c.loop-l.log
          c.copy_variable.new.log c.loop-l.invariant.1 c.copy_variable.ensures.more,
      literals_more f clause i old new (marked_more f c.loop-l.self c.copy_variable.new.self c.loop-l.log
          c.copy_variable.new.log (can_still f c.args.self.now c.loop-l.self c.args.log.now c.loop-l.log
          c.requires.standing c.loop-l.invariant.1) c.copy_variable.ensures.more)
          c.loop-l.invariant.2 (λ d lt.
          subst (λ k. IsCopied f new (variable_of k)) (c.l-item.is ∙ get_or_default clause i c.l-item.result d lt)
          (subst (IsCopied f new) c.var.ensures.value c.in_ok-copy_variable.ensures.covered)),
    )

pub returns-clause-covered : goal.returns-clause-covered
returns-clause-covered g c = search arith
