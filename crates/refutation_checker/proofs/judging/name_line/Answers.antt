use Rattle.std.proofs.Common.{◌+◌, arith}
use Rattle.refutation_checker.specs.PairNames.{frame, names_in}
use Rattle.refutation_checker.proofs.NamedLines.{then_extends}
use Rattle.refutation_checker.proofs.PairNumbers.{named_by}
use Rattle.refutation_checker.proofs.ReadClauses.{line_named_more, pair_number_at}
use Rattle.refutation_checker.proofs.judging.name_line.Goals as goal

pub returns-in_err-named-clause-extends : goal.returns-in_err-named-clause-extends
returns-in_err-named-clause-extends c = search (arith, then_extends)

pub returns-in_err-push-clause-extends : goal.returns-in_err-push-clause-extends
returns-in_err-push-clause-extends c = search (arith, then_extends)

pub loop-l-preserved : goal.loop-l-preserved
loop-l-preserved c =
    let x = frame c.args.e.now in
    let at = c.row_and_place-at.result in
    record {
      names = c.name.ensures.names;
      extends = then_extends x (names_in c.args.names.now) (names_in c.loop-l.names)
          (names_in c.name.new.names) c.loop-l.invariant.extends c.name.ensures.extends;
      named = line_named_more x (names_in c.loop-l.names) (names_in c.name.new.names) c.args.lits.now
          c.loop-l.line.items c.push.new.self.items c.loop-l.l-index
          at.0 (at.1 + 1) c.var-number.result c.l-item.result c.in_ok-named.named
          c.requires.frame.whole c.name.ensures.extends c.loop-l-test.true
          c.l-item.is c.var-number.ensures.value
          (named_by x.formula x.rows c.var-number.result c.vars.result at.0 at.1 c.vars.ensures.value
          c.row_and_place-at.ensures.row c.row_and_place-at.ensures.place
          (pair_number_at x c.args.lits.now c.loop-l.l-index c.l-item.result c.var-number.result c.loop-l-test.true
          c.l-item.is c.var-number.ensures.value c.requires.pairs))
          c.loop-l.invariant.named c.in_ok-named.ensures.named c.in_ok-push.ensures.items;
    }
