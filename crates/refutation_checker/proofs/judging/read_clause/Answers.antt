use Rattle.std.proofs.Common.{refl, arith}
use Rattle.list_laws.proofs.Sequences.{drop_end, take_past}
use Rattle.refutation_checker.specs.PairNames.{frame, names_in}
use Rattle.refutation_checker.specs.Rows.{row_of}
use Rattle.refutation_checker.proofs.NamedLines.{then_extends}
use Rattle.refutation_checker.proofs.ReadClauses.{read_more, true_read, all_read}
use Rattle.refutation_checker.proofs.judging.read_clause.Goals as goal

pub returns-in_err-is_true-clause-extends : goal.returns-in_err-is_true-clause-extends
returns-in_err-is_true-clause-extends c = search (arith, then_extends)

pub returns-then-is_true-clause-extends : goal.returns-then-is_true-clause-extends
returns-then-is_true-clause-extends c = search (arith, then_extends)

pub returns-then-is_true-clause-read : goal.returns-then-is_true-clause-read
returns-then-is_true-clause-read c =
    let x = frame c.args.e.now in
    true_read x (names_in c.loop-l.names) (names_in c.read_literal.new.names) c.args.k c.args.j
    (row_of x.rows c.args.k) c.clause-l-items.result.now
    c.read_literal.new.clause.items c.loop-l.clause.items c.read_literal.new.clause.items c.loop-l.l-index
    c.l-item.result c.in_ok-is_true.is_true refl
    c.clause-l-items.ensures c.loop-l-test.true c.l-item.is c.if-is_true.true c.loop-l.invariant.read
    c.in_ok-is_true.ensures.read

pub loop-l-preserved : goal.loop-l-preserved
loop-l-preserved c =
    let x = frame c.args.e.now in
    record {
      names = c.read_literal.ensures.names;
      extends = then_extends x (names_in c.args.names.now) (names_in c.loop-l.names)
          (names_in c.read_literal.new.names) c.loop-l.invariant.extends
          c.read_literal.ensures.extends;
      read = read_more x (names_in c.loop-l.names) (names_in c.read_literal.new.names)
          (row_of x.rows c.args.k) c.clause-l-items.result.now c.loop-l.clause.items
          c.read_literal.new.clause.items c.loop-l.l-index c.l-item.result c.in_ok-is_true.is_true
          c.requires.frame.whole c.read_literal.ensures.extends
          c.loop-l-test.true c.l-item.is c.if-is_true.false c.loop-l.invariant.read c.in_ok-is_true.ensures.read;
    }

pub returns-clause-read : goal.returns-clause-read
returns-clause-read c = search (arith, all_read, drop_end, take_past)
