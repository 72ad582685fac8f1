use Rattle.std.proofs.Common.{◌∙◌}
use Rattle.refutation_checker.specs.Judging.{clause_under}
use Rattle.refutation_checker.specs.PairNames.{frame, names_in}
use Rattle.refutation_checker.proofs.NamedLines.{none_judged, clause_judged, no_clause, lines_later}
use Rattle.refutation_checker.proofs.judging.Judging.hint.Goals as goal

pub returns-in_default-clause-judged : goal.returns-in_default-clause-judged
returns-in_default-clause-judged c lines m are behind extends clauses =
    none_judged (frame c.args.e.now) (names_in c.args.self.now.names) m lines c.args.self.now.proving.lines c.args.id
    c.args.self.now.proving.line c.hint_line.new.self.line
    clauses c.requires.frame.whole extends are c.in_default.ensures.clause (c.in_ok-hint_line.ensures.judged clauses)

pub returns-then-not-is_clause-clause-judged : goal.returns-then-not-is_clause-clause-judged
returns-then-not-is_clause-clause-judged c lines m are behind extends clauses =
    let x = frame c.args.e.now in
    let now = names_in c.read_clause.new.names in
    none_judged x now m lines c.args.self.now.proving.lines c.args.id c.args.self.now.proving.line
    c.hint_line-then-not-is_clause.new.self.line clauses
    c.requires.frame.whole extends
    (lines_later x (names_in c.args.self.now.names) now lines c.args.self.now.proving.lines c.requires.frame.whole
    c.in_ok-is_clause.ensures.extends are)
    (c.in-Some.ensures.clause
    ∙ no_clause x now (clause_under x c.in-Some.at) c.read_clause.new.clause.items c.in_ok-is_clause.is_clause
    c.if-not-is_clause.true
    c.in_ok-is_clause.ensures.read)
    (c.in_ok-hint_line-2.ensures.judged clauses)

pub returns-clause-judged : goal.returns-clause-judged
returns-clause-judged c lines m are behind extends clauses =
    let x = frame c.args.e.now in
    let now = names_in c.read_clause.new.names in
    clause_judged x now m lines c.args.id (clause_under x c.in-Some.at) c.read_clause.new.clause.items
    c.deref.result.now c.in_ok-is_clause.is_clause
    c.args.self.now.proving.line c.hint.new.self.line clauses c.requires.frame.whole extends behind
    c.in-Some.ensures.clause
    c.if-not-is_clause.false c.in_ok-is_clause.ensures.read c.deref.ensures.value (c.in_ok-hint.ensures.judged clauses)
