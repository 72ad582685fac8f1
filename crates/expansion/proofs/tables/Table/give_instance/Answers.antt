use Rattle.std.proofs.Common.{ℕ, ◌+◌, ap, subst}
use Rattle.expansion.specs.Adding.{with_row}
use Rattle.expansion.specs.Giving.{IsGivenInstance}
use Rattle.expansion.specs.Table.{TableState}
use Rattle.expansion.proofs.GivenInstances.{next_instance}
use Rattle.list_laws.proofs.Results.{on_ok}
use Rattle.expansion.proofs.tables.Table.give_instance.Goals as goal

pub returns-clause-given : goal.returns-clause-given
returns-clause-given g c =
    let f = c.args.new.now.f.now in
    let t = c.args.self.now in
    let row = c.args.new.now.row.now in
    let log = c.args.log.now in
    let new = c.give_on.new.log in
    let clause = c.clause.result.now in
    let At : ℕ → ℕ → Type 0 = λ group k. IsGivenInstance f group (with_row t row) row k (c.args.j + 1) clause log new in
    let logged = (g.met.O.Oracle.searched c.args.oracle.now log c.requires.fit).logged in
    on_ok c.give_on.result (λ given. next_instance f t row c.args.j log c.requires.adding clause c.requires.clause c.clause.ensures new logged
    (subst (At t.group) c.next_round.ensures
    (subst (λ group. At group c.next_round.result) (ap (λ (s : TableState). s.group) c.self.view_is) given))) (c.give_on.ensures.given (with_row t row) c.requires.variables)
