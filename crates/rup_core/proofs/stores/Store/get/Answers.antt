use Rattle.std.proofs.Common.{◌≡◌, List, Option, None, Some, MatchOption, subst, sym}
use Rattle.dq_lits.specs.Literal.{Literal}
use Rattle.rup_core.proofs.StoredLines.{found_before, found_from}
use Rattle.rup_core.proofs.stores.Store.get.Goals as goal

pub returns-then-id-self : goal.returns-then-id-self
returns-then-id-self c =
    found_before c.args.self.now c.self.inside.first c.self.inside.pages.items c.args.id c.self.view_is
    c.if-id-self.true

pub returns : goal.returns
returns c =
    let P : Option (List Literal) → Type 0 = λ o. MatchOption c.clause_at.result (o ≡ None)
    (λ lits. o ≡ Some lits.now) in
    subst P (sym (found_from c.args.self.now c.self.inside.first c.self.inside.pages.items c.deref.result.now c.args.id
    c.self.view_is c.deref.ensures.value c.if-id-self.false)) c.clause_at.ensures
