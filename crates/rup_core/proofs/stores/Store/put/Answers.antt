use Rattle.std.proofs.Common.{◌≡◌, ◌+◌, ◌-◌, ◌∷◌, [], length, sym, ap, ◌∙◌, arith, length-append}
use Rattle.rup_core.specs.Paging.{stored_lines}
use Rattle.rup_core.proofs.PagedClauses.{on_err}
use Rattle.rup_core.proofs.StoredLines.{free_from, few_stored, stored_put, stored_same}
use Rattle.rup_core.proofs.stores.Store.put.Goals as goal

pub put_at-requires : goal.put_at-requires
put_at-requires c =
    let first = c.begin-self-inside.result in
    let place : c.args.id ≡ first + (c.args.id - first) = let le = c.begin-self-inside.ensures.up_to in omega arith in
    free_from c.args.self.now first c.begin-self-inside.new.pages.items (c.args.id - first) c.args.id
    (c.begin-self-inside.ensures.same ∙ c.self.view_is) place c.requires.above (c.args.id - first)
    (omega arith)

pub invariant_of-self : goal.invariant_of-self
invariant_of-self c = record {
  from_one = c.begin-self-inside.ensures.from_one;
  counted = c.self.invariant.counted
      ∙ ap length (sym (stored_same c.begin-self-inside.result c.begin-self-inside.new.pages.items
      c.put_at.new.pages.items c.in_err-put_at.ensures.err ∙ c.begin-self-inside.ensures.same));
}

pub returns-in_err-put_at-clause-err : goal.returns-in_err-put_at-clause-err
returns-in_err-put_at-clause-err c =
    on_err c.from_residual.result (stored_lines c.begin-self-inside.result c.put_at.new.pages.items ≡ c.args.self.now)
    (stored_same c.begin-self-inside.result c.begin-self-inside.new.pages.items c.put_at.new.pages.items
    c.in_err-put_at.ensures.err ∙ c.begin-self-inside.ensures.same ∙ c.self.view_is)

pub overflow_add-self : goal.overflow_add-self
overflow_add-self c =
    let first = c.begin-self-inside.result in
    let place : c.args.id ≡ first + (c.args.id - first) = let le = c.begin-self-inside.ensures.up_to in omega arith in
    let view = c.begin-self-inside.ensures.same ∙ c.self.view_is in
    let few = few_stored c.args.self.now first c.begin-self-inside.new.pages.items
    (c.args.id - first) c.args.id view place c.requires.above in
    let count = c.self.invariant.counted in
    let same = ap length c.begin-self-inside.ensures.same in
    let one = c.requires.from_one in
    let bound = c.ranges.id.fits in
    let first_one = c.begin-self-inside.ensures.from_one in
    grind (arith, few, count, same, one, bound, first_one)

pub invariant_of-self-2 : goal.invariant_of-self-2
invariant_of-self-2 c =
    let first = c.begin-self-inside.result in
    let place : c.args.id ≡ first + (c.args.id - first) = let le = c.begin-self-inside.ensures.up_to in omega arith in
    let view = c.begin-self-inside.ensures.same ∙ c.self.view_is in
    let put = stored_put c.args.self.now first c.begin-self-inside.new.pages.items c.put_at.new.pages.items
    (c.args.id - first) c.args.id c.args.lits.now view place
    c.requires.above c.in_ok-put_at.ensures.ok c.in_ok-put_at.ensures.within in
    record {
      from_one = c.begin-self-inside.ensures.from_one;
      counted =
          ap (λ n. n + 1) (c.self.invariant.counted ∙ ap length c.self.view_is)
          ∙ sym (ap length put ∙ length-append c.args.self.now ((c.args.id, c.args.lits.now) ∷ []));
    }

pub returns-clause-ok : goal.returns-clause-ok
returns-clause-ok c =
    let first = c.begin-self-inside.result in
    let place : c.args.id ≡ first + (c.args.id - first) = let le = c.begin-self-inside.ensures.up_to in omega arith in
    stored_put c.args.self.now first c.begin-self-inside.new.pages.items c.put_at.new.pages.items
    (c.args.id - first) c.args.id c.args.lits.now (c.begin-self-inside.ensures.same ∙ c.self.view_is) place
    c.requires.above c.in_ok-put_at.ensures.ok c.in_ok-put_at.ensures.within
