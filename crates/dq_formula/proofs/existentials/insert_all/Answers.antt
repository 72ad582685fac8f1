use Rattle.std.proofs.Common.{◌≡◌, ◌++◌, [], drop, ap, sym, ◌∙◌, append_assoc, append-nil, arith}
use Rattle.std.proofs.lemmas.List.{drop_all, drop_more}
use Rattle.dq_formula.proofs.ExistentialColumns.{new_here, with_absent}
use Rattle.dq_formula.proofs.existentials.insert_all.Goals as goal

pub loop-number-preserved : goal.loop-number-preserved
loop-number-preserved c = search (arith, drop_more, new_here, with_absent, append_assoc)

pub returns : goal.returns
returns c =
    let none : drop c.loop-number.number-index c.args.more.now ≡ [] =
    drop_all c.loop-number.number-index c.args.more.now c.loop-number-test.false in
    sym (append-nil c.loop-number.numbers) ∙ ap (λ rest. c.loop-number.numbers ++ rest) (sym none)
    ∙ c.loop-number.invariant
