use Rattle.std.proofs.Common.{◌++◌, ap, ◌∙◌}
use Rattle.dq_formula.proofs.ExistentialColumns.{distinct_left}
use Rattle.dq_formula.proofs.existentials.joined.Goals as goal

pub insert_all-requires : goal.insert_all-requires
insert_all-requires c = rw c.new-numbers.ensures (distinct_left c.args.xs.now c.args.ys.now c.requires)

pub returns : goal.returns
returns c =
    c.in_ok-insert_all-2.ensures ∙ ap (λ xs. xs ++ c.args.ys.now)
    (c.in_ok-insert_all.ensures ∙ ap (λ none. none ++ c.args.xs.now) c.new-numbers.ensures)
