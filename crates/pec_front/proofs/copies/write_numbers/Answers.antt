use Rattle.std.proofs.Common.{ℕ, ◌+◌, List, ◌∷◌, ◌++◌, [], ◌∙◌, ap, arith}
use Rattle.std.proofs.lemmas.List.FromFn.{get_or-range_with_len, length-range_with_len}
use Rattle.list_laws.proofs.Numbers.{range_append}
use Rattle.pec_front.proofs.copies.write_numbers.Goals as goal

pub overflow_add-span : goal.overflow_add-span
overflow_add-span c = search (arith, length-range_with_len, get_or-range_with_len)

pub loop-i-preserved : goal.loop-i-preserved
loop-i-preserved c =
    let start = c.args.span.start in
    let i = c.loop-i.i in
    c.in_ok-push.ensures.items ∙ ap (λ (xs : List ℕ). xs ++ (start + i) ∷ []) c.loop-i.invariant
    ∙ range_append start i 1
