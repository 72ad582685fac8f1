use Rattle.std.proofs.Common.{◌+◌, ◌<◌, [], ◌∷◌, ◌++◌, map, length, sym, ◌∙◌, ap, subst, arith}
use Rattle.std.specs.List.{range_with_len}
use Rattle.std.proofs.lemmas.List.FromFn.{map-range_with_len_more}
use Rattle.dq_session.specs.Changes.{file_live}
use Rattle.dq_session.proofs.databases.file_clauses.Goals as goal

pub loop-j-preserved : goal.loop-j-preserved
loop-j-preserved c =
    let j = c.loop-j.j in
    let below : j < length c.args.f.now.matrix = subst (λ n. j < n) c.clauses-j-end.ensures.value c.loop-j-test.true in (
      omega (arith, below),
      c.in_ok-push.ensures.items ∙ ap (λ ls. ls ++ file_live (j + 1) ∷ []) c.loop-j.invariant.1
          ∙ sym (map-range_with_len_more file_live 1 j (j + 1) (omega arith)),
    )

pub returns : goal.returns
returns c =
    let many = c.clauses-j-end.ensures.value in
    let test = c.loop-j-test.false in
    let within = c.loop-j.invariant.0 in
    c.loop-j.invariant.1 ∙ ap (λ n. map file_live (range_with_len 1 n)) (omega (arith, many, test, within))
