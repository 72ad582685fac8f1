use Rattle.std.proofs.Common.{◌+◌, length, take, get_or, sym, subst, ap, arith}
use Rattle.std.specs.List.{All, Contains}
use Rattle.std.proofs.lemmas.List.{get_or_default, take_all}
use Rattle.copied_prefixes.proofs.CopiedPrefixes.{reach-more, place-small}
use Rattle.copied_prefixes.proofs.end_of_list.Goals as goal

pub overflow_add-place_of : goal.overflow_add-place_of
overflow_add-place_of c =
    let us = c.args.f.now.universals in
    let xs = c.args.vars.now in
    let i = c.loop-x.x-index in
    let x = get_or xs i 0 in
    let at = c.place_of.ensures.found (c.requires i 0 c.loop-x-test.true) in
    omega (
      arith,
      place-small us c.place_of.result x at,
      c.universals.type_inv,
      ap (λ ys. length ys) c.universals.ensures,
    )

pub loop-x-preserved : goal.loop-x-preserved
loop-x-preserved c =
    let us = c.args.f.now.universals in
    let xs = c.args.vars.now in
    let i = c.loop-x.x-index in
    let x = get_or xs i 0 in
    let at = c.place_of.ensures.found (c.requires i 0 c.loop-x-test.true) in
    let small = place-small us c.place_of.result x at in (
      omega (arith, c.max-end.ensures, c.loop-x.invariant.0, small),
      subst (λ n. All (Contains (take n us)) (take (i + 1) xs)) (sym c.max-end.ensures)
          (reach-more us xs c.loop-x.end i x c.place_of.result c.loop-x.invariant.1 c.loop-x-test.true
          (get_or_default xs i 0 x c.loop-x-test.true) at),
    )

pub returns-clause-end : goal.returns-clause-end
returns-clause-end c =
    let us = c.args.f.now.universals in
    let xs = c.args.vars.now in
    subst (All (Contains (take c.loop-x.end us))) (take_all c.loop-x.x-index xs (omega (arith, c.loop-x-test.false)))
    c.loop-x.invariant.1
