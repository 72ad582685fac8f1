use Rattle.std.proofs.Common.{sym, ◌∙◌, arith}
use Rattle.std.proofs.lemmas.List.{length-set}
use Rattle.skolem_checker.proofs.MappingReads.{seen-set, named-step, named-fault}
use Rattle.skolem_checker.proofs.mapping.named_variables.Goals as goal

pub returns-in-Err : goal.returns-in-Err
returns-in-Err c =
    let step = named-fault c.args.f.now c.args.kind c.args.symbols.now c.args.count c.loop-place.place c.in-Err.name
    c.loop-place.variables.items
    c.loop-place-test.true
    (rw (sym c.symbol_at.ensures) (sym (c.symbol_variable.ensures.is c.loop-place.variables.items
    c.loop-place.invariant.seen) ∙ c.in-Err.is)) in
    rw c.place_of-at.ensures (c.loop-place.invariant.named ∙ step)

pub loop-place-preserved : goal.loop-place-preserved
loop-place-preserved c = search (arith, length-set, seen-set, named-step)
