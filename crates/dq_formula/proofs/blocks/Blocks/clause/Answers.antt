use Rattle.std.proofs.Common.{◌≡◌, ◌<◌, ◌+◌, ◌-◌, length, take, drop, sym, arith, length-drop}
use Rattle.std.proofs.lemmas.List.{take_all}
use Rattle.dq_formula.specs.declared.blocks.Place.{Place}
use Rattle.dq_formula.specs.Blocks.{blocks_of}
use Rattle.dq_formula.proofs.ClauseBlocks.{length_clauses_at, clause_at_place}
use Rattle.dq_formula.proofs.blocks.Blocks.clause.Goals as goal

pub returns : goal.returns
returns c =
    let s = c.args.self.now in
    let j = c.args.j in
    let ps = s.places.items in
    let none : Place = record { block = 0; start = 0 } in
    let rest : take (length ps - (j + 1)) (drop (j + 1) ps) ≡ drop (j + 1) ps =
    take_all (length ps - (j + 1)) (drop (j + 1) ps) (omega (arith, length-drop (j + 1) ps)) in
    let l : j < length ps = omega (arith, c.requires.within, length_clauses_at (blocks_of s) ps) in
    rw (c.end_of-end.ensures, c.block-block.ensures, c.deref-places.ensures.value, rest)
    (sym (clause_at_place (blocks_of s) ps j none l))
