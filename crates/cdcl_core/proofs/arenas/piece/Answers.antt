use Rattle.std.proofs.Common.{rules, ◌≡◌, ◌≤◌, ◌<◌, ℕ, zero, suc, List, [], ◌∷◌, refl, sym, arith, length}
use Rattle.short_numbers.specs.Numbers.{before}
use Rattle.learning_trail.specs.Pieces.{start_of}
use Rattle.learning_trail.proofs.ClausePieces.{piece_at, start_before}
use Rattle.cdcl_core.proofs.arenas.piece.Goals as goal

begins_before : (ends : List ℕ) (at : ℕ) → at < length ends → before ends at ≡ start_of 0 ends at
begins_before [] at lt = absurd (omega (arith, lt))
begins_before (end ∷ ends) zero lt = refl
begins_before (end ∷ ends) (suc i) lt = sym (start_before 0 (end ∷ ends) i (omega (arith, lt)))

pub offset_bounds-literals-start : goal.offset_bounds-literals-start
offset_bounds-literals-start c =
    let p = piece_at c.args.literals.now 0 c.args.ends.now.items c.args.at c.requires.ends c.requires.at in
    let from = p.from in
    let to = p.to in
    let within : c.span-start.result.0 ≤ length c.args.literals.now =
    omega (arith, from, to, c.span-start.ensures.start, begins_before c.args.ends.now.items c.args.at c.requires.at) in
    search rules

pub slice_bounds-result-count : goal.slice_bounds-result-count
slice_bounds-result-count c =
    let p = piece_at c.args.literals.now 0 c.args.ends.now.items c.args.at c.requires.ends c.requires.at in
    let from = p.from in
    omega (
      arith,
      from,
      c.span-start.ensures.start,
      c.span-start.ensures.end,
      begins_before c.args.ends.now.items c.args.at c.requires.at,
    )

pub slice_bounds-result-start : goal.slice_bounds-result-start
slice_bounds-result-start c =
    let p = piece_at c.args.literals.now 0 c.args.ends.now.items c.args.at c.requires.ends c.requires.at in
    let from = p.from in
    omega (
      arith,
      from,
      c.span-start.ensures.start,
      c.span-start.ensures.end,
      begins_before c.args.ends.now.items c.args.at c.requires.at,
    )

pub slice_bounds-result-end : goal.slice_bounds-result-end
slice_bounds-result-end c =
    let p = piece_at c.args.literals.now 0 c.args.ends.now.items c.args.at c.requires.ends c.requires.at in
    let to = p.to in
    omega (arith, to, c.span-start.ensures.end)

pub returns : goal.returns
returns c = search (arith, piece_at, begins_before)
