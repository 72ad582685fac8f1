use Rattle.std.proofs.Common.{refl, arith, length-append}
use Rattle.std.proofs.lemmas.List.{length-map}
use Rattle.dq_formula.proofs.ClauseBlocks.{length_clauses_at, few_blocks}
use Rattle.dq_formula.proofs.BlockSteps.{are_put}
use Rattle.dq_formula.proofs.blocks.Blocks.put.Goals as goal

pub overflow_cast-place : goal.overflow_cast-place
overflow_cast-place c = search (arith, few_blocks, length-append, length-map, length_clauses_at)

pub returns : goal.returns
returns c =
    let s = c.args.self.now in
    are_put s (record { places = c.push.new.self; full = s.full; current = c.extend_from_slice.new.self })
    c.args.clause.now (record { block = c.len.result; start = c.len-2.result }) (record {
      full = refl;
      places = rw c.unwrap.ensures at c.push.ensures.items;
      current = rw c.unwrap-2.ensures at c.extend_from_slice.ensures.items;
      at = record {
        block_is = omega (arith, c.len.ensures, s.full.ok.0, length-map s.full.items (λ block. block.items));
        start_is = omega (arith, c.len-2.ensures, s.current.ok.0);
      };
      places_room = c.push.ensures.capacity;
      literals_room = c.extend_from_slice.ensures.capacity;
    }) c.requires.arranged
