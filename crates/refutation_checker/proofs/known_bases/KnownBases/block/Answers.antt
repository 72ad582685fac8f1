use Rattle.std.proofs.Common.{◌≡◌, false, Some, length, sym, ◌∙◌, ap, arith}
use Rattle.number_tables.specs.Numbers.{has_number}
use Rattle.refutation_checker.proofs.KnownBases.{block_more}
use Rattle.refutation_checker.proofs.known_bases.KnownBases.block.Goals as goal

pub returns-in-Ok : goal.returns-in-Ok
returns-in-Ok c =
    let numbers = c.args.self.now.numbers in
    let absent : has_number numbers c.args.number ≡ false = sym c.in_default.ensures.found in
    let more =
    block_more numbers c.insert.new.self c.args.self.now.bases.items c.add_zeros.new.bases.items c.args.number
    c.requires.as_many absent c.in-Ok.ensures.numbers
    c.in_ok-add_zeros.ensures.ok in
    let block : c.len-block.result ≡ length numbers = c.len-block.ensures.value in
    let inside = more.2 in
    record {
      as_many = more.0;
      place = more.1 ∙ ap Some (sym block);
      within = omega (arith, inside, block);
      same = more.3;
    }
