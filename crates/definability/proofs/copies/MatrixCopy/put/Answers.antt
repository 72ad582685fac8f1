use Rattle.std.proofs.Common.{refl, arith}
use Rattle.std.proofs.lemmas.List.{length-set}
use Rattle.definability.proofs.DeclaredPlaces.{set_first, set_second}
use Rattle.definability.proofs.copies.MatrixCopy.put.Goals as goal

pub returns-then-place-universals : goal.returns-then-place-universals
returns-then-place-universals c =
    let us = c.args.self.now.universals.items in
    let below = c.if-place-universals.true in
    let long = c.len-universals.ensures in
    let vec = c.args.self.now.universals.ok.0 in
    record {
      groups = refl;
      universals = length-set us c.args.place c.args.copy;
      existentials = refl;
      copies = set_first us c.args.self.now.existentials.items c.args.place c.args.copy (omega (arith, below, long, vec));
    }

pub returns-else-place-universals : goal.returns-else-place-universals
returns-else-place-universals c = search (arith, length-set, set_second)
