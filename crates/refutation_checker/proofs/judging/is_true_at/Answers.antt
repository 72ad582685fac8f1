use Rattle.std.proofs.Common.{get_or, arith}
use Rattle.std.proofs.lemmas.List.{get_or_default}
use Rattle.refutation_checker.specs.PairNames.{frame}
use Rattle.refutation_checker.proofs.ReadClauses.{universal_read, universal_within}
use Rattle.refutation_checker.proofs.judging.is_true_at.Goals as goal

pub get-requires : goal.get-requires
get-requires c = search (arith, universal_within, get_or_default)

pub returns : goal.returns
returns c =
    let x = frame c.args.e.now in
    let r = get_or x.rows c.args.k c.index-e-k.result in
    universal_read x c.args.k c.args.place c.args.l r c.get.result c.is_neg.result c.requires.frame c.requires.row
    c.requires.bound
    (get_or_default x.rows c.args.k c.index-e-k.result r c.requires.row) c.get.ensures c.is_neg.ensures
