use Rattle.std.proofs.Common.{[], replicate, refl, ap, ◌∙◌, arith}
use Rattle.refutation_checker.specs.PairNames.{frame}
use Rattle.refutation_checker.proofs.GivenNames.{no_names}
use Rattle.refutation_checker.proofs.KnownBases.{none_kept}
use Rattle.refutation_checker.proofs.pair_names.PairNames.new.Goals as goal

pub returns : goal.returns
returns c =
    let x = frame c.args.e.now in
    record {
      naming = no_names x (record { trees = c.in_ok-trees.trees.items; next = 1 })
          (c.in_ok-trees.ensures ∙ ap (λ n. replicate n []) (c.len-count.ensures
          ∙ c.args.e.now.bindings.now.sets.ok.0)) refl;
      kept = none_kept x (record { trees = c.in_ok-trees.trees.items; next = 1 }) c.new-known.result.numbers
          c.new-known.result.bases.items c.new-known.ensures.numbers
          c.new-known.ensures.bases;
      last = λ within. absurd (omega (arith, within, c.len-count.ensures, c.args.e.now.bindings.now.sets.ok.0));
      small = omega arith;
    }
