use Rattle.std.proofs.Common.{get_or, [], ap, ◌∙◌, arith}
use Rattle.std.proofs.lemmas.List.{get_or_default}
use Rattle.list_laws.proofs.Truths.{last}
use Rattle.dq_lits.specs.Expansion.{universal_literal_true}
use Rattle.refutation_checker.specs.PairNames.{frame}
use Rattle.refutation_checker.proofs.judging.is_true_universal.Goals as goal

pub has_true_universal-requires : goal.has_true_universal-requires
has_true_universal-requires c = search (arith, get_or_default)

pub returns : goal.returns
returns c =
    let x = frame c.args.e.now in
    c.has_true_universal.ensures ∙ last (universal_literal_true x.formula
    (get_or x.rows c.args.k c.index-e-k.result) c.args.l)
    ∙ ap (λ r. universal_literal_true x.formula r c.args.l) (get_or_default x.rows c.args.k c.index-e-k.result []
    c.requires.row)
