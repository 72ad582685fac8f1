use Rattle.std.proofs.Common.{◌∙◌, ap, arith}
use Rattle.cert_export.specs.Expansion.{rows_among}
use Rattle.cert_export.proofs.ExportableAnswers.{have_rounds}
use Rattle.cert_export.proofs.RoundRows.{used_are_rounds}
use Rattle.cert_export.proofs.refutations.refutation.Goals as goal

pub used_rounds-requires : goal.used_rounds-requires
used_rounds-requires c = have_rounds c.args.f.now c.args.live.now c.args.log.now.entries c.args.ids.now c.requires

pub round_rows-requires : goal.round_rows-requires
round_rows-requires c = search (arith, used_are_rounds)

pub returns : goal.returns
returns c = record {
  rows = c.in_ok-rows.ensures ∙ ap (rows_among c.args.log.now.entries)
      (c.deref.ensures.value ∙ c.in_ok-rounds.ensures);
  items = c.in_ok-items.ensures;
}
