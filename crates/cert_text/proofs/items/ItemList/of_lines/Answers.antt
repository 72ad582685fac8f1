use Rattle.std.proofs.Common.{◌≤◌}
use Rattle.std.proofs.lemmas.List.Elements.{recursion_from_All}
use Rattle.cert_text.proofs.KeptItems.{lines_kept}
use Rattle.cert_text.proofs.items.ItemList.of_lines.Goals as goal

pub returns : goal.returns
returns c = lines_kept c.args.lines (recursion_from_All (λ step. 1 ≤ step.id) c.args.lines c.requires)
