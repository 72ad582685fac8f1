use Rattle.std.proofs.Common.{sym, ap, ◌∙◌, refl}
use Rattle.rup_core.specs.Paging.{stored_lines}
use Rattle.rup_core.proofs.StoredLines.{none_before}
use Rattle.rup_core.proofs.stores.begin.Goals as goal

pub returns-then-id-first-clause-same : goal.returns-then-id-first-clause-same
returns-then-id-first-clause-same c =
    ap (stored_lines c.args.id) c.clear.ensures.items
    ∙ sym (none_before (stored_lines c.args.first c.args.pages.now.items) c.args.first c.args.pages.now.items c.args.id
    refl c.requires.above c.if-id-first.true)
