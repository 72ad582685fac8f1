use Rattle.std.proofs.Common.{sym, subst}
use Rattle.hint_log.specs.Conditions.{AreIds}
use Rattle.cdcl_scan.proofs.learning.keep.Goals as goal

pub learned-requires-clause-hints : goal.learned-requires-clause-hints
learned-requires-clause-hints c = subst (AreIds c.args.log.now.entries) (sym c.hints.ensures) c.requires.hints
