use Rattle.std.proofs.Common.{◌≡◌, take}
use Rattle.cert_export.specs.Names.{renaming}
use Rattle.cert_export.specs.Renaming.{renamed_clause}
use Rattle.cert_export.proofs.new_names.Names.clause.Given as goal

abbrev pub invariant-loop-l : goal.invariant-loop-l
invariant-loop-l l = l.clause.items ≡ renamed_clause (renaming l.fn.self) (take l.l-index l.lits)
