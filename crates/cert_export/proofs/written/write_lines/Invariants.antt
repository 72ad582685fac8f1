use Rattle.std.proofs.Common.{take}
use Rattle.cert_export.specs.Lines.{derived_ids, line_number}
use Rattle.cert_export.specs.Names.{renaming}
use Rattle.cert_export.specs.Written.{IsWritten}
use Rattle.cert_export.proofs.written.write_lines.Given as goal

abbrev pub invariant-loop-place : goal.invariant-loop-place
invariant-loop-place g l = IsWritten (renaming l.source.names.now)
    (g.B.Ground.ids l.source.base.now) l.source.log.now.entries
    (line_number l.source.last (derived_ids l.source.log.now.entries l.source.ids.now))
    (take l.place l.source.ids.now) l.written
