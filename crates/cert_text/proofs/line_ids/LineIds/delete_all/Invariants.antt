use Rattle.std.proofs.Common.{◌≡◌, length}
use Rattle.cert_text.specs.LineIds.{numbering}
use Rattle.cert_text.specs.Numbering.{are_live, without_all}
use Rattle.cert_text.proofs.line_ids.LineIds.delete_all.Given as goal

-- what is left to delete here is what is to be deleted in all
abbrev pub invariant-loop-id : goal.invariant-loop-id
invariant-loop-id l = record {
  first : l.self.first ≡ l.fn.self.first;
  live : are_live (numbering l.fn.self) l.ids ≡ are_live (numbering l.self) l.rest;
  deleted : without_all (numbering l.fn.self) l.ids ≡ without_all (numbering l.self) l.rest;
}

abbrev pub decreases-loop-id : goal.decreases-loop-id
decreases-loop-id l = length l.rest
