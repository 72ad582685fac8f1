use Rattle.std.proofs.Common.{◌≡◌, drop}
use Rattle.std.specs.List.{list_any}
use Rattle.cert_text.specs.KeptItems.{is_deletion}
use Rattle.cert_text.proofs.items.ItemList.deletes.Given as goal

abbrev pub invariant-loop-k : goal.invariant-loop-k
invariant-loop-k l = list_any is_deletion l.self ≡ list_any is_deletion (drop l.k l.self)
