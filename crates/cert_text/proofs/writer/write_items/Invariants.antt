use Rattle.std.proofs.Common.{◌≡◌, ◌++◌, drop}
use Rattle.std.specs.List.{flat_map}
use Rattle.cert_text.specs.Canonical.{item_text}
use Rattle.cert_text.proofs.writer.write_items.Given as goal

abbrev pub invariant-loop-k : goal.invariant-loop-k
invariant-loop-k l = l.text.items ++ flat_map item_text (drop l.k l.items)
    ≡ l.fn.text.items ++ flat_map item_text l.items
