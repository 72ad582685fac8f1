use Rattle.std.proofs.Common.{◌≡◌, ◌++◌, drop}
use Rattle.std.specs.List.{flat_map}
use Rattle.aiger_text.specs.Canonical.{symbol_text}
use Rattle.aiger_text.proofs.writer.write_symbols.Given as goal

abbrev pub invariant-loop-i : goal.invariant-loop-i
invariant-loop-i l =
    l.text.items ++ flat_map (symbol_text l.letter) (drop l.i l.symbols) ≡ l.fn.text.items
    ++ flat_map (symbol_text l.letter) l.symbols
