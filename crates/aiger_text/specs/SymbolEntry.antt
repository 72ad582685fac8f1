-- What a symbol line's reader answers, as the definitions see it.
use Rattle.std.specs.Prelude.{Option}
use Rattle.std.specs.Option.{option_map}
use Rattle.aiger_text.specs.Lines.{SymbolLine}
use Rattle.aiger_text.specs.declared.symbol_lines.SymbolEntry.{SymbolEntry}

abbrev pub entry_symbol : SymbolEntry → SymbolLine
entry_symbol e = record { of_input = e.of_input; place = e.place; name = e.name.now }

abbrev pub entry_line : Option SymbolEntry → Option SymbolLine
entry_line entry = option_map entry_symbol entry
