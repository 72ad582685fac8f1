use Rattle.std.proofs.Common.{not}
use Rattle.std.specs.Char.{is_ascii_digit}
use Rattle.aiger_text.proofs.Cuts.{position-le}
use Rattle.aiger_text.proofs.symbol_lines.entry_behind.Goals as goal

pub split_at-requires : goal.split_at-requires
split_at-requires c = rw c.digits_length.ensures (position-le (λ byte. not (is_ascii_digit byte)) c.args.bytes.now)
