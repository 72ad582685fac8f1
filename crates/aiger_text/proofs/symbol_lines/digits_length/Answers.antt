use Rattle.std.proofs.Common.{not, length, ◌∙◌, ap}
use Rattle.std.specs.Char.{is_ascii_digit}
use Rattle.std.specs.Option.{unwrap_or}
use Rattle.aiger_text.proofs.Cuts.{unwrap_position}
use Rattle.aiger_text.proofs.symbol_lines.digits_length.Goals as goal

pub returns : goal.returns
returns c =
    let bytes = c.args.bytes.now in
    c.unwrap_or.ensures
    ∙ ap (λ found. unwrap_or found (length bytes)) c.first_other.ensures
    ∙ unwrap_position (λ byte. not (is_ascii_digit byte)) bytes
