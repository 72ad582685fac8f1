use Rattle.std.proofs.Common.{◌≡◌, arith, sym, subst, List, ℕ, Ok, Option}
use Rattle.std.proofs.lemmas.Grind.{common_steps}
use Rattle.aig_binary.specs.Written.{binary_text}
use Rattle.aig_binary.specs.Scan.{scan_binary}
use Rattle.aig_binary.proofs.writer.write_binary.Goals as goal

pub returns-clause-reads_back : goal.returns-clause-reads_back
returns-clause-reads_back c binary first =
    let file = c.args.file.now in
    let is : c.write_ending.new.text.items ≡ binary_text file = grind (arith, common_steps) in
    subst (λ (text : List ℕ). (line : Option ℕ) × (scan_binary text first
    ≡ Ok (record { file = file; comment_line = line }))) (sym is)
    (c.binary_text_spells.ensures.reads_back file first binary)
