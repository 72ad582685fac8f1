use Rattle.std.proofs.Common.{◌≡◌, arith, sym, subst, List, ℕ, Ok}
use Rattle.std.proofs.lemmas.Grind.{common_steps}
use Rattle.cert_text.specs.Canonical.{canonical}
use Rattle.cert_text.specs.Scan.{refutation_of}
use Rattle.cert_text.proofs.CanonicalLines.{canonical_spells}
use Rattle.cert_text.proofs.SpelledRefutations.{spelled_is_read}
use Rattle.cert_text.proofs.writer.write_dqr.Goals as goal

pub returns-clause-reads_back : goal.returns-clause-reads_back
returns-clause-reads_back c allowed first =
    let f = c.args.f.now in
    let d = c.args.d.now in
    let lawful = c.every_formula_is_lawful.ensures in
    let is : c.write_items.new.text.items ≡ canonical f.universals d = grind (arith, common_steps) in
    subst (λ (text : List ℕ). refutation_of f text first ≡ Ok d) (sym is)
    (spelled_is_read (canonical f.universals d) first f d lawful (canonical_spells f d lawful allowed))
