use Rattle.std.proofs.Common.{◌==◌, sym, ◌∙◌, ap, w64}
use Rattle.std.proofs.lemmas.Nat.Bits.{bit_at_not}
use Rattle.aig_graph.specs.Graph.{with_sign}
use Rattle.aig_graph.specs.Words.{word_bit}
use Rattle.aig_graph.proofs.WordBits.{other_bit}
use Rattle.aig_graph.proofs.words.signed_word.Goals as goal

pub returns-then-negated : goal.returns-then-negated
returns-then-negated c b below =
    ap (λ n. n == 1) (bit_at_not w64 c.args.word b c.ranges.word.fits below)
    ∙ other_bit c.args.word b ∙ ap (λ s. with_sign s (word_bit b c.args.word)) (sym c.if-negated.true)
