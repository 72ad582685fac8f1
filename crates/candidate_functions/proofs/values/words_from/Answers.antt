use Rattle.std.proofs.Common.{◌≡◌, ◌≤◌, ◌+◌, [], get_or, length, ap, sym, ◌∙◌, subst, arith}
use Rattle.std.specs.List.{All}
use Rattle.std.proofs.lemmas.List.{length-map}
use Rattle.dq_lits.specs.Row.{bit_of}
use Rattle.aig_graph.specs.Graph.{node_value}
use Rattle.aig_graph.specs.Words.{word_bit, row_at}
use Rattle.candidate_functions.specs.Differing.{AreWordsFrom}
use Rattle.candidate_functions.proofs.RowWords.{words_from, lent_back}
use Rattle.candidate_functions.proofs.values.words_from.Goals as goal

pub returns : goal.returns
returns c =
    let rows = c.args.table.now.rows in
    let graph = c.args.graph.now in
    let nodes = c.args.nodes.now in
    let inputs = c.deref.result.now in
    let same : inputs ≡ c.in_ok-inputs.inputs.items = c.deref.ensures.value in
    let long : length inputs ≡ graph.inputs = ap length same ∙ c.in_ok-inputs.ensures.long ∙ c.inputs.ensures in
    let out = c.values_by_words.new.out in
    let many : length out ≡ length nodes =
    sym (length-map out (word_bit 0)) ∙ ap length (c.values_by_words.ensures.values 0 (omega arith))
    ∙ length-map nodes (node_value graph (row_at inputs 0)) in
    let room : c.in_ok-words.words.len ≡ length nodes = c.in_ok-words.ensures.len in
    subst (AreWordsFrom rows graph nodes c.args.first)
    (sym (lent_back c.in_ok-words.words.items out c.in_ok-words.words.len (room ∙ sym many)))
    (words_from rows graph nodes c.args.first inputs out
    (subst (λ n. All (λ row. length row ≤ n) rows) (sym long) c.requires.short)
    (λ b i below inside. subst (λ words. row_at words b i ≡ bit_of (get_or rows (c.args.first + b) []) i) (sym same)
    (c.in_ok-inputs.ensures.bits b i below (omega (arith, inside, long, c.inputs.ensures))))
    c.values_by_words.ensures.values)
