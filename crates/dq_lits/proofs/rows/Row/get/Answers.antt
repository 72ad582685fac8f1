use Rattle.std.proofs.Common.{◌≡◌, ◌==◌, ◌/◌, ◌%◌, ◌<◌, false, length, get_or, sym, ◌∙◌, ap, arith}
use Rattle.std.proofs.lemmas.List.{get_or_default}
use Rattle.std.specs.Int.{bit_at}
use Rattle.dq_lits.specs.Row.{bit_of}
use Rattle.dq_lits.proofs.Packed.{length-unpacked, get_or-unpacked}
use Rattle.dq_lits.proofs.rows.Row.get.Goals as goal

pub index-requires : goal.index-requires
index-requires c =
    let words = c.self.inside.words in
    let long = sym (length-unpacked c.self.inside.len words.items) ∙ ap length c.self.view_is in
    omega (arith, long, words.ok.0)

pub returns : goal.returns
returns c =
    let words = c.self.inside.words.items in
    let i = c.args.i in
    let long = sym (length-unpacked c.self.inside.len words) ∙ ap length c.self.view_is in
    let inside : i < c.self.inside.len = omega (arith, long) in
    let there : i / 64 < length words = omega arith in
    let word : c.index.result.now ≡ get_or words (i / 64) 0 =
    c.index.ensures ∙ get_or_default words (i / 64) c.index.result.now 0 there in
    ap (λ w. bit_at w (i % 64) == 1) word
    ∙ sym (get_or-unpacked c.self.inside.len words i false inside)
    ∙ ap (λ row. bit_of row i) c.self.view_is
