use Rattle.std.proofs.Common.{◌≡◌, ◌/◌, ◌<◌, length, get_or, set, sym, ◌∙◌, ap, arith}
use Rattle.std.proofs.lemmas.List.{get_or_default}
use Rattle.std.specs.Int.{bit_at}
use Rattle.dq_lits.proofs.Packed.{length-unpacked, unpacked-set_word}
use Rattle.dq_lits.proofs.rows.Row.set.Goals as goal

pub index-requires : goal.index-requires
index-requires c =
    let words = c.self.inside.words in
    let long = sym (length-unpacked c.self.inside.len words.items) ∙ ap length c.self.view_is in
    omega (arith, long, words.ok.0)

pub index_mut-requires : goal.index_mut-requires
index_mut-requires c =
    let words = c.self.inside.words in
    let long = sym (length-unpacked c.self.inside.len words.items) ∙ ap length c.self.view_is in
    omega (arith, long, words.ok.0)

pub returns : goal.returns
returns c =
    let words = c.self.inside.words.items in
    let i = c.args.i in
    let long = sym (length-unpacked c.self.inside.len words) ∙ ap length c.self.view_is in
    let inside : i < c.self.inside.len = omega (arith, long) in
    let there : i / 64 < length words = omega arith in
    let word : c.index.result.now ≡ get_or words (i / 64) 0 =
    c.index.ensures ∙ get_or_default words (i / 64) c.index.result.now 0 there in
    unpacked-set_word c.self.inside.len words i c.with_bit.result c.args.b inside there
    c.with_bit.ensures.here
    (λ j below other. c.with_bit.ensures.others j below other ∙ ap (λ w. bit_at w j) word)
    ∙ ap (λ row. set row i c.args.b) c.self.view_is
