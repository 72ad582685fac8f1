use Rattle.std.proofs.Common.{sym, ◌∙◌, subst}
use Rattle.std.proofs.lemmas.Bool.{ltb-true, not-true}
use Rattle.cert_judge.proofs.FreeTexts.{IsNoProof, ended_word, long_word, no_proof}
use Rattle.cert_judge.proofs.free_texts.is_no_proof.Goals as goal

pub returns-in_default-next : goal.returns-in_default-next
returns-in_default-next c on more =
    no_proof c.args.bytes.now c.in-Some.word.now c.next.new.self c.requires
    (sym c.new-tokens.ensures ∙ c.in-Some.ensures.token)
    (long_word c.in-Some.word.now c.next.new.self (ltb-true 4 _ on)) more

pub returns : goal.returns
returns c on more =
    let word = c.in-Some.word.now in
    no_proof c.args.bytes.now word c.next.new.self c.requires (sym c.new-tokens.ensures ∙ c.in-Some.ensures.token)
    (subst (IsNoProof word) (sym c.in-Some-next.ensures.token)
    (ended_word word c.in-Some-next._behind.now c.next-2.new.self (sym c.is_word.ensures ∙ c.if-is_word.false)
    (sym c.is_word-2.ensures ∙ not-true c.is_word-2.result on))) more
