use Rattle.std.proofs.Common.{◌+◌, ◌<◌, ◌∷◌, [], ◌++◌, ℕ, map, length, arith, subst, sym, ap, ◌∙◌}
use Rattle.std.proofs.lemmas.List.{append_assoc, append-nil}
use Rattle.std.proofs.lemmas.Grind.{get_or_default_zero}
use Rattle.cert_text.specs.Steps.{step_seen}
use Rattle.proof_deletions.specs.Chains.{IsChain}
use Rattle.proof_deletions.specs.Deletions.{lines_of, first_number}
use Rattle.proof_deletions.proofs.Links.{goes_on, ends}
use Rattle.proof_deletions.proofs.NumberedLines.{number_at}
use Rattle.proof_deletions.proofs.chains.Chains.numbers.Goals as goal

pub loop-at-smaller : goal.loop-at-smaller
loop-at-smaller c =
    let on = goes_on c.args.self.now.nexts.items c.loop-at.at c.loop-at.invariant.left c.loop-at.invariant.chain
    (let t = c.loop-at-test.true in let l = c.len.ensures in omega (arith, t, l)) in
    let next = c.index-at-in-loop-at.ensures ∙ get_or_default_zero c.args.self.now.nexts.items c.loop-at.at
    c.index-at-in-loop-at.result.now (let t = c.loop-at-test.true in let l = c.len.ensures in omega (arith, t, l)) in
    let further = on.further in
    let there = c.loop-at-test.true in
    let l = c.len.ensures in
    omega (arith, next, further, there, l)

pub loop-at-preserved : goal.loop-at-preserved
loop-at-preserved c =
    let nexts = c.args.self.now.nexts.items in
    let first = first_number (lines_of c.args.lines.now) in
    let at = c.loop-at.at in
    let there : at < length nexts = (let t = c.loop-at-test.true in let l = c.len.ensures in omega (arith, t, l)) in
    let on = goes_on nexts at c.loop-at.invariant.left c.loop-at.invariant.chain there in
    let id = number_at c.args.lines.now at (step_seen c.line_at.result) c.requires.lines c.line_at.ensures in
    record {
      left = on.rest;
      chain = subst (λ n. IsChain nexts n on.rest) (sym (c.index-at-in-loop-at.ensures
          ∙ get_or_default_zero nexts at c.index-at-in-loop-at.result.now there)) on.chain;
      whole = ap (λ is. is ++ map (λ k. first + k) on.rest)
          (c.in_ok-push.ensures.items ∙ ap (λ (i : ℕ). c.loop-at.numbers.items ++ i ∷ []) id)
          ∙ append_assoc c.loop-at.numbers.items ((first + at) ∷ []) (map (λ k. first + k) on.rest)
          ∙ ap (λ ks. c.loop-at.numbers.items ++ map (λ k. first + k) ks) (sym on.is)
          ∙ c.loop-at.invariant.whole;
    }

pub returns : goal.returns
returns c =
    let first = first_number (lines_of c.args.lines.now) in
    let none = ends c.args.self.now.nexts.items c.loop-at.at c.loop-at.invariant.left c.loop-at.invariant.chain
    (λ h. let f = c.loop-at-test.false in let l = c.len.ensures in absurd (omega (arith, f, l, h))) in
    sym (append-nil c.loop-at.numbers.items)
    ∙ ap (λ ks. c.loop-at.numbers.items ++ map (λ k. first + k) ks) (sym none)
    ∙ c.loop-at.invariant.whole
