use Rattle.std.proofs.Common.{cond, ◌≡◌, ◌+◌, get_or, set, ap, arith, ◌∙◌, length, ◌++◌, ◌∷◌, [], length-append}
use Rattle.short_numbers.specs.Numbers.{Numbers}
use Rattle.cdcl_core.specs.Chains.{place_of}
use Rattle.cdcl_core.proofs.LinkedLists.{linked_in, linked_more}
use Rattle.cdcl_core.proofs.watches.add_watch.Goals as goal

pub push-requires-2-clause-fits : goal.push-requires-2-clause-fits
push-requires-2-clause-fits c = search arith

pub set-requires-clause-fits : goal.set-requires-clause-fits
set-requires-clause-fits c = search (arith, length-append)

pub returns-clause-linked : goal.returns-clause-linked
returns-clause-linked c =
    let w = c.args.watches.now in
    let q = place_of c.args.l in
    let place : c.place-place.result ≡ q = c.place-place.ensures.value in
    let next : c.get-next.result ≡ get_or w.heads.items q 0 =
    c.get-next.ensures ∙ ap (λ p. get_or w.heads.items p 0) place in
    let nexts : c.push-2.new.self.items ≡ w.nexts.items ++ get_or w.heads.items q 0 ∷ [] =
    ap (λ (v : Numbers). v.items) c.push-2.ensures ∙ ap (λ n. w.nexts.items ++ n ∷ []) next in
    let literals : c.push.new.self.items ≡ w.literals.items ++ c.args.l ∷ [] =
    c.push.ensures.items ∙ ap (λ b. cond b (w.literals.items ++ c.args.l ∷ []) w.literals.items)
    c.if-is_err.ensures.negation in
    let heads : c.set.new.self.items ≡ set w.heads.items q c.len.result =
    ap (λ (v : Numbers). v.items) c.set.ensures ∙ ap (λ p. set w.heads.items p c.len.result) place in
    let long = length-append w.nexts.items (get_or w.heads.items q 0 ∷ []) in
    let count : c.len.result ≡ length w.nexts.items + 1 = omega (arith, c.len.ensures.value, ap length nexts, long) in
    let heads_fit = c.requires.room.heads_fit in
    let nexts_fit = c.requires.room.nexts_fit in
    linked_in _ (set w.heads.items q c.len.result) (w.nexts.items ++ get_or w.heads.items q 0 ∷ [])
    (w.literals.items ++ c.args.l ∷ []) 0 [] heads nexts literals
    (omega (arith, heads_fit, long, ap (λ (v : Numbers). v.most) c.set.ensures))
    (omega (arith, nexts_fit, long, ap (λ (v : Numbers). v.most) c.push-2.ensures))
    (linked_more w.heads.items w.nexts.items w.literals.items c.args.l c.len.result c.requires.linked.links
    (omega (arith, c.requires.list)) count)
