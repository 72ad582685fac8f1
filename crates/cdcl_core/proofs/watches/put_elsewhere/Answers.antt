use Rattle.std.proofs.Common.{◌≡◌, ◌-◌, get_or, set, ap, subst, sym, ◌∙◌, arith, refl, get_or-set_other, get_or-set_same}
use Rattle.std.proofs.lemmas.List.{length-set, set_comm}
use Rattle.dq_lits.specs.Literal.{positive}
use Rattle.short_numbers.specs.Numbers.{Numbers}
use Rattle.cdcl_core.specs.Chains.{place_of, watch_at, AreLinked}
use Rattle.cdcl_core.proofs.LinkedLists.{linked_in, linked_put, linked_relabelled}
use Rattle.cdcl_core.proofs.watches.put_elsewhere.Goals as goal

pub returns-clause-linked : goal.returns-clause-linked
returns-clause-linked c = λ o rest apart k.
    let w = c.args.watches.now in
    let l = c.args.l in
    let p = place_of o.literal in
    let q = place_of l in
    let id = c.args.id in
    let heads = set w.heads.items p o.first in
    let literals = set w.literals.items (id - 1) l in
    let place : c.place-place.result ≡ q = c.place-place.ensures.value in
    let heads_are : set c.rotate.new.others.items p o.first ≡ set heads q id =
    ap (λ (v : Numbers). set v.items p o.first) c.rotate.ensures.others
    ∙ ap (λ n. set (set w.heads.items n id) p o.first) place
    ∙ sym (set_comm w.heads.items p q o.first id apart) in
    let nexts_are : c.rotate.new.self.items ≡ set w.nexts.items (id - 1) (get_or heads q 0) =
    ap (λ (v : Numbers). v.items) c.rotate.ensures.these
    ∙ ap (λ n. set w.nexts.items (id - 1) (get_or w.heads.items n 0)) place
    ∙ ap (set w.nexts.items (id - 1)) (sym (get_or-set_other w.heads.items p q o.first 0 (λ e. apart (sym e)))) in
    let here : watch_at literals (id - 1) ≡ l = get_or-set_same w.literals.items (id - 1) l (positive 0)
    (omega (arith, c.requires.from_one, c.requires.is_id, c.requires.count)) in
    let long = length-set w.nexts.items (id - 1) (get_or heads q 0) in
    let heads_fit = k.fits.heads in
    let nexts_fit = k.fits.nexts in
    linked_in _ (set heads q id) (set w.nexts.items (id - 1) (get_or heads q 0)) literals c.rotate.result rest
    heads_are nexts_are refl
    (omega (arith, heads_fit, long, ap (λ (v : Numbers). v.most) c.rotate.ensures.others))
    (omega (arith, nexts_fit, long, ap (λ (v : Numbers). v.most) c.rotate.ensures.these))
    (subst (λ n. AreLinked (set heads q id) (set w.nexts.items (id - 1) (get_or heads q 0)) literals n rest)
    (sym c.rotate.ensures.value) (linked_put heads w.nexts.items literals id q rest
    (linked_relabelled heads w.nexts.items w.literals.items id l rest k.links)
    (ap place_of here) (omega (arith, c.requires.list, length-set w.heads.items p o.first))))
