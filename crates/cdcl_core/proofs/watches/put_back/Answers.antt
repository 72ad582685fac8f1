use Rattle.std.proofs.Common.{◌≡◌, ◌-◌, get_or, set, ap, subst, sym, ◌∙◌, arith, refl}
use Rattle.std.proofs.lemmas.List.{length-set, set-set, get_or-set_same}
use Rattle.short_numbers.specs.Numbers.{Numbers}
use Rattle.cdcl_core.specs.Chains.{place_of, AreLinked}
use Rattle.cdcl_core.proofs.LinkedLists.{linked_in, linked_put, open_first}
use Rattle.cdcl_core.proofs.watches.put_back.Goals as goal

pub replace-next-requires-clause-fits : goal.replace-next-requires-clause-fits
replace-next-requires-clause-fits c = search (arith, open_first)

pub returns-clause-linked : goal.returns-clause-linked
returns-clause-linked c = λ rest k.
    let w = c.args.watches.now in
    let o = c.args.list.now in
    let q = place_of o.literal in
    let id = c.args.id in
    let heads = set w.heads.items q o.first in
    let lt = length-set w.heads.items q o.first in
    let here : get_or heads q 0 ≡ o.first = get_or-set_same w.heads.items q o.first 0 (omega (arith, c.requires.list)) in
    let again : set w.heads.items q id ≡ set heads q id = sym (set-set w.heads.items q o.first id) in
    let nexts : c.replace-next.new.self.items ≡ set w.nexts.items (id - 1) (get_or heads q 0) =
    ap (λ (v : Numbers). v.items) c.replace-next.ensures.these ∙ ap (set w.nexts.items (id - 1)) (sym here) in
    let long = length-set w.nexts.items (id - 1) (get_or heads q 0) in
    let heads_fit = c.requires.fits.heads in
    let nexts_fit = c.requires.fits.nexts in
    linked_in _ (set heads q id) (set w.nexts.items (id - 1) (get_or heads q 0)) w.literals.items
    c.replace-next.result rest again nexts refl
    (omega (arith, heads_fit, long))
    (omega (arith, nexts_fit, long, ap (λ (v : Numbers). v.most) c.replace-next.ensures.these))
    (subst (λ n. AreLinked (set heads q id) (set w.nexts.items (id - 1) (get_or heads q 0)) w.literals.items n rest)
    (sym c.replace-next.ensures.value) (linked_put heads w.nexts.items w.literals.items id q rest k.links
    (ap place_of c.requires.watched) (omega (arith, c.requires.list, lt))))
