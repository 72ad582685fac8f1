use Rattle.std.proofs.Common.{◌≡◌, eqb, map, ap, subst, ◌∙◌, IsPermutation, arith}
use Rattle.std.specs.List.{IsDistinct, dedup, slice_index}
use Rattle.std.proofs.lemmas.List.Filters.{dedup_is}
use Rattle.dq_lits.specs.Formula.{Dqbf}
use Rattle.dq_formula.specs.Dependencies.{listed_universals}
use Rattle.dq_formula.proofs.Places.{place, has}
use Rattle.dq_formula.proofs.Sorted.{in_order, places-below, filter-members}
use Rattle.dq_formula.proofs.formula.Formula.sorted.Goals as goal

pub picked-requires : goal.picked-requires
picked-requires c =
    let us = c.args.self.now.universals in
    let xs = c.args.xs.now in
    let sorted = c.sort_unstable.new.self.items in
    let same : c.self.inside.universals ≡ us = ap (λ (f : Dqbf). f.universals) c.self.view_is in
    let moved : IsPermutation (map (place us) xs) sorted = search arith in
    let left : c.deref.result.now ≡ dedup eqb sorted = c.deref.ensures.value
    ∙ dedup_is eqb sorted c.dedup.new.self.items c.dedup.ensures.filtered in
    rw (left, c.items.ensures, same) (places-below us xs sorted c.requires moved)

pub returns-clause-listed : goal.returns-clause-listed
returns-clause-listed c =
    let us = c.args.self.now.universals in
    let xs = c.args.xs.now in
    let sorted = c.sort_unstable.new.self.items in
    let same : c.self.inside.universals ≡ us = ap (λ (f : Dqbf). f.universals) c.self.view_is in
    let distinct : IsDistinct eqb us = subst (IsDistinct eqb) same c.self.invariant.distinct_universals in
    let moved : IsPermutation (map (place us) xs) sorted = search arith in
    let left : c.deref.result.now ≡ dedup eqb sorted = c.deref.ensures.value
    ∙ dedup_is eqb sorted c.dedup.new.self.items c.dedup.ensures.filtered in
    let universals : c.items.result.now ≡ us = c.items.ensures ∙ same in
    c.from_vec.ensures ∙ c.in_ok-vars.ensures ∙ ap (λ ps. map (slice_index c.items.result.now) ps) left ∙ ap
    (λ vs. map (slice_index vs) (dedup eqb sorted)) universals
    ∙ in_order us xs sorted distinct c.requires moved c.sort_unstable.ensures.sorted

pub returns-clause-form : goal.returns-clause-form
returns-clause-form c =
    let us = c.args.self.now.universals in
    let xs = c.args.xs.now in
    let sorted = c.sort_unstable.new.self.items in
    let same : c.self.inside.universals ≡ us = ap (λ (f : Dqbf). f.universals) c.self.view_is in
    let distinct : IsDistinct eqb us = subst (IsDistinct eqb) same c.self.invariant.distinct_universals in
    let moved : IsPermutation (map (place us) xs) sorted = search arith in
    let left : c.deref.result.now ≡ dedup eqb sorted = c.deref.ensures.value
    ∙ dedup_is eqb sorted c.dedup.new.self.items c.dedup.ensures.filtered in
    let universals : c.items.result.now ≡ us = c.items.ensures ∙ same in
    let listed : c.from_vec.result ≡ listed_universals us xs =
    c.from_vec.ensures ∙ c.in_ok-vars.ensures ∙ ap (λ ps. map (slice_index c.items.result.now) ps) left ∙ ap
    (λ vs. map (slice_index vs) (dedup eqb sorted)) universals
    ∙ in_order us xs sorted distinct c.requires moved c.sort_unstable.ensures.sorted in
    rw listed (filter-members (has xs) us)
