use Rattle.std.proofs.Common.{◌∷◌, [], ◌++◌, ℕ, map, take, get_or, refl, ◌∙◌, ap}
use Rattle.std.proofs.lemmas.List.{get_or_default}
use Rattle.dq_lits.specs.Literal.{positive}
use Rattle.dq_lits.specs.Row.{bit_of}
use Rattle.definability.specs.Ruling.{signed_literal}
use Rattle.definability.proofs.SelectedPlaces.{mapped_more}
use Rattle.definability.proofs.definability.Definability.row_copies.Goals as goal

pub loop-place-preserved : goal.loop-place-preserved
loop-place-preserved c =
    let lits = c.args.self.now.first.universals.items in
    let row = c.args.row.now in
    let places = c.args.places.now in
    let i = c.loop-place.place-index in
    let place = get_or places i 0 in
    let g = λ (p : ℕ). signed_literal (get_or lits p (positive 0)) (bit_of row p) in
    c.in_ok-push-2.ensures.items ∙ ap (λ xs. xs ++ c.signed.result ∷ []) c.loop-place.invariant
    ∙ ap (λ xs. c.args.own ∷ xs)
    (mapped_more g places i place (map g (take i places)) (map g (take i places) ++ c.signed.result ∷ [])
    c.signed.result c.loop-place-test.true
    (get_or_default places i place 0 c.loop-place-test.true) refl refl
    (c.signed.ensures
    ∙ ap (λ l. signed_literal l c.get.result) (c.index-copy.ensures ∙ get_or_default lits place c.index-copy.result.now
    (positive 0) (c.requires.copies i 0 c.loop-place-test.true)) ∙ ap
    (signed_literal (get_or lits place (positive 0))) c.get.ensures))
