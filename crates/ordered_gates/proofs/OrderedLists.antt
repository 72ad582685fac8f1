-- Items are ordered one by one.
use Rattle.std.proofs.Common.{◌≡◌, ◌∙◌, ◌+◌, ◌<◌, ◌++◌, ◌∷◌, [], ℕ, List, map, take, length, Some, sym, ap, arith}
use Rattle.std.specs.List.{All, slice_get}
use Rattle.std.proofs.lemmas.List.{map-append, take_more}
use Rattle.std.proofs.lemmas.Option.{get_or_from_slice_get}
use Rattle.circuit_plain.specs.declared.circuits.Gate.{Gate}
use Rattle.rup_core.specs.Items.{ProofItem}
use Rattle.cert_text.specs.Items.{HasLineId}
use Rattle.ordered_gates.specs.Circuits.{ordered_item}

pub line_id : (items : List ProofItem) (place : ℕ) (item : ProofItem) → All HasLineId items → place < length items →
    slice_get items place ≡ Some item → HasLineId item
line_id items place item all below is = search (arith, get_or_from_slice_get)

pub item_added : (gates : List Gate) (items old new : List ProofItem) (place : ℕ) (item : ProofItem) →
    place < length items → slice_get items place ≡ Some item → old ≡ map (ordered_item gates) (take place items) →
    new ≡ old ++ ordered_item gates item ∷ [] → new ≡ map (ordered_item gates) (take (place + 1) items)
item_added gates items old new place item below is old_is new_is =
    new_is ∙ ap (λ before. before ++ ordered_item gates item ∷ []) old_is
    ∙ sym (map-append (ordered_item gates) (take place items) (item ∷ []))
    ∙ ap (map (ordered_item gates))
    (ap (λ i. take place items ++ i ∷ []) (sym (get_or_from_slice_get items place item item is))
    ∙ sym (take_more items place item below))
