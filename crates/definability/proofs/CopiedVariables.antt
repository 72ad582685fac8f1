-- Copies of variables, as they are looked up.
use Rattle.std.proofs.Common.{◌≡◌, ℕ, zero, suc, ◌+◌, ◌<◌, true, false, List, [], ◌∷◌, ◌++◌, map, length, take, get_or, slice_get, Some, refl, ◌∙◌, ap, arith}
use Rattle.std.proofs.lemmas.List.{take_more, map-append}
use Rattle.list_laws.proofs.Elements.{mapped_at}
use Rattle.dq_lits.specs.Literal.{Literal, positive, negative, variable_of, is_negative, opposite}
use Rattle.hint_log.specs.Entries.{Entry}
use Rattle.hint_log.specs.Naming.{NamedLiteral, named_literal, name_literal, AreNamedAs}
use Rattle.hint_log.specs.declared.names.Name.{Name}
use Rattle.hint_log.specs.declared.names.Name.TheVariants.{Copy as CopyOf}
use Rattle.definability.specs.Copies.{AreCopiesOf, copy_names}

-- what stands at a place is named so
pub named_at : (es : List Entry) (ls : List Literal) (ns : List NamedLiteral) (i : ℕ) (l : Literal) (n : NamedLiteral) →
    AreNamedAs es ls ns → slice_get ls i ≡ Some l → slice_get ns i ≡ Some n →
    name_literal es l ≡ Some n
named_at es [] ns i l n are at is = cc
named_at es (k ∷ ls) [] i l n are at is = cc
named_at es (k ∷ ls) (m ∷ ns) zero l n are at is = search arith
named_at es (k ∷ ls) (m ∷ ns) (suc i) l n are at is = search (arith, (named_at es ls ns i l n))

pub named_length : (es : List Entry) (ls : List Literal) (ns : List NamedLiteral) → AreNamedAs es ls ns →
    length ls ≡ length ns
named_length es [] [] are = refl
named_length es [] (n ∷ ns) are = cc
named_length es (l ∷ ls) [] are = cc
named_length es (l ∷ ls) (n ∷ ns) are = search (arith, (named_length es ls ns))

-- the copy that stands at a variable's place
pub copy_at : (es : List Entry) (side : ℕ) (xs : List ℕ) (lits : List Literal) (i v : ℕ) (l : Literal) →
    AreCopiesOf es side xs lits → slice_get xs i ≡ Some v → slice_get lits i ≡ Some l →
    name_literal es l ≡ Some (named_literal (CopyOf side v) false)
copy_at es side xs lits i v l are at is =
    named_at es lits (map (λ w. named_literal (CopyOf side w) false) xs) i l
    (named_literal (CopyOf side v) false) are is (mapped_at
    (λ w. named_literal (CopyOf side w) false) xs i v at)

pub opposite_name : (es : List Entry) (l : Literal) (n : Name) → name_literal es l ≡ Some (named_literal n false) →
    name_literal es (opposite l) ≡ Some (named_literal n true)
opposite_name es (positive v) n h = search arith
opposite_name es (negative v) n h = search arith

-- one more at the end
pub named_push : (es : List Entry) (ls : List Literal) (ns : List NamedLiteral) (l : Literal) (n : NamedLiteral) →
    AreNamedAs es ls ns → name_literal es l ≡ Some n →
    AreNamedAs es (ls ++ l ∷ []) (ns ++ n ∷ [])
named_push es ls ns l n are is = search (arith, map-append)

pub clause_more : (es : List Entry) (side : ℕ) (clause lits more : List Literal) (i : ℕ) (l k : Literal) →
    i < length clause → get_or clause i l ≡ l →
    AreNamedAs es lits (copy_names side (take i clause)) → name_literal es k ≡ Some
    (named_literal (CopyOf side (variable_of l)) (is_negative l)) → more ≡ lits ++ k ∷ [] →
    AreNamedAs es more (copy_names side (take (i + 1) clause))
clause_more es side clause lits more i l k lt at are is pushed =
    search (arith, (take_more clause i l lt), map-append, (named_push es lits))

-- a copied literal behind copied literals
pub copied_last : (es : List Entry) (side : ℕ) (originals lits : List Literal) (l : Literal) →
    AreNamedAs es lits (copy_names side originals ++ named_literal (CopyOf side (variable_of l)) (is_negative l) ∷ []) →
    AreNamedAs es lits (copy_names side (originals ++ l ∷ []))
copied_last es side originals lits l are = search (arith, map-append)

-- where all have copies
pub by_places : (es : List Entry) (side : ℕ) (xs : List ℕ) (lits : List Literal) → length lits ≡ length xs →
    ((k v : ℕ) (l : Literal) → slice_get xs k ≡ Some v → slice_get lits k ≡ Some l →
    name_literal es l ≡ Some (named_literal (CopyOf side v) false)) → AreCopiesOf es side xs lits
by_places es side [] [] long each = refl
by_places es side [] (l ∷ lits) long each = cc
by_places es side (x ∷ xs) [] long each = cc
by_places es side (x ∷ xs) (l ∷ lits) long each =
    let fewer : length lits ≡ length xs = omega (arith, long) in
    ap (λ o. o ∷ map (name_literal es) lits) (each 0 x l refl refl)
    ∙ ap (λ os. Some (named_literal (CopyOf side x) false) ∷ os)
    (by_places es side xs lits fewer (λ k v m v_at m_at. each (suc k) v m v_at m_at))
