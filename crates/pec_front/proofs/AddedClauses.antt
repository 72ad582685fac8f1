-- Clauses that are added one by one.
use Rattle.std.proofs.Common.{◌≡◌, ℕ, ◌+◌, ◌*◌, ◌<◌, List, [], ◌∷◌, ◌++◌, sym, ◌∙◌, ap, append_assoc, arith}
use Rattle.std.specs.Option.{option_map}
use Rattle.std.proofs.lemmas.List.Elements.{All-from_recursion}
use Rattle.std.proofs.lemmas.List.Elements.{filter_map-append}
use Rattle.dq_lits.specs.Formula.{Dqbf}
use Rattle.dq_lits.specs.Literal.{Literal}
use Rattle.circuit_plain.specs.Netlist.{literal_variable}
use Rattle.cert_text.specs.NegatedMatrix.{opposite_of, without_constants}
use Rattle.dqdimacs_reader.specs.Building.{distinct}
use Rattle.pec_front.specs.Encoding.{agreement_clauses}
use Rattle.pec_front.specs.Kept.{kept, AreWithin}

pub three-within : (variables a b c : ℕ) → literal_variable a < variables + 1 → literal_variable b < variables + 1
    → literal_variable c < variables + 1 → AreWithin variables (a ∷ b ∷ c ∷ [])
three-within variables a b c x y z = search (arith, All-from_recursion)

abbrev pub with_clauses : Dqbf → List (List Literal) → Dqbf
with_clauses f clauses = record f { matrix = f.matrix ++ clauses }

kept-more : (xs ys : List (List ℕ)) → kept (xs ++ ys) ≡ kept xs ++ kept ys
kept-more xs ys = filter_map-append (λ clause. option_map distinct (without_constants clause)) xs ys

-- clauses behind others
pub added : (f g h : Dqbf) (xs ys : List (List ℕ)) → g ≡ with_clauses f (kept xs) → h ≡ with_clauses g (kept ys)
    → h ≡ with_clauses f (kept (xs ++ ys))
added f g h xs ys first second =
    second ∙ ap (λ (k : Dqbf). with_clauses k (kept ys)) first
    ∙ ap (λ m. record f { matrix = m })
    (append_assoc f.matrix (kept xs) (kept ys) ∙ ap (λ zs. f.matrix ++ zs) (sym (kept-more xs ys)))

-- the four clauses of an agreement
pub agreement-added : (f g h i j : Dqbf) (flag a b differ not_a not_b : ℕ) → differ ≡ opposite_of (2 * flag)
    → not_a ≡ opposite_of a → not_b ≡ opposite_of b
    → g ≡ with_clauses f (kept ((differ ∷ not_a ∷ b ∷ []) ∷ []))
    → h ≡ with_clauses g (kept ((differ ∷ a ∷ not_b ∷ []) ∷ []))
    → i ≡ with_clauses h (kept ((2 * flag ∷ a ∷ b ∷ []) ∷ []))
    → j ≡ with_clauses i (kept ((2 * flag ∷ not_a ∷ not_b ∷ []) ∷ []))
    → j ≡ with_clauses f (kept (agreement_clauses flag a b))
agreement-added f g h i j flag a b differ not_a not_b is_differ is_not_a is_not_b first second third fourth =
    let w = differ ∷ not_a ∷ b ∷ [] in
    let x = differ ∷ a ∷ not_b ∷ [] in
    let y = 2 * flag ∷ a ∷ b ∷ [] in
    let z = 2 * flag ∷ not_a ∷ not_b ∷ [] in
    added f i j (w ∷ x ∷ y ∷ []) (z ∷ [])
    (added f h i (w ∷ x ∷ []) (y ∷ []) (added f g h (w ∷ []) (x ∷ []) first second) third) fourth
    ∙ ap (λ n. with_clauses f (kept ((n ∷ not_a ∷ b ∷ []) ∷ (n ∷ a ∷ not_b ∷ []) ∷ y ∷ z ∷ []))) is_differ
    ∙ ap (λ n. with_clauses f
    (kept ((opposite_of (2 * flag) ∷ n ∷ b ∷ []) ∷ (opposite_of (2 * flag) ∷ a ∷ not_b ∷ []) ∷ y
    ∷ (2 * flag ∷ n ∷ not_b ∷ []) ∷ []))) is_not_a
    ∙ ap (λ n. with_clauses f
    (kept ((opposite_of (2 * flag) ∷ opposite_of a ∷ b ∷ []) ∷ (opposite_of (2 * flag) ∷ a ∷ n ∷ []) ∷ y
    ∷ (2 * flag ∷ opposite_of a ∷ n ∷ []) ∷ []))) is_not_b
