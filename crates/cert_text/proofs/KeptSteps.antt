-- Steps that are kept apart.
use Rattle.std.proofs.Common.{◌≡◌, ℕ, zero, suc, ◌<◌, List, [], ◌∷◌, ◌++◌, length, get_or, Some, refl, ap, arith}
use Rattle.std.specs.List.{slice_get}
use Rattle.dq_lits.specs.Derivation.{ProofStep}
use Rattle.dq_lits.specs.Literal.{Literal}
use Rattle.cert_text.specs.KeptSteps.{steps_from, AreAsMany}

-- the same for lists without their first lines
rest : (id : ℕ) (ids : List ℕ) (l : List Literal) (ls : List (List Literal)) (h : List ℕ) (hs : List (List ℕ)) →
    AreAsMany (id ∷ ids) (l ∷ ls) (h ∷ hs) → AreAsMany ids ls hs
rest id ids l ls h hs many = record { clauses = omega (arith, many.clauses); hinted = omega (arith, many.hinted) }

pub length-steps_from : (ids : List ℕ) (ls : List (List Literal)) (hs : List (List ℕ)) → AreAsMany ids ls hs →
    length (steps_from ids ls hs) ≡ length ids
length-steps_from [] ls hs many = refl
length-steps_from (id ∷ ids) [] hs many = absurd (omega (arith, many.clauses))
length-steps_from (id ∷ ids) (l ∷ ls) [] many = absurd (omega (arith, many.hinted))
length-steps_from (id ∷ ids) (l ∷ ls) (h ∷ hs) many = ap suc (length-steps_from ids ls hs (rest id ids l ls h hs many))

pub steps_from-push : (ids : List ℕ) (ls : List (List Literal)) (hs : List (List ℕ)) (id : ℕ) (l : List Literal)
    (h : List ℕ) → AreAsMany ids ls hs →
    steps_from (ids ++ id ∷ []) (ls ++ l ∷ []) (hs ++ h ∷ [])
    ≡ steps_from ids ls hs ++ record { id = id; literals = l; hints = h } ∷ []
steps_from-push [] [] [] id l h many = refl
steps_from-push [] [] (x ∷ hs) id l h many = absurd (omega (arith, many.hinted))
steps_from-push [] (x ∷ ls) hs id l h many = absurd (omega (arith, many.clauses))
steps_from-push (i ∷ ids) [] hs id l h many = absurd (omega (arith, many.clauses))
steps_from-push (i ∷ ids) (x ∷ ls) [] id l h many = absurd (omega (arith, many.hinted))
steps_from-push (i ∷ ids) (x ∷ ls) (y ∷ hs) id l h many = search (arith, rest, (steps_from-push ids ls hs id l h))

pub pushed : (ids more : List ℕ) (ls lines : List (List Literal)) (hs hints : List (List ℕ)) (steps : List ProofStep)
    (id : ℕ) (l : List Literal) (h : List ℕ) →
    AreAsMany ids ls hs → steps_from ids ls hs ≡ steps → more ≡ ids ++ id ∷ [] → lines ≡ ls ++ l ∷ [] →
    hints ≡ hs ++ h ∷ [] →
    steps_from more lines hints ≡ steps ++ record { id = id; literals = l; hints = h } ∷ []
pushed ids more ls lines hs hints steps id l h many is ids_are lines_are hints_are = search (arith, steps_from-push)

pub step_at : (ids : List ℕ) (ls : List (List Literal)) (hs : List (List ℕ)) (k d : ℕ) → AreAsMany ids ls hs →
    k < length ids →
    slice_get (steps_from ids ls hs) k ≡ Some (record {
      id = get_or ids k d;
      literals = get_or ls k [];
      hints =
          get_or hs k [];
    })
step_at [] ls hs k d many below = absurd (omega (arith, below))
step_at (i ∷ ids) [] hs k d many below = absurd (omega (arith, many.clauses))
step_at (i ∷ ids) (x ∷ ls) [] k d many below = absurd (omega (arith, many.hinted))
step_at (i ∷ ids) (x ∷ ls) (y ∷ hs) zero d many below = refl
step_at (i ∷ ids) (x ∷ ls) (y ∷ hs) (suc k) d many below = search (arith, rest, (step_at ids ls hs k d))

-- the line that was read
pub step_got : (ids : List ℕ) (ls : List (List Literal)) (hs : List (List ℕ)) (k : ℕ) (steps : List ProofStep) (id : ℕ)
    (l : List Literal) (h : List ℕ) →
    AreAsMany ids ls hs → k < length ids → steps_from ids ls hs ≡ steps → id ≡ get_or ids k id → l ≡ get_or ls k [] →
    h ≡ get_or hs k [] →
    slice_get steps k ≡ Some (record { id = id; literals = l; hints = h })
step_got ids ls hs k steps id l h many below is id_is l_is h_is = search (arith, step_at)
