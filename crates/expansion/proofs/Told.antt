-- The arbiters of a table have names, so that an oracle that goes with the log has them.
use Rattle.std.proofs.Common.{◌≡◌, ℕ, zero, suc, ◌<◌, Bool, true, false, List, [], ◌∷◌, Some, IsSome, map, length, get_or, refl, sym, ap, ◌∙◌, subst, arith}
use Rattle.std.specs.List.{All}
use Rattle.std.proofs.lemmas.Option.{slice_get-get_or}
use Rattle.dq_lits.specs.Literal.{Assignment, Literal, positive, negative, variable_of, is_negative, literal_true}
use Rattle.dq_lits.specs.Derivation.{LiveClauses}
use Rattle.dq_lits.specs.Formula.{Dqbf, Existential}
use Rattle.hint_log.specs.Conditions.{AreLogged}
use Rattle.hint_log.specs.Entries.{Entry, name_of}
use Rattle.hint_log.specs.Naming.{arbiter}
use Rattle.oracle.specs.Calls.{IsModelUnder}
use Rattle.log_laws.specs.Engines.{instances, part}
use Rattle.expansion.specs.Table.{TableState, IsTable}
use Rattle.expansion.proofs.InstanceModels.{own_name}

names_made : (f : Dqbf) (es : List Entry) (rows : List (List Bool)) (row : List Bool) (ys : List Existential)
    (vs : List ℕ) → AreLogged es
    → map (name_of (part instances es)) vs ≡ map (λ y. Some (arbiter f rows row y)) ys → (k d : ℕ) → k < length vs →
    IsSome (name_of es (get_or vs k d))
names_made f es rows row ys [] logged names k d below = absurd (omega (arith, below))
names_made f es rows row [] (v ∷ vs) logged names k d below = cc
names_made f es rows row (y ∷ ys) (v ∷ vs) logged names zero d below =
    let own : name_of (part instances es) v ≡ Some (arbiter f rows row y) = cc in
    subst IsSome (sym (own_name instances es v (arbiter f rows row y) logged own)) refl
names_made f es rows row (y ∷ ys) (v ∷ vs) logged names (suc k) d below =
    search (arith, (names_made f es rows row ys vs logged))

pub table_told : (f : Dqbf) (t : TableState) (es : List Entry) → AreLogged es → IsTable f t es → (P : ℕ → Type 0) →
    ((v : ℕ) → IsSome (name_of es v) → P v) → All (All P) t.pairs
table_told f t es logged table P made k d below j e lt =
    search (
      arith,
      (slice_get-get_or t.rows k []),
      (slice_get-get_or t.pairs k d below),
      (names_made f es t.rows (get_or t.rows k []) f.existentials (get_or t.pairs k d) logged),
    )

-- the literal that switches a table's group on
pub switch_is : (l : Literal) (g : ℕ) → is_negative l ≡ false → variable_of l ≡ g → l ≡ positive g
switch_is (positive v) g plain same = ap positive same
switch_is (negative v) g plain same = cc

pub switched_on : (values : Assignment) (live : LiveClauses) (l : Literal) (g : ℕ) → l ≡ positive g →
    IsModelUnder values live (l ∷ []) → values g ≡ true
switched_on values live l g is m = ap (literal_true values) (sym is) ∙ m.assumptions_true 0 l (omega arith)
