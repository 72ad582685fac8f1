-- Literals that a definition may read.
use Rattle.std.proofs.Common.{◌≡◌, ℕ, ◌+◌, ◌<◌, ◌≤◌, List, length, take, get_or, sym, subst}
use Rattle.std.specs.List.{All}
use Rattle.std.proofs.lemmas.List.{take_more, take_all}
use Rattle.std.proofs.lemmas.List.Elements.{All-push}
use Rattle.dq_lits.specs.Literal.{Literal, variable_of}
use Rattle.dq_lits.specs.Formula.{Existential, Dqbf}
use Rattle.definition_order.specs.Order.{MayRead}
use Rattle.gate_definitions.specs.Stating.{AreReadable}

pub readable_more : (f : Dqbf) (ranks : List ℕ) (e : Existential) (lits : List Literal) (i : ℕ) (l : Literal) →
    i < length lits → l ≡ get_or lits i l → AreReadable f ranks e (take i lits)
    → MayRead f ranks e (variable_of l) → AreReadable f ranks e (take (i + 1) lits)
readable_more f ranks e lits i l below is before may = subst (AreReadable f ranks e) (sym (take_more lits i l below))
    (All-push (λ k. MayRead f ranks e (variable_of k)) (take i lits) (get_or lits i l) before
    (subst (λ k. MayRead f ranks e (variable_of k)) is may))

pub readable_whole : (f : Dqbf) (ranks : List ℕ) (e : Existential) (lits : List Literal) (i : ℕ) → length lits ≤ i →
    AreReadable f ranks e (take i lits) → AreReadable f ranks e lits
readable_whole f ranks e lits i past all = subst (AreReadable f ranks e) (take_all i lits past) all

-- what holds of each literal's variable holds of the one that is read
pub holds_there : (P : ℕ → Type 0) (lits : List Literal) (i : ℕ) (l : Literal) → All (λ k. P (variable_of k)) lits →
    i < length lits → l ≡ get_or lits i l → P (variable_of l)
holds_there P lits i l all below is = subst (λ k. P (variable_of k)) (sym is) (all i l below)
