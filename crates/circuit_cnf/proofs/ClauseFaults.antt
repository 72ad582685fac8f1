-- Faults of a clause, one literal after the other.
use Rattle.std.proofs.Common.{◌≡◌, ℕ, ◌<◌, inl, inr, List, ◌∷◌, length, get_or, Some, sym, ◌∙◌, arith}
use Rattle.std.proofs.lemmas.List.{get_or_default}
use Rattle.std.proofs.lemmas.Bool.{eq-eqb}
use Rattle.list_laws.proofs.Members.{contains_later, contains_cases}
use Rattle.dq_lits.specs.Literal.{Literal, negative, variable_of}
use Rattle.dq_lits.specs.Formula.{Dqbf}
use Rattle.hint_log.specs.Entries.{Entry, Given}
use Rattle.hint_log.specs.declared.origins.Leaf.{Leaf}
use Rattle.hint_log.specs.declared.origins.Origin.TheVariants.{Fault}
use Rattle.hint_log.specs.Origins.{matrix_literal}
use Rattle.hint_log.specs.ProductiveLog.{with_group}
use Rattle.circuit_cnf.specs.Faults.{HasFault, HaveOneLeaf, AreFewWith}

-- a group counts once
group_twice : (group : ℕ) (r s : List Literal) (groups : List ℕ) →
    with_group (negative group ∷ r) (with_group (negative group ∷ s) groups) ≡ with_group (negative group ∷ s) groups
group_twice group r s groups = search (arith, eq-eqb)

pub few_more : (group j i : ℕ) (out : Leaf) (rest : List Literal) (es : List Entry) → AreFewWith group es →
    AreFewWith group (Given (Fault j i out) (negative group ∷ rest) ∷ es)
few_more group j i out rest es few k l leaf more = search (arith, group_twice)

pub fault_stays : (group bad j i : ℕ) (l : Literal) (out : Leaf) (e : Entry) (es : List Entry) →
    HasFault group bad j i l out es → HasFault group bad j i l out (e ∷ es)
fault_stays group bad j i l out e es (inl none) = inl none
fault_stays group bad j i l out e es (inr some) = search (arith, contains_later)

pub one_leaf_more : (f : Dqbf) (group j place : ℕ) (leaf : ℕ → Leaf) (l : Literal) (rest : List Literal)
    (es : List Entry) → matrix_literal f j place ≡ Some l → HaveOneLeaf f group leaf es →
    HaveOneLeaf f group leaf (Given (Fault j place (leaf (variable_of l))) (negative group ∷ rest) ∷ es)
one_leaf_more f group j place leaf l rest es at before k i v out more inside own =
    elim (contains_cases (Given (Fault j place (leaf (variable_of l))) (negative group ∷ rest))
    (Given (Fault k i out) (negative group ∷ more)) es inside) [
      | inl is ↦ search arith
      | inr old ↦ before k i v out more old own
    ]

pub same_element : (clause : List Literal) (i : ℕ) (k l : Literal) → i < length clause → k ≡ get_or clause i k →
    l ≡ get_or clause i l → k ≡ l
same_element clause i k l below is is' = is ∙ get_or_default clause i k l below ∙ sym is'
