-- Trees that find rows by their bits on a dependency set.
use Rattle.std.proofs.Common.{◌≡◌, ℕ, zero, suc, ◌+◌, ◌<◌, ◌≤◌, Bool, List, length, Option, None, Some, refl, ◌∙◌, ap, arith}
use Rattle.refutation_checker.specs.RowTrees.{node_at, next_of, walk_by, walk, IsOrdered}
use Rattle.refutation_checker.specs.declared.row_trees.Node.{Node}

some_is : (j k : ℕ) → Some j ≡ Some k → j ≡ k
some_is j k h = cc

-- what comes next stands behind
pub steps_on : (nodes : List Node) (row : List Bool) (k j : ℕ) → IsOrdered nodes → k < length nodes →
    next_of row (node_at nodes k) ≡ Some j
    → (k < j) × (j < length nodes)
steps_on nodes row k j ordered lt is = search (arith, some_is)

-- as many steps as there are nodes are enough
pub enough : (nodes : List Node) (row : List Bool) → IsOrdered nodes → (n m k : ℕ) → k < length nodes →
    length nodes ≤ k + n → length nodes ≤ k + m
    → walk (node_at nodes) row n k ≡ walk (node_at nodes) row m k
enough nodes row ordered zero m k lt first second = absurd (omega arith)
enough nodes row ordered (suc n) zero k lt first second = absurd (omega arith)
enough nodes row ordered (suc n) (suc m) k lt first second =
    by (λ j before within. enough nodes row ordered n m j within (omega (arith, first, before))
    (omega (arith, second, before))) (next_of row (node_at nodes k)) refl
  where
    by : ((j : ℕ) → k < j → j < length nodes → walk (node_at nodes) row n j ≡ walk (node_at nodes) row m j)
        → (o : Option ℕ) → next_of row (node_at nodes k) ≡ o →
        walk_by o k (walk (node_at nodes) row n) ≡ walk_by o k (walk (node_at nodes) row m)
    by later None h = refl
    by later (Some j) h = let s = steps_on nodes row k j ordered lt h in later j s.0 s.1

pub walk_on : (nodes : List Node) (row : List Bool) (n k j : ℕ) → IsOrdered nodes → k < length nodes →
    length nodes ≡ n → next_of row (node_at nodes k) ≡ Some j
    → walk (node_at nodes) row n k ≡ walk (node_at nodes) row n j
walk_on nodes row zero k j ordered lt all is = absurd (omega arith)
walk_on nodes row (suc n) k j ordered lt all is =
    let s = steps_on nodes row k j ordered lt is in
    ap (λ o. walk_by o k (walk (node_at nodes) row n)) is
    ∙ enough nodes row ordered n (suc n) j s.1 (omega (arith, all, s.0)) (omega (arith, all))

pub walk_stops : (nodes : List Node) (row : List Bool) (n k : ℕ) → next_of row (node_at nodes k) ≡ None →
    walk (node_at nodes) row n k ≡ k
walk_stops nodes row zero k is = refl
walk_stops nodes row (suc n) k is = ap (λ o. walk_by o k (walk (node_at nodes) row n)) is

-- a walk ends at a leaf
pub walk_ends : (nodes : List Node) (row : List Bool) → IsOrdered nodes → (n k : ℕ) → k < length nodes →
    length nodes ≤ k + n
    → (next_of row (node_at nodes (walk (node_at nodes) row n k)) ≡ None) ×
    (walk (node_at nodes) row n k < length nodes)
walk_ends nodes row ordered zero k lt far = absurd (omega arith)
walk_ends nodes row ordered (suc n) k lt far =
    by (λ j before within. walk_ends nodes row ordered n j within (omega (arith, far, before)))
    (next_of row (node_at nodes k)) refl
  where
    by : ((j : ℕ) → k < j → j < length nodes
        → (next_of row (node_at nodes (walk (node_at nodes) row n j)) ≡ None) ×
        (walk (node_at nodes) row n j < length nodes))
        → (o : Option ℕ) → next_of row (node_at nodes k) ≡ o
        → (next_of row (node_at nodes (walk_by o k (walk (node_at nodes) row n))) ≡ None) ×
        (walk_by o k (walk (node_at nodes) row n) < length nodes)
    by later None h = (h, lt)
    by later (Some j) h = let s = steps_on nodes row k j ordered lt h in later j s.0 s.1

-- rows that go on alike come to one leaf
pub walks_alike : (nodes : List Node) (r s : List Bool) → IsOrdered nodes →
    ((k : ℕ) → k < length nodes → next_of r (node_at nodes k) ≡ next_of s (node_at nodes k))
    → (n k : ℕ) → k < length nodes → walk (node_at nodes) r n k ≡ walk (node_at nodes) s n k
walks_alike nodes r s ordered alike zero k lt = refl
walks_alike nodes r s ordered alike (suc n) k lt =
    ap (λ o. walk_by o k (walk (node_at nodes) r n)) (alike k lt)
    ∙ by (λ j within. walks_alike nodes r s ordered alike n j within) (next_of s (node_at nodes k)) refl
  where
    by : ((j : ℕ) → j < length nodes → walk (node_at nodes) r n j ≡ walk (node_at nodes) s n j)
        → (o : Option ℕ) → next_of s (node_at nodes k) ≡ o →
        walk_by o k (walk (node_at nodes) r n) ≡ walk_by o k (walk (node_at nodes) s n)
    by later None h = refl
    by later (Some j) h = later j (steps_on nodes s k j ordered lt h).1
