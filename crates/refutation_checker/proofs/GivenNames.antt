-- Names that are given.
use Rattle.std.proofs.Common.{◌≡◌, ℕ, zero, suc, ◌+◌, ◌*◌, ◌%◌, ◌<◌, ◌≤◌, ◌==◌, ◌^◌, Bool, true, false, cond, List, [], set, length, get_or, replicate, None, Some, refl, sym, ◌∙◌, ap, subst, arith}
use Rattle.std.specs.List.{All}
use Rattle.std.proofs.lemmas.List.{length-replicate, get_or_default}
use Rattle.refutation_checker.specs.Bindings.{set_at}
use Rattle.refutation_checker.specs.KnownBases.{AreKept, IsKeptOrNew, block_number}
use Rattle.refutation_checker.specs.Namings.{Frame, Names, sees_at, tree_at, base_of, IsNaming, Extends}
use Rattle.refutation_checker.specs.PairNames.{names_in, IsFrame, IsLast, AreNames}
use Rattle.refutation_checker.specs.RowTrees.{sees_of, found, IsTree, AreNumbered, number_or}
use Rattle.refutation_checker.specs.Rows.{row_of}
use Rattle.refutation_checker.specs.declared.pair_names.LastBase.{LastBase}
use Rattle.refutation_checker.specs.declared.pair_names.PairNames.{PairNames}
use Rattle.refutation_checker.specs.declared.row_trees.Node.{Node}
use Rattle.refutation_checker.specs.declared.bindings.DependencySet.{DependencySet}
use Rattle.refutation_checker.specs.declared.known_bases.KnownBases.{KnownBases}
use Rattle.refutation_checker.proofs.KnownBases.{kept_later, kept_more}
use Rattle.refutation_checker.proofs.NamedPairs.{grown, IsGrowth, grown_naming, grown_extends, grown_base}

-- no pair has a name
pub no_names : (x : Frame) (n : Names) → n.trees ≡ replicate (length x.sets) [] → n.next ≡ 1 → IsNaming x n
no_names x n trees_is next_is = record {
  many = ap length trees_is ∙ length-replicate (length x.sets) [];
  from_one = omega (arith, next_is);
  trees = λ c lt. subst (IsTree x.formula x.rows (sees_at x c)) (sym (none c))
      (record { ordered = λ k below. absurd (omega arith); keyed = λ k below. absurd (omega arith) });
  below = λ c b r whole is. absurd (nothing b (sym (ap (λ t. found x.formula x.rows (sees_at x c) t r) (none c)) ∙ is));
  apart = λ c d b e r s r_whole s_whole first second. absurd
      (nothing b (sym (ap (λ t. found x.formula x.rows (sees_at x c) t r) (none c)) ∙ first));
}
  where
    all : (count c : ℕ) → get_or {A = List Node} (replicate count []) c [] ≡ []
    all zero c = refl
    all (suc count) zero = refl
    all (suc count) (suc c) = all count c

    none : (c : ℕ) → tree_at n c ≡ []
    none c = ap (λ ts. get_or ts c []) trees_is ∙ all (length x.sets) c

    nothing : (b : ℕ) → None ≡ Some b → ⊥
    nothing b h = cc

-- names stay
last_later : (x : Frame) (n m : Names) (old new : LastBase) →
    All (λ row. length row ≡ length x.formula.universals) x.rows → Extends x n m → new ≡ old → IsLast x n old →
    IsLast x m new
last_later x n m old new whole extends is before = search arith

-- what a tree's number gives
pub name_given : (x : Frame) (old new : PairNames) (c k base : ℕ) (nodes : List Node) → IsFrame x → AreNames x old →
    c < length x.sets → k < length x.rows
    → IsTree x.formula x.rows (sees_at x c) nodes
    → AreNumbered x.formula x.rows (sees_at x c) (tree_at (names_in old) c) nodes (row_of x.rows k) base
    → base ≡ number_or (base_of x (names_in old) c (row_of x.rows k)) old.next
    → new.trees.items ≡ set old.trees.items c nodes
    → new.next ≡ cond (base == old.next) (old.next + (set_at x.sets c).size) old.next
    → new.known ≡ old.known → new.last ≡ old.last → old.next ≤ 2 ^ 60
    → AreNames x new × Extends x (names_in old) (names_in new) ×
    (base_of x (names_in new) c (row_of x.rows k) ≡ Some base)
name_given x old new c k base nodes frame names c_in k_in tree numbered value trees_is next_is known_is last_is small =
    let n = names_in old in
    let growth : IsGrowth x n c k base new.next nodes =
    record {
      naming = names.naming;
      within = c_in;
      whole = frame.whole k [] k_in;
      tree = tree;
      numbered = numbered;
      value = value;
      next_is = next_is;
    } in
    let now_is : names_in new ≡ grown x n c k base new.next nodes =
    ap (λ ts. record { trees = ts; next = new.next }) trees_is in
    let extends : Extends x n (names_in new) = subst (Extends x n) (sym now_is)
    (grown_extends x n c k base new.next nodes growth) in (
      record {
        naming = subst (IsNaming x) (sym now_is) (grown_naming x n c k base new.next nodes growth);
        kept = kept_later x n (names_in new) new.known.numbers new.known.bases.items frame.whole extends
            (subst (λ known. AreKept x n known.numbers known.bases.items) (sym known_is) names.kept);
        last = last_later x n (names_in new) old.last new.last frame.whole extends last_is names.last;
        small = few (base == old.next) next_is;
      },
      extends,
      subst (λ m. base_of x m c (row_of x.rows k) ≡ Some base) (sym now_is)
          (grown_base x n c k base new.next nodes growth),
    )
  where
    few : (b : Bool) → new.next ≡ cond b (old.next + (set_at x.sets c).size) old.next → new.next ≤ 2 ^ 61
    few true is = let size = frame.bound.bindings.few c c_in in omega (arith, is, size, small)
    few false is = omega (arith, is, small)

-- the same, by the set and the tree that are read
pub name_read : (x : Frame) (old new : PairNames) (c k base : ℕ) (nodes t : List Node) (s : DependencySet) → IsFrame x →
    AreNames x old → c < length x.sets → k < length x.rows
    → s ≡ get_or x.sets c s → t ≡ get_or old.trees.items c t
    → IsTree x.formula x.rows (sees_of x.formula s.leader) nodes
    → AreNumbered x.formula x.rows (sees_of x.formula s.leader) t nodes (row_of x.rows k) base
    → base ≡ number_or (found x.formula x.rows (sees_of x.formula s.leader) t (row_of x.rows k)) old.next
    → new.trees.items ≡ set old.trees.items c nodes
    → new.next ≡ cond (base == old.next) (old.next + s.size) old.next
    → new.known ≡ old.known → new.last ≡ old.last → old.next ≤ 2 ^ 60
    → AreNames x new × Extends x (names_in old) (names_in new) ×
    (base_of x (names_in new) c (row_of x.rows k) ≡ Some base)
name_read x old new c k base nodes t s frame names c_in k_in s_read t_read tree numbered value trees_is next_is
    known_is last_is small =
    let s_is : s ≡ set_at x.sets c = s_read ∙ get_or_default x.sets c s (record { leader = 0; size = 0 }) c_in in
    let t_is : t ≡ tree_at (names_in old) c =
    t_read ∙ get_or_default old.trees.items c t [] (let many = names.naming.many in omega (arith, many, c_in)) in
    name_given x old new c k base nodes frame names c_in k_in
    (subst (λ (z : DependencySet). IsTree x.formula x.rows (sees_of x.formula z.leader) nodes) s_is tree)
    (subst (λ u. AreNumbered x.formula x.rows (sees_at x c) u nodes (row_of x.rows k) base) t_is
    (subst (λ (z : DependencySet). AreNumbered x.formula x.rows (sees_of x.formula z.leader) t nodes
    (row_of x.rows k) base) s_is numbered))
    (value ∙ ap (λ (z : DependencySet). number_or (found x.formula x.rows (sees_of x.formula z.leader) t
    (row_of x.rows k)) old.next) s_is
    ∙ ap (λ u. number_or (found x.formula x.rows (sees_at x c) u (row_of x.rows k)) old.next) t_is)
    trees_is
    (next_is ∙ ap (λ (z : DependencySet). cond (base == old.next) (old.next + z.size) old.next) s_is)
    known_is last_is small

pub tree_read : (x : Frame) (n : PairNames) (c : ℕ) (t : List Node) (s : DependencySet) → AreNames x n →
    c < length x.sets → s ≡ get_or x.sets c s
    → t ≡ get_or n.trees.items c t → IsTree x.formula x.rows (sees_of x.formula s.leader) t
tree_read x n c t s names c_in s_read t_read =
    let s_is : s ≡ set_at x.sets c = s_read ∙ get_or_default x.sets c s (record { leader = 0; size = 0 }) c_in in
    let t_is : t ≡ tree_at (names_in n) c =
    t_read ∙ get_or_default n.trees.items c t [] (let many = names.naming.many in omega (arith, many, c_in)) in
    subst (λ (z : DependencySet). IsTree x.formula x.rows (sees_of x.formula z.leader) t) (sym s_is)
    (subst (IsTree x.formula x.rows (sees_at x c)) (sym t_is) (names.naming.trees c c_in))

pub size_read : (x : Frame) (c : ℕ) (s : DependencySet) → IsFrame x → c < length x.sets → s ≡ get_or x.sets c s →
    s.size ≤ 1000001
size_read x c s frame c_in s_read = search (arith, get_or_default)

-- a name that is kept
pub name_kept : (x : Frame) (n : Names) (before after : KnownBases) (c k base : ℕ) → k < length x.rows →
    AreKept x n before.numbers before.bases.items
    → length after.bases.items ≡ length after.numbers * 16
    → IsKeptOrNew before.numbers before.bases.items after.numbers after.bases.items (block_number x c k) (k % 16) base
    → base_of x n c (row_of x.rows k) ≡ Some base → AreKept x n after.numbers after.bases.items
name_kept x n before after c k base k_in kept as_many new is = search (arith, kept_more)
