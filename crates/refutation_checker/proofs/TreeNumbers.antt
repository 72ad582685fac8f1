-- The numbers that trees of rows give.
use Rattle.std.proofs.Common.{◌≡◌, ◌≢◌, ℕ, zero, suc, ◌+◌, ◌<◌, ◌≤◌, ◌==◌, Bool, true, false, cond, inl, inr, List, [], map, drop, length, get_or, Option, None, Some, refl, sym, ◌∙◌, ap, subst, arith}
use Rattle.std.specs.List.{All, position_or_len}
use Rattle.std.proofs.lemmas.List.{get_or-map, get_or_past}
use Rattle.std.proofs.lemmas.Bool.{cases_Bool, cases_lt, cases_eq, eqb-true, eq-eqb, both_ways}
use Rattle.list_laws.proofs.Elements.{drop_at}
use Rattle.dq_lits.specs.Expansion.{row_assignment}
use Rattle.dq_lits.specs.Formula.{Dqbf}
use Rattle.dq_lits.specs.Henkin.{same_bits}
use Rattle.dq_lits.specs.Row.{bit_of}
use Rattle.dq_lits.proofs.Choices.{same_bits-sound, same_bits-refl, bits_same}
use Rattle.dq_formula.proofs.Restrictions.{assignment_of-place}
use Rattle.refutation_checker.specs.Rows.{agree_over, row_of}
use Rattle.refutation_checker.specs.RowTrees.{node_at, next_of, walk_by, walk, reached, number_by, found, IsSeenPlace, Differ, IsOrderedNode, IsOrdered, IsKeyNode, IsTree, IsNodeSplit, AreNumbered, IsLeafMatch}
use Rattle.refutation_checker.specs.declared.row_trees.Node.{Node}
use Rattle.refutation_checker.specs.declared.row_trees.Node.TheVariants.{Leaf, Test}
use Rattle.refutation_checker.specs.declared.row_trees.LeafMatch.TheVariants.{Differs}
use Rattle.refutation_checker.proofs.RowTrees.{steps_on, enough, walk_stops, walk_ends, walks_alike}

-- rows that agree on a set can't be told apart by it
agree_bits : (f : Dqbf) (sees : List ℕ) (r s : List Bool) → agree_over f sees r s ≡ true →
    map (row_assignment f r) sees ≡ map (row_assignment f s) sees
agree_bits f sees r s h = same_bits-sound (map (row_assignment f r) sees) (map (row_assignment f s) sees) h

pub agree_first : (f : Dqbf) (sees : List ℕ) (r s t : List Bool) → agree_over f sees r s ≡ true →
    agree_over f sees t r ≡ agree_over f sees t s
agree_first f sees r s t h = ap (same_bits (map (row_assignment f t) sees)) (agree_bits f sees r s h)

pub agree_second : (f : Dqbf) (sees : List ℕ) (r s t : List Bool) → agree_over f sees r s ≡ true →
    agree_over f sees r t ≡ agree_over f sees s t
agree_second f sees r s t h = ap (λ bits. same_bits bits (map (row_assignment f t) sees)) (agree_bits f sees r s h)

pub agree_itself : (f : Dqbf) (sees : List ℕ) (r : List Bool) → agree_over f sees r r ≡ true
agree_itself f sees r = same_bits-refl (map (row_assignment f r) sees)

reached_same : (f : Dqbf) (rows : List (List Bool)) (sees : List ℕ) (nodes : List Node) (r s : List Bool) →
    IsTree f rows sees nodes
    → length r ≡ length f.universals → length s ≡ length f.universals → agree_over f sees r s ≡ true →
    reached nodes r ≡ reached nodes s
reached_same f rows sees nodes r s tree r_whole s_whole agree = search (arith, walks_alike)

number_same : (f : Dqbf) (rows : List (List Bool)) (sees : List ℕ) (node : Node) (r s : List Bool) →
    agree_over f sees r s ≡ true
    → number_by f rows sees r node ≡ number_by f rows sees s node
number_same f rows sees (Leaf k n) r s agree = search (arith, agree_first)
number_same f rows sees (Test p w) r s agree = refl

-- rows that agree have one number
pub found_same : (f : Dqbf) (rows : List (List Bool)) (sees : List ℕ) (nodes : List Node) (r s : List Bool) →
    IsTree f rows sees nodes
    → length r ≡ length f.universals → length s ≡ length f.universals → agree_over f sees r s ≡ true →
    found f rows sees nodes r ≡ found f rows sees nodes s
found_same f rows sees nodes r s tree r_whole s_whole agree =
    ap (λ k. number_by f rows sees r (node_at nodes k)) (reached_same f rows sees nodes r s tree r_whole s_whole agree)
    ∙ number_same f rows sees (node_at nodes (reached nodes s)) r s agree

-- the number that a row has already
pub numbered_already : (f : Dqbf) (rows : List (List Bool)) (sees : List ℕ) (nodes : List Node) (row : List Bool)
    (number : ℕ) → IsTree f rows sees nodes
    → length row ≡ length f.universals → found f rows sees nodes row ≡ Some number →
    AreNumbered f rows sees nodes nodes row number
numbered_already f rows sees nodes row number tree whole is r r_whole = search (arith, cases_Bool, found_same)

-- a leaf that becomes a test
module _ (f : Dqbf) (rows : List (List Bool)) (sees : List ℕ) (old new : List Node)
    (at place k number other was : ℕ) where
  abbrev fresh : Node
  fresh = Leaf k number

  abbrev kept : Node
  kept = Leaf other was

  abbrev mine : Bool
  mine = bit_of (row_of rows k) place

  abbrev IsParted : Type 0
  IsParted = IsNodeSplit old new at place (cond mine kept fresh) (cond mine fresh kept)

  abbrev goal_of : List Bool → ℕ
  goal_of r = cond (bit_of r place) (length old + 1) (length old)

  abbrev moved : List Bool → ℕ → ℕ
  moved r j = cond (j == at) (goal_of r) j

  leaves : (r : List Bool) (b : Bool) → (next_of r (cond b kept fresh) ≡ None) × (next_of r (cond b fresh kept) ≡ None)
  leaves r true = (refl, refl)
  leaves r false = (refl, refl)

  goal_leaf : IsParted → (r : List Bool) (b : Bool) → next_of r
      (node_at new (cond b (length old + 1) (length old))) ≡ None
  goal_leaf split r true = ap (next_of r) split.second ∙ (leaves r mine).1
  goal_leaf split r false = ap (next_of r) split.first ∙ (leaves r mine).0

  walk_at : IsParted → node_at old at ≡ kept → (r : List Bool) (n : ℕ)
      → walk (node_at new) r (suc (suc n)) at ≡ moved r (walk (node_at old) r (suc n) at)
  walk_at split leaf r n = search (arith, walk_stops, goal_leaf, eq-eqb)

  -- a row that came to the leaf goes on to one of the two behind it, and others come where they came before
  walk_parted : IsParted → IsOrdered old → node_at old at ≡ kept → (r : List Bool) (n j : ℕ) → j < length old →
      length old ≤ j + n
      → walk (node_at new) r (suc n) j ≡ moved r (walk (node_at old) r n j)
  walk_parted split ordered leaf r zero j lt far = absurd (omega arith)
  walk_parted split ordered leaf r (suc n) j lt far =
      elim (cases_Bool (j == at)) [
        | inl here ↦ subst (λ i. walk (node_at new) r (suc (suc n)) i ≡ moved r (walk (node_at old) r (suc n) i))
            (sym (eqb-true j at here)) (walk_at split leaf r n)
        | inr apart ↦
            ap (λ node. walk_by (next_of r node) j (walk (node_at new) r (suc n)))
            (split.others j lt (λ e. both_ways (j == at) apart (eq-eqb j at e)))
            ∙ by (λ i before within. walk_parted split ordered leaf r n i within (omega (arith, far, before))) apart
            (next_of r (node_at old j)) refl
      ]
    where
      by : ((i : ℕ) → j < i → i < length old → walk (node_at new) r (suc n) i ≡ moved r (walk (node_at old) r n i))
          → (j == at) ≡ false → (o : Option ℕ) → next_of r (node_at old j) ≡ o
          → walk_by o j (walk (node_at new) r (suc n)) ≡ moved r (walk_by o j (walk (node_at old) r n))
      by later apart None h = sym (ap (λ b. cond b (goal_of r) j) apart)
      by later apart (Some i) h = let s = steps_on old r j i ordered lt h in later i s.0 s.1

  -- what holds of the nodes before and of the new ones
  all_nodes : IsParted → (P : ℕ → Node → Type 0) → P at (Test place (length old)) →
      ((j : ℕ) → j < length old → P j (node_at old j))
      → ((j : ℕ) → P j (cond mine kept fresh)) → ((j : ℕ) → P j (cond mine fresh kept)) → (j : ℕ) → j < length new →
      P j (node_at new j)
  all_nodes split P test before without with_it j lt = search (arith, cases_lt, cases_eq)

  leaf_ordered : (b : Bool) (c j : ℕ) → IsOrderedNode c j (cond b kept fresh) × IsOrderedNode c j (cond b fresh kept)
  leaf_ordered true c j = (tt, tt)
  leaf_ordered false c j = (tt, tt)

  leaf_keyed : (b : Bool) → k < length rows → other < length rows →
      IsKeyNode f rows sees (cond b kept fresh) × IsKeyNode f rows sees (cond b fresh kept)
  leaf_keyed true first second = (second, first)
  leaf_keyed false first second = (first, second)

  pub parted_tree : IsParted → IsTree f rows sees old → at < length old → IsSeenPlace f sees place → k < length rows →
      other < length rows → IsTree f rows sees new
  parted_tree split tree below seen k_in other_in = search (arith, all_nodes, leaf_ordered, leaf_keyed)

  reached_parted : IsParted → IsTree f rows sees new → IsOrdered old → node_at old at ≡ kept → at < length old →
      (r : List Bool) → reached new r ≡ moved r (reached old r)
  reached_parted split tree ordered leaf below r =
      enough new r tree.ordered (length new) (suc (suc (length old))) 0 (omega (arith, split.count)) (omega arith)
      (omega (arith, split.count))
      ∙ walk_parted split ordered leaf r (suc (length old)) 0 (omega (arith, below)) (omega arith)
      ∙ ap (moved r) (enough old r ordered (suc (length old)) (length old) 0 (omega (arith, below)) (omega arith)
      (omega arith))

  -- one of the two leaves, by the row's bit
  goal_node : IsParted → (r : List Bool) (b : Bool) → node_at new (cond b (length old + 1) (length old)) ≡ cond b
      (cond mine fresh kept) (cond mine kept fresh)
  goal_node split r true = split.second
  goal_node split r false = split.first

  same_side : (b : Bool) → cond b (cond b fresh kept) (cond b kept fresh) ≡ fresh
  same_side true = refl
  same_side false = refl

  by_side : (r : List Bool) (b m : Bool) → agree_over f sees (row_of rows k) r ≡ false →
      (b ≡ m → number_by f rows sees r kept ≡ None)
      → number_by f rows sees r (cond b (cond m fresh kept) (cond m kept fresh)) ≡ number_by f rows sees r kept
  by_side r true true apart none = ap (λ b. cond b (Some number) None) apart ∙ sym (none refl)
  by_side r true false apart none = refl
  by_side r false true apart none = refl
  by_side r false false apart none = ap (λ b. cond b (Some number) None) apart ∙ sym (none refl)

  pub parted_numbers : IsParted → IsTree f rows sees old → IsTree f rows sees new → at < length old →
      node_at old at ≡ kept → reached old (row_of rows k) ≡ at
      → IsSeenPlace f sees place → bit_of (row_of rows other) place ≢ bit_of (row_of rows k) place
      → length (row_of rows k) ≡ length f.universals → length (row_of rows other) ≡ length f.universals
      → AreNumbered f rows sees old new (row_of rows k) number
  parted_numbers split tree after below leaf came seen apart k_whole other_whole r whole =
      elim (cases_Bool (reached old r == at)) [
        | inl here ↦
            let came_to : reached new r ≡ goal_of r = reached_parted split after tree.ordered leaf below r ∙ ap
            (λ b. cond b (goal_of r) (reached old r)) here in
            let now : found f rows sees new r ≡ number_by f rows sees r
            (cond (bit_of r place) (cond mine fresh kept) (cond mine kept fresh)) =
            ap (λ j. number_by f rows sees r (node_at new j)) came_to ∙ ap (number_by f rows sees r)
            (goal_node split r (bit_of r place)) in
            let before : found f rows sees old r ≡ number_by f rows sees r kept =
            ap (λ j. number_by f rows sees r (node_at old j)) (eqb-true (reached old r) at here) ∙ ap
            (number_by f rows sees r) leaf in
            elim (cases_Bool (agree_over f sees (row_of rows k) r)) [
              | inl agree ↦
                  let side : mine ≡ bit_of r place = seen (row_of rows k) r k_whole whole agree in
                  now ∙ ap (λ b. number_by f rows sees r (cond b (cond mine fresh kept) (cond mine kept fresh)))
                  (sym side)
                  ∙ ap (number_by f rows sees r) (same_side mine) ∙ ap (λ b. cond b (Some number) None) agree
                  ∙ sym (ap (λ b. cond b (Some number) (found f rows sees old r)) agree)
              | inr differ ↦
                  now ∙ by_side r (bit_of r place) mine differ (λ side.
                  elim (cases_Bool (agree_over f sees (row_of rows other) r)) [
                    | inl agree ↦ absurd (apart (seen (row_of rows other) r other_whole whole agree ∙ side))
                    | inr none ↦ ap (λ b. cond b (Some was) None) none
                  ])
                  ∙ sym before ∙ sym (ap (λ b. cond b (Some number) (found f rows sees old r)) differ)
            ]
        | inr elsewhere ↦
            let stays : reached new r ≡ reached old r = reached_parted split after tree.ordered leaf below r ∙ ap
            (λ b. cond b (goal_of r) (reached old r)) elsewhere in
            let ends = walk_ends old r tree.ordered (length old) 0 (omega (arith, below)) (omega arith) in
            let same : found f rows sees new r ≡ found f rows sees old r =
            ap (λ j. number_by f rows sees r (node_at new j)) stays
            ∙ ap (number_by f rows sees r) (split.others (reached old r) ends.1
            (λ e. both_ways (reached old r == at) elsewhere (eq-eqb (reached old r) at e))) in
            elim (cases_Bool (agree_over f sees (row_of rows k) r)) [
              | inl agree ↦ absurd (both_ways (reached old r == at) elsewhere
                  (eq-eqb (reached old r) at (sym (reached_same f rows sees old
                  (row_of rows k) r tree k_whole whole agree) ∙ came)))
              | inr differ ↦ same ∙ sym (ap (λ b. cond b (Some number) (found f rows sees old r)) differ)
            ]
      ]

pub leaf_differs : (f : Dqbf) (rows : List (List Bool)) (sees : List ℕ) (nodes : List Node) (row : List Bool)
    (at k own : ℕ) → at ≡ reached nodes row
    → node_at nodes at ≡ Leaf k own → agree_over f sees (row_of rows k) row ≡ false → found f rows sees nodes row ≡ None
leaf_differs f rows sees nodes row at k own came leaf differ = search arith

pub differ_apart : (f : Dqbf) (sees : List ℕ) (r s : List Bool) (place : ℕ) → length r ≡ length f.universals →
    length s ≡ length f.universals
    → IsSeenPlace f sees place → bit_of r place ≢ bit_of s place → agree_over f sees r s ≡ false
differ_apart f sees r s place r_whole s_whole seen apart = search (arith, cases_Bool)

-- the bits of a set's universals
bit_at_place : (f : Dqbf) (row : List Bool) (v at : ℕ) → length row ≡ length f.universals →
    at ≡ position_or_len (λ u. u == v) f.universals
    → bit_of row at ≡ row_assignment f row v
bit_at_place f row v at whole is = ap (bit_of row) is ∙ assignment_of-place f.universals row v whole

seen_at : (f : Dqbf) (sees : List ℕ) (i at : ℕ) → i < length sees →
    at ≡ position_or_len (λ u. u == get_or sees i 0) f.universals → IsSeenPlace f sees at
seen_at f sees i at lt is r s r_whole s_whole agree =
    bit_at_place f r (get_or sees i 0) at r_whole is
    ∙ sym (get_or-map (row_assignment f r) sees i 0 false lt)
    ∙ ap (λ bits. get_or bits i false) (agree_bits f sees r s agree)
    ∙ get_or-map (row_assignment f s) sees i 0 false lt
    ∙ sym (bit_at_place f s (get_or sees i 0) at s_whole is)

pub differ_at : (f : Dqbf) (sees : List ℕ) (r s : List Bool) (i at v : ℕ) → length r ≡ length f.universals →
    length s ≡ length f.universals → i < length sees
    → v ≡ get_or sees i 0 → at ≡ position_or_len (λ u. u == v) f.universals → bit_of r at ≢ bit_of s at →
    Differ f sees r s at
differ_at f sees r s i at v r_whole s_whole lt v_is at_is apart = record {
  apart = apart;
  seen = seen_at f sees i at lt (at_is ∙ ap (λ w. position_or_len (λ u. u == w) f.universals) v_is);
  within = elim (cases_lt at (length f.universals)) [
    | inl below ↦ below
    | inr past ↦ absurd (apart (get_or_past r at false (omega (arith, past, r_whole)) ∙ sym
        (get_or_past s at false (omega (arith, past, s_whole)))))
  ];
}

-- one universal more on which the rows agree
pub agree_more : (f : Dqbf) (sees : List ℕ) (r s : List Bool) (i at v : ℕ) → length r ≡ length f.universals →
    length s ≡ length f.universals → i < length sees
    → v ≡ get_or sees i 0 → at ≡ position_or_len (λ u. u == v) f.universals → bit_of r at ≡ bit_of s at
    → agree_over f (drop (i + 1) sees) r s ≡ agree_over f (drop i sees) r s
agree_more f sees r s i at v r_whole s_whole lt v_is at_is same = search (arith, bit_at_place, drop_at, bits_same)

-- a row that differs from that of its leaf
pub parted_all : (f : Dqbf) (rows : List (List Bool)) (sees : List ℕ) (old new : List Node) (at place k number : ℕ)
    → All (λ row. length row ≡ length f.universals) rows → IsTree f rows sees old → at < length old →
    at ≡ reached old (row_of rows k) → k < length rows
    → IsLeafMatch f rows sees old at (row_of rows k) (Differs place)
    → IsNodeSplit old new at place (cond (bit_of (row_of rows k) place) (node_at old at) (Leaf k number))
    (cond (bit_of (row_of rows k) place) (Leaf k number) (node_at old at))
    → IsTree f rows sees new × AreNumbered f rows sees old new (row_of rows k) number ×
    (found f rows sees old (row_of rows k) ≡ None)
parted_all f rows sees old new at place k number whole tree below came k_in stands split =
    let other = stands.0 in
    let was = stands.1.0 in
    let leaf = stands.1.1.0 in
    let other_in = stands.1.1.1 in
    let differ = stands.1.1.2 in
    let mine = bit_of (row_of rows k) place in
    let parted : IsNodeSplit old new at place (cond mine (Leaf other was) (Leaf k number))
    (cond mine (Leaf k number) (Leaf other was)) =
    subst (λ node. IsNodeSplit old new at place (cond mine node (Leaf k number)) (cond mine (Leaf k number) node)) leaf
    split in
    let after = parted_tree f rows sees old new at place k number other was parted tree below differ.seen k_in
    other_in in (
      after,
      parted_numbers f rows sees old new at place k number other was parted tree after below leaf
          (sym came) differ.seen differ.apart (whole k [] k_in) (whole other [] other_in),
      leaf_differs f rows sees old (row_of rows k) at other was came leaf
          (differ_apart f sees (row_of rows other) (row_of rows k) place (whole other [] other_in)
          (whole k [] k_in) differ.seen differ.apart),
    )

pub place_small : (f : Dqbf) (rows : List (List Bool)) (sees : List ℕ) (nodes : List Node) (at place : ℕ)
    (row : List Bool) → length f.universals ≤ 1000001
    → IsLeafMatch f rows sees nodes at row (Differs place) → place < 4294967296
place_small f rows sees nodes at place row few stands = let lt = stands.1.1.2.within in omega (arith, lt, few)
