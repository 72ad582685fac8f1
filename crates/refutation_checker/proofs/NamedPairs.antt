-- Names of pairs.
use Rattle.std.proofs.Common.{◌≡◌, ◌≢◌, ℕ, ◌⊎◌, ◌+◌, ◌*◌, ◌<◌, ◌≤◌, ◌==◌, nat_lt, Bool, true, false, not, ◌&&◌, cond, inl, inr, List, [], map, set, length, Option, None, Some, IsSome, refl, sym, ◌∙◌, ap, subst, arith, get_or-set_other, get_or-set_same}
use Rattle.std.specs.List.{All, position_or_len, prefix_len}
use Rattle.std.specs.Option.{option_map}
use Rattle.std.proofs.lemmas.Bool.{cases_Bool, cases_eq, cases_lt, eqb-true, eq-eqb, lt-ltb, ltb-true, and_parts, and_from, both_ways}
use Rattle.std.proofs.lemmas.List.{length-set}
use Rattle.std.proofs.lemmas.List.Sums.{prefix_len_passes, prefix_len_stops}
use Rattle.list_laws.proofs.Numbers.{pair_variable, pair_row}
use Rattle.dq_lits.specs.Expansion.{agree_on, row_assignment}
use Rattle.dq_lits.specs.Formula.{Existential, Dqbf, existential_of}
use Rattle.dq_lits.specs.Henkin.{same_bits}
use Rattle.dq_lits.proofs.Choices.{same_bits-sound}
use Rattle.dq_formula.specs.Prefix.{IsLawful}
use Rattle.cert_text.proofs.PairNumbers.{existential_in_range}
use Rattle.rup_core.specs.Renaming.{KeepsApart}
use Rattle.refutation_checker.specs.Rows.{agree_over, row_of}
use Rattle.refutation_checker.specs.Pairs.{first_agreeing, first_row, pair_of}
use Rattle.refutation_checker.specs.RowTrees.{sees_in, sees_of, found, IsTree, AreNumbered, number_or}
use Rattle.refutation_checker.specs.Bindings.{set_at, binding_at, IsBinding, AreAllBound}
use Rattle.refutation_checker.specs.Namings.{Frame, Names, sees_at, tree_at, base_of, name_by, row_number, variable_number, is_pair, name_of, new_number, AreApart, IsWhole, IsNaming, Extends}
use Rattle.refutation_checker.specs.declared.row_trees.Node.{Node}
use Rattle.refutation_checker.specs.declared.bindings.Binding.{Binding}
use Rattle.refutation_checker.specs.declared.bindings.Binding.TheVariants.{Universal, Existential as Bound, Free}
use Rattle.refutation_checker.proofs.TreeNumbers.{agree_second, agree_itself, found_same}

-- One set's pairs with one row get a name, or have it.
pub record IsGrowth (x : Frame) (n : Names) (c k base next : ℕ) (nodes : List Node) : Type 0 where
  pub naming : IsNaming x n
  pub within : c < length x.sets
  pub whole : IsWhole x (row_of x.rows k)
  pub tree : IsTree x.formula x.rows (sees_at x c) nodes
  pub numbered : AreNumbered x.formula x.rows (sees_at x c) (tree_at n c) nodes (row_of x.rows k) base
  pub value : base ≡ number_or (base_of x n c (row_of x.rows k)) n.next
  pub next_is : next ≡ cond (base == n.next) (n.next + (set_at x.sets c).size) n.next

-- the name of set d's pairs with row r is a new one
record IsFresh (x : Frame) (n : Names) (c k next : ℕ) (d e : ℕ) (r : List Bool) : Type 0 where
  set_is : d ≡ c
  agree : agree_over x.formula (sees_at x c) (row_of x.rows k) r ≡ true
  base_is : e ≡ n.next
  next_is : next ≡ n.next + (set_at x.sets c).size

module _ (x : Frame) (n : Names) (c k base next : ℕ) (nodes : List Node) where
  abbrev pub grown : Names
  grown = record { trees = set n.trees c nodes; next = next }

  abbrev row : List Bool
  row = row_of x.rows k

  abbrev size : ℕ
  size = (set_at x.sets c).size

  abbrev Growth : Type 0
  Growth = IsGrowth x n c k base next nodes

  abbrev Fresh : ℕ → ℕ → List Bool → Type 0
  Fresh d e r = IsFresh x n c k next d e r

  tree_here : Growth → tree_at grown c ≡ nodes
  tree_here g = get_or-set_same n.trees c nodes [] (let m = g.naming.many in let w = g.within in omega (arith, m, w))

  tree_elsewhere : (d : ℕ) → d ≢ c → tree_at grown d ≡ tree_at n d
  tree_elsewhere d apart = get_or-set_other n.trees c d nodes [] apart

  base_here : Growth → (r : List Bool) → IsWhole x r → base_of x grown c r ≡ cond
      (agree_over x.formula (sees_at x c) row r) (Some base) (base_of x n c r)
  base_here g r whole = ap (λ t. found x.formula x.rows (sees_at x c) t r) (tree_here g) ∙ g.numbered r whole

  base_elsewhere : (d : ℕ) (r : List Bool) → d ≢ c → base_of x grown d r ≡ base_of x n d r
  base_elsewhere d r apart = ap (λ t. found x.formula x.rows (sees_at x d) t r) (tree_elsewhere d apart)

  -- rows that agree with this one had its name
  same_base : Growth → (r : List Bool) → IsWhole x r → agree_over x.formula (sees_at x c) row r ≡ true →
      base_of x n c row ≡ base_of x n c r
  same_base g r whole agree = found_same x.formula x.rows (sees_at x c) (tree_at n c) row r
      (g.naming.trees c g.within) g.whole whole agree

  by_value : (o : Option ℕ) (b : ℕ) → o ≡ Some b → number_or o n.next ≡ b
  by_value o b h = ap (λ x. number_or x n.next) h

  pub stays : Growth → (d b : ℕ) (r : List Bool) → IsWhole x r → base_of x n d r ≡ Some b → base_of x grown d r ≡ Some b
  stays g d b r whole is =
      elim (cases_eq d c) [
        | inl same ↦
            let here : base_of x n c r ≡ Some b = ap (λ e. base_of x n e r) (sym same) ∙ is in
            ap (λ e. base_of x grown e r) same ∙ base_here g r whole
            ∙ elim (cases_Bool (agree_over x.formula (sees_at x c) row r)) [
              | inl agree ↦
                  ap (λ t. cond t (Some base) (base_of x n c r)) agree
                  ∙ ap Some (g.value ∙ by_value (base_of x n c row) b (same_base g r whole agree ∙ here))
              | inr apart ↦ ap (λ t. cond t (Some base) (base_of x n c r)) apart ∙ here
            ]
        | inr apart ↦ base_elsewhere d r apart ∙ is
      ]

  some_is : (a b : ℕ) → Some a ≡ Some b → a ≡ b
  some_is a b h = cc

  next_fresh : Growth → base_of x n c row ≡ None → (base ≡ n.next) × (next ≡ n.next + size)
  next_fresh g none = search (arith, eq-eqb)

  pub next_more : Growth → n.next ≤ next
  next_more g = search (arith, cases_Bool)

  origin_here : Growth → (e : ℕ) (r : List Bool) → IsWhole x r → agree_over x.formula (sees_at x c) row r ≡ true →
      base_of x grown c r ≡ Some e
      → (o : Option ℕ) → base_of x n c row ≡ o → (base_of x n c r ≡ Some e) ⊎ Fresh c e r
  origin_here g e r whole agree is None none =
      let fresh = next_fresh g none in
      let e_is : base ≡ e = some_is base e (sym (ap (λ t. cond t (Some base) (base_of x n c r)) agree) ∙ sym
      (base_here g r whole) ∙ is) in
      inr (record { set_is = refl; agree = agree; base_is = sym e_is ∙ fresh.0; next_is = fresh.1 })
  origin_here g e r whole agree is (Some b) known = search (arith, some_is, base_here, same_base)

  origin : Growth → (d e : ℕ) (r : List Bool) → IsWhole x r → base_of x grown d r ≡ Some e →
      (base_of x n d r ≡ Some e) ⊎ Fresh d e r
  origin g d e r whole is =
      elim (cases_eq d c) [
        | inl same ↦
            subst (λ i. (base_of x n i r ≡ Some e) ⊎ Fresh i e r) (sym same)
            (elim (cases_Bool (agree_over x.formula (sees_at x c) row r)) [
              | inl agree ↦ origin_here g e r whole agree (ap (λ i. base_of x grown i r) (sym same) ∙ is)
                  (base_of x n c row) refl
              | inr apart ↦
                  inl (sym (ap (λ t. cond t (Some base) (base_of x n c r)) apart) ∙ sym (base_here g r whole) ∙ ap
                  (λ i. base_of x grown i r) (sym same) ∙ is)
            ])
        | inr apart ↦ inl (sym (base_elsewhere d r apart) ∙ is)
      ]

  below_by : Growth → (d e : ℕ) (r : List Bool) → IsWhole x r → (base_of x n d r ≡ Some e) ⊎ Fresh d e r →
      (1 ≤ e) × (e + (set_at x.sets d).size ≤ next)
  below_by g d e r whole (inl old) = search (arith, next_more)
  below_by g d e r whole (inr fresh) = search arith

  apart_by : Growth → (d d' e e' : ℕ) (r s : List Bool) → IsWhole x r → IsWhole x s →
      (base_of x n d r ≡ Some e) ⊎ Fresh d e r
      → (base_of x n d' s ≡ Some e') ⊎ Fresh d' e' s → AreApart x d r e d' s e'
  apart_by g d d' e e' r s r_whole s_whole (inl first) (inl second) = search arith
  apart_by g d d' e e' r s r_whole s_whole (inl first) (inr second) = search arith
  apart_by g d d' e e' r s r_whole s_whole (inr first) (inl second) = search arith
  apart_by g d d' e e' r s r_whole s_whole (inr first) (inr second) = search (arith, agree_second)

  pub grown_naming : Growth → IsNaming x grown
  grown_naming g = record {
    many = length-set n.trees c nodes ∙ g.naming.many;
    from_one = (let one = g.naming.from_one in let le = next_more g in omega (arith, one, le));
    trees = λ d lt. elim (cases_eq d c) [
      | inl same ↦
          subst (λ i. IsTree x.formula x.rows (sees_at x i) (tree_at grown i)) (sym same)
          (subst (IsTree x.formula x.rows (sees_at x c)) (sym (tree_here g)) g.tree)
      | inr apart ↦ subst (IsTree x.formula x.rows (sees_at x d)) (sym (tree_elsewhere d apart)) (g.naming.trees d lt)
    ];
    below = λ d e r whole is. below_by g d e r whole (origin g d e r whole is);
    apart = λ d d' e e' r s r_whole s_whole first second. apart_by g d d' e e' r s r_whole s_whole
        (origin g d e r r_whole first) (origin g d' e' s s_whole second);
  }

  pub grown_extends : Growth → Extends x n grown
  grown_extends g = stays g

  pub grown_base : Growth → base_of x grown c row ≡ Some base
  grown_base g = search (arith, base_here, agree_itself)

-- the first row that agrees with one of the rows
first_agrees : (f : Dqbf) (rows : List (List Bool)) (e : Existential) (k : ℕ) → k < length rows
    → (position_or_len (agree_on f e (row_of rows k)) rows < length rows)
    × (agree_over f e.sees (row_of rows k) (row_of rows (position_or_len (agree_on f e (row_of rows k)) rows)) ≡ true)
first_agrees f rows e k within =
    elim (cases_lt (prefix_len other rows) (length rows)) [
      | inl below ↦ (
        below,
        turned (agree_on f e (row_of rows k) (row_of rows (prefix_len other rows)))
            (prefix_len_stops other rows [] below),
      )
      | inr past ↦
          let passes : other (row_of rows k) ≡ true = prefix_len_passes other rows k [] (omega (arith, past, within)) in
          absurd (both_ways (other (row_of rows k)) (ap not (agree_itself f e.sees (row_of rows k))) passes)
    ]
  where
    other : List Bool → Bool
    other r = not (agree_on f e (row_of rows k) r)

    turned : (b : Bool) → not b ≡ false → b ≡ true
    turned true h = refl
    turned false h = cc

-- the pair's first row
pub first_of_pair : (f : Dqbf) (rows : List (List Bool)) (y k : ℕ) → IsSome (existential_of f y) → k < length rows
    → (first_row f rows y (row_of rows k) < length rows) × (agree_over f (sees_of f y) (row_of rows k)
    (row_of rows (first_row f rows y (row_of rows k))) ≡ true)
first_of_pair f rows y k some within = by (existential_of f y) some
  where
    by : (o : Option Existential) → IsSome o
        → (first_agreeing f rows o (row_of rows k) < length rows)
        × (agree_over f (sees_in o) (row_of rows k) (row_of rows (first_agreeing f rows o (row_of rows k))) ≡ true)
    by None h = cc
    by (Some e) h = first_agrees f rows e k within

-- rows that agree have one pair
pub one_pair_of : (f : Dqbf) (rows : List (List Bool)) (y : ℕ) (r s : List Bool) →
    agree_over f (sees_of f y) r s ≡ true → pair_of f rows r y ≡ pair_of f rows s y
one_pair_of f rows y r s agree = ap (λ first. first * f.variables + y) (by (existential_of f y) agree)
  where
    by : (o : Option Existential) → agree_over f (sees_in o) r s ≡ true →
        first_agreeing f rows o r ≡ first_agreeing f rows o s
    by None h = refl
    by (Some e) h =
        ap (λ bits. position_or_len (λ other. same_bits bits (map (row_assignment f other) e.sees)) rows)
        (same_bits-sound (map (row_assignment f r) e.sees) (map (row_assignment f s) e.sees) h)

-- A pair's name.
pub named_pair : (x : Frame) (n : Names) (k y c p b : ℕ) → IsNaming x n → IsLawful x.formula →
    AreAllBound x.formula x.sets x.bindings
    → All (λ row. length row ≡ length x.formula.universals) x.rows
    → k < length x.rows → binding_at x.bindings y ≡ Bound c p → base_of x n c (row_of x.rows k) ≡ Some b
    → name_of x n (pair_of x.formula x.rows (row_of x.rows k) y) ≡ Some (b + p)
named_pair x n k y c p b naming lawful bound whole within is base =
    let f = x.formula in
    let binding = subst (IsBinding f x.sets y) is (bound.bindings.each y) in
    let range = existential_in_range f y lawful binding.0 in
    let row = row_of x.rows k in
    let first = first_row f x.rows y row in
    let v = first * f.variables + y in
    let agrees = first_of_pair f x.rows y k binding.0 within in
    let row_at : row_number x v ≡ first = pair_row first f.variables y range.0 range.1 in
    let variable_at : variable_number x v ≡ y = pair_variable first f.variables y range.0 range.1 in
    let own : v ≡ pair_of f x.rows (row_of x.rows first) y =
    one_pair_of f x.rows y row (row_of x.rows first) agrees.1 in
    let pair : is_pair x v ≡ true =
    ap (λ i. nat_lt i (length x.rows) && (v == pair_of f x.rows (row_of x.rows i) (variable_number x v))) row_at
    ∙ ap (λ w. nat_lt first (length x.rows) && (v == pair_of f x.rows (row_of x.rows first) w)) variable_at
    ∙ and_from (nat_lt first (length x.rows)) (v == pair_of f x.rows (row_of x.rows first) y)
    (lt-ltb first (length x.rows) agrees.0) (eq-eqb v (pair_of f x.rows (row_of x.rows first) y) own) in
    let agree_set : agree_over f (sees_at x c) row (row_of x.rows first) ≡ true =
    ap (λ sees. agree_over f sees row (row_of x.rows first)) binding.2 ∙ agrees.1 in
    ap (λ t. cond t (name_by x n (row_of x.rows (row_number x v)) (binding_at x.bindings (variable_number x v)))
    None) pair
    ∙ ap (λ i. name_by x n (row_of x.rows i) (binding_at x.bindings (variable_number x v))) row_at
    ∙ ap (λ w. name_by x n (row_of x.rows first) (binding_at x.bindings w)) variable_at
    ∙ ap (name_by x n (row_of x.rows first)) is
    ∙ ap (option_map (λ x. x + p)) (sym (found_same f x.rows (sees_at x c) (tree_at n c) row (row_of x.rows first)
    (naming.trees c binding.1) (whole k [] within) (whole first [] agrees.0) agree_set) ∙ base)

-- What a name says of its pair.
pub record HasName (x : Frame) (n : Names) (v a : ℕ) : Type 0 where
  pub row_in : row_number x v < length x.rows
  pub own : v ≡ pair_of x.formula x.rows (row_of x.rows (row_number x v)) (variable_number x v)
  pub set : ℕ
  pub place : ℕ
  pub base : ℕ
  pub bound : binding_at x.bindings (variable_number x v) ≡ Bound set place
  pub based : base_of x n set (row_of x.rows (row_number x v)) ≡ Some base
  pub sum : a ≡ base + place

pub has_name : (x : Frame) (n : Names) (v a : ℕ) → name_of x n v ≡ Some a → HasName x n v a
has_name x n v a is =
    elim (cases_Bool (is_pair x v)) [
      | inl pair ↦
          let parts = and_parts (nat_lt (row_number x v) (length x.rows))
          (v == pair_of x.formula x.rows (row_of x.rows (row_number x v)) (variable_number x v)) pair in
          by (binding_at x.bindings (variable_number x v)) refl
          (sym (ap (λ t. cond t (name_by x n (row_of x.rows (row_number x v))
          (binding_at x.bindings (variable_number x v))) None) pair) ∙ is)
          (ltb-true (row_number x v) (length x.rows) parts.0)
          (eqb-true v (pair_of x.formula x.rows (row_of x.rows (row_number x v)) (variable_number x v)) parts.1)
      | inr other ↦ absurd (none a (sym (ap (λ t. cond t (name_by x n (row_of x.rows (row_number x v))
          (binding_at x.bindings (variable_number x v))) None) other) ∙ is))
    ]
  where
    none : (x : ℕ) → None ≡ Some x → ⊥
    none x h = cc

    sum_is : (o : Option ℕ) (p : ℕ) → option_map (λ x. x + p) o ≡ Some a → (b : ℕ) × (o ≡ Some b) × (a ≡ b + p)
    sum_is None p h = cc
    sum_is (Some b) p h = (b, refl, cc)

    by : (b : Binding) → binding_at x.bindings (variable_number x v) ≡ b →
        name_by x n (row_of x.rows (row_number x v)) b ≡ Some a
        → row_number x v < length x.rows → v ≡ pair_of x.formula x.rows (row_of x.rows (row_number x v))
        (variable_number x v) → HasName x n v a
    by (Universal u) bound h row_in own = absurd (none a h)
    by (Bound c p) bound h row_in own =
        let parts = sum_is (base_of x n c (row_of x.rows (row_number x v))) p h in
        record {
          row_in = row_in;
          own = own;
          set = c;
          place = p;
          base = parts.0;
          bound = bound;
          based = parts.1;
          sum =
              parts.2;
        }
    by Free bound h row_in own = absurd (none a h)

module _ (x : Frame) (n : Names) (naming : IsNaming x n) (bound : AreAllBound x.formula x.sets x.bindings)
    (whole : All (λ row. length row ≡ length x.formula.universals) x.rows) where
  -- a name lies below the next one
  pub name_below : (v a : ℕ) → name_of x n v ≡ Some a → (1 ≤ a) × (a < n.next)
  name_below v a is =
      let h = has_name x n v a is in
      let b = naming.below h.set h.base (row_of x.rows (row_number x v)) (whole (row_number x v) [] h.row_in) h.based in
      let binding = subst (IsBinding x.formula x.sets (variable_number x v)) h.bound
      (bound.bindings.each (variable_number x v)) in
      let low = b.0 in let high = b.1 in let inside = binding.3 in let sum = h.sum in
      (omega (arith, low, sum), omega (arith, high, inside, sum))

  one_by : (v w a : ℕ) (h : HasName x n v a) (k : HasName x n w a)
      → AreApart x h.set (row_of x.rows (row_number x v)) h.base k.set (row_of x.rows (row_number x w)) k.base → v ≡ w
  one_by v w a h k (inl same) = search (arith, one_pair_of)
  one_by v w a h k (inr (inl before)) = search arith
  one_by v w a h k (inr (inr behind)) = search arith

  -- a name belongs to one pair
  pub one_name : (v w a : ℕ) → name_of x n v ≡ Some a → name_of x n w ≡ Some a → v ≡ w
  one_name v w a v_is w_is =
      let h = has_name x n v a v_is in
      let k = has_name x n w a w_is in
      one_by v w a h k
      (naming.apart h.set k.set h.base k.base (row_of x.rows (row_number x v)) (row_of x.rows (row_number x w))
      (whole (row_number x v) [] h.row_in)
      (whole (row_number x w) [] k.row_in) h.based k.based)

  -- all numbers differ
  pub numbers_differ : KeepsApart (new_number x n) (λ v. true)
  numbers_differ v w _ _ same = by (name_of x n v) refl (name_of x n w) refl
    where
      by : (o : Option ℕ) → name_of x n v ≡ o → (p : Option ℕ) → name_of x n w ≡ p → v ≡ w
      by None v_is None w_is =
          let e : n.next + v ≡ n.next + w = sym (ap (λ x. number_or x (n.next + v)) v_is) ∙ same ∙ ap
          (λ x. number_or x (n.next + w)) w_is in
          omega (arith, e)
      by None v_is (Some b) w_is =
          let e : n.next + v ≡ b = sym (ap (λ x. number_or x (n.next + v)) v_is) ∙ same ∙ ap
          (λ x. number_or x (n.next + w)) w_is in
          let low = name_below w b w_is in let lt = low.1 in absurd (omega (arith, e, lt))
      by (Some a) v_is None w_is =
          let e : a ≡ n.next + w = sym (ap (λ x. number_or x (n.next + v)) v_is) ∙ same ∙ ap
          (λ x. number_or x (n.next + w)) w_is in
          let low = name_below v a v_is in let lt = low.1 in absurd (omega (arith, e, lt))
      by (Some a) v_is (Some b) w_is =
          let e : a ≡ b = sym (ap (λ x. number_or x (n.next + v)) v_is) ∙ same ∙ ap
          (λ x. number_or x (n.next + w)) w_is in
          one_name v w a v_is (w_is ∙ ap Some (sym e))

-- Names stay.
pub name_stays : (x : Frame) (n m : Names) (v a : ℕ) → Extends x n m →
    All (λ row. length row ≡ length x.formula.universals) x.rows → name_of x n v ≡ Some a
    → name_of x m v ≡ Some a
name_stays x n m v a extends whole is = search (arith, has_name, and_from, nat_lt, lt-ltb, eq-eqb)
