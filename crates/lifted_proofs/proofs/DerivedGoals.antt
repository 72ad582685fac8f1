-- A goal's line is derived by its units' lines and the instance of its clause under another row.
use Rattle.std.proofs.Common.{◌≡◌, ◌≢◌, ℕ, zero, suc, ◌==◌, Bool, true, false, not, ◌&&◌, ◌||◌, ◌⊎◌, inl, inr, List, [], ◌∷◌, ◌++◌, map, get_or, slice_get, Option, Some, None, IfSome, is_some, reverse, refl, sym, ◌∙◌, ap, subst, arith}
use Rattle.std.specs.List.{All, AllPairs, AllZip, Contains, list_any, filter_map, cons_option}
use Rattle.std.specs.Option.{option_map}
use Rattle.std.proofs.lemmas.Bool.{and_parts, true≢false, or_cases, or_left, or_right, cases_Bool, eqb-true, eq-eqb, ne_eqb}
use Rattle.std.proofs.lemmas.Option.{get_or_from_slice_get, same_Some}
use Rattle.std.proofs.lemmas.List.Elements.{All-contains, All-map}
use Rattle.list_laws.proofs.Members.{tested_inside, contains_later}
use Rattle.list_laws.proofs.Truths.{both_true}
use Rattle.dq_lits.specs.Literal.{Literal, variable_of, opposite, on_variable}
use Rattle.dq_lits.specs.Formula.{Existential, Dqbf, is_universal, existential_of, IsWellFormed}
use Rattle.dq_lits.specs.Derivation.{LiveClauses, holds, is_tautology, IsDerived}
use Rattle.dq_lits.specs.Expansion.{agree_on, pair_number, pair_literal}
use Rattle.dq_lits.proofs.HeldLiterals.{any_one, filter-holds, negated-held, filter-passes, holds_of_filter}
use Rattle.dq_lits.proofs.SignedLiterals.{same_literal-refl, opposite_variable, opposite-opposite, variable_of-on, one_variable}
use Rattle.dq_prep.specs.declared.traces.Taken.{Taken}
use Rattle.dq_prep.specs.Lifted.{AreFalsifying}
use Rattle.dq_prep.specs.Units.{AreUnits}
use Rattle.dq_prep.specs.Roles.{open_literals, is_open}
use Rattle.dq_formula.specs.Prefix.{existential_variables}
use Rattle.dq_formula.proofs.Entries.{is_some-find, list_any-map}
use Rattle.dq_prep.proofs.SeenUniversals.{filters-agree}
use Rattle.dq_prep.proofs.Reduction.{holds-at}
use Rattle.dq_prep.proofs.SignedLiterals.{pair-in, pair-any}
use Rattle.dq_prep.proofs.ToldValues.{unit-existential}
use Rattle.dq_prep.proofs.Units.{get-at, satisfied-by}
use Rattle.dq_prep.proofs.WellFormed.{IsBound}
use Rattle.dq_prep.proofs.Carried.{derives}
use Rattle.refutation_checker.specs.Pairs.{pair_of, existential_part}
use Rattle.refutation_checker.specs.Rows.{row_of}
use Rattle.refutation_checker.proofs.PairNumbers.{pair_number_is}
use Rattle.lifted_proofs.specs.UnitTables.{first_units, first_literals}
use Rattle.lifted_proofs.specs.Goals.{clause_at, left_by, IsAsked, MakesFalse, Settled}
use Rattle.lifted_proofs.specs.Lines.{goal_line, paired}
use Rattle.lifted_proofs.specs.declared.goals.Goal.{Goal}
use Rattle.lifted_proofs.specs.declared.goals.Reason.{Reason}
use Rattle.lifted_proofs.proofs.TakenUnits.{unit-at, one-unit, first-holds}
use Rattle.lifted_proofs.proofs.PairedLiterals.{opposite-paired, left-paired, one-pair, existential-or-universal, pair-variable, bound-range, existential-range, paired-holds, paired-plain, bound-in}

-- a literal on one of these variables
abbrev stands_on : List Literal → ℕ → Bool
stands_on trues v = list_any (λ t. variable_of t == v) trues

off-holds : (trues : List Literal) (p : Literal) → stands_on trues (variable_of p) ≡ false → holds trues p ≡ false
off-holds trues p off = search (arith, cases_Bool, true≢false, any_one, eq-eqb)

-- the units' clauses have these ids, and each stands on a variable that is free so far
abbrev Ready : (Literal → Literal) → LiveClauses → List Literal → List (ℕ × Literal) → Type 0
Ready on live trues [] = Unit {0}
Ready on live trues (x ∷ xs) =
    (live x.0 ≡ Some (on x.1 ∷ [])) × (stands_on trues (variable_of (on x.1)) ≡ false)
    × Ready on live (on x.1 ∷ trues) xs

abbrev Has : List (ℕ × Literal) → Literal → Type 0
Has [] l = ⊥
Has (x ∷ xs) l = (x.1 ≡ l) ⊎ Has xs l

-- each literal of the clause is false now, or one of the units makes it false
abbrev Covers : (Literal → Literal) → List Literal → List (ℕ × Literal) → List Literal → Type 0
Covers on trues units clause = (l : Literal) → holds clause l ≡ true
    → (holds trues (opposite (on l)) ≡ true) ⊎ Has units (opposite l)

falsify : (on : Literal → Literal) (live : LiveClauses) (last : ℕ) (clause : List Literal)
    → ((l : Literal) → on (opposite l) ≡ opposite (on l)) → live last ≡ Some (map on clause)
    → (trues : List Literal) (units : List (ℕ × Literal)) → Ready on live trues units
    → Covers on trues units clause
    → AreFalsifying live trues (map (λ x. (x.0, on x.1)) units) last
falsify on live last clause turns at trues [] ready covers = (
  map on clause,
  at,
  All-map (λ l. holds trues (opposite l) ≡ true) on clause (λ k d below.
      elim (covers (get_or clause k d) (holds-at clause k d below)) [ inl here ↦ here | inr none ↦ absurd none ]),
)
falsify on live last clause turns at trues (x ∷ xs) ready covers =
    search (
      arith,
      off-holds,
      opposite_variable,
      (falsify on live last clause turns at (on x.1 ∷ trues) xs ready.2),
      or_right,
      or_left,
      same_literal-refl,
    )

-- what stands on the pairs of some literals, negated
negated-on : (f : Dqbf) (rows : List (List Bool)) (row : List Bool) (ls : List Literal) (n : ℕ)
    → stands_on (map opposite (map (paired f rows row) ls)) n ≡ true
    → (l : Literal) × (holds ls l ≡ true) × (pair_of f rows row (variable_of l) ≡ n)
negated-on f rows row [] n h = absurd (true≢false (sym h))
negated-on f rows row (l ∷ ls) n h =
    search (
      arith,
      or_cases,
      or_left,
      same_literal-refl,
      opposite_variable,
      variable_of-on,
      eqb-true,
      (negated-on f rows row ls n),
      or_right,
    )

-- the line of a unit's goal is the unit's literal on its pair
unit-line : (f : Dqbf) (units : List Taken) (rows : List (List Bool)) (goals : List Goal) (lowered j h : ℕ)
    (low : List Bool) (u : Taken) (goal : Goal) → IsWellFormed f → AreUnits f (reverse units)
    → IsAsked f units rows goals lowered j h → slice_get rows lowered ≡ Some low → slice_get units j ≡ Some u
    → slice_get goals h ≡ Some goal → goal_line f units rows goal ≡ paired f rows low u.literal ∷ []
unit-line f units rows goals lowered j h low u goal well are a low-at unit-is goal-is =
    let same-u : a.unit ≡ u = same_Some a.unit u (sym a.unit_at ∙ unit-is) in
    let same-goal : a.goal ≡ goal = same_Some a.goal goal (sym a.goal_at ∙ goal-is) in
    let same-low : a.low ≡ low = same_Some a.low low (sym a.low_at ∙ low-at) in
    let it = unit-at f units j a.unit are a.unit_at in
    let at = get-at f.matrix a.unit.place it.clause it.at in
    let v = variable_of a.unit.literal in
    let left : left_by f units a.goal.source ≡ a.unit.literal ∷ [] = search arith in
    let row-is : row_of rows a.goal.row ≡ a.row = get_or_from_slice_get rows a.goal.row a.row [] a.row_at in
    let there = unit-existential f (first_units units j) a.unit well it in
    ap (goal_line f units rows) (sym same-goal)
    ∙ ap (filter_map (pair_literal f rows (row_of rows a.goal.row))) left
    ∙ ap (λ r. filter_map (pair_literal f rows r) (a.unit.literal ∷ [])) row-is
    ∙ by (existential_of f v) refl (existential-some f v there)
    ∙ ap (λ n. on_variable n a.unit.literal ∷ []) (sym (one-pair f rows a.low a.row v a.agrees))
    ∙ ap (λ r. paired f rows r a.unit.literal ∷ []) same-low
    ∙ ap (λ w. paired f rows low w.literal ∷ []) same-u
  where
    existential-some : (f : Dqbf) (v : ℕ) → Contains (existential_variables f) v → is_some (existential_of f v) ≡ true
    existential-some f v there =
        is_some-find (λ y. y.variable == v) f.existentials
        ∙ sym (list_any-map (λ x. x == v) (λ y. y.variable) f.existentials)
        ∙ tested_inside (existential_variables f) v there

    by : (o : Option Existential) → existential_of f (variable_of a.unit.literal) ≡ o → is_some o ≡ true
        → filter_map (pair_literal f rows a.row) (a.unit.literal ∷ [])
        ≡ on_variable (pair_of f rows a.row (variable_of a.unit.literal)) a.unit.literal ∷ []
    by None found some = absurd (true≢false (sym some))
    by (Some y) found some =
        ap (λ o. cons_option (option_map (λ (z : Existential). on_variable (pair_number f rows a.row z)
        a.unit.literal) o) []) found
        ∙ ap (λ n. on_variable n a.unit.literal ∷ [])
        (pair_number_is f rows a.row (variable_of a.unit.literal) y found)

-- the goals at these places have ids with their lines
abbrev pub AreNamed : Dqbf → List Taken → List (List Bool) → LiveClauses → List Goal → (ℕ → ℕ) → List ℕ → Type 0
AreNamed f units rows live goals ids hints = (h : ℕ) (goal : Goal) → Contains hints h
    → slice_get goals h ≡ Some goal → live (ids h) ≡ Some (goal_line f units rows goal)

-- the pairs of these units are free so far
abbrev AreFree : Dqbf → List Taken → List (List Bool) → List Bool → List Literal → List ℕ → Type 0
AreFree f units rows low trues places = (j : ℕ) (u : Taken) → Contains places j → slice_get units j ≡ Some u
    → stands_on trues (pair_of f rows low (variable_of u.literal)) ≡ false

record Collected (f : Dqbf) (units : List Taken) (rows : List (List Bool)) (live : LiveClauses) (low : List Bool)
    (trues : List Literal) (places named : List ℕ) : Type 0 where
  pub hinted : List (ℕ × Literal)
  pub ids : map (λ x. x.0) hinted ≡ named
  pub ready : Ready (paired f rows low) live trues hinted
  pub has : (j : ℕ) (u : Taken) → Contains places j → slice_get units j ≡ Some u → Has hinted u.literal

collect : (f : Dqbf) (units : List Taken) (rows : List (List Bool)) (goals : List Goal) (live : LiveClauses)
    (ids : ℕ → ℕ) (lowered : ℕ) (low : List Bool) → IsWellFormed f → AreUnits f (reverse units)
    → slice_get rows lowered ≡ Some low → (trues : List Literal) (places hints : List ℕ)
    → AllZip (IsAsked f units rows goals lowered) places hints → AllPairs (λ i j. i ≢ j) places
    → AreFree f units rows low trues places → AreNamed f units rows live goals ids hints
    → Collected f units rows live low trues places (map ids hints)
collect f units rows goals live ids lowered low well are low-at trues [] [] asked distinct free named = search arith
collect f units rows goals live ids lowered low well are low-at trues [] (h ∷ hs) asked distinct free named =
    absurd asked
collect f units rows goals live ids lowered low well are low-at trues (j ∷ js) [] asked distinct free named =
    absurd asked
collect f units rows goals live ids lowered low well are low-at trues (j ∷ js) (h ∷ hs) asked distinct free named =
    let a = asked.0 in
    let u = a.unit in
    let p = paired f rows low u.literal in
    let first : Contains (j ∷ js) j = (0, omega arith, refl) in
    let off : stands_on trues (variable_of p) ≡ false =
    ap (stands_on trues) (variable_of-on (pair_of f rows low (variable_of u.literal)) u.literal)
    ∙ free j u first a.unit_at in
    let line : live (ids h) ≡ Some (p ∷ []) =
    named h a.goal (0, omega arith, refl) a.goal_at
    ∙ ap Some (unit-line f units rows goals lowered j h low u a.goal well are a low-at a.unit_at a.goal_at) in
    let rest = collect f units rows goals live ids lowered low well are low-at (p ∷ trues) js hs asked.1
    (λ i k d before within. distinct (suc i) (suc k) d (omega (arith, before)) (omega (arith, within)))
    (λ k w inside at. free-next j u js trues k w a.unit_at inside at distinct
    (free k w (contains_later j k js inside) at))
    (λ k goal inside at. named k goal (contains_later h k hs inside) at) in
    record {
      hinted = (ids h, u.literal) ∷ rest.hinted;
      ids = ap (λ xs. ids h ∷ xs) rest.ids;
      ready = (line, off, rest.ready);
      has = search (arith, cases-first);
    }
  where
    cases-first : (j k : ℕ) (js : List ℕ) → Contains (j ∷ js) k → (k ≡ j) ⊎ Contains js k
    cases-first j k js (zero, below, is) = inl (sym is)
    cases-first j k js (suc i, below, is) = inr (i, omega (arith, below), is)

    free-next : (j : ℕ) (u : Taken) (js : List ℕ) (trues : List Literal) (k : ℕ) (w : Taken)
        → slice_get units j ≡ Some u → Contains js k → slice_get units k ≡ Some w
        → AllPairs (λ a b. a ≢ b) (j ∷ js)
        → stands_on trues (pair_of f rows low (variable_of w.literal)) ≡ false
        → stands_on (paired f rows low u.literal ∷ trues) (pair_of f rows low (variable_of w.literal)) ≡ false
    free-next j u js trues k w at-j inside at-k distinct rest =
        let v = pair_of f rows low (variable_of u.literal) in
        let n = pair_of f rows low (variable_of w.literal) in
        let range-u = existential-range f (variable_of u.literal) well
        (unit-existential f (first_units units j) u well (unit-at f units j u are at-j)) in
        let range-w = existential-range f (variable_of w.literal) well
        (unit-existential f (first_units units k) w well (unit-at f units k w are at-k)) in
        let apart : v ≢ n = λ same.
        let one = one-unit f units j k u w are at-j at-k
        (pair-variable f rows low low (variable_of u.literal) (variable_of w.literal) range-u range-w same) in
        distinct 0 (suc inside.0) k (omega arith) (omega (arith, inside.1)) (one ∙ sym inside.2) in
        ap (λ b. b || stands_on trues n)
        (ap (λ q. q == n) (variable_of-on v u.literal) ∙ ne_eqb v n apart)
        ∙ rest

abbrev open_of : Dqbf → List Taken → Goal → List Literal
open_of f units g = open_literals f (first_literals units g.source.taken) (clause_at f g.source.place)

pub map-within : (p q : Literal → Literal) (xs : List Literal) → ((l : Literal) → holds xs l ≡ true → p l ≡ q l)
    → map p xs ≡ map q xs
map-within p q [] same = refl
map-within p q (x ∷ xs) same = search (arith, or_left, same_literal-refl, (map-within p q xs), or_right)

module _ (f : Dqbf) (units : List Taken) (rows : List (List Bool)) (goals : List Goal) (g : Goal) (r : Reason)
    (s : Settled f units rows goals g r) where
  abbrev clause : List Literal
  clause = clause_at f g.source.place

  abbrev trues : List Literal
  trues = first_literals units g.source.taken

  abbrev low : List Bool
  low = s.reason.lowered.low

  abbrev on : Literal → Literal
  on l = paired f rows s.reason.lowered.low l

  bound : All (IsBound f) (clause_at f g.source.place)
  bound = s.well.bound g.source.place [] s.goal.source.place

  is-bound : (l : Literal) → holds (clause_at f g.source.place) l ≡ true → IsBound f l
  is-bound l inside = bound-in f (clause_at f g.source.place) l bound inside

  open-inside : (l : Literal) → holds (open_of f units g) l ≡ true → holds (clause_at f g.source.place) l ≡ true
  open-inside l h = holds_of_filter l (is_open f (first_literals units g.source.taken)) (clause_at f g.source.place) h

  -- the goal's line on the lowered row
  pub line-low : goal_line f units rows g ≡ map (paired f rows s.reason.lowered.low) (open_of f units g)
  line-low =
      let row-is : row_of rows g.row ≡ s.reason.lowered.row =
      get_or_from_slice_get rows g.row s.reason.lowered.row [] s.reason.lowered.row_at in
      left-paired f rows (row_of rows g.row) trues clause s.well bound
      ∙ ap (λ q. map (paired f rows q) (open_of f units g)) row-is
      ∙ map-within (paired f rows s.reason.lowered.row) (paired f rows s.reason.lowered.low) (open_of f units g)
      (λ l h. ap (λ n. on_variable n l) (one-pair f rows s.reason.lowered.row s.reason.lowered.low (variable_of l)
      (agrees l h (existential_of f (variable_of l)) refl)))
    where
      agrees : (l : Literal) → holds (open_of f units g) l ≡ true → (o : Option Existential)
          → existential_of f (variable_of l) ≡ o
          → IfSome o (λ y. agree_on f y s.reason.lowered.row s.reason.lowered.low ≡ true)
      agrees l h None own = tt
      agrees l h (Some y) own =
          s.reason.lowered.serves.same l y
          (filter-holds (λ k. not (holds (first_literals units g.source.taken) (opposite k)))
          (clause_at f g.source.place) l (open-inside l h)
          (and_parts (not (is_universal f (variable_of l)))
          (not (holds (first_literals units g.source.taken) (opposite l)))
          (filter-passes (is_open f (first_literals units g.source.taken)) (clause_at f g.source.place) l h)).1) own

  pub line-plain : is_tautology (map (paired f rows s.reason.lowered.low) (open_of f units g)) ≡ false
  line-plain =
      paired-plain f rows s.reason.lowered.low (open_of f units g)
      (λ l h. bound-range f (variable_of l) s.well (is-bound l (open-inside l h)))
      (elim (cases_Bool (is_tautology (open_of f units g))) [
        | inr plain ↦ plain
        | inl both ↦
            let p = pair-in (open_of f units g) (open_of f units g) both in
            absurd (true≢false (sym (pair-any clause clause p.0 (open-inside p.0 p.1)
            (open-inside (opposite p.0) p.2)) ∙ s.goal.plain))
      ])

  free-at-first : AreFree f units rows s.reason.lowered.low
      (map opposite (map (paired f rows s.reason.lowered.low) (open_of f units g))) s.reason.places
  free-at-first j u inside at =
      elim (cases_Bool (stands_on (map opposite (map (paired f rows s.reason.lowered.low) (open_of f units g)))
      (pair_of f rows s.reason.lowered.low (variable_of u.literal)))) [
        | inr off ↦ off
        | inl there ↦
            let n = negated-on f rows s.reason.lowered.low (open_of f units g)
            (pair_of f rows s.reason.lowered.low (variable_of u.literal)) there in
            let makes = All-contains (MakesFalse units g.source.taken (clause_at f g.source.place)) s.reason.places j
            s.reason.false_units.each inside in
            let taken = first-holds units g.source.taken j u makes.before at in
            let range-u = existential-range f (variable_of u.literal) s.well
            (unit-existential f (first_units units j) u s.well (unit-at f units j u s.are at)) in
            let range-l = bound-range f (variable_of n.0) s.well (is-bound n.0 (open-inside n.0 n.1)) in
            let same = pair-variable f rows s.reason.lowered.low s.reason.lowered.low (variable_of n.0)
            (variable_of u.literal) range-l range-u n.2 in
            absurd (elim (one_variable n.0 u.literal same) [
              | inl is ↦
                  true≢false (sym (satisfied-by trues clause n.0 (open-inside n.0 n.1) (ap (holds trues) is ∙ taken))
                  ∙ s.goal.source.unsatisfied)
              | inr is ↦ search (arith, and_parts, filter-passes, true≢false, opposite-opposite)
            ])
      ]

  -- the goal's line is derived
  pub goal-derived : (live : LiveClauses) (ids : ℕ → ℕ) (last : ℕ)
      → live last ≡ Some (map (paired f rows s.reason.lowered.low) (existential_part f clause))
      → AreNamed f units rows live goals ids r.hints.items
      → IsDerived live (goal_line f units rows g) (map ids r.hints.items ++ last ∷ [])
  goal-derived live ids last at named =
      let lits = map (paired f rows s.reason.lowered.low) (open_of f units g) in
      let c = collect f units rows goals live ids r.lowered s.reason.lowered.low s.well s.are s.reason.lowered.low_at
      (map opposite lits) s.reason.places r.hints.items s.reason.asked s.reason.false_units.distinct free-at-first
      named in
      let hinted : List (ℕ × Literal) = map (λ x. (x.0, paired f rows s.reason.lowered.low x.1)) c.hinted in
      let falsifying = falsify (paired f rows s.reason.lowered.low) live last (existential_part f clause)
      (λ l. sym (opposite-paired f rows s.reason.lowered.low l)) at (map opposite lits) c.hinted c.ready
      (λ l inside. covered c l inside) in
      let it : IsDerived live lits (map (λ x. x.0) hinted ++ last ∷ []) =
      derives live lits hinted last line-plain falsifying in
      let hints : map (λ x. x.0) hinted ≡ map ids r.hints.items = ids-mapped c.hinted ∙ c.ids in
      subst (λ ls. IsDerived live ls (map ids r.hints.items ++ last ∷ [])) (sym line-low)
      (subst (λ hs. IsDerived live lits (hs ++ last ∷ [])) hints it)
    where
      ids-mapped : (xs : List (ℕ × Literal))
          → map (λ (x : ℕ × Literal). x.0) (map (λ x. (x.0, paired f rows s.reason.lowered.low x.1)) xs)
          ≡ map (λ (x : ℕ × Literal). x.0) xs
      ids-mapped [] = refl
      ids-mapped (x ∷ xs) = ap (λ ys. x.0 ∷ ys) (ids-mapped xs)

      covered : (c : Collected f units rows live s.reason.lowered.low
          (map opposite (map (paired f rows s.reason.lowered.low) (open_of f units g))) s.reason.places
          (map ids r.hints.items)) (l : Literal)
          → holds (existential_part f (clause_at f g.source.place)) l ≡ true
          → (holds (map opposite (map (paired f rows s.reason.lowered.low) (open_of f units g)))
          (opposite (paired f rows s.reason.lowered.low l)) ≡ true) ⊎ Has c.hinted (opposite l)
      covered c l inside =
          let part = holds_of_filter l (λ k. is_some (existential_of f (variable_of k))) (clause_at f g.source.place)
          inside in
          elim (cases_Bool (holds trues (opposite l))) [
            | inl false' ↦
                let has = s.reason.false_units.all l part false' in
                inr (subst (Has c.hinted) has.is (c.has has.place has.unit has.among has.unit_at))
            | inr free ↦
                let existential : not (is_universal f (variable_of l)) ≡ true =
                search (arith, existential-or-universal, is-bound, filter-passes) in
                let is-open' : is_open f trues l ≡ true =
                both_true (not (is_universal f (variable_of l))) (not (holds trues (opposite l))) existential
                (ap not free) in
                inl (negated-held (map (paired f rows s.reason.lowered.low) (open_of f units g))
                (paired f rows s.reason.lowered.low l)
                (paired-holds f rows s.reason.lowered.low (open_of f units g) l
                (filter-holds (is_open f trues) clause l part is-open')))
          ]

  -- where no literal is false, the instance says it
  pub goal-is-instance : r.hints.items ≡ []
      → goal_line f units rows g ≡ map (paired f rows s.reason.lowered.low) (existential_part f clause)
  goal-is-instance none = line-low ∙ ap (map (paired f rows s.reason.lowered.low)) (filters-agree
      (is_open f trues) (λ l. is_some (existential_of f (variable_of l))) clause (λ k d below.
      let l = get_or clause k d in
      let inside = holds-at clause k d below in
      elim (cases_Bool (holds trues (opposite l))) [
        | inl false' ↦
            let has = s.reason.false_units.all l inside false' in
            absurd (no-place s.reason.places r.hints.items s.reason.asked none has.place has.among)
        | inr free ↦ search (arith, and-true, existential-or-universal)
      ]))
    where
      and-true : (b : Bool) → (b && true) ≡ b
      and-true true = refl
      and-true false = refl

      no-place : (js hs : List ℕ) → AllZip (IsAsked f units rows goals r.lowered) js hs → hs ≡ [] → (j : ℕ)
          → Contains js j → ⊥
      no-place [] hs zip none j inside = absurd (omega (arith, inside.1))
      no-place (i ∷ js) [] zip none j inside = zip
      no-place (i ∷ js) (h ∷ hs) zip none j inside = cc
