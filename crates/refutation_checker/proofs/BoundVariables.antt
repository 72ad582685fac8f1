-- How variables are bound in a table.
use Rattle.std.proofs.Common.{◌≡◌, ◌≢◌, ℕ, zero, suc, ◌+◌, ◌⊎◌, ◌<◌, ◌≤◌, ◌==◌, true, false, cond, inl, inr, List, [], ◌∷◌, ◌++◌, map, set, length, get_or, replicate, position, Option, None, Some, IsSome, refl, sym, ◌∙◌, ap, subst, arith, get_or-set_other, get_or-set_same}
use Rattle.std.specs.List.{find}
use Rattle.std.proofs.lemmas.Bool.{cases_Bool, cases_eq, cases_lt, eqb-true}
use Rattle.std.proofs.lemmas.List.{length-set, length-append, length-map, get_or_append_left, get_or-append_right, get_or-append-add}
use Rattle.dq_lits.specs.Formula.{Dqbf, Existential, existential_of, is_universal}
use Rattle.dq_formula.specs.Prefix.{IsLawful, existential_variables}
use Rattle.dq_formula.specs.Sets.{IsLeader}
use Rattle.dq_formula.proofs.Places.{place}
use Rattle.dq_formula.proofs.Sorted.{place-below, get_or-place}
use Rattle.dq_formula.proofs.SetLeaders.{is_existential, one_set}
use Rattle.cert_text.proofs.PairNumbers.{existential_in_range}
use Rattle.std.specs.Option.{option_map}
use Rattle.refutation_checker.specs.RowTrees.{sees_in, sees_of}
use Rattle.refutation_checker.specs.Bindings.{set_at, binding_at, with_one_more, new_set, IsBinding, AreBindings, IsSetFor, IsWritten, AreAllBound, variable_at, is_existential as binds_existential}
use Rattle.refutation_checker.specs.declared.bindings.Binding.{Binding}
use Rattle.refutation_checker.specs.declared.bindings.Binding.TheVariants.{Universal, Existential as Bound, Free}
use Rattle.refutation_checker.specs.declared.bindings.DependencySet.{DependencySet}
use Rattle.dq_formula.proofs.Lawful.{few_places}

bound_is : (b : Binding) (c p d q : ℕ) → b ≡ Bound c p → b ≡ Bound d q → (c ≡ d) × (p ≡ q)
bound_is b c p d q h e = (cc, cc)

not_bound : (c p : ℕ) → Free ≡ Bound c p → ⊥
not_bound c p h = cc

universal_not_bound : (u c p : ℕ) → Universal u ≡ Bound c p → ⊥
universal_not_bound u c p h = cc

-- at first nothing is bound
pub none_bound : (f : Dqbf) (n : ℕ) (of : List Binding) → of ≡ replicate n Free → AreBindings f [] of 0
none_bound f n of is = record {
  each = λ v. subst (IsBinding f [] v) (sym (free v)) tt;
  apart = λ v w c p h e. absurd (not_bound c p (sym (free v) ∙ h));
  led = λ c lt. absurd (omega arith);
  few_sets = omega arith;
  few = λ c lt. absurd (omega arith);
}
  where
    all : (k v : ℕ) → get_or (replicate k Free) v Free ≡ Free
    all zero v = refl
    all (suc k) zero = refl
    all (suc k) (suc v) = all k v

    free : (v : ℕ) → binding_at of v ≡ Free
    free v = ap (λ xs. get_or xs v Free) is ∙ all n v

-- a universal more
pub universal_bound : (f : Dqbf) (old new : List Binding) (x place : ℕ) → AreBindings f [] old 0 →
    position (λ u. u == x) f.universals ≡ Some place
    → ((v : ℕ) → v ≢ x → binding_at new v ≡ binding_at old v)
    → (binding_at new x ≡ Universal place) ⊎ (binding_at new x ≡ binding_at old x) → AreBindings f [] new 0
universal_bound f old new x place before is others here = search (arith, cases_eq, universal_not_bound)

-- a leader's set
pub leader_set : (f : Dqbf) (sets : List DependencySet) (of : List Binding) (place leader c q : ℕ) →
    AreBindings f sets of place
    → binding_at of leader ≡ Bound c q → sees_of f leader ≡ sees_of f (variable_at f place) → IsSetFor f sets place c
leader_set f sets of place leader c q are is same = search arith

set_before : (sets : List DependencySet) (s : DependencySet) (c : ℕ) → c < length sets →
    set_at (sets ++ s ∷ []) c ≡ set_at sets c
set_before sets s c lt = get_or_append_left sets (s ∷ []) (record { leader = 0; size = 0 }) c lt

set_last : (sets : List DependencySet) (s : DependencySet) → set_at (sets ++ s ∷ []) (length sets) ≡ s
set_last sets s = search (arith, get_or-append_right)

-- a set more, that no existential has yet
pub set_more : (f : Dqbf) (sets : List DependencySet) (of : List Binding) (place : ℕ) → IsLawful f →
    place < length f.existentials → AreBindings f sets of place
    → AreBindings f (sets ++ new_set (variable_at f place) ∷ []) of (place + 1) × IsSetFor f
    (sets ++ new_set (variable_at f place) ∷ []) place (length sets)
set_more f sets of place lawful lt are =
    let y = variable_at f place in
    let s = new_set y in
    let more = sets ++ s ∷ [] in
    let long : length more ≡ length sets + 1 = length-append sets (s ∷ []) in
    let some : IsSome (existential_of f y) = is_existential f lawful.named (existential_variables f) refl place lt in
    let last : set_at more (length sets) ≡ s = set_last sets s in (
      record {
        each = λ v. kept more long v (binding_at of v) (are.each v);
        apart = are.apart;
        led = λ c below. elim (cases_lt c (length sets)) [
          | inl low ↦ subst (λ (t : DependencySet). IsSome (existential_of f t.leader)) (sym (set_before sets s c low))
              (are.led c low)
          | inr high ↦
              let e : c ≡ length sets = omega (arith, below, long, high) in
              subst (λ (t : DependencySet). IsSome (existential_of f t.leader)) (sym (ap (set_at more) e ∙ last)) some
        ];
        few_sets = (let h = are.few_sets in omega (arith, h, long));
        few = λ c below. elim (cases_lt c (length sets)) [
          | inl low ↦ subst (λ (t : DependencySet). t.size ≤ place + 1) (sym (set_before sets s c low))
              (let h = are.few c low in omega (arith, h))
          | inr high ↦
              let e : c ≡ length sets = omega (arith, below, long, high) in
              subst (λ (t : DependencySet). t.size ≤ place + 1) (sym (ap (set_at more) e ∙ last)) (omega arith)
        ];
      },
      record {
        within = omega (arith, long);
        sees = ap (λ (t : DependencySet). sees_of f t.leader) last;
        few = subst (λ (t : DependencySet). t.size ≤ place) (sym last) (omega arith);
      },
    )
  where
    kept : (more : List DependencySet) → length more ≡ length sets + 1 → (v : ℕ) (b : Binding) → IsBinding f sets v b →
        IsBinding f (sets ++ new_set (variable_at f place) ∷ []) v b
    kept more long v (Universal p) h = h
    kept more long v (Bound c p) h =
        let same = set_before sets (new_set (variable_at f place)) c h.1 in
        let longer = length-append sets (new_set (variable_at f place) ∷ []) in
        let below = h.1 in (
          h.0,
          omega (arith, below, longer),
          ap (λ (t : DependencySet). sees_of f t.leader) same ∙ h.2,
          subst (λ (t : DependencySet). p < t.size) (sym same) h.3,
        )
    kept more long v Free h = tt

-- an existential joins a set
module _ (f : Dqbf) (sets : List DependencySet) (of : List Binding) (place c : ℕ) where
  abbrev here : DependencySet
  here = set_at sets c

  abbrev joined : List DependencySet
  joined = set sets c (with_one_more here)

  abbrev now : List Binding
  now = set of (variable_at f place) (Bound c here.size)

  joined_leader : (d : ℕ) → c < length sets → (set_at joined d).leader ≡ (set_at sets d).leader
  joined_leader d lt = search (arith, cases_eq, get_or-set_same, get_or-set_other)

  joined_size : (d bound : ℕ) → c < length sets → bound ≤ (set_at sets d).size → bound ≤ (set_at joined d).size
  joined_size d bound lt le = search (arith, cases_eq, get_or-set_same, get_or-set_other)

  few_joined : (d : ℕ) → c < length sets → (set_at sets d).size ≤ place + 1 → here.size ≤ place →
      (set_at joined d).size ≤ place + 1
  few_joined d lt le few = search (arith, cases_eq, get_or-set_same, get_or-set_other)

  kept_binding : c < length sets → (v : ℕ) (b : Binding) → IsBinding f sets v b → IsBinding f joined v b
  kept_binding lt v (Universal p) h = h
  kept_binding lt v (Bound d p) h = search (arith, length-set, joined_leader, joined_size)
  kept_binding lt v Free h = tt

  binding_here : variable_at f place < length of → binding_at now (variable_at f place) ≡ Bound c here.size
  binding_here lt = get_or-set_same of (variable_at f place) (Bound c here.size) Free lt

  binding_other : (v : ℕ) → v ≢ variable_at f place → binding_at now v ≡ binding_at of v
  binding_other v apart = get_or-set_other of (variable_at f place) v (Bound c here.size) Free apart

  pub joined_written : variable_at f place < length of → IsWritten of now (variable_at f place)
  joined_written lt = search (arith, length-set, binding_here, binding_other)

  -- no variable had the place that the existential has now
  unused : AreBindings f sets of (place + 1) → (v : ℕ) → binding_at of v ≡ Bound c here.size → ⊥
  unused are v h = let b = subst (IsBinding f sets v) h (are.each v) in let below = b.3 in omega (arith, below)

  pub joined_bindings : AreBindings f sets of (place + 1) → IsSetFor f sets place c →
      IsSome (existential_of f (variable_at f place))
      → variable_at f place < length of → AreBindings f joined now (place + 1)
  joined_bindings are is some lt =
      search (
        arith,
        cases_eq,
        binding_here,
        length-set,
        joined_leader,
        get_or-set_same,
        binding_other,
        kept_binding,
        bound_is,
        few_joined,
      )

-- an existential stands at some place
pub place_of_existential : (es : List Existential) (v : ℕ) → IsSome (find (λ y. y.variable == v) es)
    → (p : ℕ) × (p < length es) × (get_or (map (λ (y : Existential). y.variable) es) p 0 ≡ v)
place_of_existential [] v some = cc
place_of_existential (e ∷ es) v some =
    elim (cases_Bool (e.variable == v)) [
      | inl here ↦ (0, omega arith, eqb-true e.variable v here)
      | inr other ↦
          let later = place_of_existential es v (subst (λ b. IsSome (cond b (Some e) (find (λ x. x.variable == v) es)))
          other some) in
          let low = later.1 in
          (suc later.0, omega (arith, low), later.2)
    ]

-- the first existentials are bound
pub record AreBoundSoFar (f : Dqbf) (sets : List DependencySet) (of : List Binding) (place : ℕ) : Type 0 where
  pub bindings : AreBindings f sets of place
  pub count : length of ≡ f.variables + 1
  pub bound : (p : ℕ) → p < place → binds_existential (binding_at of (variable_at f p)) ≡ true

pub bound_more : (f : Dqbf) (sets later : List DependencySet) (of now : List Binding) (place : ℕ) →
    AreBoundSoFar f sets of place → AreBindings f later now (place + 1)
    → IsWritten of now (variable_at f place) → AreBoundSoFar f later now (place + 1)
bound_more f sets later of now place before are written = search (arith, cases_eq)

pub all_bound : (f : Dqbf) (sets : List DependencySet) (of : List Binding) (place : ℕ) → IsLawful f →
    length f.existentials ≤ place → place ≤ length f.existentials
    → AreBoundSoFar f sets of place → AreAllBound f sets of
all_bound f sets of place lawful all within are = record {
  bindings = record {
    each = are.bindings.each;
    apart = are.bindings.apart;
    led = are.bindings.led;
    few_sets = (let few = few_places f lawful in let h = are.bindings.few_sets in omega (arith, few, h, within));
    few = λ c lt. let few = few_places f lawful in let h = are.bindings.few c lt in omega (arith, few, h, within);
  };
  complete = λ v some.
      let at = place_of_existential f.existentials v some in
      let low = at.1 in
      ap (λ w. binds_existential (binding_at of w)) (sym at.2) ∙ are.bound at.0 (omega (arith, low, all));
}

pub variable_small : (f : Dqbf) (place : ℕ) → IsLawful f → place < length f.existentials →
    variable_at f place < f.variables + 1
variable_small f place lawful lt =
    let range = existential_in_range f (variable_at f place) lawful
    (is_existential f lawful.named (existential_variables f) refl place lt) in
    let most = range.1 in omega (arith, most)

-- what a pushed set leaves
pub set_pushed : (f : Dqbf) (sets sets' pushed : List DependencySet) (of of' : List Binding) (place : ℕ) (ys : List ℕ) →
    IsLawful f → place < length f.existentials
    → AreBindings f sets of place → sets' ≡ sets → of' ≡ of → ys ≡ existential_variables f
    → pushed ≡ sets' ++ record { leader = get_or ys place 0; size = 0 } ∷ [] → AreBindings f pushed of' (place + 1)
set_pushed f sets sets' pushed of of' place ys lawful lt are sets_is of_is ys_is is =
    subst (λ ss. AreBindings f ss of' (place + 1)) (sym (is ∙ ap (λ ss. ss ++ new_set (get_or ys place 0) ∷ []) sets_is
    ∙ ap (λ vs. sets ++ new_set (get_or vs place 0) ∷ []) ys_is))
    (subst (λ bs. AreBindings f (sets ++ new_set (variable_at f place) ∷ []) bs (place + 1)) (sym of_is)
    (set_more f sets of place lawful lt are).0)

-- what a join leaves
pub bind_done : (f : Dqbf) (sets sets' : List DependencySet) (of of' before : List Binding) (ys : List ℕ) (place c : ℕ)
    → IsLawful f → place < length f.existentials
    → length before ≡ f.variables + 1 → of ≡ before → AreBindings f sets of (place + 1) → IsSetFor f sets place c →
    ys ≡ existential_variables f
    → of' ≡ set of (get_or ys place 0) (Bound c (set_at sets c).size) →
    sets' ≡ set sets c (with_one_more (set_at sets c))
    → AreBindings f sets' of' (place + 1) × IsWritten before of' (variable_at f place)
bind_done f sets sets' of of' before ys place c lawful lt count same are is ys_is of_is sets_is =
    let small = variable_small f place lawful lt in
    let within : variable_at f place < length of = (let long = ap length same in omega (arith, small, count, long)) in
    let now_is : of' ≡ now f sets of place c = of_is ∙ ap (λ vs. set of (get_or vs place 0)
    (Bound c (set_at sets c).size)) ys_is in (
      subst (λ ss. AreBindings f ss of' (place + 1)) (sym sets_is)
          (subst (λ bs. AreBindings f (joined f sets of place c) bs (place + 1)) (sym now_is)
          (joined_bindings f sets of place c are is (is_existential f lawful.named
          (existential_variables f) refl place lt) within)),
      subst (λ bs. IsWritten bs of' (variable_at f place)) same
          (subst (λ bs. IsWritten of bs (variable_at f place)) (sym now_is) (joined_written f sets of place c within)),
    )

set_in : Option (List ℕ) → List ℕ
set_in None = []
set_in (Some sees) = sees

sees_by_set : (o : Option Existential) → sees_in o ≡ set_in (option_map (λ (e : Existential). e.sees) o)
unfolding set_in
sees_by_set None = refl
sees_by_set (Some e) = refl

-- a leader's set is that of the one that it stands for
pub leader_sees : (f : Dqbf) (ys leaders : List ℕ) (place : ℕ) → IsLawful f → ys ≡ existential_variables f →
    place < length f.existentials
    → IsLeader f (get_or leaders place 0) place → sees_of f (get_or ys (get_or leaders place 0) 0) ≡ sees_of f
    (variable_at f place)
leader_sees f ys leaders place lawful ys_is lt leads = search (arith, sees_by_set, one_set)

-- an existential is no universal
pub not_universal : (f : Dqbf) (v : ℕ) → IsLawful f → IsSome (existential_of f v) → is_universal f v ≡ false
not_universal f v lawful some =
    elim (cases_Bool (is_universal f v)) [
      | inl h ↦
          let at = place_of_existential f.existentials v some in
          let us = f.universals in
          let es = existential_variables f in
          let below = place-below us v h in
          let low = at.1 in
          let mapped = length-map f.existentials (λ (y : Existential). y.variable) in
          let long = length-append us es in
          absurd (lawful.prefix.declared_once (place us v) (length us + at.0) 0 (omega (arith, below))
          (omega (arith, low, mapped, long))
          (get_or_append_left us es 0 (place us v) below ∙ get_or-place us v 0 h ∙ sym at.2 ∙ sym
          (get_or-append-add us es at.0 0)))
      | inr h ↦ h
    ]

-- what isn't bound as an existential is none
pub not_existential : (f : Dqbf) (sets : List DependencySet) (of : List Binding) (v : ℕ) → AreAllBound f sets of →
    binds_existential (binding_at of v) ≡ false
    → existential_of f v ≡ None
not_existential f sets of v bound other = search arith
