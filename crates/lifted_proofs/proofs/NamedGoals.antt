-- Goals get the ids of their clauses.
use Rattle.std.proofs.Common.{◌≡◌, ℕ, zero, suc, ◌+◌, ◌*◌, ◌<◌, ◌≤◌, ◌==◌, Bool, true, false, not, cond, inl, inr, List, [], ◌∷◌, ◌++◌, map, take, length, get_or, slice_get, Option, Some, None, is_some, refl, sym, ◌∙◌, ap, subst, arith}
use Rattle.std.specs.Prelude.{slice_set, slice_index_or}
use Rattle.std.specs.List.{All, AllZip, Contains}
use Rattle.std.specs.List.Sorted.{IsPermutation}
use Rattle.std.proofs.lemmas.List.Sorted.{All-permutation, Contains-permutation}
use Rattle.std.proofs.lemmas.Bool.{cases_eq, cases_lt, cond-true, cond-false, eq-eqb, ne_eqb}
use Rattle.std.proofs.lemmas.Option.{slice_get_within, same_Some, slice_get-get_or}
use Rattle.std.proofs.lemmas.List.{length-append, map-append, length-set, get_or-set_same, get_or-set_other, get_or-take, get_or_default, length-take, take_more, take_all}
use Rattle.std.proofs.lemmas.List.Elements.{All-push, All-map, All-cons, All-contains, Contains-get_or, Contains-push_cases}
use Rattle.dq_lits.specs.Literal.{Literal, variable_of, opposite}
use Rattle.dq_lits.specs.Formula.{Dqbf, existential_of, IsWellFormed}
use Rattle.dq_lits.specs.Derivation.{LiveClauses, IsDerived, ProofStep, holds}
use Rattle.dq_lits.specs.Expansion.{instance_at}
use Rattle.dq_prep.specs.declared.traces.Taken.{Taken}
use Rattle.dq_prep.specs.Roles.{is_open}
use Rattle.dq_prep.proofs.WellFormed.{IsBound}
use Rattle.cert_text.specs.Grammar.{AreSteps}
use Rattle.cert_text.specs.Pairs.{is_pair_number}
use Rattle.cert_text.specs.Scan.{first_id}
use Rattle.refutation_checker.specs.Refutation.{normal_literal, normal_step}
use Rattle.refutation_checker.specs.Pairs.{existential_part}
use Rattle.lifted_proofs.specs.UnitTables.{first_literals, IsFalseBy}
use Rattle.lifted_proofs.specs.Goals.{clause_at, IsAsked, MakesFalse, IsReasonAt, IsGoalAt}
use Rattle.lifted_proofs.specs.Lines.{goal_line, paired, written_literals, behind_steps, AreDerived, normal_steps, AreLines, HasLine}
use Rattle.lifted_proofs.specs.Turns.{IsTurn, TurnAll, AreTurns, turn_of}
use Rattle.lifted_proofs.specs.Written.{IsWhole, IsNamed, AreWritten, AreHintsNamed, IsLineOf}
use Rattle.lifted_proofs.specs.declared.goals.Goal.{Goal}
use Rattle.lifted_proofs.specs.declared.goals.Reason.{Reason}
use Rattle.lifted_proofs.specs.declared.goals.Plan.{Plan}
use Rattle.lifted_proofs.specs.declared.lines.Written.{Written}
use Rattle.lifted_proofs.specs.declared.turns.Turn.{Turn}
use Rattle.lifted_proofs.specs.declared.units.UnitTable.{UnitTable}
use Rattle.lifted_proofs.proofs.TakenUnits.{first-holds}
use Rattle.lifted_proofs.proofs.PairedLiterals.{existential-or-universal}
use Rattle.lifted_proofs.proofs.DerivedGoals.{goal-derived, goal-is-instance}
use Rattle.lifted_proofs.proofs.WrittenLines.{behind-more, derived-more, steps-more, behind-before, written-line, written-pairs, instance-low, instance-before}

-- ---- a goal with its reason

hints-within : (f : Dqbf) (units : List Taken) (rows : List (List Bool)) (goals : List Goal) (lowered : ℕ)
    (places hints : List ℕ) → AllZip (IsAsked f units rows goals lowered) places hints
    → All (λ h. h < length goals) hints
hints-within f units rows goals lowered [] [] all = λ k d below. absurd (omega (arith, below))
hints-within f units rows goals lowered [] (h ∷ hs) all = absurd all
hints-within f units rows goals lowered (j ∷ js) [] all = absurd all
hints-within f units rows goals lowered (j ∷ js) (h ∷ hs) all =
    search (arith, All-cons, slice_get_within, (hints-within f units rows goals lowered js hs all.1))

pub reason-at : (t : UnitTable) (p : Plan) (q : ℕ) (g : Goal) (r : Reason) → IsWhole t p → IsGoalAt t p q g
    → slice_get p.reasons.items q ≡ Some r → IsReasonAt t p q g r
reason-at t p q g r whole goal why =
    let plan = whole.plan in
    let it = plan.plan.reasons q g r goal.at why in
    record {
      at = why;
      settled = record { well = plan.right.well; are = plan.right.units; goal = goal.goal; reason = it };
      low = slice_get_within p.rows r.lowered it.lowered.low it.lowered.low_at;
      hints = hints-within t.formula.now t.units.now p.rows p.goals.items r.lowered it.places r.hints.items it.asked;
    }

-- ---- the line of a goal

module _ (t : UnitTable) (p : Plan) (w : Written) (q instance : ℕ) (g : Goal) (r : Reason) (goal : IsGoalAt t p q g)
    (reason : IsReasonAt t p q g r) (lines : AreLines t.formula.now p.rows w.steps)
    (instance-is : instance ≡ r.lowered * length t.formula.now.matrix + g.source.place + 1) where
  abbrev f : Dqbf
  f = t.formula.now

  abbrev units : List Taken
  units = t.units.now

  abbrev rows : List (List Bool)
  rows = p.rows

  abbrev first : ℕ
  first = first_id f (length rows)

  abbrev is_number : ℕ → Bool
  is_number = is_pair_number f (length rows)

  abbrev live : LiveClauses
  live = behind_steps (instance_at f rows) (normal_steps f rows w.steps)

  instance-in : instance < first
  instance-in = search (arith, instance-before)

  instance-live : live instance ≡ Some (map (paired f rows reason.settled.reason.lowered.low)
      (existential_part f (clause_at f g.source.place)))
  instance-live =
      behind-before f rows (instance_at f rows) is_number first w.steps instance lines.allowed instance-in
      ∙ ap (instance_at f rows) instance-is ∙ instance-low f units rows p.goals.items g r reason.settled

  -- no line is needed
  pub line-instance : r.hints.items ≡ [] → IsLineOf t p w w q instance
  line-instance none = record {
    written = lines;
    has = λ k here. subst (λ x. HasLine f units rows w.steps x instance) (same_Some g k (sym goal.at ∙ here)) (record {
      from_one = omega (arith, instance-is);
      before = omega (arith, instance-in);
      is = instance-live
          ∙ ap Some (sym (goal-is-instance f units rows p.goals.items g r reason.settled none));
    });
    kept = λ k i h. h;
  }

  -- a line is added
  module _ (new : Written) (id : ℕ) (literals : List Literal) (hints : List ℕ) (named : AreHintsNamed t p w q)
      (literals-are : literals ≡ written_literals f units g)
      (hints-are : hints ≡ map (λ h. slice_index_or w.ids.items h 0) r.hints.items ++ instance ∷ [])
      (id-is : id ≡ first + length w.steps)
      (steps-are : new.steps ≡ w.steps ++ record { id = id; literals = literals; hints = hints } ∷ []) where
    abbrev step : ProofStep
    step = record { id = id; literals = literals; hints = hints }

    abbrev id_at : ℕ → ℕ
    id_at h = slice_index_or w.ids.items h 0

    longer : length new.steps ≡ length w.steps + 1
    longer = ap (λ (xs : List ProofStep). length xs) steps-are ∙ length-append w.steps (step ∷ [])

    normal : normal_steps f rows new.steps ≡ normal_steps f rows w.steps ++ normal_step f rows step ∷ []
    normal = ap (normal_steps f rows) steps-are ∙ map-append (normal_step f rows) w.steps (step ∷ [])

    line-is : map (normal_literal f rows) literals ≡ goal_line f units rows g
    line-is = ap (map (normal_literal f rows)) literals-are
        ∙ written-line f units rows g reason.settled.well goal.goal

    live-new : (i : ℕ) → behind_steps (instance_at f rows) (normal_steps f rows new.steps) i
        ≡ cond (i == id) (Some (map (normal_literal f rows) literals)) (live i)
    live-new i = ap (λ ss. behind_steps (instance_at f rows) ss i) normal
        ∙ ap (λ (b : LiveClauses). b i) (behind-more (instance_at f rows) (normal_steps f rows w.steps)
        (normal_step f rows step))

    hint-line : (h : ℕ) (x : Goal) → Contains r.hints.items h → slice_get p.goals.items h ≡ Some x
        → HasLine f units rows w.steps x (id_at h)
    hint-line h x inside here = named h (record { reason = r; at = reason.at; among = inside }) x here

    is-derived : IsDerived live (map (normal_literal f rows) literals) hints
    is-derived =
        subst (λ ls. IsDerived live ls hints) (sym line-is)
        (subst (IsDerived live (goal_line f units rows g)) (sym hints-are)
        (goal-derived f units rows p.goals.items g r reason.settled live id_at instance instance-live
        (λ h x inside here. (hint-line h x inside here).is)))

    hints-before : All (λ h. (1 ≤ h) × (h < id)) hints
    hints-before = subst (All (λ h. (1 ≤ h) × (h < id))) (sym hints-are)
        (All-push (λ h. (1 ≤ h) × (h < id)) (map id_at r.hints.items) instance
        (All-map (λ h. (1 ≤ h) × (h < id)) id_at r.hints.items (λ k d below.
        let h = get_or r.hints.items k d in
        let line = hint-line h (get_or p.goals.items h g) (Contains-get_or r.hints.items k d below)
        (slice_get-get_or p.goals.items h g (reason.hints k d below)) in
        (line.from_one, omega (arith, line.before, id-is))))
        (omega (arith, instance-is), omega (arith, instance-in, id-is)))

    allowed : AreSteps is_number first new.steps
    allowed = subst (AreSteps is_number first) (sym steps-are)
        (steps-more is_number first w.steps step lines.allowed (record {
          numbered = id-is;
          on_variables = subst (All (λ l. is_number (variable_of l) ≡ true)) (sym literals-are)
              (written-pairs f units rows g reason.settled.well goal.goal);
          hints_before = subst (λ n. All (λ h. (1 ≤ h) × (h < n)) hints) id-is hints-before;
        }))

    pub line-added : IsLineOf t p w new q id
    line-added = record {
      written = record {
        derived = subst (AreDerived (instance_at f rows)) (sym normal)
            (derived-more (instance_at f rows) (normal_steps f rows w.steps) (normal_step f rows step) lines.derived
            is-derived);
        allowed = allowed;
      };
      has = λ k here. subst (λ x. HasLine f units rows new.steps x id) (same_Some g k (sym goal.at ∙ here)) (record {
        from_one = omega (arith, id-is);
        before = omega (arith, id-is, longer);
        is = live-new id ∙ cond-true (id == id) (Some (map (normal_literal f rows) literals)) (live id) (eq-eqb id id refl)
            ∙ ap Some line-is;
      });
      kept = λ k i h. record {
        from_one = h.from_one;
        before = omega (arith, h.before, longer);
        is = live-new i
            ∙ cond-false (i == id) (Some (map (normal_literal f rows) literals)) (live i)
            (ne_eqb i id (λ same. absurd (omega (arith, same, h.before, id-is)))) ∙ h.is;
      };
    }

pub open-by : (f : Dqbf) (units : List Taken) (count v : ℕ) (l : Literal) (a b : Bool) → IsWellFormed f
    → IsBound f l → v ≡ variable_of l → a ≡ is_some (existential_of f v)
    → b ≡ not (holds (first_literals units count) (opposite l)) → a ≡ true
    → b ≡ is_open f (first_literals units count) l
open-by f units count v l a b well bound is found free on = search (arith, existential-or-universal)

pub free-by : (units : List Taken) (count : ℕ) (l : Literal) (o : Option ℕ) → IsFalseBy units count l o
    → (o ≡ None → true ≡ not (holds (first_literals units count) (opposite l)))
    × ((j : ℕ) → o ≡ Some j → false ≡ not (holds (first_literals units count) (opposite l)))
free-by units count l None none = ((λ e. sym (ap not none)), λ j e. cc)
free-by units count l (Some i) (before, (u, (at, same))) = search (arith, first-holds)

-- the goal at a place is named, and the others stay so
pub named-set : (t : UnitTable) (p : Plan) (w new : Written) (q id : ℕ) → IsLineOf t p w new q id
    → AreWritten t p w → q < length p.goals.items → new.ids ≡ w.ids → (last : Written) → last.steps ≡ new.steps
    → last.ids.items ≡ slice_set new.ids.items q id
    → AreWritten t p last × IsNamed t p last q × ((h : ℕ) → IsNamed t p w h → IsNamed t p last h)
named-set t p w new q id line written within same last steps ids =
    let many : length new.ids.items ≡ length p.goals.items =
    ap (λ v. length v.items) same ∙ written.many in
    let here : slice_index_or last.ids.items q 0 ≡ id =
    ap (λ xs. get_or xs q 0) ids ∙ get_or-set_same new.ids.items q id 0 (omega (arith, many, within)) in (
      record {
        lines = subst (AreLines t.formula.now p.rows) (sym steps) line.written;
        many = ap (λ (xs : List ℕ). length xs) ids ∙ length-set new.ids.items q id ∙ many;
      },
      (λ g at. subst (HasLine t.formula.now t.units.now p.rows last.steps g) (sym here)
          (subst (λ ss. HasLine t.formula.now t.units.now p.rows ss g id) (sym steps) (line.has g at))),
      λ h was g at. elim (cases_eq h q) [
        | inl is ↦
            subst (λ k. HasLine t.formula.now t.units.now p.rows last.steps g (slice_index_or last.ids.items k 0))
            (sym is)
            (subst (HasLine t.formula.now t.units.now p.rows last.steps g) (sym here)
            (subst (λ ss. HasLine t.formula.now t.units.now p.rows ss g id) (sym steps)
            (line.has g (ap (slice_get p.goals.items) (sym is) ∙ at))))
        | inr other ↦
            subst (HasLine t.formula.now t.units.now p.rows last.steps g)
            (sym (ap (λ xs. get_or xs h 0) ids ∙ get_or-set_other new.ids.items q h id 0 other
            ∙ ap (λ v. get_or v.items h 0) same))
            (subst (λ ss. HasLine t.formula.now t.units.now p.rows ss g (slice_index_or w.ids.items h 0)) (sym steps)
            (line.kept g (slice_index_or w.ids.items h 0) (was g at)))
      ],
    )

-- goals with fewer units have their turn before
pub earlier-turn : (goals : List Goal) (turns : List Turn) (i : ℕ) (t : Turn) (h : ℕ) (g : Goal) → AreTurns goals turns
    → i < length turns → t ≡ get_or turns i t → slice_get goals h ≡ Some g → g.source.taken < t.taken
    → Contains (take i turns) (turn_of g h)
earlier-turn goals turns i t h g are within at there fewer =
    let place = are.all.all h g (slice_get_within goals h g there) there in
    let k = place.0 in
    let u = turn_of g h in
    elim (cases_lt k i) [
      | inl before ↦
          (k, omega (arith, before, place.1, length-take i turns), get_or-take i turns k u before ∙ place.2)
      | inr behind ↦
          let first : (get_or turns i t).taken ≡ t.taken = ap (λ x. x.taken) (sym at) in
          let second : (get_or turns k t).taken ≡ g.source.taken =
          ap (λ x. x.taken) (get_or_default turns k t u place.1 ∙ place.2) in
          absurd (omega (arith, are.sorted i k t behind place.1, first, second, fewer))
    ]

pub open-shut : (f : Dqbf) (units : List Taken) (count v : ℕ) (l : Literal) (a : Bool) → IsWellFormed f
    → IsBound f l → v ≡ variable_of l → a ≡ is_some (existential_of f v) → a ≡ false
    → a ≡ is_open f (first_literals units count) l
open-shut f units count v l a well bound is found shut = search (arith, existential-or-universal)

pub turns-moved : (goals : List Goal) (turns new : List Turn) → TurnAll goals (length goals) turns
    → IsPermutation turns new → TurnAll goals (length goals) new
turns-moved goals turns new was moved = record {
  each = All-permutation (IsTurn goals) turns new moved was.each;
  all = λ q g below at. Contains-permutation turns new (turn_of g q) moved (was.all q g below at);
}

pub no-hints : (hints : List ℕ) → length hints ≡ 0 → hints ≡ []
no-hints [] none = refl
no-hints (h ∷ hs) none = absurd (omega (arith, none))

-- what a goal hints at has its turn before
pub hints-first : (t : UnitTable) (p : Plan) (w : Written) (order : List Turn) (i : ℕ) (turn : Turn) → IsWhole t p
    → AreTurns p.goals.items order → i < length order → turn ≡ get_or order i turn
    → ((u : Turn) → Contains (take i order) u → IsNamed t p w u.goal) → AreHintsNamed t p w turn.goal
hints-first t p w order i turn plan are within at named h hint g there =
    let it = subst (IsTurn p.goals.items) (sym at) (are.all.each i turn within) in
    let reason = plan.plan.plan.reasons turn.goal it.goal hint.reason it.at hint.at in
    let fewer = asked-fewer hint.reason.lowered it.goal.source.taken reason.places hint.reason.hints.items
    reason.asked (λ j inside.
    (All-contains (MakesFalse t.units.now it.goal.source.taken (clause_at t.formula.now it.goal.source.place))
    reason.places j reason.false_units.each inside).before) hint.among in
    let less : g.source.taken < turn.taken = omega (arith, fewer, it.taken) in
    named (turn_of g h) (earlier-turn p.goals.items order i turn h g are within at there less) g there
  where
    asked-fewer : (lowered count : ℕ) (places hints : List ℕ)
        → AllZip (IsAsked t.formula.now t.units.now p.rows p.goals.items lowered) places hints
        → ((j : ℕ) → Contains places j → j < count) → Contains hints h → g.source.taken < count
    asked-fewer lowered count [] [] zip before inside = absurd (omega (arith, inside.1))
    asked-fewer lowered count [] (k ∷ hs) zip before inside = absurd zip
    asked-fewer lowered count (j ∷ js) [] zip before inside = absurd zip
    asked-fewer lowered count (j ∷ js) (k ∷ hs) zip before (zero, below, is) =
        let same : zip.0.goal ≡ g =
        same_Some zip.0.goal g (sym zip.0.goal_at ∙ ap (slice_get p.goals.items) is ∙ there) in
        let taken : g.source.taken ≡ j = ap (λ x. x.source.taken) (sym same) ∙ zip.0.taken in
        omega (arith, taken, before j (0, omega arith, refl))
    asked-fewer lowered count (j ∷ js) (k ∷ hs) zip before (suc n, below, is) =
        asked-fewer lowered count js hs zip.1 (λ x inside. before x (suc inside.0, omega (arith, inside.1), inside.2))
        (n, omega (arith, below), is)

pub turn-named : (t : UnitTable) (p : Plan) (w new : Written) (order : List Turn) (i : ℕ) (turn : Turn)
    → i < length order → turn ≡ get_or order i turn
    → ((u : Turn) → Contains (take i order) u → IsNamed t p w u.goal) → IsNamed t p new turn.goal
    → ((h : ℕ) → IsNamed t p w h → IsNamed t p new h)
    → (u : Turn) → Contains (take (i + 1) order) u → IsNamed t p new u.goal
turn-named t p w new order i turn within at named here kept u inside =
    let front : take (i + 1) order ≡ take i order ++ turn ∷ [] =
    take_more order i turn within ∙ ap (λ x. take i order ++ x ∷ []) (sym at) in
    elim (Contains-push_cases (take i order) turn u (subst (λ xs. Contains xs u) front inside)) [
      | inl before ↦ kept u.goal (named u before)
      | inr last ↦ subst (λ x. IsNamed t p new x.goal) last here
    ]

pub all-named : (t : UnitTable) (p : Plan) (w : Written) (order : List Turn) (i : ℕ) → AreTurns p.goals.items order
    → length order ≤ i → ((u : Turn) → Contains (take i order) u → IsNamed t p w u.goal)
    → (q : ℕ) → IsNamed t p w q
all-named t p w order i are past named q g at =
    named (turn_of g q)
    (subst (λ xs. Contains xs (turn_of g q)) (sym (take_all i order past))
    (are.all.all q g (slice_get_within p.goals.items q g at) at)) g at
