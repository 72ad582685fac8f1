-- An answer to the gates' group and the faults' group.
use Rattle.std.proofs.Common.{◌≡◌, ℕ, true, false, inl, inr, ◌⊎◌, List, [], ◌∷◌, ◌++◌, map, Some, sym, ◌∙◌, ap, subst, arith}
use Rattle.std.specs.List.{Contains}
use Rattle.std.proofs.lemmas.Bool.{true≢false, or_cases}
use Rattle.std.proofs.lemmas.List.Elements.{Contains-append_right}
use Rattle.list_laws.proofs.Members.{contains_first, contains_later, contains_cases}
use Rattle.dq_lits.specs.Literal.{Literal, positive, negative, variable_of, is_negative, opposite, same_literal}
use Rattle.dq_lits.specs.Formula.{Dqbf, Existential}
use Rattle.dq_lits.specs.Derivation.{holds}
use Rattle.dq_lits.proofs.Truth.{same_literal-sound}
use Rattle.dq_lits.proofs.HeldLiterals.{all_held}
use Rattle.hint_log.specs.Entries.{Entry, Given, Learned, Answer, ProofLog, name_of}
use Rattle.hint_log.specs.declared.names.Name.TheVariants.{Selector}
use Rattle.hint_log.specs.declared.origins.Leaf.{Leaf}
use Rattle.hint_log.specs.declared.origins.Origin.{Origin}
use Rattle.hint_log.specs.declared.origins.Origin.TheVariants.{Gate, Fault}
use Rattle.hint_log.specs.Deciding.{ReachesGiven, IsCircuitGiven, IsFaultLeaf}
use Rattle.hint_log.specs.Growth.{Each, EachOf, Grew}
use Rattle.hint_log.specs.Origins.{IsOriginsClause}
use Rattle.hint_log.proofs.NamedEntries.{is_selector_here}
use Rattle.log_laws.specs.Engines.{circuits, origin_engine, IsInGroup, IsOwnGiven}
use Rattle.log_laws.proofs.Found.{split_at, each_at}
use Rattle.log_laws.proofs.LargerLogs.{each_grown}
use Rattle.oracle.specs.Calls.{IsLearnedEntry, IsRefutedUnder}
use Rattle.oracle.specs.declared.groups.Group.{Group}
use Rattle.oracle.specs.Searched.{IsSearched, IsGivenToGroup, IsOfGroup}
use Rattle.circuit_cnf.specs.Gates.{IsGateClause, IsGateGiven}
use Rattle.circuit_cnf.specs.Turning.{AreTurnGroups, IsHeldBy}
use Rattle.oracle.proofs.LearnedEntries.{learned_names}

-- a literal whose opposite is the selector of one of these groups
only_selectors : (gs : List Group) (l : Literal) → ((g : Group) → Contains gs g → is_negative g.selector ≡ false) →
    holds (map (λ g. g.selector) gs) (opposite l) ≡ true →
    (g : Group) × Contains gs g × (l ≡ negative (variable_of g.selector))
only_selectors [] l plain held = absurd (true≢false (sym held))
only_selectors (g ∷ gs) l plain held = elim (or_cases (same_literal (opposite l) g.selector)
    (holds (map (λ h. h.selector) gs) (opposite l)) held) [
      | inl here ↦ (
        g,
        contains_first g gs,
        negated l (same_literal-sound (opposite l) g.selector here)
            (plain g (contains_first g gs)),
      )
      | inr later ↦ (let r = only_selectors gs l (λ h inside. plain h (contains_later g h gs inside)) later in
          (r.0, contains_later g r.0 gs r.1, r.2))
    ] where
      negated : (k : Literal) → opposite k ≡ g.selector → is_negative g.selector ≡ false →
          k ≡ negative (variable_of g.selector)
      negated (positive v) is plain_one = absurd (true≢false (ap is_negative is ∙ plain_one))
      negated (negative v) is plain_one = ap (λ s. negative (variable_of s)) is

-- what was learned gives nothing
pub learned_givens : (more old : List Entry) → EachOf IsLearnedEntry more old → (origin : Origin) (c : List Literal) →
    Contains (more ++ old) (Given origin c) → Contains old (Given origin c)
learned_givens [] old h origin c inside = inside
learned_givens (Learned d hints ∷ more) old h origin c inside =
    search (arith, contains_cases, (learned_givens more old h.1 origin c))
learned_givens (_ ∷ more) old h origin c inside = absurd h.0

learned_gate_given : (group : ℕ) (earlier : List Entry) (e : Entry) → IsLearnedEntry earlier e →
    IsGateGiven group earlier e
learned_gate_given group earlier (Learned c hints) h = tt
learned_gate_given group earlier _ h = absurd h

learned_own_given : (f : Dqbf) (group : ℕ) (earlier : List Entry) (e : Entry) → IsLearnedEntry earlier e →
    IsOwnGiven f circuits group earlier e
learned_own_given f group earlier (Learned c hints) h = tt
learned_own_given f group earlier _ h = absurd h

gate_is_circuit : (earlier : List Entry) (group : ℕ) (origin : Origin) (c : List Literal) →
    IsGateClause earlier origin c → IsCircuitGiven group origin c
gate_is_circuit earlier group (Gate v i) c h = tt
gate_is_circuit earlier group _ c h = absurd h

gate_is_origins : (f : Dqbf) (earlier : List Entry) (origin : Origin) (c : List Literal) →
    IsGateClause earlier origin c → IsOriginsClause f earlier origin c
gate_is_origins f earlier (Gate v i) c h = h f
gate_is_origins f earlier _ c h = absurd h

fault_is_circuit : (group : ℕ) (origin : Origin) (c : List Literal) → origin_engine origin ≡ circuits →
    IsInGroup group c → IsCircuitGiven group origin c
fault_is_circuit group (Gate v i) c h inside = tt
fault_is_circuit group (Fault j i leaf) c h inside = inside
fault_is_circuit group _ c h inside = cc

pub groups_learned : (f : Dqbf) (leaf : ℕ → Leaf) (gates : List Group) (faults : ℕ) (old : List Entry)
    (log new : ProofLog) → Grew IsLearnedEntry log new → AreTurnGroups f leaf gates faults old log.entries →
    AreTurnGroups f leaf gates faults old new.entries
groups_learned f leaf gates faults old log new g two = subst (AreTurnGroups f leaf gates faults old) (sym g.grown)
    (record {
      gates_made = λ h inside. record {
        positive = (two.gates_made h inside).positive;
        named = learned_names g.more log.entries (variable_of h.selector) g.each ∙ (two.gates_made h inside).named;
      };
      faults_named = learned_names g.more log.entries faults g.each ∙ two.faults_named;
      faults_new = two.faults_new;
      names = λ v n is. learned_names g.more log.entries v g.each ∙ two.names v n is;
      gates_own = λ h inside. each_grown IsLearnedEntry (IsGateGiven (variable_of h.selector))
          (learned_gate_given (variable_of h.selector)) g.more log.entries g.each (two.gates_own h inside);
      faults_own = each_grown IsLearnedEntry (IsOwnGiven f circuits faults)
          (learned_own_given f faults) g.more log.entries g.each two.faults_own;
      one_leaf = λ j i v out rest inside own. two.one_leaf j i v out rest
          (learned_givens g.more log.entries g.each (Fault j i out) (negative faults ∷ rest) inside) own;
    })

abbrev IsInOneOf : List Group → List Literal → Type 0
IsInOneOf gates c = (g : Group) × Contains gates g × IsInGroup (variable_of g.selector) c

-- a given clause that the answer reaches is of one of the groups
pub held_by : (f : Dqbf) (leaf : ℕ → Leaf) (gates active : List Group) (faults : ℕ) (old : List Entry)
    (log new : ProofLog) (id : ℕ) → AreTurnGroups f leaf gates faults old log.entries → IsSearched new.entries →
    ((g : Group) → Contains active g → is_negative g.selector ≡ false) →
    ((g : Group) → Contains active g → Contains gates g ⊎ (variable_of g.selector ≡ faults)) →
    IsRefutedUnder log new (map (λ g. g.selector) active) id → IsHeldBy f leaf old new.entries id
held_by f leaf gates active faults old log new id two searched_new plain each r = record {
  clause = r.clause;
  hints = r.hints;
  earlier = es;
  answered = answered;
  last = r.last;
  names = here.names;
  rests = record {
    selectors = all_held (λ l. (l ≡ negative (variable_of l)) ×
        (name_of es (variable_of l) ≡ Some (Selector (variable_of l)))) r.clause selector;
    group = faults;
    circuit = λ origin c reached. let place = split_at es reached.id (Given origin c) reached.is_given in
        circuit place.0 place.1 origin c place.2 (mine origin c reached);
  };
  fresh = two.faults_new;
  outs = λ y out at. outs y out at (mine (Fault at.j at.i out) at.clause at.reached);
  sound = record {
    logged = searched.logged.1;
    lemmas_are_derived = searched.derived.1;
    derived = searched.derived.0;
    givens_match_origins = λ more before origin c is reached. origins more before origin c is (mine origin c reached);
  };
} where
  es : List Entry
  es = r.before.entries

  answered : new.entries ≡ Answer r.clause r.hints ∷ r.before.entries
  answered = ap (λ (l : ProofLog). l.entries) r.answered

  searched : IsSearched (Answer r.clause r.hints ∷ r.before.entries)
  searched = subst IsSearched (ap (λ (l : ProofLog). l.entries) r.answered) searched_new

  here : AreTurnGroups f leaf gates faults old r.before.entries
  here = groups_learned f leaf gates faults old log r.before r.learned two

  selector : (l : Literal) → holds r.clause l ≡ true → (l ≡ negative (variable_of l)) ×
      (name_of r.before.entries (variable_of l) ≡ Some (Selector (variable_of l)))
  selector l h = let only = only_selectors active l plain (r.negated l h) in elim (each only.0 only.1) [
    | inl among ↦ is_selector_here r.before.entries (variable_of only.0.selector) l (here.gates_made only.0 among).named
        only.2
    | inr same ↦ is_selector_here r.before.entries faults l here.faults_named (only.2 ∙ ap negative same)
  ]

  mine : (origin : Origin) (c : List Literal) → ReachesGiven r.before.entries r.hints origin c →
      IsInOneOf gates c ⊎ IsInGroup faults c
  mine origin c reached =
      let place = split_at es reached.id (Given origin c) reached.is_given in
      let grouped : IsOfGroup place.1 c = each_at IsGivenToGroup place.0 place.1 (Given origin c)
      (subst (Each IsGivenToGroup) place.2 searched.grouped.1) in
      let there = subst (ReachesGiven es r.hints origin) grouped.clause_is reached in
      let kept = searched.kept.0 origin grouped.group grouped.rest there in
      let only = only_selectors active (negative grouped.group) plain (r.negated (negative grouped.group) kept) in
      elim (each only.0 only.1) [
        | inl among ↦ inl (only.0, among, (grouped.rest, grouped.clause_is ∙ ap (λ l. l ∷ grouped.rest) only.2))
        | inr same ↦ inr
            (grouped.rest, grouped.clause_is ∙ ap (λ l. l ∷ grouped.rest) (only.2 ∙ ap negative same))
      ]

  gate_there : (more before : List Entry) (origin : Origin) (c : List Literal) →
      r.before.entries ≡ more ++ Given origin c ∷ before → IsInOneOf gates c → IsGateClause before origin c
  gate_there more before origin c is (g, among, inside) =
      each_at (IsGateGiven (variable_of g.selector)) more before (Given origin c)
      (subst (Each (IsGateGiven (variable_of g.selector))) is (here.gates_own g among)) inside

  fault_there : (more before : List Entry) (origin : Origin) (c : List Literal) →
      r.before.entries ≡ more ++ Given origin c ∷ before → IsInGroup faults c →
      (origin_engine origin ≡ circuits) × IsOriginsClause f before origin c
  fault_there more before origin c is inside = each_at (IsOwnGiven f circuits faults) more before (Given origin c)
      (subst (Each (IsOwnGiven f circuits faults)) is here.faults_own) inside

  circuit : (more before : List Entry) (origin : Origin) (c : List Literal) →
      r.before.entries ≡ more ++ Given origin c ∷ before → IsInOneOf gates c ⊎ IsInGroup faults c →
      IsCircuitGiven faults origin c
  circuit more before origin c is (inl inside) = gate_is_circuit before faults origin c
      (gate_there more before origin c is inside)
  circuit more before origin c is (inr inside) = fault_is_circuit faults origin c
      (fault_there more before origin c is inside).0 inside

  origins : (more before : List Entry) (origin : Origin) (c : List Literal) →
      r.before.entries ≡ more ++ Given origin c ∷ before → IsInOneOf gates c ⊎ IsInGroup faults c →
      IsOriginsClause f before origin c
  origins more before origin c is (inl inside) = gate_is_origins f before origin c
      (gate_there more before origin c is inside)
  origins more before origin c is (inr inside) = (fault_there more before origin c is inside).1

  outs : (y : Existential) (out : Leaf) (at : IsFaultLeaf f r.before.entries r.hints y out) →
      IsInOneOf gates at.clause ⊎ IsInGroup faults at.clause → out ≡ leaf y.variable
  outs y out at (inl inside) =
      let place = split_at es at.reached.id (Given (Fault at.j at.i out) at.clause) at.reached.is_given in
      absurd (gate_there place.0 place.1 (Fault at.j at.i out) at.clause place.2 inside)
  outs y out at (inr inside) =
      let place = split_at es at.reached.id (Given (Fault at.j at.i out) at.clause) at.reached.is_given in
      let e = Given (Fault at.j at.i out) at.clause in
      let there : Contains es e = subst (λ xs. Contains xs e) (sym place.2)
      (Contains-append_right place.0 (e ∷ place.1) e (contains_first e place.1)) in
      here.one_leaf at.j at.i y.variable out inside.0 (subst
      (λ c. Contains es (Given (Fault at.j at.i out) c)) inside.1 there) at.own
