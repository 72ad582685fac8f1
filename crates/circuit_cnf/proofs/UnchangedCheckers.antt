-- What leaves a checker as it is.
use Rattle.std.proofs.Common.{◌≡◌, ◌≢◌, ℕ, Bool, false, inl, inr, ◌⊎◌, List, [], ◌∷◌, ◌++◌, Option, Some, None, IsSome, sym, ◌∙◌, ap, subst, arith}
use Rattle.std.specs.List.{Contains}
use Rattle.std.proofs.lemmas.Bool.{false≢true}
use Rattle.std.proofs.lemmas.List.Elements.{Contains-append_right}
use Rattle.list_laws.proofs.Members.{contains_later, contains_cases}
use Rattle.dq_lits.specs.Literal.{Literal, variable_of}
use Rattle.dq_lits.specs.Formula.{Dqbf}
use Rattle.hint_log.specs.Entries.{Entry, Named, Given, Learned, Answer, Round, Begun, ProofLog, name_of}
use Rattle.hint_log.specs.declared.names.Name.{Name}
use Rattle.hint_log.specs.declared.names.Name.TheVariants.{And, Bad, Selector}
use Rattle.hint_log.specs.declared.origins.Origin.{Origin}
use Rattle.hint_log.specs.declared.origins.Origin.TheVariants.{Gate}
use Rattle.hint_log.specs.Growth.{Each, EachOf, Grew}
use Rattle.log_laws.specs.Engines.{Engine, circuits, same_engine, name_engine, origin_engine, is_engine, is_own, IsInGroup, IsAddedBy}
use Rattle.log_laws.proofs.LargerLogs.{each_grown}
use Rattle.log_laws.proofs.Kept.{NamesStay, named_stay, name_stays_by, name_cases, each_of_weaker, some_stays, in_one_group}
use Rattle.oracle.specs.Calls.{IsLearnedEntry, IsMade}
use Rattle.oracle.specs.declared.groups.Group.{Group}
use Rattle.circuit_cnf.specs.declared.checkers.Checker.{Checker}
use Rattle.circuit_cnf.specs.declared.gates.Gates.{Gates}
use Rattle.circuit_cnf.specs.Checking.{IsChecker, CheckersStay}
use Rattle.circuit_cnf.specs.Faults.{NamesBadsAlone}
use Rattle.circuit_cnf.specs.Gates.{groups_of, IsGateGiven}
use Rattle.circuit_cnf.proofs.KnownGates.{LeavesGates, known_stay}

pub checker_stays : (f : Dqbf) (checker : Checker) (old new : List Entry) → LeavesGates checker.gates old new →
    IsChecker f checker old → IsChecker f checker new
checker_stays f checker old new leaves before =
    search (
      arith,
      (known_stay checker.gates old new leaves before.gates),
      (named_stay old new leaves.stay checker.inputs.items),
      (some_stays old new leaves.stay),
    )

pub leaves_then : (gates : Gates) (a b c : List Entry) → LeavesGates gates a b → LeavesGates gates b c →
    LeavesGates gates a c
leaves_then gates a b c first second = record {
  stay = λ v n is. second.stay v n (first.stay v n is);
  ands = λ v x y is. first.ands v x y (second.ands v x y is);
  bads = search (arith, some_stays);
  more = λ x inside. second.more x (first.more x inside);
  origins = λ v i d inside. elim (second.origins v i d inside) [
    | inl was ↦ elim (first.origins v i d was) [
      | inl before ↦ inl before
      | inr some ↦
          inr (some_stays b c second.stay v some)
    ]
    | inr some ↦ inr some
  ];
  own = λ h inside own. second.own h inside (first.own h inside own);
  missing = λ gate is i d inside. first.missing gate is i d (second.missing gate is i d inside);
}

pub leaves_none : (gates : Gates) (es : List Entry) → LeavesGates gates es es
leaves_none gates es = search arith

-- nothing of a circuit, and nothing in the gates' groups
abbrev pub IsElsewhere : List Group → List Entry → Entry → Type 0
IsElsewhere groups earlier (Named v n) = (name_of earlier v ≡ None) × (is_own circuits (Named v n) ≡ false)
IsElsewhere groups earlier (Given origin c) = (is_own circuits (Given origin c) ≡ false)
    × ((h : Group) → Contains groups h → IsInGroup (variable_of h.selector) c → ⊥)
IsElsewhere groups earlier _ = Unit {0}

-- an entry that isn't named and isn't given
leaves_plain : (gates : Gates) (es : List Entry) (e : Entry) → ((v : ℕ) → name_of (e ∷ es) v ≡ name_of es v) →
    ((origin : Origin) (c : List Literal) → (e ≡ Given origin c) → ⊥) →
    ((h : Group) → Each (IsGateGiven (variable_of h.selector)) es →
    Each (IsGateGiven (variable_of h.selector)) (e ∷ es)) → LeavesGates gates es (e ∷ es)
leaves_plain gates es e names no_given own = record {
  stay = λ v n is. names v ∙ is;
  ands = λ v a b is. sym (names v) ∙ is;
  bads = λ v group j is. inl (sym (names v) ∙ is);
  more = λ x inside. contains_later e x es inside;
  origins = λ v i c inside. inl (only v i c inside);
  own = λ h inside. own h;
  missing = λ gate is i c inside. only gate.variable i c inside;
} where
  only : (v i : ℕ) (c : List Literal) → Contains (e ∷ es) (Given (Gate v i) c) → Contains es (Given (Gate v i) c)
  only v i c inside = elim (contains_cases e (Given (Gate v i) c) es inside)
      [ inl is ↦ absurd (no_given (Gate v i) c is) | inr later ↦ later ]

pub leaves_elsewhere : (gates : Gates) (es : List Entry) (e : Entry) →
    IsElsewhere (groups_of gates) es e → LeavesGates gates es (e ∷ es)
leaves_elsewhere gates es (Named v n) h = record {
  stay = name_stays_by es v n h.0;
  ands = λ w a b is. elim (name_cases es v w n (And a b) is)
      [ inl here ↦ absurd (false≢true (sym h.1 ∙ ap (λ x. is_own circuits (Named v x)) here.1)) | inr old ↦ old ];
  bads = λ w group j is. elim (name_cases es v w n (Bad group j) is)
      [ inl here ↦ absurd (false≢true (sym h.1 ∙ ap (λ x. is_own circuits (Named v x)) here.1)) | inr old ↦ inl old ];
  more = λ x inside. contains_later (Named v n) x es inside;
  origins = λ w i c inside. inl (only w i c inside);
  own = λ g among own. (tt, own);
  missing = λ gate is i c inside. only gate.variable i c inside;
} where
  only : (w i : ℕ) (c : List Literal) → Contains (Named v n ∷ es) (Given (Gate w i) c) →
      Contains es (Given (Gate w i) c)
  only w i c inside = elim (contains_cases (Named v n) (Given (Gate w i) c) es inside)
      [ inl is ↦ cc | inr later ↦ later ]
leaves_elsewhere gates es (Given origin d) h = record {
  stay = λ v n is. is;
  ands = λ v a b is. is;
  bads = λ v group j is. inl is;
  more = λ x inside. contains_later (Given origin d) x es inside;
  origins = λ v i c inside. inl (only v i c inside);
  own = λ g among own. ((λ inside. absurd (h.1 g among inside)), own);
  missing = λ gate is i c inside. only gate.variable i c inside;
} where
  only : (v i : ℕ) (c : List Literal) → Contains (Given origin d ∷ es) (Given (Gate v i) c) →
      Contains es (Given (Gate v i) c)
  only v i c inside = elim (contains_cases (Given origin d) (Given (Gate v i) c) es inside) [
    | inl is ↦ absurd (false≢true (sym h.0 ∙ ap (is_own circuits) is))
    | inr later ↦ later
  ]
leaves_elsewhere gates es e h = search (arith, (leaves_plain gates es e))

pub all_elsewhere : (gates : Gates) (more old : List Entry) →
    EachOf (IsElsewhere (groups_of gates)) more old → LeavesGates gates old (more ++ old)
all_elsewhere gates [] old h = leaves_none gates old
all_elsewhere gates (e ∷ more) old h = leaves_then gates old (more ++ old) (e ∷ more ++ old)
    (all_elsewhere gates more old h.1) (leaves_elsewhere gates (more ++ old) e h.0)

learned_elsewhere : (groups : List Group) (earlier : List Entry) (e : Entry) → IsLearnedEntry earlier e →
    IsElsewhere groups earlier e
learned_elsewhere groups earlier (Learned c hints) h = tt
learned_elsewhere groups earlier _ h = absurd h

pub learned_leaves : (gates : Gates) (old new : ProofLog) → Grew IsLearnedEntry old new →
    LeavesGates gates old.entries new.entries
learned_leaves gates old new g =
    search (arith, (all_elsewhere gates g.more old.entries), each_of_weaker, learned_elsewhere)

-- a clause that goes into this group or into one that was made since is in no third one
not_in : (group mine : ℕ) (n : Name) (start : List Entry) (c : List Literal) → mine ≢ group →
    name_of start mine ≡ Some n → (g : ℕ) → IsInGroup g c → (g ≡ group) ⊎ (name_of start g ≡ None) →
    IsInGroup mine c → ⊥
not_in group mine n start c apart named g there (inl is) inside = apart (in_one_group mine g c inside there ∙ is)
not_in group mine n start c apart named g there (inr unnamed) inside =
    let none : None ≡ Some n = sym unnamed ∙ ap (name_of start) (sym (in_one_group mine g c inside there)) ∙ named in cc

module _ (f : Dqbf) (engine : Engine) (group : ℕ) (silent : Bool) (start : List Entry) where
  abbrev Added : List Entry → Entry → Type 0
  Added earlier e = IsAddedBy f engine group silent start earlier e

  own_name : (o : Option Engine) → same_engine circuits engine ≡ false → (o ≡ None) ⊎ (o ≡ Some engine) →
      is_engine circuits o ≡ false
  own_name o differ (inl none) = ap (is_engine circuits) none
  own_name o differ (inr some) = ap (is_engine circuits) some ∙ differ

  own_given : (origin : Origin) → same_engine circuits engine ≡ false → origin_engine origin ≡ engine →
      same_engine circuits (origin_engine origin) ≡ false
  own_given origin differ is = ap (same_engine circuits) is ∙ differ

  pub others_elsewhere : (mine : List Group) → same_engine circuits engine ≡ false →
      ((g : Group) → Contains mine g → variable_of g.selector ≢ group) →
      ((g : Group) → Contains mine g → IsMade start g) →
      (earlier : List Entry) (e : Entry) → Added earlier e → IsElsewhere mine earlier e
  others_elsewhere mine differ apart made earlier (Named v m) h = (h.unnamed, own_name (name_engine m) differ h.own)
  others_elsewhere mine differ apart made earlier (Given origin c) h = (
    own_given origin differ h.own,
    λ g among inside. not_in group (variable_of g.selector) (Selector (variable_of g.selector)) start c (apart g among)
        (made g among).named h.in_group.0 h.in_group.1 h.in_group.2 inside,
  )
  others_elsewhere mine differ apart made earlier (Learned c hints) h = tt
  others_elsewhere mine differ apart made earlier (Answer c hints) h = tt
  others_elsewhere mine differ apart made earlier _ h = absurd h

  no_gates_given : (mine : ℕ) (n : Name) → mine ≢ group → name_of start mine ≡ Some n →
      (earlier : List Entry) (e : Entry) → Added earlier e → IsGateGiven mine earlier e
  no_gates_given mine n apart named earlier (Given origin c) h = search arith
  no_gates_given mine n apart named earlier (Round row values j) h = absurd h
  no_gates_given mine n apart named earlier (Begun live) h = absurd h
  no_gates_given mine n apart named earlier _ h = tt

  step_stays : (es : List Entry) (e : Entry) → Added es e → NamesStay es (e ∷ es)
  step_stays es (Named v n) h = name_stays_by es v n h.unnamed
  step_stays es (Round row values j) h = absurd h
  step_stays es (Begun live) h = absurd h
  step_stays es _ h = λ v n is. is

  gate_is_named : (es : List Entry) (e : Entry) (v i : ℕ) (c : List Literal) → Added es e → e ≡ Given (Gate v i) c →
      IsSome (name_of (e ∷ es) v)
  gate_is_named es e v i c h is = search arith

  pub gates_are_named : (more old : List Entry) → EachOf Added more old → (v i : ℕ) (c : List Literal) →
      Contains (more ++ old) (Given (Gate v i) c) → Contains old (Given (Gate v i) c) ⊎ IsSome (name_of (more ++ old) v)
  gates_are_named [] old h v i c inside = inl inside
  gates_are_named (e ∷ more) old h v i c inside =
      search (arith, contains_cases, gate_is_named, (gates_are_named more old h.1 v i c), some_stays, step_stays)

  pub group_leaves : (gates : Gates) (old new : ProofLog) → Grew Added old new →
      ((g : Group) → Contains (groups_of gates) g → IsMade start g) →
      ((g : Group) → Contains (groups_of gates) g → variable_of g.selector ≢ group) →
      NamesStay old.entries new.entries → NamesBadsAlone group old.entries new.entries →
      IsSome (name_of old.entries group) → gates.unfinished ≡ None → LeavesGates gates old.entries new.entries
  group_leaves gates old new g are apart stay names made ready = record {
    stay = stay;
    ands = λ v a b is. elim (names v (And a b) is) [ inl was ↦ was | inr bad ↦ (let clash = bad.1 in cc) ];
    bads = search (arith, some_stays);
    more = λ x inside. subst (λ es. Contains es x) (sym g.grown) (Contains-append_right g.more old.entries x inside);
    origins = λ v i c inside. subst (λ es. Contains old.entries (Given (Gate v i) c) ⊎ IsSome (name_of es v))
        (sym g.grown)
        (gates_are_named g.more old.entries g.each v i c (subst
        (λ es. Contains es (Given (Gate v i) c)) g.grown inside));
    own = λ h among own. subst (Each (IsGateGiven (variable_of h.selector))) (sym g.grown)
        (each_grown Added (IsGateGiven (variable_of h.selector))
        (no_gates_given (variable_of h.selector) (Selector (variable_of h.selector)) (apart h among) (are h among).named)
        g.more old.entries g.each own);
    missing = λ gate is. (let none : None ≡ Some gate = sym ready ∙ is in cc);
  }

pub others_leave_checkers : CheckersStay
others_leave_checkers f checker engine group silent old new differ apart grew before =
    search (
      arith,
      (checker_stays f checker old.entries new.entries),
      (all_elsewhere checker.gates grew.more old.entries),
      each_of_weaker,
      (others_elsewhere f engine group silent old.entries (groups_of checker.gates) differ apart before.gates.made),
    )

pub round_leaves_checkers : (f : Dqbf) (checker : Checker) (entries : List Entry) (row values : List Bool) (j : ℕ) →
    IsChecker f checker entries → IsChecker f checker (Round row values j ∷ entries)
round_leaves_checkers f checker entries row values j before = search (arith, checker_stays, leaves_elsewhere)
