-- Inputs that are named one after the other.
use Rattle.std.proofs.Common.{◌≡◌, ℕ, ◌+◌, ◌≤◌, ◌<◌, ◌==◌, true, false, inl, inr, ◌⊎◌, List, [], ◌∷◌, ◌++◌, map, length, take, get_or, Some, None, IsSome, refl, sym, ◌∙◌, ap, subst, arith}
use Rattle.std.specs.List.{Contains}
use Rattle.std.specs.BTreeMap.{get, is_at}
use Rattle.std.specs.Map.{lookup}
use Rattle.std.specs.Option.{option_map}
use Rattle.std.proofs.lemmas.Bool.{eq-eqb, cond-true}
use Rattle.std.proofs.lemmas.List.{take_more, map-append, get_or-take, length-take, get_or_default, length-append, get_or_append_left}
use Rattle.std.proofs.lemmas.List.Elements.{Contains-append_left, Contains-push, Contains-get_or}
use Rattle.list_laws.proofs.Members.{contains_cases}
use Rattle.dq_lits.specs.Literal.{Literal, positive, variable_of, literal_code}
use Rattle.dq_lits.specs.Formula.{Dqbf, HasLawfulPrefix}
use Rattle.hint_log.specs.Entries.{Entry, Named, Given, ProofLog, with_entry, name_of}
use Rattle.hint_log.specs.declared.names.Name.{Name}
use Rattle.hint_log.specs.ProductiveLog.{fault_groups}
use Rattle.hint_log.specs.declared.names.Name.TheVariants.{Selector, Input, And, Bad}
use Rattle.hint_log.specs.declared.origins.Origin.TheVariants.{Gate}
use Rattle.hint_log.specs.Growth.{Each, Grew}
use Rattle.oracle.specs.declared.groups.Group.{Group}
use Rattle.oracle.specs.Searched.{IsGivenToGroup}
use Rattle.hint_log.specs.Naming.{NamedLiteral, named_literal, name_literal}
use Rattle.hint_log.proofs.NamedEntries.{named_contains}
use Rattle.log_laws.specs.Engines.{circuits, IsAddedBy, HasNone}
use Rattle.log_laws.proofs.LargerLogs.{grown_by, grown_by_none, grown_then}
use Rattle.log_laws.proofs.Kept.{named_stay, name_stays_by, name_cases}
use Rattle.oracle.specs.Calls.{IsMade}
use Rattle.circuit_cnf.specs.declared.checkers.Checker.{Checker}
use Rattle.circuit_cnf.specs.Checking.{AreInputs, IsChecker}
use Rattle.circuit_cnf.specs.Gates.{pair_cmp, IsGateGiven, AreKnown, groups_of}
use Rattle.circuit_cnf.proofs.EmptyGroups.{no_gates_given}
use Rattle.circuit_cnf.specs.Inputs.{HasNoGates, AreInputsOf}
use Rattle.list_laws.proofs.Sequences.{take_past}

-- the first universals have inputs
pub record InputsSoFar (f : Dqbf) (old log : ProofLog) (inputs : List Literal) (i : ℕ) : Type 0 where
  pub grew : (group : ℕ) → Grew (IsAddedBy f circuits group true old.entries) old log
  pub inputs_are : AreInputs (take i f.universals) inputs log.entries
  pub names : AreInputsOf (take i f.universals) log.entries
  pub none : HasNoGates log.entries
  pub faults : fault_groups log.entries ≡ fault_groups old.entries
  pub unnamed : (v : ℕ) → name_of log.entries v ≡ None → name_of old.entries v ≡ None

-- what has no name had none before a further name
pub unnamed_before : (entries : List Entry) (v w : ℕ) (name : Name) → name_of (Named v name ∷ entries) w ≡ None →
    name_of entries w ≡ None
unnamed_before entries v w name is = search arith

pub no_inputs : (f : Dqbf) (old : ProofLog) → HasNone circuits old.entries → InputsSoFar f old old [] 0
no_inputs f old none = record {
  grew = λ group. grown_by_none (IsAddedBy f circuits group true old.entries) old old refl;
  inputs_are = refl;
  names = λ v x is. absurd (none (Named v (Input x)) refl (named_contains old.entries v (Input x) is));
  none = record {
    unnamed = λ v a b is. none (Named v (And a b)) refl (named_contains old.entries v (And a b) is);
    no_bads = λ v group j is. none (Named v (Bad group j)) refl (named_contains old.entries v (Bad group j) is);
    not_given = λ v i c inside. none (Given (Gate v i) c) refl inside;
  };
  faults = refl;
  unnamed = λ v is. is;
}

-- the next universal has none yet
pub next_is_fresh : (f : Dqbf) (old log : ProofLog) (inputs : List Literal) (i : ℕ) → HasLawfulPrefix f →
    InputsSoFar f old log inputs i → i < length f.universals → (v : ℕ) →
    name_of log.entries v ≡ Some (Input (get_or f.universals i 0)) → ⊥
next_is_fresh f old log inputs i lawful before below v is =
    let us = f.universals in
    let es = map (λ y. y.variable) f.existentials in
    let among = before.names v (get_or us i 0) is in
    let k = among.0 in
    let small : k < length (take i us) = among.1 in
    let long = length-take i us in
    let first : k < i = omega (arith, small, long) in
    let inside : k < length us = omega (arith, first, below) in
    let same : get_or us k 0 ≡ get_or us i 0 = get_or_default us k 0 (get_or us i 0) inside ∙ sym
    (get_or-take i us k (get_or us i 0) first) ∙ among.2 in
    let whole = length-append us es in
    lawful.declared_once k i 0 first (omega (arith, below, whole))
    (get_or_append_left us es 0 k inside ∙ same ∙ sym (get_or_append_left us es 0 i below))

pub input_more : (f : Dqbf) (old log new : ProofLog) (inputs : List Literal) (i v : ℕ) →
    InputsSoFar f old log inputs i → i < length f.universals → name_of log.entries v ≡ None →
    new ≡ with_entry log (Named v (Input (get_or f.universals i 0))) →
    InputsSoFar f old new (inputs ++ positive v ∷ []) (i + 1)
input_more f old log new inputs i v before below unnamed is =
    subst (λ l. InputsSoFar f old l (inputs ++ positive v ∷ []) (i + 1)) (sym is) (record {
      grew = λ group. grown_then (IsAddedBy f circuits group true old.entries) old log more (before.grew group)
          (grown_by (IsAddedBy f circuits group true old.entries) log more (Named v (Input x)) refl
          (record { unnamed = unnamed; own = inr refl; rightly = Contains-get_or us i 0 below }));
      inputs_are = subst (λ xs. AreInputs xs (inputs ++ positive v ∷ []) more.entries) (sym taken) whole;
      names = λ w y named. subst (λ xs. Contains xs y) (sym taken)
          (by_name w y (name_cases log.entries v w (Input x) (Input y) named));
      none = record {
        unnamed = λ w a b named. elim (name_cases log.entries v w (Input x) (And a b) named)
            [ inl same ↦ (let clash = same.1 in cc) | inr old' ↦ before.none.unnamed w a b old' ];
        no_bads = λ w group j named. elim (name_cases log.entries v w (Input x) (Bad group j) named)
            [ inl same ↦ (let clash = same.1 in cc) | inr old' ↦ before.none.no_bads w group j old' ];
        not_given = λ w k c inside. elim (contains_cases (Named v (Input x)) (Given (Gate w k) c) log.entries inside)
            [ inl same ↦ cc | inr old' ↦ before.none.not_given w k c old' ];
      };
      faults = before.faults;
      unnamed = λ w none. before.unnamed w (unnamed_before log.entries v w (Input x) none);
    }) where
      us : List ℕ
      us = f.universals

      x : ℕ
      x = get_or f.universals i 0

      more : ProofLog
      more = with_entry log (Named v (Input (get_or f.universals i 0)))

      taken : take (i + 1) f.universals ≡ take i f.universals ++ get_or f.universals i 0 ∷ []
      taken = take_more f.universals i 0 below

      whole : AreInputs (take i f.universals ++ get_or f.universals i 0 ∷ []) (inputs ++ positive v ∷ [])
          (with_entry log (Named v (Input (get_or f.universals i 0)))).entries
      whole =
          let es = Named v (Input (get_or f.universals i 0)) ∷ log.entries in
          let g : ℕ → NamedLiteral = λ y. named_literal (Input y) false in
          let old' = named_stay log.entries es (name_stays_by log.entries v (Input (get_or f.universals i 0)) unnamed)
          inputs (map g (take i f.universals)) before.inputs_are in
          let here : name_literal es (positive v) ≡ Some (g (get_or f.universals i 0)) =
          ap (option_map (λ k. named_literal k false)) (cond-true (v == v) (Some (Input (get_or f.universals i 0)))
          (name_of log.entries v) (eq-eqb v v refl)) in
          map-append (name_literal es) inputs (positive v ∷ [])
          ∙ ap (λ xs. xs ++ name_literal es (positive v) ∷ []) old' ∙ ap
          (λ o. map Some (map g (take i f.universals)) ++ o ∷ []) here
          ∙ sym (map-append Some (map g (take i f.universals)) (g (get_or f.universals i 0) ∷ [])) ∙ ap (map Some)
          (sym (map-append g (take i f.universals) (get_or f.universals i 0 ∷ [])))

      by_name : (w y : ℕ) → ((w ≡ v) × (Input (get_or f.universals i 0) ≡ Input y)) ⊎
          (name_of log.entries w ≡ Some (Input y)) → Contains (take i f.universals ++ get_or f.universals i 0 ∷ []) y
      by_name w y (inl same) = let clash = same.1 in let is' : get_or f.universals i 0 ≡ y = cc in
          subst (Contains (take i f.universals ++ get_or f.universals i 0 ∷ [])) is'
          (Contains-push (take i f.universals) (get_or f.universals i 0))
      by_name w y (inr old') = Contains-append_left (take i f.universals) (get_or f.universals i 0 ∷ []) y
          (before.names w y old')

pub all_inputs : (f : Dqbf) (old log : ProofLog) (inputs : List Literal) (i : ℕ) → length f.universals ≤ i →
    InputsSoFar f old log inputs i → AreInputs f.universals inputs log.entries
all_inputs f old log inputs i most so_far = search (arith, take_past)

-- a checker without gates
pub new_checker : (f : Dqbf) (log new : ProofLog) (checker : Checker) → HasNoGates log.entries →
    AreInputs f.universals checker.inputs.items log.entries → IsMade new.entries checker.gates.group →
    name_of log.entries (variable_of checker.gates.group.selector) ≡ None →
    new ≡ with_entry log (Named (variable_of checker.gates.group.selector)
    (Selector (variable_of checker.gates.group.selector))) →
    checker.gates.variables.entries ≡ [] → checker.gates.earlier.items ≡ [] → checker.gates.unfinished ≡ None →
    Each IsGivenToGroup log.entries → IsChecker f checker new.entries
new_checker f log new checker none inputs made unnamed is empty alone ready grouped =
    record { gates = gates; inputs = kept; bads = bads } where
      entries_are : new.entries ≡ Named (variable_of checker.gates.group.selector)
          (Selector (variable_of checker.gates.group.selector)) ∷ log.entries
      entries_are = ap (λ (l : ProofLog). l.entries) is

      no_name : (v : ℕ) (a b : Literal) → name_of new.entries v ≡ Some (And a b) → ⊥
      no_name v a b named =
          elim (name_cases log.entries (variable_of checker.gates.group.selector) v
          (Selector (variable_of checker.gates.group.selector)) (And a b)
          (ap (λ es. name_of es v) (sym entries_are) ∙ named)) [
            | inl same ↦ (let clash = same.1 in cc)
            | inr old' ↦ none.unnamed v a b old'
          ]

      bads : (v group j : ℕ) → name_of new.entries v ≡ Some (Bad group j) → IsSome (name_of new.entries group)
      bads v group j named =
          elim (name_cases log.entries (variable_of checker.gates.group.selector) v
          (Selector (variable_of checker.gates.group.selector)) (Bad group j)
          (ap (λ es. name_of es v) (sym entries_are) ∙ named)) [
            | inl same ↦ (let clash = same.1 in cc)
            | inr old' ↦ absurd (none.no_bads v group j old')
          ]

      not_found : (p : ℕ × ℕ) (v : ℕ) → get pair_cmp checker.gates.variables p ≡ Some v → ⊥
      not_found p v found = let nothing : None ≡ Some v = ap (lookup (is_at (pair_cmp p))) (sym empty) ∙ found in cc

      only : (h : Group) → Contains (groups_of checker.gates) h → checker.gates.group ≡ h
      only h inside = elim (contains_cases checker.gates.group h [] (subst
          (λ gs. Contains (checker.gates.group ∷ gs) h) alone inside)) [
            | inl is ↦ is
            | inr (k, below, is) ↦ absurd (omega (arith, below))
          ]

      gates : AreKnown checker.gates new.entries
      gates = record {
        made = λ h inside. subst (IsMade new.entries) (only h inside) made;
        known = λ a b v named. absurd (no_name v a b named);
        sound = λ a b v found. absurd (not_found (literal_code a, literal_code b) v found);
        clauses = λ a b v found. absurd (not_found (literal_code a, literal_code b) v found);
        origins = λ v i c inside. elim (contains_cases (Named (variable_of checker.gates.group.selector)
            (Selector (variable_of checker.gates.group.selector))) (Given (Gate v i) c) log.entries
            (subst (λ es. Contains es (Given (Gate v i) c)) entries_are inside)) [
              | inl same ↦ cc
              | inr old' ↦ absurd (none.not_given v i c old')
            ];
        own = λ h inside. subst (λ (x : Group). Each (IsGateGiven (variable_of x.selector)) new.entries) (only h inside)
            (subst (Each (IsGateGiven (variable_of checker.gates.group.selector))) (sym entries_are)
            (tt, no_gates_given (variable_of checker.gates.group.selector) log.entries unnamed grouped));
        last = λ gate is. let clash : None ≡ Some gate = sym ready ∙ is in cc;
      }

      kept : AreInputs f.universals checker.inputs.items new.entries
      kept = subst (AreInputs f.universals checker.inputs.items) (sym entries_are)
          (named_stay log.entries (Named (variable_of checker.gates.group.selector)
          (Selector (variable_of checker.gates.group.selector)) ∷ log.entries)
          (name_stays_by log.entries (variable_of checker.gates.group.selector)
          (Selector (variable_of checker.gates.group.selector)) unnamed) checker.inputs.items
          (map (λ x. named_literal (Input x) false) f.universals) inputs)
