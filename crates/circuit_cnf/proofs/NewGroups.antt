-- Gates go to a new group.
use Rattle.std.proofs.Common.{◌≡◌, ℕ, ◌⊎◌, inl, inr, List, [], ◌∷◌, ◌++◌, Some, None, refl, sym, ◌∙◌, ap, subst}
use Rattle.std.specs.List.{Contains}
use Rattle.std.specs.BTreeMap.{get}
use Rattle.std.proofs.lemmas.List.Elements.{Contains-append_left, Contains-push, Contains-push_cases}
use Rattle.list_laws.proofs.Members.{contains_first, contains_later, contains_cases}
use Rattle.dq_lits.specs.Literal.{variable_of, literal_code}
use Rattle.hint_log.specs.Entries.{Entry, Named, ProofLog, name_of, with_entry}
use Rattle.hint_log.specs.Growth.{Each}
use Rattle.hint_log.specs.declared.names.Name.TheVariants.{Selector}
use Rattle.oracle.specs.Calls.{IsMade}
use Rattle.oracle.specs.Searched.{IsGivenToGroup}
use Rattle.oracle.specs.declared.groups.Group.{Group}
use Rattle.circuit_cnf.specs.declared.gates.Gates.{Gates}
use Rattle.circuit_cnf.specs.Gates.{pair_cmp, groups_of, AreKnown, HasBegunGroup, IsGateGiven}
use Rattle.circuit_cnf.proofs.EmptyGroups.{no_gates_given}
use Rattle.circuit_cnf.proofs.KnownGates.{LeavesGates, known_stay}
use Rattle.circuit_cnf.proofs.UnchangedCheckers.{leaves_elsewhere}

module _ (xs : List Group) (y g : Group) where
  in_new : (h : Group) → Contains (g ∷ (xs ++ (y ∷ []))) h → (g ≡ h) ⊎ Contains (y ∷ xs) h
  in_new h inside = elim (contains_cases g h (xs ++ (y ∷ [])) inside) [
    | inl is ↦ inl is
    | inr later ↦ inr (elim (Contains-push_cases xs y h later) [
      | inl there ↦ contains_later y h xs there
      | inr is ↦ subst (Contains (y ∷ xs)) is (contains_first y xs)
    ])
  ]

  still_in : (h : Group) → Contains (y ∷ xs) h → Contains (g ∷ (xs ++ (y ∷ []))) h
  still_in h inside = contains_later g h (xs ++ (y ∷ [])) (elim (contains_cases y h xs inside) [
    | inl is ↦ subst (Contains (xs ++ (y ∷ []))) is (Contains-push xs y)
    | inr there ↦ Contains-append_left xs (y ∷ []) h there
  ])

-- other groups, which have the clauses of all gates
other_gates : (gates after : Gates) (es : List Entry) → after.variables ≡ gates.variables → after.unfinished ≡ None →
    gates.unfinished ≡ None → AreKnown gates es → ((h : Group) → Contains (groups_of after) h → IsMade es h) →
    ((h : Group) → Contains (groups_of after) h → Each (IsGateGiven (variable_of h.selector)) es) →
    ((h : Group) → Contains (groups_of gates) h → Contains (groups_of after) h) → AreKnown after es
other_gates gates after es same after_ready ready before made own kept = record {
  made = made;
  known = λ a b v is. elim (before.known a b v is) [
    | inl found ↦ inl (found_same (literal_code a, literal_code b) ∙ found)
    | inr last ↦ (let clash : None ≡ Some last.0 = sym ready ∙ last.1 in cc)
  ];
  sound = λ a b v found. before.sound a b v (sym (found_same (literal_code a, literal_code b)) ∙ found);
  clauses = λ a b v found. let have = before.clauses a b v (sym (found_same (literal_code a, literal_code b)) ∙ found) in
      (have.0, kept have.0 have.1, have.2);
  origins = before.origins;
  own = own;
  last = λ gate is. let clash : None ≡ Some gate = sym after_ready ∙ is in cc;
} where
  found_same : (q : ℕ × ℕ) → get pair_cmp after.variables q ≡ get pair_cmp gates.variables q
  found_same q = ap (λ m. get pair_cmp m q) same

-- the log names a group, and gates stay where they are
module _ (gates : Gates) (old : ProofLog) (new : ProofLog) (g : Group) (known : AreKnown gates old.entries)
    (ready : gates.unfinished ≡ None) (unnamed : name_of old.entries (variable_of g.selector) ≡ None)
    (made : IsMade new.entries g)
    (is : new ≡ with_entry old (Named (variable_of g.selector) (Selector (variable_of g.selector)))) where
  abbrev sel : ℕ
  sel = variable_of g.selector

  entries_are : new.entries ≡ Named sel (Selector sel) ∷ old.entries
  entries_are = ap (λ (l : ProofLog). l.entries) is

  leaves : LeavesGates gates old.entries new.entries
  leaves = subst (LeavesGates gates old.entries) (sym entries_are)
      (leaves_elsewhere gates old.entries (Named sel (Selector sel)) (unnamed, refl))

  known_still : AreKnown gates new.entries
  known_still = known_stay gates old.entries new.entries leaves known

  -- where memory was refused then
  pub named_alone : (after : Gates) → after.group ≡ gates.group → after.earlier.items ≡ gates.earlier.items →
      after.variables ≡ gates.variables → after.unfinished ≡ gates.unfinished → HasBegunGroup gates after old new
  named_alone after group earlier variables unfinished = record {
    known = other_gates gates after new.entries variables (unfinished ∙ ready) ready known_still
        (λ h inside. known_still.made h (was h inside)) (λ h inside. known_still.own h (was h inside)) kept;
    ready = unfinished ∙ ready;
    kept = kept;
    fresh = λ h inside. inl (was h inside);
    group = inl group;
    log = inr (sel, unnamed, is);
  } where
    groups_same : groups_of after ≡ groups_of gates
    groups_same = ap (λ h. h ∷ after.earlier.items) group ∙ ap (λ hs. gates.group ∷ hs) earlier

    was : (h : Group) → Contains (groups_of after) h → Contains (groups_of gates) h
    was h = subst (λ gs. Contains gs h) groups_same

    kept : (h : Group) → Contains (groups_of gates) h → Contains (groups_of after) h
    kept h = subst (λ gs. Contains gs h) (sym groups_same)

  -- or go to the group
  pub group_begun : (after : Gates) → Each IsGivenToGroup old.entries → after.group ≡ g →
      after.earlier.items ≡ gates.earlier.items ++ (gates.group ∷ []) →
      after.variables ≡ gates.variables → after.unfinished ≡ gates.unfinished → HasBegunGroup gates after old new
  group_begun after grouped group earlier variables unfinished = record {
    known = other_gates gates after new.entries variables (unfinished ∙ ready) ready known_still
        (λ h inside. elim (cases h inside) [
          | inl here ↦ subst (IsMade new.entries) here made
          | inr there ↦ known_still.made h there
        ])
        (λ h inside. elim (cases h inside) [
          | inl here ↦ subst (λ (x : Group). Each (IsGateGiven (variable_of x.selector)) new.entries) here own_new
          | inr there ↦ known_still.own h there
        ])
        kept;
    ready = unfinished ∙ ready;
    kept = kept;
    fresh = λ h inside. elim (cases h inside) [
      | inl here ↦ inr (subst (λ (x : Group). name_of old.entries (variable_of x.selector) ≡ None) here unnamed)
      | inr there ↦ inl there
    ];
    group = inr (subst (λ (x : Group). name_of old.entries (variable_of x.selector) ≡ None) (sym group) unnamed);
    log = inr (sel, unnamed, is);
  } where
    groups_are : groups_of after ≡ g ∷ (gates.earlier.items ++ (gates.group ∷ []))
    groups_are = ap (λ h. h ∷ after.earlier.items) group ∙ ap (λ hs. g ∷ hs) earlier

    cases : (h : Group) → Contains (groups_of after) h → (g ≡ h) ⊎ Contains (groups_of gates) h
    cases h inside = in_new gates.earlier.items gates.group g h (subst (λ gs. Contains gs h) groups_are inside)

    kept : (h : Group) → Contains (groups_of gates) h → Contains (groups_of after) h
    kept h inside = subst (λ gs. Contains gs h) (sym groups_are) (still_in gates.earlier.items gates.group g h inside)

    own_new : Each (IsGateGiven (variable_of g.selector)) new.entries
    own_new = subst (Each (IsGateGiven (variable_of g.selector))) (sym entries_are)
        (tt, no_gates_given (variable_of g.selector) old.entries unnamed grouped)

-- where no group could be made
pub none_begun : (gates after : Gates) (old new : ProofLog) → AreKnown gates old.entries → gates.unfinished ≡ None →
    after ≡ gates → new ≡ old → HasBegunGroup gates after old new
none_begun gates after old new known ready same is =
    subst (λ (x : Gates). HasBegunGroup gates x old new) (sym same) (subst (HasBegunGroup gates gates old) (sym is) (record {
      known = known;
      ready = ready;
      kept = λ h inside. inside;
      fresh = λ h inside. inl inside;
      group = inl refl;
      log = inl refl;
    }))
