-- What was learned keeps the selectors of whatever it reaches.
use Rattle.std.proofs.Common.{◌≡◌, ◌≢◌, ℕ, ◌+◌, ◌==◌, ◌≤◌, true, cond, ◌&&◌, inl, inr, List, [], ◌∷◌, Option, None, Some, IsSome, is_some, Contains, refl, sym, ◌∙◌, ap, subst, arith}
use Rattle.std.specs.Option.{option_and_then}
use Rattle.std.proofs.lemmas.Bool.{cases_eq, eq-eqb, ne_eqb, false≢true, and_from}
use Rattle.list_laws.proofs.Options.{some_same}
use Rattle.list_laws.proofs.Members.{no_element}
use Rattle.dq_lits.specs.Literal.{Literal, negative, variable_of}
use Rattle.dq_lits.specs.Derivation.{holds}
use Rattle.dq_lits.proofs.HeldLiterals.{held_of_all, holds_here}
use Rattle.hint_log.specs.Entries.{Entry, Named, Given, Learned, Answer, Round, Begun, clause_at, clause_of, hints_at, hints_of, name_of, last_id, has_id, numbered}
use Rattle.hint_log.specs.Conditions.{MayFollow, AreNamed, AreIds, AreLogged}
use Rattle.hint_log.specs.Deciding.{HoldsSelectors, KeepsSelectors}
use Rattle.hint_log.specs.Reached.{Reaches, itself, by_hint}
use Rattle.hint_log.specs.Growth.{Each}
use Rattle.hint_log.specs.Naming.{is_selector, is_selector_name}
use Rattle.hint_log.specs.declared.names.Name.{Name}
use Rattle.hint_log.specs.declared.origins.Origin.{Origin}
use Rattle.oracle.specs.Fit.{HoldsHintedSelectors, KeepsHintedSelectors}
use Rattle.oracle.specs.Searched.{IsGivenToGroup, IsOfGroup}

-- an entry that has an id
module _ (es : List Entry) (e : Entry) (has : has_id e ≡ true) where
  at_new : (id : ℕ) → id ≡ last_id es + 1 → numbered has_id (e ∷ es) id ≡ Some e
  at_new id h = ap (λ b. cond b (Some e) (numbered has_id es id))
      (and_from (has_id e) (id == last_id es + 1) has (eq-eqb id (last_id es + 1) h))

  at_old : (id : ℕ) → id ≢ last_id es + 1 → numbered has_id (e ∷ es) id ≡ numbered has_id es id
  at_old id n =
      ap (λ b. cond (b && (id == last_id es + 1)) (Some e) (numbered has_id es id)) has
      ∙ ap (λ b. cond (true && b) (Some e) (numbered has_id es id)) (ne_eqb id (last_id es + 1) n)

-- an entry with an id stands on names, hints ids, and holds the selectors of what it hints
pub record IsHeld (es : List Entry) (e : Entry) : Type 0 where
  pub named : (c : List Literal) (l : Literal) → clause_of e ≡ Some c → holds c l ≡ true →
      IsSome (name_of es (variable_of l))
  pub ids : (h : ℕ) → Contains (hints_of e) h → h ≤ last_id es
  pub kept : (h : ℕ) (c d : List Literal) → Contains (hints_of e) h → clause_of e ≡ Some c → clause_at es h ≡ Some d →
      (l : Literal) → holds d l ≡ true
      → is_selector es (variable_of l) ≡ true → holds c l ≡ true

abbrev pub AllHeld : List Entry → Type 0
AllHeld es = (id : ℕ) (e : Entry) → numbered has_id es id ≡ Some e → IsHeld es e

entry_of : (es : List Entry) (id : ℕ) (c : List Literal) → clause_at es id ≡ Some c →
    (e : Entry) × (numbered has_id es id ≡ Some e) × (clause_of e ≡ Some c)
entry_of es id c at = by (numbered has_id es id) refl at
  where
    by : (o : Option Entry) → numbered has_id es id ≡ o → option_and_then clause_of o ≡ Some c →
        (e : Entry) × (numbered has_id es id ≡ Some e) × (clause_of e ≡ Some c)
    by None e h = let n : None ≡ Some c = h in cc
    by (Some x) e h = (x, e, h)

-- with an entry more that has an id
held_more : (es : List Entry) (e : Entry) → has_id e ≡ true → ((v : ℕ) → name_of (e ∷ es) v ≡ name_of es v)
    → ((c : List Literal) → clause_of e ≡ Some c → AreNamed es c) → AreIds es (hints_of e) →
    ((c : List Literal) → clause_of e ≡ Some c → HoldsHintedSelectors es c (hints_of e))
    → AllHeld es → AllHeld (e ∷ es)
held_more es e has names named ids kept before id x at = elim (cases_eq id (last_id es + 1)) [
  | inl h ↦
      let s : Some e ≡ Some x = sym (at_new es e has id h) ∙ at in
      let q : e ≡ x = cc in
      subst (IsHeld (e ∷ es)) q (record {
        named = λ c l is m. ap is_some (names (variable_of l)) ∙ held_of_all (λ k. IsSome (name_of es (variable_of k))) c
            (named c is) l m;
        ids = λ i k. let low = (ids i k).last in omega (arith, low, last);
        kept = λ i c d k is to l m sel. kept c is i k d (sym (older i (ids i k).last) ∙ to) l m
            (sym (ap is_selector_name (names (variable_of l))) ∙ sel);
      })
  | inr n ↦
      let b = before id x (sym (at_old es e has id n) ∙ at) in
      record {
        named = λ c l is m. ap is_some (names (variable_of l)) ∙ b.named c l is m;
        ids = λ i k. let low = b.ids i k in omega (arith, low, last);
        kept = λ i c d k is to l m sel. b.kept i c d k is (sym (older i (b.ids i k)) ∙ to) l m
            (sym (ap is_selector_name (names (variable_of l))) ∙ sel);
      }
]
  where
    last : last_id (e ∷ es) ≡ last_id es + 1
    last = ap (λ b. cond b (last_id es + 1) (last_id es)) has

    older : (i : ℕ) → i ≤ last_id es → clause_at (e ∷ es) i ≡ clause_at es i
    older i low = ap (option_and_then clause_of) (at_old es e has i (λ h. absurd (omega (arith, low, h))))

pub all_held : (es : List Entry) → Each MayFollow es → Each KeepsHintedSelectors es → AllHeld es
all_held [] lawful tied = λ id e at. let n : None ≡ Some e = at in cc
all_held (Named v name ∷ es) lawful tied =
    let before = all_held es lawful.1 tied.1 in
    λ id x at.
    let b = before id x at in
    record {
      named = λ c l is m. still (variable_of l) (b.named c l is m);
      ids = b.ids;
      kept = λ h c d k is to l m sel.
          let e = entry_of es h d to in
          let some = (before h e.0 e.1).named d l e.2 m in
          b.kept h c d k is to l m (sym (ap is_selector_name (same (variable_of l) some)) ∙ sel);
    }
  where
    same : (w : ℕ) → IsSome (name_of es w) → name_of (Named v name ∷ es) w ≡ name_of es w
    same w some = ap (λ b. cond b (Some name) (name_of es w))
        (ne_eqb w v (λ e. false≢true (sym (ap is_some (ap (name_of es) e ∙ lawful.0.unnamed)) ∙ some)))

    still : (w : ℕ) → IsSome (name_of es w) → IsSome (name_of (Named v name ∷ es) w)
    still w some = ap is_some (same w some) ∙ some
all_held (Given o c ∷ es) lawful tied =
    held_more es (Given o c) refl (λ v. refl) (λ d is. let q : c ≡ d = some_same c d is in
    subst (AreNamed es) q lawful.0) (λ h k. absurd (no_element h k))
    (λ d is h k. absurd (no_element h k)) (all_held es lawful.1 tied.1)
all_held (Learned c hs ∷ es) lawful tied =
    held_more es (Learned c hs) refl (λ v. refl) (λ d is. let q : c ≡ d = some_same c d is in
    subst (AreNamed es) q lawful.0.0) lawful.0.1
    (λ d is. let q : c ≡ d = some_same c d is in subst (λ x. HoldsHintedSelectors es x hs) q tied.0)
    (all_held es lawful.1 tied.1)
all_held (Answer c hs ∷ es) lawful tied =
    held_more es (Answer c hs) refl (λ v. refl) (λ d is. let q : c ≡ d = some_same c d is in
    subst (AreNamed es) q lawful.0.0) lawful.0.1
    (λ d is. let q : c ≡ d = some_same c d is in subst (λ x. HoldsHintedSelectors es x hs) q tied.0)
    (all_held es lawful.1 tied.1)
all_held (_ ∷ es) lawful tied =
    let before = all_held es lawful.1 tied.1 in
    λ id x at. let b = before id x at in record { named = b.named; ids = b.ids; kept = b.kept }

-- a hinted clause's selectors are the clause's
hinted : (es : List Entry) → AllHeld es → (at hint : ℕ) (hints : List ℕ) (d : List Literal) →
    hints_at es at ≡ Some hints → Contains hints hint → clause_at es hint ≡ Some d
    → (c : List Literal) × (clause_at es at ≡ Some c) × ((l : Literal) → holds d l ≡ true →
    is_selector es (variable_of l) ≡ true → holds c l ≡ true)
hinted es held at hint hints d hat has to = by (numbered has_id es at) refl hat
  where
    of_entry : (e : Entry) → numbered has_id es at ≡ Some e → hints_of e ≡ hints →
        (c : List Literal) × (clause_at es at ≡ Some c) × ((l : Literal) → holds d l ≡ true →
        is_selector es (variable_of l) ≡ true → holds c l ≡ true)
    of_entry (Learned c hs) e is = (
      c,
      ap (option_and_then clause_of) e,
      λ l m sel. (held at (Learned c hs) e).kept hint c d (subst (λ xs. Contains xs hint) (sym is) has) refl to
          l m sel,
    )
    of_entry (Answer c hs) e is = (
      c,
      ap (option_and_then clause_of) e,
      λ l m sel. (held at (Answer c hs) e).kept hint c d (subst (λ xs. Contains xs hint) (sym is) has) refl to
          l m sel,
    )
    of_entry _ e is = absurd (no_element hint (subst (λ hs. Contains hs hint) (sym is) has))

    by : (o : Option Entry) → numbered has_id es at ≡ o → option_and_then (λ x. Some (hints_of x)) o ≡ Some hints
        → (c : List Literal) × (clause_at es at ≡ Some c) × ((l : Literal) → holds d l ≡ true →
        is_selector es (variable_of l) ≡ true → holds c l ≡ true)
    by None e h = let n : None ≡ Some hints = h in cc
    by (Some x) e h = of_entry x e (let s : Some (hints_of x) ≡ Some hints = h in some_same (hints_of x) hints s)

-- whatever an id reaches, its clause holds the selectors of that
along : (es : List Entry) → AllHeld es → (id reached : ℕ) → Reaches es id reached → (d : List Literal) →
    clause_at es reached ≡ Some d
    → (l : Literal) → holds d l ≡ true → is_selector es (variable_of l) ≡ true →
    (c : List Literal) × (clause_at es id ≡ Some c) × (holds c l ≡ true)
along es held id _ itself d to l m sel = (d, to, m)
along es held id _ (by_hint mid hint hints r hat has) d to l m sel =
    let k = hinted es held mid hint hints d hat has to in
    along es held id mid r k.0 k.1 l (k.2 l m sel) sel

-- a given clause's group is a selector from then on
abbrev pub GivenToSelectors : List Entry → Type 0
GivenToSelectors es = (id : ℕ) (o : Origin) (g : ℕ) (rest : List Literal) →
    numbered has_id es id ≡ Some (Given o (negative g ∷ rest)) → is_selector es g ≡ true

first_literal : (g h : ℕ) (rest more : List Literal) → negative g ∷ rest ≡ negative h ∷ more → g ≡ h
first_literal g h rest more is = cc

selector_stays : (es : List Entry) (v : ℕ) (name : Name) (g : ℕ) → name_of es v ≡ None → is_selector es g ≡ true →
    is_selector (Named v name ∷ es) g ≡ true
selector_stays es v name g unnamed is = elim (cases_eq g v) [
  | inl e ↦ absurd (false≢true (sym (ap is_selector_name (ap (name_of es) e ∙ unnamed)) ∙ is))
  | inr n ↦ ap (λ b. is_selector_name (cond b (Some name) (name_of es g))) (ne_eqb g v n) ∙ is
]

given_here : (es : List Entry) (o p : Origin) (c : List Literal) (g : ℕ) (rest : List Literal) → IsOfGroup es c →
    Given o c ≡ Given p (negative g ∷ rest) → is_selector es g ≡ true
given_here es o p c g rest of is =
    let same : c ≡ negative g ∷ rest = cc in
    let first : g ≡ of.group = first_literal g of.group rest of.rest (sym same ∙ of.clause_is) in
    ap (is_selector es) first ∙ ap is_selector_name of.named

-- with an entry more that has an id
given_more : (es : List Entry) (e : Entry) → has_id e ≡ true →
    ((o : Origin) (g : ℕ) (rest : List Literal) → e ≡ Given o (negative g ∷ rest) → is_selector es g ≡ true)
    → ((v : ℕ) → name_of (e ∷ es) v ≡ name_of es v) → GivenToSelectors es → GivenToSelectors (e ∷ es)
given_more es e has here names before id o g rest at = ap is_selector_name (names g) ∙ elim
    (cases_eq id (last_id es + 1)) [
      | inl h ↦ here o g rest (some_same e (Given o (negative g ∷ rest)) (sym (at_new es e has id h) ∙ at))
      | inr n ↦ before id o g rest (sym (at_old es e has id n) ∙ at)
    ]

given_to_selectors : (es : List Entry) → AreLogged es → Each IsGivenToGroup es → GivenToSelectors es
given_to_selectors [] logged grouped = λ id o g rest at. let n : None ≡ Some (Given o (negative g ∷ rest)) = at in cc
given_to_selectors (Named v name ∷ es) logged grouped = λ id o g rest at. selector_stays es v name g logged.0.unnamed
    (given_to_selectors es logged.1 grouped.1 id o g rest at)
given_to_selectors (Given o c ∷ es) logged grouped = given_more es (Given o c) refl
    (λ p g rest is. given_here es o p c g rest grouped.0 is) (λ v. refl) (given_to_selectors es logged.1 grouped.1)
given_to_selectors (Round r vs j ∷ es) logged grouped = given_to_selectors es logged.1 grouped.1
given_to_selectors (Begun live ∷ es) logged grouped = given_to_selectors es logged.1 grouped.1
given_to_selectors (e ∷ es) logged grouped = given_more es e refl (λ p g rest is. cc) (λ v. refl)
    (given_to_selectors es logged.1 grouped.1)

-- an entry that holds the selectors of what it hints holds those of whatever it reaches
pub holds_reached : (es : List Entry) (c : List Literal) (hs : List ℕ) → AreLogged es → Each IsGivenToGroup es →
    Each KeepsHintedSelectors es → HoldsHintedSelectors es c hs → HoldsSelectors es c hs
holds_reached es c hs logged grouped kept here o g rest r =
    let sel = given_to_selectors es logged grouped r.id o g rest r.is_given in
    let start = along es (all_held es logged kept) r.hint r.id r.reached (negative g ∷ rest)
    (ap (option_and_then clause_of) r.is_given) (negative g) (holds_here (negative g) rest) sel in
    here r.hint r.hinted start.0 start.1 (negative g) start.2 sel

pub kept_along : (es : List Entry) → AreLogged es → Each IsGivenToGroup es → Each KeepsHintedSelectors es →
    KeepsSelectors es
kept_along [] logged grouped kept = tt
kept_along (Learned c hs ∷ es) logged grouped kept = (
  holds_reached es c hs logged.1 grouped.1 kept.1 kept.0,
  kept_along es logged.1 grouped.1 kept.1,
)
kept_along (Answer c hs ∷ es) logged grouped kept = (
  holds_reached es c hs logged.1 grouped.1 kept.1 kept.0,
  kept_along es logged.1 grouped.1 kept.1,
)
kept_along (_ ∷ es) logged grouped kept = (tt, kept_along es logged.1 grouped.1 kept.1)
