-- What is known of gates, with one gate more.
use Rattle.std.proofs.Common.{◌≡◌, ◌≤◌, ℕ, ◌+◌, ◌<◌, ◌==◌, Bool, true, false, cond, inl, inr, ◌⊎◌, List, [], ◌∷◌, Option, Some, None, IsSome, refl, sym, ◌∙◌, ap, subst, arith, BTreeMap}
use Rattle.std.specs.List.{Contains}
use Rattle.std.specs.BTreeMap.{get, is_at}
use Rattle.std.specs.Map.{lookup}
use Rattle.std.specs.Ordering.{is_eq}
use Rattle.std.proofs.lemmas.Bool.{eqb-true, eq-eqb, false≢true, cond-true, cond-false}
use Rattle.list_laws.proofs.Numbers.{below_or_here, equal_pairs}
use Rattle.list_laws.proofs.Members.{contains_later, contains_first, contains_cases}
use Rattle.dq_lits.specs.Literal.{Literal, negative, variable_of, literal_code}
use Rattle.hint_log.specs.Entries.{Entry, Named, Given, name_of}
use Rattle.hint_log.specs.declared.names.Name.{Name}
use Rattle.hint_log.specs.declared.names.Name.TheVariants.{And, Bad}
use Rattle.hint_log.specs.declared.origins.Origin.TheVariants.{Gate}
use Rattle.hint_log.specs.Conditions.{AreLogged}
use Rattle.oracle.specs.Calls.{IsMade}
use Rattle.oracle.specs.declared.groups.Group.{Group}
use Rattle.oracle.proofs.MadeGroups.{made_stays}
use Rattle.hint_log.specs.Growth.{Each}
use Rattle.hint_log.specs.Origins.{gate_rest}
use Rattle.log_laws.proofs.Kept.{NamesStay, name_stays_by, name_cases, some_stays}
use Rattle.circuit_cnf.specs.declared.gates.Gates.{Gates}
use Rattle.circuit_cnf.specs.declared.gates.Unfinished.{Unfinished}
use Rattle.circuit_cnf.specs.Gates.{pair_cmp, groups_of, HasClauses, HasGateClauses, IsGateClause, IsGateGiven, IsUnfinished, AreKnown}

not_some : (o : Option Name) → o ≡ None → IsSome o → ⊥
not_some None none some = absurd (false≢true some)
not_some (Some n) none some = cc

-- a variable without a name is no gate's
pub none_given : (es : List Entry) (v i : ℕ) (a b : Literal) (c : List Literal) →
    ((w k : ℕ) (d : List Literal) → Contains es (Given (Gate w k) d) → IsSome (name_of es w)) → name_of es v ≡ None →
    Contains (Named v (And a b) ∷ es) (Given (Gate v i) c) → ⊥
none_given es v i a b c of_gates unnamed inside = elim (contains_cases (Named v (And a b))
    (Given (Gate v i) c) es inside) [
      | inl is ↦ cc
      | inr old ↦ not_some (name_of es v) unnamed (of_gates v i c old)
    ]

-- what a gate's call begins with: a name, and no clause
abbrev pub unfinished_gate : ℕ → Literal → Literal → ℕ → Unfinished
unfinished_gate v a b parts = record { left = a; right = b; variable = v; parts = parts }

no_part : (v : ℕ) (a b : Literal) (rest : List Literal) → gate_rest v a b 0 ≡ Some rest → ⊥
no_part v a b rest is = cc

-- clauses stay as logs grow
clauses_stay : (old new : List Entry) → ((x : Entry) → Contains old x → Contains new x) →
    (group v : ℕ) (a b : Literal) (parts : ℕ) → HasGateClauses old group v a b parts →
    HasGateClauses new group v a b parts
clauses_stay old new more group v a b parts have i rest most is = search arith

have_stay : (old new : List Entry) → ((x : Entry) → Contains old x → Contains new x) → (groups : List Group) (v : ℕ)
    (a b : Literal) → HasClauses old groups v a b → HasClauses new groups v a b
have_stay old new more groups v a b have = (
  have.0,
  have.1,
  clauses_stay old new more (variable_of have.0.selector) v a b 3 have.2,
)

-- a gate's name more
pub named_more : (gates : Gates) (es : List Entry) (v : ℕ) (a b : Literal) → AreKnown gates es →
    gates.unfinished ≡ None → name_of es v ≡ None →
    get pair_cmp gates.variables (literal_code a, literal_code b) ≡ None →
    AreKnown (record gates { unfinished = Some (unfinished_gate v a b 0) }) (Named v (And a b) ∷ es)
named_more gates es v a b before ready unnamed none = record {
  made = λ h inside. made_stays es (Named v (And a b) ∷ es) h stay (before.made h inside);
  known = λ c d w is. elim (name_cases es v w (And a b) (And c d) is) [
    | inl here ↦ inr (unfinished_gate v a b 0, refl, sym here.0)
    | inr old ↦ search arith
  ];
  sound = λ c d w found. stay w (And c d) (before.sound c d w found);
  clauses = λ c d w found. have_stay es (Named v (And a b) ∷ es) more (groups_of gates) w c d (before.clauses c d w found);
  origins = λ w i c inside. elim (contains_cases (Named v (And a b)) (Given (Gate w i) c) es inside)
      [ inl is ↦ cc | inr old ↦ some_stays es (Named v (And a b) ∷ es) stay w (before.origins w i c old) ];
  own = λ h inside. (tt, before.own h inside);
  last = λ gate is. let same : unfinished_gate v a b 0 ≡ gate = cc in
      subst (IsUnfinished (record gates { unfinished = Some (unfinished_gate v a b 0) }) (Named v (And a b) ∷ es)) same
      (record {
        named = cond-true (v == v) (Some (And a b)) (name_of es v) (eq-eqb v v refl);
        few = omega arith;
        given = λ i rest most is. let zero : i ≡ 0 = omega (arith, most) in
            absurd (no_part v a b rest (ap (gate_rest v a b) (sym zero) ∙ is));
        missing = λ i c above inside. none_given es v i a b c before.origins unnamed inside;
        unknown = none;
      });
} where
  stay : NamesStay es (Named v (And a b) ∷ es)
  stay = name_stays_by es v (And a b) unnamed

  more : (x : Entry) → Contains es x → Contains (Named v (And a b) ∷ es) x
  more x inside = contains_later (Named v (And a b)) x es inside

gate_clause : (gates : Gates) (es : List Entry) (gate : Unfinished) (part : ℕ) (rest : List Literal) →
    AreKnown gates es → name_of es gate.variable ≡ Some (And gate.left gate.right) →
    gate_rest gate.variable gate.left gate.right part ≡ Some rest →
    IsGateClause es (Gate gate.variable part) (negative (variable_of gates.group.selector) ∷ rest)
gate_clause gates es gate part rest before named is f =
    let made = before.made gates.group (contains_first gates.group gates.earlier.items) in
    search arith

abbrev with_parts : Gates → Unfinished → ℕ → Gates
with_parts gates gate parts = record gates { unfinished = Some (record gate { parts = parts }) }

-- a clause of it more
pub part_more : (gates : Gates) (es : List Entry) (gate : Unfinished) (parts : ℕ) (rest : List Literal) →
    AreKnown gates es → gates.unfinished ≡ Some (record gate { parts = parts }) → parts < 3 →
    gate_rest gate.variable gate.left gate.right (parts + 1) ≡ Some rest →
    AreKnown (with_parts gates gate (parts + 1)) (Given (Gate gate.variable (parts + 1))
    (negative (variable_of gates.group.selector) ∷ rest) ∷ es)
part_more gates es gate parts rest before is_last below rest_is = record {
  made = λ h inside. record { positive = (before.made h inside).positive; named = (before.made h inside).named };
  known = search arith;
  sound = before.sound;
  clauses = λ c d w found. have_stay es (e ∷ es) more (groups_of gates) w c d (before.clauses c d w found);
  origins = λ w i c inside. elim (contains_cases e (Given (Gate w i) c) es inside) [
    | inl is ↦ (let same : gate.variable ≡ w = cc in subst (λ x. IsSome (name_of es x)) same
        (subst IsSome (sym here.named) refl))
    | inr old ↦ before.origins w i c old
  ];
  own = λ h inside. ((λ there. gate_clause gates es gate (parts + 1) rest before here.named rest_is), before.own h inside);
  last = λ u is. let same : record gate { parts = parts + 1 } ≡ u = cc in
      subst (IsUnfinished (with_parts gates gate (parts + 1)) (e ∷ es)) same (record {
        named = here.named;
        few = omega (arith, below);
        given = λ i tail most is. given i tail is (below_or_here i (parts + 1)
            (let m : i < parts + 1 + 1 = omega (arith, most) in m));
        missing = λ i c above inside. elim (contains_cases e (Given (Gate gate.variable i) c) es inside) [
          | inl is ↦ (let same : parts + 1 ≡ i = cc in absurd (omega (arith, same, above)))
          | inr old ↦ here.missing i c (omega (arith, above)) old
        ];
        unknown = here.unknown;
      });
} where
  group : ℕ
  group = variable_of gates.group.selector

  e : Entry
  e = Given (Gate gate.variable (parts + 1)) (negative (variable_of gates.group.selector) ∷ rest)

  here : IsUnfinished gates es (record gate { parts = parts })
  here = before.last (record gate { parts = parts }) is_last

  more : (x : Entry) → Contains es x → Contains (e ∷ es) x
  more x inside = contains_later e x es inside

  given : (i : ℕ) (tail : List Literal) → gate_rest gate.variable gate.left gate.right i ≡ Some tail →
      (i < parts + 1) ⊎ (i ≡ parts + 1) → Contains (e ∷ es) (Given (Gate gate.variable i) (negative group ∷ tail))
  given i tail is (inl earlier) = more (Given (Gate gate.variable i) (negative group ∷ tail))
      (here.given i tail (omega (arith, earlier)) is)
  given i tail is (inr now) =
      let both : Some tail ≡ Some rest = sym is ∙ ap (gate_rest gate.variable gate.left gate.right) now ∙ rest_is in
      let same : tail ≡ rest = cc in
      subst (λ k. Contains (e ∷ es) (Given (Gate gate.variable k) (negative group ∷ tail))) (sym now)
      (subst (λ t. Contains (e ∷ es) (Given (Gate gate.variable (parts + 1)) (negative group ∷ t))) (sym same)
      (contains_first e es))

-- it is known by its sides
pub finished : (gates : Gates) (new : Gates) (es : List Entry) (gate : Unfinished) → AreKnown gates es →
    gates.unfinished ≡ Some gate → gate.parts ≡ 3 → groups_of new ≡ groups_of gates → new.unfinished ≡ None →
    ((q : ℕ × ℕ) → get pair_cmp new.variables q ≡ cond (is_eq
    (pair_cmp (literal_code gate.left, literal_code gate.right) q)) (Some gate.variable)
    (get pair_cmp gates.variables q)) → AreKnown new es
finished gates new es gate before is_last all groups_same ready updates = record {
  made = subst (λ gs. (h : Group) → Contains gs h → IsMade es h) (sym groups_same) before.made;
  known = λ c d w is. elim (before.known c d w is) [
    | inl found ↦ inl (old_found c d w found (is_eq (pair_cmp key (literal_code c, literal_code d))) refl)
    | inr last ↦ (let both : Some gate ≡ Some last.0 = sym is_last ∙ last.1 in let same : gate ≡ last.0 = cc in
        let variable : gate.variable ≡ w = ap (λ (u : Unfinished). u.variable) same ∙ last.2 in
        let names : Some (And gate.left gate.right) ≡ Some (And c d) = sym here.named ∙ ap (name_of es) variable ∙ is in
        let left : gate.left ≡ c = cc in let right : gate.right ≡ d = cc in
        inl (subst (λ x. get pair_cmp new.variables (literal_code x, literal_code d) ≡ Some w) left
        (subst (λ x. get pair_cmp new.variables (literal_code gate.left, literal_code x) ≡ Some w) right
        (found_here ∙ ap Some variable))))
  ];
  sound = λ c d w found. elim (cases_found c d w found) [
    | inl now ↦ (let names = here.named in subst (λ x. name_of es w ≡ Some (And x d)) now.1
        (subst (λ x. name_of es w ≡ Some (And gate.left x)) now.2
        (subst (λ x. name_of es x ≡ Some (And gate.left gate.right)) now.0 names)))
    | inr old ↦ before.sound c d w old
  ];
  clauses = λ c d w found. subst (λ gs. HasClauses es gs w c d) (sym groups_same)
      (elim (cases_found c d w found) [
        | inl now ↦ (let given = subst (HasGateClauses es (variable_of gates.group.selector) gate.variable gate.left
            gate.right) all here.given in (
              gates.group,
              contains_first gates.group gates.earlier.items,
              subst (λ x. HasGateClauses es (variable_of gates.group.selector) w x d 3) now.1
                  (subst (λ x. HasGateClauses es (variable_of gates.group.selector) w gate.left x 3) now.2
                  (subst (λ x. HasGateClauses es (variable_of gates.group.selector) x gate.left gate.right 3) now.0 given)),
            ))
        | inr old ↦ before.clauses c d w old
      ]);
  origins = before.origins;
  own = subst (λ gs. (h : Group) → Contains gs h → Each (IsGateGiven (variable_of h.selector)) es) (sym groups_same)
      before.own;
  last = λ u is. let none : None ≡ Some u = sym ready ∙ is in cc;
} where
  key : ℕ × ℕ
  key = (literal_code gate.left, literal_code gate.right)

  here : IsUnfinished gates es gate
  here = before.last gate is_last

  found_here : get pair_cmp new.variables (literal_code gate.left, literal_code gate.right) ≡ Some gate.variable
  found_here = search (arith, cond-true)

  old_found : (c d : Literal) (w : ℕ) → get pair_cmp gates.variables (literal_code c, literal_code d) ≡ Some w →
      (e : Bool) → is_eq (pair_cmp key (literal_code c, literal_code d)) ≡ e →
      get pair_cmp new.variables (literal_code c, literal_code d) ≡ Some w
  old_found c d w found true e = search (arith, equal_pairs)
  old_found c d w found false e = search (arith, cond-false)

  cases_found : (c d : Literal) (w : ℕ) → get pair_cmp new.variables (literal_code c, literal_code d) ≡ Some w →
      ((gate.variable ≡ w) × (gate.left ≡ c) × (gate.right ≡ d)) ⊎
      (get pair_cmp gates.variables (literal_code c, literal_code d) ≡ Some w)
  cases_found c d w found = search (arith, equal_pairs)

-- a map with the same entries, as a refused call leaves it
pub known_as_before : (gates : Gates) (variables : BTreeMap (ℕ × ℕ) ℕ) (es : List Entry) → AreKnown gates es →
    variables.entries ≡ gates.variables.entries → AreKnown (record gates { variables = variables }) es
known_as_before gates variables es before same = record {
  made = before.made;
  known = search (arith, found_same);
  sound = λ a b v found. before.sound a b v (sym (found_same (literal_code a, literal_code b)) ∙ found);
  clauses = λ a b v found. before.clauses a b v (sym (found_same (literal_code a, literal_code b)) ∙ found);
  origins = before.origins;
  own = before.own;
  last = λ gate is. let h = before.last gate is in record {
    named = h.named;
    few = h.few;
    given = h.given;
    missing =
        h.missing;
    unknown = found_same (literal_code gate.left, literal_code gate.right) ∙ h.unknown;
  };
} where
  found_same : (q : ℕ × ℕ) → get pair_cmp variables q ≡ get pair_cmp gates.variables q
  found_same q = ap (lookup (is_at (pair_cmp q))) same

-- no gate is named, none is given but with its name, and names stay
pub record LeavesGates (gates : Gates) (old new : List Entry) : Type 0 where
  pub stay : NamesStay old new
  pub ands : (v : ℕ) (a b : Literal) → name_of new v ≡ Some (And a b) → name_of old v ≡ Some (And a b)
  pub bads : (v group j : ℕ) → name_of new v ≡ Some (Bad group j) →
      (name_of old v ≡ Some (Bad group j)) ⊎ IsSome (name_of new group)
  pub more : (x : Entry) → Contains old x → Contains new x
  pub origins : (v i : ℕ) (c : List Literal) → Contains new (Given (Gate v i) c) →
      Contains old (Given (Gate v i) c) ⊎ IsSome (name_of new v)
  pub own : (h : Group) → Contains (groups_of gates) h → Each (IsGateGiven (variable_of h.selector)) old →
      Each (IsGateGiven (variable_of h.selector)) new
  pub missing : (gate : Unfinished) → gates.unfinished ≡ Some gate → (i : ℕ) (c : List Literal) →
      Contains new (Given (Gate gate.variable i) c) → Contains old (Given (Gate gate.variable i) c)

pub known_stay : (gates : Gates) (old new : List Entry) → LeavesGates gates old new → AreKnown gates old →
    AreKnown gates new
known_stay gates old new leaves before = record {
  made = λ h inside. made_stays old new h leaves.stay (before.made h inside);
  known = λ a b v is. before.known a b v (leaves.ands v a b is);
  sound = λ a b v found. leaves.stay v (And a b) (before.sound a b v found);
  clauses = λ a b v found. have_stay old new leaves.more (groups_of gates) v a b (before.clauses a b v found);
  origins = λ v i c inside. elim (leaves.origins v i c inside)
      [ inl was ↦ some_stays old new leaves.stay v (before.origins v i c was) | inr some ↦ some ];
  own = λ h inside. leaves.own h inside (before.own h inside);
  last = λ gate is. let h = before.last gate is in record {
    named = leaves.stay gate.variable (And gate.left gate.right) h.named;
    few = h.few;
    given = clauses_stay old new leaves.more (variable_of gates.group.selector) gate.variable gate.left gate.right
        gate.parts h.given;
    missing = λ i c above inside. h.missing i c above (leaves.missing gate is i c inside);
    unknown = h.unknown;
  };
}

abbrev pair : ℕ → ℕ → ℕ × ℕ
pair x y = (x, y)

pub pair_is : (x y : ℕ) (a b : Literal) → x ≡ literal_code a → y ≡ literal_code b →
    pair x y ≡ pair (literal_code a) (literal_code b)
pair_is x y a b h k = ap (λ z. pair z y) h ∙ ap (λ z. pair (literal_code a) z) k

-- named variables are in range
pub name_in_range : (es : List Entry) (v : ℕ) (n : Name) → AreLogged es → name_of es v ≡ Some n →
    (1 ≤ v) × (v < 4611686018427387904)
name_in_range [] v n logged is = cc
name_in_range (Named w m ∷ es) v n logged is = search (arith, (name_in_range es v n logged.1), eqb-true)
name_in_range (_ ∷ es) v n logged is = name_in_range es v n logged.1 is
