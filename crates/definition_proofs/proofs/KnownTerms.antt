-- What is known of gates over first copies, with one gate more, and as others add to the log.
use Rattle.std.proofs.Common.{◌≡◌, ◌⊎◌, ℕ, true, false, cond, inl, inr, List, ◌∷◌, Some, None, IsSome, refl, sym, ◌∙◌, ap, subst, arith, BTreeMap, ◌≢◌, ◌≤◌, [], length, zero, suc, ◌+◌, ◌<◌}
use Rattle.std.specs.List.{Contains, All}
use Rattle.std.specs.BTreeMap.{get}
use Rattle.std.specs.Ordering.{is_eq}
use Rattle.std.proofs.lemmas.Bool.{false≢true, eq-eqb, cases_Bool, eqb-true, cases_lt}
use Rattle.list_laws.proofs.Numbers.{equal_pairs, same_pair}
use Rattle.list_laws.proofs.Options.{some_of}
use Rattle.list_laws.proofs.Members.{contains_later, contains_cases, contains_first}
use Rattle.dq_lits.specs.Literal.{Literal, positive, negative, opposite, literal_code}
use Rattle.dq_lits.specs.Formula.{Dqbf}
use Rattle.hint_log.specs.Conditions.{AreLogged}
use Rattle.hint_log.specs.Entries.{Entry, Named, Given, ProofLog, with_entry, name_of}
use Rattle.hint_log.specs.declared.names.Name.{Name}
use Rattle.hint_log.specs.declared.names.Name.TheVariants.{Selector, Term}
use Rattle.hint_log.specs.declared.origins.Origin.{Origin}
use Rattle.hint_log.specs.declared.origins.Origin.TheVariants.{TermGate}
use Rattle.hint_log.proofs.NamedEntries.{each_one}
use Rattle.log_laws.proofs.Kept.{NamesStay, name_stays_by, name_cases, unnamed_earlier, some_stays}
use Rattle.oracle.specs.Calls.{IsMade}
use Rattle.definability.specs.Copies.{IsDefinability, IsWhole, IsGroupGiven, group_variable, groups_of}
use Rattle.definability.specs.Growing.{Gives, HasFewFaults}
use Rattle.definability.specs.declared.definability.Definability.{Definability}
use Rattle.definability.proofs.GivenClauses.{fresh_group, in_by, few_more, gives_none, gives_more}
use Rattle.definability.proofs.KeptCopies.{keeps_entry, definability_stays, groups_named, Keeps, IsNamed, keeps_by_engine, engines_leave}
use Rattle.definition_proofs.specs.Terms.{by_both, is_gate_of, HasTermClauses, HasNoTerms, AreTerms, is_term_gate, is_proof_origin, GrewByProof, AreParts}
use Rattle.definition_proofs.specs.Differing.{LeavesTerms}
use Rattle.definition_proofs.specs.Proving.{AreBeside}
use Rattle.definition_proofs.specs.Shown.{ReadDeclaredCopies}
use Rattle.definition_proofs.specs.declared.terms.Terms.{Terms}
use Rattle.hint_log.specs.Growth.{Grew}
use Rattle.hint_log.specs.ProductiveLog.{fault_groups, fault_room}
use Rattle.log_laws.specs.Engines.{copies, IsAddedBy}
use Rattle.log_laws.proofs.LargerLogs.{leaves_rest, grown_by, grown_then}
use Rattle.dq_lits.proofs.SignedLiterals.{negated-positive, same_code}
use Rattle.hint_log.specs.Origins.{gate_rest, IsRestOf}
use Rattle.oracle.specs.declared.groups.Group.{Group}
use Rattle.oracle.proofs.MadeGroups.{made_stays}

-- a formula, where any will do
pub no_formula : Dqbf
no_formula = record { variables = 0; universals = []; existentials = []; matrix = [] }

module _ (f : Dqbf) (group y : ℕ) (old new : ProofLog) (grew : GrewByProof f group y old new) where
  pub own_growth : Grew (IsAddedBy f copies group true old.entries) old new
  own_growth = grew.grew old.entries (λ v none. none)

  keeps : Keeps f (λ mine. (mine ≢ group) × IsNamed old.entries mine) old.entries new.entries
  keeps = keeps_by_engine f copies group true old new own_growth

  pub names_stay : NamesStay old.entries new.entries
  names_stay = keeps.names

  pub entries_stay : (e : Entry) → Contains old.entries e → Contains new.entries e
  entries_stay = keeps.contains

  pub few_still : HasFewFaults old.entries → HasFewFaults new.entries
  few_still few =
      let rest = leaves_rest f copies group true old new own_growth in
      subst (λ n. length (fault_groups new.entries) ≤ n) (sym rest.room)
      (subst (λ (gs : List ℕ). length gs ≤ fault_room old.entries) (sym (rest.faults refl)) few)

  pub definability_still : (p : Definability) → All (λ g. g ≢ group) (groups_of p) → IsDefinability f p old.entries → IsDefinability f p new.entries
  definability_still p apart definability = engines_leave f p copies group true old new own_growth apart definability

pub proof_then : (f : Dqbf) (group y : ℕ) (a b c : ProofLog) → GrewByProof f group y a b → GrewByProof f group y b c →
    GrewByProof f group y a c
proof_then f group y a b c first second = record {
  grew = λ start names. grown_then (IsAddedBy f copies group true start) a b c (first.grew start names)
      (second.grew start (λ v none. names v (unnamed_earlier a.entries b.entries
      (names_stay f group y a b first) v none)));
  givens = λ o d inside. elim (second.givens o d inside) [ inl before ↦ first.givens o d before | inr new ↦ inr new ];
}

pub gate_is : (v y : ℕ) (o : Origin) → is_gate_of v o ≡ true →
    (is_proof_origin y o ≡ true) × (is_term_gate o ≡ true) × ((i : ℕ) (w : ℕ) → o ≡ TermGate w i → w ≡ v)
gate_is v y (TermGate w i) h = (refl, refl, λ k u is. (let same : w ≡ u = cc in sym same ∙ eqb-true w v h))
gate_is v y _ h = cc

-- clauses of gates in the standing group
pub proof_gives : (f : Dqbf) (group v y : ℕ) (old new : ProofLog) → Gives f (is_gate_of v) group old new →
    GrewByProof f group y old new
proof_gives f group v y old new gives = record {
  grew = λ start names. gives.grew group start (inl refl);
  givens = λ o c inside. elim (gives.givens o c inside)
      [ inl before ↦ inl before | inr gate ↦ inr (gate_is v y o gate).0 ];
}

-- a name more gives nothing
pub given_before : (v : ℕ) (n : Name) (es : List Entry) (o : Origin) (c : List Literal) →
    Contains (Named v n ∷ es) (Given o c) → Contains es (Given o c)
given_before v n es o c inside = elim (contains_cases (Named v n) (Given o c) es inside)
    [ inl same ↦ cc | inr before ↦ before ]

pub proof_named : (f : Dqbf) (group y : ℕ) (old new : ProofLog) (v : ℕ) (a b : Literal) →
    name_of old.entries v ≡ None → new ≡ with_entry old (Named v (Term a b)) → GrewByProof f group y old new
proof_named f group y old new v a b unnamed is = record {
  grew = λ start names. grown_by (IsAddedBy f copies group true start) old new (Named v (Term a b)) is
      (record { unnamed = unnamed; own = inr refl; rightly = tt });
  givens = λ o c inside. inl (given_before v (Term a b) old.entries o c
      (subst (λ (l : ProofLog). Contains l.entries (Given o c)) is inside));
}

-- a gate that is named, and its clauses
pub gate_grew : (group : ℕ) (old named new : ProofLog) (v : ℕ) (a b : Literal) → name_of old.entries v ≡ None →
    named ≡ with_entry old (Named v (Term a b)) → ((f : Dqbf) → Gives f (is_gate_of v) group named new) →
    (f : Dqbf) (y : ℕ) → GrewByProof f group y old new
gate_grew group old named new v a b unnamed is gives f y = proof_then f group y old named new
    (proof_named f group y old named v a b unnamed is) (proof_gives f group v y named new (gives f))

abbrev pub key_of : Literal → Literal → ℕ × ℕ
key_of a b = (literal_code a, literal_code b)

pub key_is : (x y : ℕ) (a b : Literal) → x ≡ literal_code a → y ≡ literal_code b → (x, y) ≡ key_of a b
key_is x y a b x_is y_is = ap (λ z. (z, y)) x_is ∙ ap (λ z. (literal_code a, z)) y_is

pub terms_stay : (t : Terms) (old new : List Entry) → LeavesTerms (group_variable t.group) old new → AreTerms t old →
    AreTerms t new
terms_stay t old new leaves before = record {
  made = made_stays old new t.group leaves.names before.made;
  known = λ v a b is. before.known v a b (leaves.terms v a b is);
  sound = λ a b l found. (let s = before.sound a b l found in (s.0, s.1, leaves.names s.0 (Term a b) s.2));
  clauses = λ v a b is i rest rest_is. leaves.entries (Given (TermGate v i) (negative (group_variable t.group) ∷ rest))
      (before.clauses v a b (leaves.terms v a b is) i rest rest_is);
  origins = λ v i c inside. some_stays old new leaves.names v (before.origins v i c (leaves.gates v i c inside));
  own = λ o rest inside. before.own o rest (leaves.in_group o rest inside);
}

-- no clause of a gate that isn't named yet
pub none_yet : (t : Terms) (old new : List Entry) (v : ℕ) (a b : Literal) → AreTerms t old → name_of old v ≡ None →
    new ≡ Named v (Term a b) ∷ old → (i : ℕ) (c : List Literal) → Contains new (Given (TermGate v i) c) → ⊥
none_yet t old new v a b before unnamed is i c inside =
    let some = some_of (name_of old v) (before.origins v i c (given_before v (Term a b) old (TermGate v i) c
    (subst (λ es. Contains es (Given (TermGate v i) c)) is inside))) in
    let both : None ≡ Some some.0 = sym unnamed ∙ some.1 in
    cc

-- no clause was given to a group before it was made
pub none_in_new : (es : List Entry) (g : ℕ) (o : Origin) (rest : List Literal) → AreLogged es → name_of es g ≡ None →
    Contains es (Given o (negative g ∷ rest)) → ⊥
none_in_new es g o rest logged unnamed inside =
    let one = each_one (IsGroupGiven no_formula (λ o. false) g) es (Given o (negative g ∷ rest))
    (fresh_group no_formula (λ o. false) g es logged unnamed) inside in
    false≢true (one.1 (rest, refl)).0

-- no gate yet
pub no_gates : (t : Terms) (old new : List Entry) → AreLogged old → HasNoTerms old →
    name_of old (group_variable t.group) ≡ None → IsMade new t.group →
    new ≡ Named (group_variable t.group) (Selector (group_variable t.group)) ∷ old →
    ((q : ℕ × ℕ) → get by_both t.literals q ≡ None) → AreTerms t new
no_gates t old new logged none unnamed made is empty = record {
  made = made;
  known = λ v a b named. absurd (not_named v a b named);
  sound = λ a b l found. (let both : None ≡ Some l = sym (empty (key_of a b)) ∙ found in cc);
  clauses = λ v a b named. absurd (not_named v a b named);
  origins = λ v i c inside. absurd (none.ungiven v i c (before (TermGate v i) c inside));
  own = λ o rest inside. absurd (none_in_new old g o rest logged unnamed (before o (negative g ∷ rest) inside));
} where
  g : ℕ
  g = group_variable t.group

  not_named : (v : ℕ) (a b : Literal) → name_of new v ≡ Some (Term a b) → ⊥
  not_named v a b named = search (arith, name_cases)

  before : (o : Origin) (c : List Literal) → Contains new (Given o c) → Contains old (Given o c)
  before o c inside = given_before (group_variable t.group) (Selector (group_variable t.group)) old o c
      (subst (λ es. Contains es (Given o c)) is inside)

-- a group more beside the copies
pub beside_group : (f : Dqbf) (p : Definability) (t : Terms) (old new : List Entry) →
    name_of old (group_variable t.group) ≡ None →
    new ≡ Named (group_variable t.group) (Selector (group_variable t.group)) ∷ old → AreTerms t new → IsDefinability f p old → IsWhole f p →
    HasFewFaults old → ReadDeclaredCopies f new → AreBeside f p t new
beside_group f p t old new unnamed is terms definability whole few sides = record {
  sides = sides;
  whole = whole;
  definability = subst (IsDefinability f p) (sym is) (definability_stays f (λ mine. Unit {0}) old (Named g (Selector g) ∷ old)
      (keeps_entry f (Named g (Selector g)) old (name_stays_by old g (Selector g) unnamed) (λ test mine. tt) (λ side mine. tt)) p
      (λ k d lt. tt) definability);
  terms = terms;
  apart = λ k d lt same. (
      let named = groups_named f p old definability k d lt in
      let both : None ≡ Some named.0 = sym unnamed ∙ ap (name_of old) (sym same) ∙ named.1 in
      cc);
  few = subst HasFewFaults (sym is) few;
} where
  g : ℕ
  g = group_variable t.group

-- a gate that is named, and has its clauses
module _ (t : Terms) (literals : BTreeMap (ℕ × ℕ) Literal) (old mid new : ProofLog) (v : ℕ) (a b : Literal)
    (before : AreTerms t old.entries) (unnamed : name_of old.entries v ≡ None)
    (none : get by_both t.literals (key_of a b) ≡ None) (named : mid ≡ with_entry old (Named v (Term a b)))
    (gives : (f : Dqbf) → Gives f (is_gate_of v) (group_variable t.group) mid new)
    (whole : HasTermClauses new.entries (group_variable t.group) v a b)
    (updates : (q : ℕ × ℕ) → get by_both literals q ≡ cond (is_eq (by_both (key_of a b) q)) (Some (positive v))
    (get by_both t.literals q)) where
  abbrev g : ℕ
  g = group_variable t.group

  mid_is : mid.entries ≡ Named v (Term a b) ∷ old.entries
  mid_is = ap (λ (l : ProofLog). l.entries) named

  -- a variable is this one, or has its name before
  cases : (w : ℕ) (n : Name) → name_of new.entries w ≡ Some n →
      ((w ≡ v) × (Term a b ≡ n)) ⊎ (name_of old.entries w ≡ Some n)
  cases w n is = name_cases old.entries v w (Term a b) n (sym (ap (λ es. name_of es w) mid_is)
      ∙ sym ((gives no_formula).names w) ∙ is)

  here : name_of new.entries v ≡ Some (Term a b)
  here = (gives no_formula).names v ∙ ap (λ es. name_of es v) mid_is
      ∙ ap (λ x. cond x (Some (Term a b)) (name_of old.entries v)) (eq-eqb v v refl)

  stay : NamesStay old.entries new.entries
  stay w n is = (gives no_formula).names w ∙ ap (λ es. name_of es w) mid_is
      ∙ name_stays_by old.entries v (Term a b) unnamed w n is

  entries : (e : Entry) → Contains old.entries e → Contains new.entries e
  entries e inside = entries_stay no_formula g 0 mid new (proof_gives no_formula g v 0 mid new (gives no_formula)) e
      (subst (λ es. Contains es e) (sym mid_is) (contains_later (Named v (Term a b)) e old.entries inside))

  -- what is looked up is this gate, or was there before
  looked : (c d : Literal) → ((a ≡ c) × (b ≡ d) × (get by_both literals (key_of c d) ≡ Some (positive v)))
      ⊎ (get by_both literals (key_of c d) ≡ get by_both t.literals (key_of c d))
  looked c d = elim (cases_Bool (is_eq (by_both (key_of a b) (key_of c d)))) [
    | inl same ↦ (let numbers = equal_pairs (key_of a b) (key_of c d) same in inl (
      same_code a c numbers.0,
      same_code b d numbers.1,
      updates (key_of c d) ∙ ap (λ x. cond x (Some (positive v)) (get by_both t.literals (key_of c d))) same,
    ))
    | inr other ↦ inr (updates (key_of c d) ∙ ap (λ x. cond x (Some (positive v)) (get by_both t.literals (key_of c d)))
        other)
  ]

  there : get by_both literals (key_of a b) ≡ Some (positive v)
  there = updates (key_of a b) ∙ ap (λ x. cond x (Some (positive v)) (get by_both t.literals (key_of a b)))
      (same_pair (key_of a b))

  known : (w : ℕ) (c d : Literal) → ((w ≡ v) × (Term a b ≡ Term c d)) ⊎ (name_of old.entries w ≡ Some (Term c d)) →
      get by_both literals (key_of c d) ≡ Some (positive w)
  known w c d (inl now) =
      let left : a ≡ c = cc in
      let right : b ≡ d = cc in
      ap (λ x. get by_both literals (key_of x d)) (sym left) ∙ ap (λ x. get by_both literals (key_of a x)) (sym right)
      ∙ there ∙ ap (λ x. Some (positive x)) (sym now.0)
  known w c d (inr was) = elim (looked c d) [
    | inl now ↦ (
        let both : None ≡ Some (positive w) = sym none ∙ ap (λ x. get by_both t.literals (key_of x b)) now.0
        ∙ ap (λ x. get by_both t.literals (key_of c x)) now.1 ∙ before.known w c d was in
        cc)
    | inr same ↦ same ∙ before.known w c d was
  ]

  sound : (c d l : Literal) → get by_both literals (key_of c d) ≡ Some l →
      (w : ℕ) × (l ≡ positive w) × (name_of new.entries w ≡ Some (Term c d))
  sound c d l found = elim (looked c d) [
    | inl now ↦ (let both : Some (positive v) ≡ Some l = sym now.2 ∙ found in let same : positive v ≡ l = cc in
        (v, sym same, here ∙ ap (λ x. Some (Term x b)) now.0 ∙ ap (λ x. Some (Term c x)) now.1))
    | inr same ↦ (let s = before.sound c d l (sym same ∙ found) in (s.0, s.1, stay s.0 (Term c d) s.2))
  ]

  clauses : (w : ℕ) (c d : Literal) → ((w ≡ v) × (Term a b ≡ Term c d)) ⊎ (name_of old.entries w ≡ Some (Term c d)) →
      HasTermClauses new.entries g w c d
  clauses w c d (inl now) =
      let left : a ≡ c = cc in
      let right : b ≡ d = cc in
      subst (λ x. HasTermClauses new.entries g x c d) (sym now.0)
      (subst (λ x. HasTermClauses new.entries g v x d) left (subst (HasTermClauses new.entries g v a) right whole))
  clauses w c d (inr was) = λ i rest rest_is.
      entries (Given (TermGate w i) (negative g ∷ rest)) (before.clauses w c d was i rest rest_is)

  in_old : (o : Origin) (c : List Literal) → Contains mid.entries (Given o c) → Contains old.entries (Given o c)
  in_old o c inside = given_before v (Term a b) old.entries o c (subst (λ es. Contains es (Given o c)) mid_is inside)

  pub gate_more : AreTerms (record t { literals = literals }) new.entries
  gate_more = record {
    made = made_stays old.entries new.entries t.group stay before.made;
    known = λ w c d is. known w c d (cases w (Term c d) is);
    sound = sound;
    clauses = λ w c d is. clauses w c d (cases w (Term c d) is);
    origins = λ w i c inside. elim ((gives no_formula).givens (TermGate w i) c inside) [
      | inl was ↦ some_stays old.entries new.entries stay w (before.origins w i c (in_old (TermGate w i) c was))
      | inr now ↦ (
          let same = (gate_is v 0 (TermGate w i) now).2 i w refl in
          subst (λ x. IsSome (name_of new.entries x)) (sym same) (subst IsSome (sym here) refl))
    ];
    own = λ o rest inside. elim ((gives no_formula).givens o (negative g ∷ rest) inside) [
      | inl was ↦ before.own o rest (in_old o (negative g ∷ rest) was)
      | inr now ↦ (gate_is v 0 o now).1
    ];
  }

pub no_parts : (f : Dqbf) (group v : ℕ) (a b : Literal) (log : ProofLog) → HasFewFaults log.entries →
    ((i : ℕ) (c : List Literal) → Contains log.entries (Given (TermGate v i) c) → ⊥) →
    AreParts f group v a b 0 log log
no_parts f group v a b log few none = record {
  gives = gives_none f (is_gate_of v) group log;
  few = few;
  later = λ i c less inside. none i c inside;
  given = λ i rest most is. let first : i ≡ 0 = omega (arith, most) in
      absurd (nothing rest (ap (gate_rest v a b) (sym first) ∙ is));
} where
  nothing : (rest : List Literal) → gate_rest v a b 0 ≡ Some rest → ⊥
  nothing rest is = cc

module _ (f : Dqbf) (group v : ℕ) (a b : Literal) (parts : ℕ) (old log new : ProofLog) (rest : List Literal)
    (is_group : name_of log.entries group ≡ Some (Selector group)) (named : name_of log.entries v ≡ Some (Term a b))
    (before : AreParts f group v a b parts old log) (rest_is : gate_rest v a b (parts + 1) ≡ Some rest) where
  abbrev origin : Origin
  origin = TermGate v (parts + 1)

  abbrev e : Entry
  e = Given (TermGate v (parts + 1)) (negative group ∷ rest)

  abbrev more : ProofLog
  more = with_entry log (Given (TermGate v (parts + 1)) (negative group ∷ rest))

  right : IsRestOf f log.entries group (TermGate v (parts + 1)) rest
  right = record { left = a; right = b; named = named; rest_is = rest_is }

  first : (c : List Literal) → Contains log.entries (Given (TermGate v (parts + 1)) c) → ⊥
  first c inside = before.later (parts + 1) c (omega arith) inside

  given : (i : ℕ) (tail : List Literal) → (i < parts + 1) ⊎ (i ≡ parts + 1) → gate_rest v a b i ≡ Some tail →
      Contains more.entries (Given (TermGate v i) (negative group ∷ tail))
  given i tail (inl earlier) is = contains_later e (Given (TermGate v i) (negative group ∷ tail)) log.entries
      (before.given i tail (omega (arith, earlier)) is)
  given i tail (inr now) is =
      let both : Some rest ≡ Some tail = sym rest_is ∙ ap (gate_rest v a b) (sym now) ∙ is in
      let same : rest ≡ tail = cc in
      subst (λ k. Contains more.entries (Given (TermGate v k) (negative group ∷ tail))) (sym now)
      (subst (λ t. Contains more.entries (Given (TermGate v (parts + 1)) (negative group ∷ t))) same
      (contains_first e log.entries))

  pub part_more : new ≡ with_entry log (Given (TermGate v (parts + 1)) (negative group ∷ rest)) →
      AreParts f group v a b (parts + 1) old new
  part_more is = subst (λ (l : ProofLog). AreParts f group v a b (parts + 1) old l) (sym is) (record {
    gives = gives_more f (is_gate_of v) group old log origin (negative group ∷ rest) (eq-eqb v v refl)
        (in_by f log group origin rest refl is_group right first before.few) before.gives;
    few = few_more f log group origin rest refl is_group right first before.few;
    later = λ i c less inside. elim (contains_cases e (Given (TermGate v i) c) log.entries inside) [
      | inl same ↦ (let number : parts + 1 ≡ i = cc in omega (arith, less, number))
      | inr behind ↦ before.later i c (omega (arith, less)) behind
    ];
    given = λ i tail most is. given i tail (which i most) is;
  }) where
    which : (i : ℕ) → i ≤ parts + 1 → (i < parts + 1) ⊎ (i ≡ parts + 1)
    which i most = elim (cases_lt i (parts + 1))
        [ inl less ↦ inl less | inr late ↦ inr (omega (arith, most, late)) ]

-- the three of them
module _ (f : Dqbf) (group : Group) (v : ℕ) (a b : Literal) (old : ProofLog) (made : IsMade old.entries group)
    (named : name_of old.entries v ≡ Some (Term a b)) (few : HasFewFaults old.entries)
    (none : (i : ℕ) (c : List Literal) → Contains old.entries (Given (TermGate v i) c) → ⊥) where
  abbrev own : ℕ
  own = group_variable group

  abbrev Parts : ℕ → ProofLog → Type 0
  Parts n log = AreParts f (group_variable group) v a b n old log

  -- a clause as it was given: its origin, the group's selector, and its literals
  abbrev pub Puts : ProofLog → ProofLog → Origin → List Literal → Type 0
  Puts log new o ls = new ≡ with_entry log (Given o (opposite group.selector ∷ ls))

  put : (n : ℕ) (log new : ProofLog) (o : Origin) (ls rest : List Literal) → o ≡ TermGate v n → ls ≡ rest →
      Puts log new o ls → new ≡ with_entry log (Given (TermGate v n) (negative own ∷ rest))
  put n log new o ls rest origin same is = is
      ∙ ap (λ x. with_entry log (Given x (opposite group.selector ∷ ls))) origin
      ∙ ap (λ xs. with_entry log (Given (TermGate v n) (opposite group.selector ∷ xs))) same
      ∙ ap (λ s. with_entry log (Given (TermGate v n) (s ∷ rest))) (negated-positive group.selector made.positive)

  pub start : Parts 0 old
  start = no_parts f own v a b old few none

  pub one : (new : ProofLog) (o : Origin) (l : Literal) → o ≡ TermGate v 1 → l ≡ negative v →
      Puts old new o (l ∷ a ∷ []) → Parts 1 new
  one new o l origin l_is is = part_more f own v a b 0 old old new (negative v ∷ a ∷ []) made.named named start refl
      (put 1 old new o (l ∷ a ∷ []) (negative v ∷ a ∷ []) origin (ap (λ x. x ∷ a ∷ []) l_is) is)

  module _ (log new : ProofLog) (o : Origin) (l : Literal) where
    pub two : Parts 1 log → o ≡ TermGate v 2 → l ≡ negative v → Puts log new o (l ∷ b ∷ []) → Parts 2 new
    two before origin l_is is = part_more f own v a b 1 old log new (negative v ∷ b ∷ [])
        (before.gives.names own ∙ made.named) (before.gives.names v ∙ named) before refl
        (put 2 log new o (l ∷ b ∷ []) (negative v ∷ b ∷ []) origin (ap (λ x. x ∷ b ∷ []) l_is) is)

    pub three : (j k : Literal) → Parts 2 log → o ≡ TermGate v 3 → l ≡ positive v → j ≡ opposite a → k ≡ opposite b →
        Puts log new o (l ∷ j ∷ k ∷ []) → Parts 3 new
    three j k before origin l_is j_is k_is is =
        part_more f own v a b 2 old log new (positive v ∷ opposite a ∷ opposite b ∷ [])
        (before.gives.names own ∙ made.named) (before.gives.names v ∙ named) before refl
        (put 3 log new o (l ∷ j ∷ k ∷ []) (positive v ∷ opposite a ∷ opposite b ∷ []) origin
        (ap (λ x. x ∷ j ∷ k ∷ []) l_is ∙ ap (λ x. positive v ∷ x ∷ k ∷ []) j_is
        ∙ ap (λ x. positive v ∷ opposite a ∷ x ∷ []) k_is) is)

  pub whole : (new : ProofLog) → Parts 3 new → HasTermClauses new.entries own v a b
  whole new parts i rest is = parts.given i rest (few_parts i rest is) is where
    few_parts : (i : ℕ) (rest : List Literal) → gate_rest v a b i ≡ Some rest → i ≤ 3
    few_parts zero rest is = omega arith
    few_parts (suc zero) rest is = omega arith
    few_parts (suc (suc zero)) rest is = omega arith
    few_parts (suc (suc (suc zero))) rest is = omega arith
    few_parts (suc (suc (suc (suc i)))) rest is = cc

  pub stopped : (n : ℕ) (log new : ProofLog) → Parts n log → new ≡ log → Parts n new
  stopped n log new before is = subst (λ (l : ProofLog). Parts n l) (sym is) before
