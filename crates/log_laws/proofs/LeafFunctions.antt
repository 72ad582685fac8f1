-- An answer that decides that a formula is true gives Skolem functions: its leaves, with the inputs
-- that they don't see put to false.
use Rattle.std.proofs.Common.{◌≡◌, ℕ, zero, suc, ◌<◌, ◌==◌, Bool, true, false, cond, ◌||◌, ◌&&◌, inl, inr, List, [], ◌∷◌, ◌++◌, map, length, get_or, Option, None, Some, refl, sym, ◌∙◌, ap, subst, arith, append_assoc}
use Rattle.std.specs.List.{All, Contains, list_any}
use Rattle.std.specs.Option.{option_map}
use Rattle.std.proofs.lemmas.Bool.{false≢true, true≢false, and_parts, and_from, eqb-true, eq-eqb, cond-true}
use Rattle.std.proofs.lemmas.List.Elements.{All-contains, All-head, All-tail, Contains-get_or, Contains-append_right, Contains-append_cases}
use Rattle.std.proofs.lemmas.List.Folds.{list_any_at}
use Rattle.dq_lits.specs.Literal.{Assignment, Literal, negative, variable_of, same_literal, clause_true}
use Rattle.dq_lits.specs.Formula.{Existential, Dqbf, declared, is_universal, existential_of, IsWellFormed}
use Rattle.dq_lits.specs.Henkin.{MatrixHolds}
use Rattle.dq_lits.specs.Skolem.{OutputFunction, AreSkolemFunctions}
use Rattle.dq_lits.proofs.LiftedExpansion.{literal_true-agree}
use Rattle.dq_lits.proofs.FormulaVariables.{find_sound}
use Rattle.hint_log.specs.Conditions.{is_circuit_name, HasSides, MayFollow}
use Rattle.hint_log.specs.Entries.{name_of, Entry, Named, Given, Learned, Answer, Round, Begun}
use Rattle.hint_log.specs.declared.names.Name.{Name}
use Rattle.hint_log.specs.declared.names.Name.TheVariants.{Input, And}
use Rattle.hint_log.specs.declared.origins.Leaf.{Leaf}
use Rattle.hint_log.specs.declared.origins.Leaf.TheVariants.{Constant, Literal as LeafLiteral}
use Rattle.hint_log.specs.declared.origins.Origin.{Origin}
use Rattle.hint_log.specs.declared.origins.Origin.TheVariants.{Instance, Gate, Fault, Copy, Link, TermGate, Differ}
use Rattle.hint_log.specs.Growth.{Each}
use Rattle.hint_log.specs.Naming.{by_universality}
use Rattle.hint_log.specs.Origins.{matrix_literal, IsLeafOf, IsFaultRest, IsOriginsClause}
use Rattle.hint_log.specs.ProductiveLog.{MatchesOrigin}
use Rattle.hint_log.specs.Deciding.{ReachesGiven, IsFaultLeaf, ReadsInput, itself, left, right, LeafReads, DecidesTrue}
use Rattle.log_laws.specs.Circuits.{name_value, value_in, leaf_value, circuit_value, existential_bit, by_bits}
use Rattle.log_laws.proofs.ReachedClauses.{name_stays}
use Rattle.log_laws.proofs.Solved.{both_same}
use Rattle.log_laws.proofs.Found.{variable, find_there, each_at, split_at}

-- a fault's leaf for an existential, in a group
abbrev pub is_in_group : ℕ → List Literal → Bool
is_in_group g [] = false
is_in_group g (l ∷ _) = same_literal (negative g) l

-- a fault of the group is its origin's clause
abbrev pub MatchesInGroup : Dqbf → ℕ → List Entry → Entry → Type 0
MatchesInGroup f g earlier (Given (Fault j i leaf) c) = is_in_group g c ≡ true →
    IsOriginsClause f earlier (Fault j i leaf) c
MatchesInGroup f g earlier _ = Unit {0}

pub matches_in_group : (f : Dqbf) (g : ℕ) (earlier : List Entry) (e : Entry) → MatchesOrigin f earlier e →
    MatchesInGroup f g earlier e
matches_in_group f g earlier (Given (Fault j i leaf) c) h = λ inside. h
matches_in_group f g earlier (Given _ c) h = tt
matches_in_group f g earlier _ h = tt

abbrev is_on : ℕ → Option ℕ → Bool
is_on v None = false
is_on v (Some w) = v == w

abbrev origin_leaf : Dqbf → ℕ → Bool → Origin → Option Leaf
origin_leaf f v inside (Instance k j) = None
origin_leaf f v inside (Gate w i) = None
origin_leaf f v inside (Fault j i leaf) = cond (inside && is_on v (option_map variable_of (matrix_literal f j i)))
    (Some leaf) None
origin_leaf f v inside (Copy side j) = None
origin_leaf f v inside (Link w i) = None
origin_leaf f v inside (TermGate w i) = None
origin_leaf f v inside (Differ y leaf part) = None

abbrev entry_leaf : Dqbf → ℕ → ℕ → Entry → Option Leaf
entry_leaf f g v (Named w n) = None
entry_leaf f g v (Given origin c) = origin_leaf f v (is_in_group g c) origin
entry_leaf f g v (Learned c hints) = None
entry_leaf f g v (Answer c hints) = None
entry_leaf f g v (Round row values j) = None
entry_leaf f g v (Begun live) = None

abbrev leaf_or : Option Leaf → Leaf → Leaf
leaf_or None rest = rest
leaf_or (Some leaf) rest = leaf

abbrev leaf_in : Dqbf → ℕ → ℕ → List Entry → Leaf
leaf_in f g v [] = Constant false
leaf_in f g v (e ∷ es) = leaf_or (entry_leaf f g v e) (leaf_in f g v es)

on_is : (v : ℕ) (o : Option ℕ) → is_on v o ≡ true → o ≡ Some v
on_is v None h = absurd (false≢true h)
on_is v (Some w) h = ap Some (sym (eqb-true v w h))

is_on_there : (v : ℕ) (o : Option ℕ) → o ≡ Some v → is_on v o ≡ true
is_on_there v o h = ap (is_on v) h ∙ eq-eqb v v refl

-- where an entry has a leaf, it is such a fault
entry_leaf_is : (f : Dqbf) (g v : ℕ) (e : Entry) (leaf : Leaf) → entry_leaf f g v e ≡ Some leaf →
    (j : ℕ) × (i : ℕ) × (c : List Literal) × (e ≡ Given (Fault j i leaf) c) × (is_in_group g c ≡ true) ×
    (option_map variable_of (matrix_literal f j i) ≡ Some v)
entry_leaf_is f g v (Given (Fault j i other) c) leaf h = search (arith, and_parts, on_is)
entry_leaf_is f g v (Given _ c) leaf h = cc
entry_leaf_is f g v _ leaf h = cc

pub in_group : (g h : ℕ) (c rest : List Literal) → c ≡ negative h ∷ rest → is_in_group g c ≡ true → g ≡ h
in_group g h c rest is inside = eqb-true g h (ap (is_in_group g) (sym is) ∙ inside)

-- a group's faults have one leaf for an existential
one_leaf : (f : Dqbf) (g v : ℕ) (es : List Entry) (j i : ℕ) (out : Leaf) (rest : List Literal) →
    Each (MatchesInGroup f g) es → Contains es (Given (Fault j i out) (negative g ∷ rest)) →
    option_map variable_of (matrix_literal f j i) ≡ Some v → leaf_in f g v es ≡ out
one_leaf f g v [] j i out rest given (k, below, is) own = absurd (omega arith)
one_leaf f g v (e ∷ es) j i out rest given (zero, below, is) own =
    let here : entry_leaf f g v e ≡ Some out = ap (entry_leaf f g v) is
    ∙ cond-true (is_in_group g (negative g ∷ rest) && is_on v (option_map variable_of (matrix_literal f j i)))
    (Some out) None
    (and_from (is_in_group g (negative g ∷ rest)) (is_on v (option_map variable_of (matrix_literal f j i)))
    (eq-eqb g g refl) (is_on_there v (option_map variable_of (matrix_literal f j i)) own)) in
    ap (λ o. leaf_or o (leaf_in f g v es)) here
one_leaf f g v (e ∷ es) j i out rest given (suc k, below, is) own =
    let inside : Contains es (Given (Fault j i out) (negative g ∷ rest)) =
    (k, (let b : k < length es = omega arith in b), is) in
    by_option (one_leaf f g v es j i out rest given.1 inside own) (entry_leaf f g v e) refl where
      by_option : leaf_in f g v es ≡ out → (o : Option Leaf) → entry_leaf f g v e ≡ o →
          leaf_or o (leaf_in f g v es) ≡ out
      by_option later None at = later
      by_option later (Some leaf) at =
          let r = entry_leaf_is f g v e leaf at in
          let o : IsOriginsClause f es (Fault r.0 r.1 leaf) r.2 = subst (MatchesInGroup f g es) r.3 given.0 r.4 in
          let same : g ≡ o.group = in_group g o.group r.2 o.rest o.clause_is r.4 in
          let inside : Contains es (Given (Fault j i out) (negative g ∷ rest)) = search arith in
          o.one_leaf v r.0 r.1 j i leaf out rest refl (subst
          (λ h. Contains es (Given (Fault j i out) (negative h ∷ rest))) same inside) r.5 own

-- the universals that an existential sees, and false for all others
abbrev seen : List ℕ → Assignment → Assignment
seen xs m v = cond (list_any (λ x. x == v) xs) (m v) false

seen_there : (xs : List ℕ) (m : Assignment) (v : ℕ) → Contains xs v → m v ≡ seen xs m v
seen_there xs m v inside = search (arith, cond-true, list_any_at, eq-eqb)

seen_same : (xs : List ℕ) (m n : Assignment) → All (λ x. m x ≡ n x) xs → (v : ℕ) → seen xs m v ≡ seen xs n v
seen_same [] m n h v = refl
seen_same (x ∷ xs) m n h v = by_bit (x == v) refl (seen_same xs m n (All-tail (λ y. m y ≡ n y) x xs h) v) where
  by_bit : (b : Bool) → (x == v) ≡ b → seen xs m v ≡ seen xs n v →
      cond (b || list_any (λ y. y == v) xs) (m v) false ≡ cond (b || list_any (λ y. y == v) xs) (n v) false
  by_bit true e later = search (arith, eqb-true, All-head)
  by_bit false e later = later

module _ (p q : Assignment) (bad : ℕ → Bool) where
  -- values depend on the inputs alone
  module _ (same : (v : ℕ) → p v ≡ q v) where
    value_same : (es : List Entry) (v : ℕ) → value_in p bad es v ≡ value_in q bad es v
    value_same [] v = refl
    value_same (Named w n ∷ es) v = search (arith, (value_same es), both_same)
    value_same (_ ∷ es) v = value_same es v

    leaf_same : (es : List Entry) (leaf : Leaf) → leaf_value (value_in p bad es) leaf ≡ leaf_value
        (value_in q bad es) leaf
    leaf_same es (Constant b) = refl
    leaf_same es (LeafLiteral l) = search (arith, literal_true-agree, value_same)

  -- a circuit's values depend on the inputs that it reads
  module _ (all : List Entry) (lawful : Each MayFollow all) where
    abbrev AgreesOn : Literal → Type 0
    AgreesOn l = (x : ℕ) → ReadsInput all l x → p x ≡ q x

    name_of_all : (more es : List Entry) → all ≡ more ++ es → (v : ℕ) (n : Name) → name_of es v ≡ Some n →
        name_of all v ≡ Some n
    name_of_all more es is v n h = search (arith, name_stays)

    value_read : (es more : List Entry) → all ≡ more ++ es → Each MayFollow es → (l : Literal) →
        is_circuit_name (name_of es (variable_of l)) ≡ true → AgreesOn l →
        value_in p bad es (variable_of l) ≡ value_in q bad es (variable_of l)
    value_read [] more is own l h agree = refl
    value_read (Named w n ∷ es) more is own l h agree =
        by_bit (λ k. value_read es (more ++ Named w n ∷ []) (is ∙ sym (append_assoc more (Named w n ∷ []) es)) own.1 k)
        (variable_of l == w) refl h where
          by_name : ((k : Literal) → is_circuit_name (name_of es (variable_of k)) ≡ true → AgreesOn k →
              value_in p bad es (variable_of k) ≡ value_in q bad es (variable_of k)) →
              (o : Name) → HasSides es o → is_circuit_name (Some o) ≡ true → name_of all (variable_of l) ≡ Some o →
              name_value p bad (value_in p bad es) o ≡ name_value q bad (value_in q bad es) o
          by_name later (Input x) s h there = agree x (itself l x there)
          by_name later (And a b) s h there = both_same (value_in p bad es) (value_in q bad es) a b
              (later a s.0 (λ x r. agree x (left l a b x there r)))
              (later b s.1 (λ x r. agree x (right l a b x there r)))
          by_name later _ s h there = refl

          by_bit : ((k : Literal) → is_circuit_name (name_of es (variable_of k)) ≡ true → AgreesOn k →
              value_in p bad es (variable_of k) ≡ value_in q bad es (variable_of k)) →
              (b : Bool) → (variable_of l == w) ≡ b → is_circuit_name (cond b (Some n) (name_of es (variable_of l)))
              ≡ true →
              cond b (name_value p bad (value_in p bad es) n) (value_in p bad es (variable_of l)) ≡ cond b
              (name_value q bad (value_in q bad es) n) (value_in q bad es (variable_of l))
          by_bit later true e h =
              by_name later n own.0.sides h (name_of_all more (Named w n ∷ es) is (variable_of l) n
              (cond-true (variable_of l == w) (Some n) (name_of es (variable_of l)) e))
          by_bit later false e h = later l h agree
    value_read (Given origin c ∷ es) more is own l h agree =
        search (arith, (value_read es (more ++ Given origin c ∷ [])), append_assoc)
    value_read (Learned c hints ∷ es) more is own l h agree =
        search (arith, (value_read es (more ++ Learned c hints ∷ [])), append_assoc)
    value_read (Answer c hints ∷ es) more is own l h agree =
        search (arith, (value_read es (more ++ Answer c hints ∷ [])), append_assoc)
    value_read (Round row values j ∷ es) more is own l h agree =
        search (arith, (value_read es (more ++ Round row values j ∷ [])), append_assoc)
    value_read (Begun live ∷ es) more is own l h agree = value_read es (more ++ Begun live ∷ [])
        (is ∙ sym (append_assoc more (Begun live ∷ []) es)) own.1 l h agree

-- a leaf of the given clauses is constant or stands on an input or a gate
abbrev pub IsCircuitLeaf : List Entry → Leaf → Type 0
IsCircuitLeaf es (Constant b) = Unit {0}
IsCircuitLeaf es (LeafLiteral l) = is_circuit_name (name_of es (variable_of l)) ≡ true

leaf_read : (p q : Assignment) (bad : ℕ → Bool) (all : List Entry) → Each MayFollow all → (leaf : Leaf) →
    IsCircuitLeaf all leaf → ((x : ℕ) → LeafReads all leaf x → p x ≡ q x) →
    leaf_value (value_in p bad all) leaf ≡ leaf_value (value_in q bad all) leaf
leaf_read p q bad all lawful (Constant b) circuit agree = refl
leaf_read p q bad all lawful (LeafLiteral l) circuit agree =
    search (arith, literal_true-agree, (value_read p q bad all lawful all []))

pub circuit_stays : (es more : List Entry) → Each MayFollow (more ++ es) → (v : ℕ) (o : Option Name) →
    name_of es v ≡ o → is_circuit_name o ≡ true → is_circuit_name (name_of (more ++ es) v) ≡ true
circuit_stays es more lawful v None h c = cc
circuit_stays es more lawful v (Some n) h c = ap is_circuit_name (name_stays more es v n lawful h) ∙ c

leaf_stays : (f : Dqbf) (es more : List Entry) → Each MayFollow (more ++ es) → (v : ℕ) (leaf : Leaf) →
    IsLeafOf f es v leaf → IsCircuitLeaf (more ++ es) leaf
leaf_stays f es more lawful v (Constant b) h = tt
leaf_stays f es more lawful v (LeafLiteral l) h = search (arith, circuit_stays)

pub clause_same : (f : Dqbf) (m n : Assignment) → ((v : ℕ) → Contains (declared f) v → m v ≡ n v) → (c : List Literal) →
    All (λ l. Contains (declared f) (variable_of l)) c → clause_true m c ≡ clause_true n c
clause_same f m n same [] h = refl
clause_same f m n same (l ∷ ls) h =
    search (arith, All-head, (literal_true-agree m n l), (clause_same f m n same ls), All-tail)

-- a declared variable has its bit
pub declared_bit : (f : Dqbf) (m : Assignment) (bit : Existential → Bool) →
    All (λ y. m y.variable ≡ bit y) f.existentials → (v : ℕ) → Contains (declared f) v → m v ≡ by_bits f m bit v
declared_bit f m bit follows v inside = by_bit (is_universal f v) refl where
  by_option : is_universal f v ≡ false → (o : Option Existential) → existential_of f v ≡ o → m v ≡ existential_bit bit o
  by_option other None none = absurd (elim (Contains-append_cases f.universals (map variable f.existentials) v inside) [
    | inl universal ↦ search (arith, true≢false, list_any_at, eq-eqb)
    | inr existential ↦ find_there f.existentials v existential none
  ])
  by_option other (Some y) found = search (arith, find_sound, All-contains)

  by_bit : (b : Bool) → is_universal f v ≡ b → m v ≡ by_universality b (m v) (existential_bit bit (existential_of f v))
  by_bit true e = refl
  by_bit false e = by_option e (existential_of f v) refl

module _ (f : Dqbf) (well : IsWellFormed f) (es : List Entry) (clause : List Literal) (hints : List ℕ)
    (lawful : Each MayFollow es)
    (decides : DecidesTrue f es clause hints) (given : Each (MatchesInGroup f decides.rests.group) es)
    (bits_hold : (m : Assignment) (bit : Existential → Bool) →
    All (λ y. (out : Leaf) → IsFaultLeaf f es hints y out → circuit_value es m out ≡ bit y) f.existentials →
    MatrixHolds f (by_bits f m bit)) where
  abbrev pub leaf_of : Existential → Leaf
  leaf_of y = leaf_in f decides.rests.group y.variable es

  abbrev pub functions : Existential → OutputFunction
  functions y = record {
    value = λ m. leaf_value (value_in (seen y.sees m) (λ _. false) es) (leaf_of y);
    support =
        y.sees;
  }

  -- a leaf that is reached
  reached_leaf : (y : Existential) (out : Leaf) → IsFaultLeaf f es hints y out →
      (leaf_of y ≡ out) × IsCircuitLeaf es out
  reached_leaf y out fault = by_number fault.j refl where
    by_number : (j : ℕ) → fault.j ≡ j → (leaf_of y ≡ out) × IsCircuitLeaf es out
    by_number zero e = search arith
    by_number (suc j) e =
        let own : option_map variable_of (matrix_literal f (suc j) fault.i) ≡ Some y.variable = search arith in
        let reached : ReachesGiven es hints (Fault (suc j) fault.i out) fault.clause = search arith in
        let mine = decides.rests.circuit (Fault (suc j) fault.i out) fault.clause reached in
        let place = split_at es reached.id (Given (Fault (suc j) fault.i out) fault.clause) reached.is_given in
        let o : IsOriginsClause f place.1 (Fault (suc j) fault.i out) fault.clause =
        each_at (MatchesInGroup f decides.rests.group) place.0 place.1 (Given (Fault (suc j) fault.i out) fault.clause)
        (subst (Each (MatchesInGroup f decides.rests.group)) place.2 given)
        (ap (is_in_group decides.rests.group) mine.1 ∙ eq-eqb decides.rests.group decides.rests.group refl) in
        let rest : IsFaultRest f place.1 o.group (suc j) fault.i out o.rest = o.rest_is in
        let entry = Given (Fault (suc j) fault.i out) (negative decides.rests.group ∷ mine.0) in
        let same : Given (Fault (suc j) fault.i out) fault.clause ≡ entry = search arith in
        let inside : Contains es entry = subst (Contains es) same
        (subst (λ xs. Contains xs (Given (Fault (suc j) fault.i out) fault.clause)) (sym place.2)
        (Contains-append_right place.0 (Given (Fault (suc j) fault.i out) fault.clause ∷ place.1)
        (Given (Fault (suc j) fault.i out) fault.clause) (0, omega arith, refl))) in
        let is' : es ≡ (place.0 ++ Given (Fault (suc j) fault.i out) fault.clause ∷ []) ++ place.1 =
        place.2 ∙ sym (append_assoc place.0 (Given (Fault (suc j) fault.i out) fault.clause ∷ []) place.1) in
        let circuit = leaf_stays f place.1 (place.0 ++ Given (Fault (suc j) fault.i out) fault.clause ∷ [])
        (subst (Each MayFollow) is' lawful) (variable_of rest.literal) out rest.leaf_is in (
          one_leaf f decides.rests.group y.variable es (suc j) fault.i out mine.0 given inside own,
          subst (λ xs. IsCircuitLeaf xs out) (sym is') circuit,
        )

  pub functions_are : AreSkolemFunctions f functions
  functions_are = record {
    supported = λ k d below m n same. leaf_same (seen (get_or f.existentials k d).sees m)
        (seen (get_or f.existentials k d).sees n) (λ _. false)
        (seen_same (get_or f.existentials k d).sees m n same) es (leaf_of (get_or f.existentials k d));
    reads_declared = λ k d below i e inside. Contains-get_or (get_or f.existentials k d).sees i e inside;
    holds = λ m follows.
        let truth = bits_hold m (λ y. (functions y).value m)
        (λ k d below out fault.
        let y = get_or f.existentials k d in
        let r = reached_leaf y out fault in
        leaf_read m (seen y.sees m) (λ _. false) es lawful out r.1
        (λ x reads. seen_there y.sees m x (decides.reads k d below out fault x reads))
        ∙ ap (leaf_value (value_in (seen y.sees m) (λ _. false) es)) (sym r.0)) in
        λ k d below.
        clause_same f m (by_bits f m (λ y. (functions y).value m))
        (declared_bit f m (λ y. (functions y).value m) follows) (get_or f.matrix k d) (well.bound k d below)
        ∙ truth k d below;
  }
