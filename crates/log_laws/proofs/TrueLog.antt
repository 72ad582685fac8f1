-- The log of a true formula meets every point.
use Rattle.std.proofs.Common.{◌≡◌, ℕ, suc, ◌+◌, false, List, [], ◌∷◌, not, Some, refl, sym, ◌∙◌, ap, subst, arith}
use Rattle.std.specs.List.{Contains}
use Rattle.std.specs.Option.{option_map}
use Rattle.std.proofs.lemmas.Bool.{false≢true}
use Rattle.dq_lits.specs.Literal.{Literal, positive, negative, variable_of, is_negative}
use Rattle.hint_log.specs.Entries.{Entry, Named, Given, Learned, name_of}
use Rattle.hint_log.specs.declared.names.Name.TheVariants.{Selector, Input, And, Bad}
use Rattle.hint_log.specs.declared.origins.Leaf.{Leaf}
use Rattle.hint_log.specs.declared.origins.Leaf.TheVariants.{Constant, Literal as LeafLiteral}
use Rattle.hint_log.specs.declared.origins.Origin.TheVariants.{Gate, Fault}
use Rattle.hint_log.specs.Conditions.{AreLogged}
use Rattle.hint_log.specs.Growth.{Each}
use Rattle.hint_log.specs.Origins.{matrix_literal, gate_rest, leaf_clause, leaf_with_sign, IsLeafOf, IsOriginsClause}
use Rattle.hint_log.specs.ProductiveLog.{MatchesOrigin, IsDerivedByHints}
use Rattle.log_laws.specs.Examples.{seen_conjunction, gate_given, faults_given, shown}
use Rattle.log_laws.proofs.Checks.{ids_by, contained_has}
use Rattle.log_laws.proofs.FalseLog.{new_name}

abbrev pub s1 : List Entry
s1 = Named 1 (Selector 1) ∷ []

abbrev pub s2 : List Entry
s2 = Named 2 (Input 1) ∷ s1

abbrev pub s3 : List Entry
s3 = Named 3 (Input 2) ∷ s2

abbrev pub s4 : List Entry
s4 = Named 4 (And (positive 2) (positive 3)) ∷ s3

abbrev pub s5 : List Entry
s5 = Given (Gate 4 1) (negative 1 ∷ negative 4 ∷ positive 2 ∷ []) ∷ s4

abbrev pub s6 : List Entry
s6 = Given (Gate 4 2) (negative 1 ∷ negative 4 ∷ positive 3 ∷ []) ∷ s5

abbrev pub s8 : List Entry
s8 = Named 5 (Selector 5) ∷ gate_given

abbrev pub s9 : List Entry
s9 = Named 6 (Bad 5 1) ∷ s8

abbrev pub s10 : List Entry
s10 = Named 7 (Bad 5 2) ∷ s9

abbrev pub s11 : List Entry
s11 = Named 8 (Bad 5 3) ∷ s10

abbrev pub s12 : List Entry
s12 = Given (Fault 1 1 (LeafLiteral (positive 4))) (negative 5 ∷ negative 6 ∷ positive 4 ∷ []) ∷ s11

abbrev pub s13 : List Entry
s13 = Given (Fault 1 2 (LeafLiteral (positive 2))) (negative 5 ∷ negative 6 ∷ negative 2 ∷ []) ∷ s12

abbrev pub s14 : List Entry
s14 = Given (Fault 2 1 (LeafLiteral (positive 4))) (negative 5 ∷ negative 7 ∷ positive 4 ∷ []) ∷ s13

abbrev pub s15 : List Entry
s15 = Given (Fault 2 2 (LeafLiteral (positive 3))) (negative 5 ∷ negative 7 ∷ negative 3 ∷ []) ∷ s14

abbrev pub s16 : List Entry
s16 = Given (Fault 3 1 (LeafLiteral (positive 4))) (negative 5 ∷ negative 8 ∷ negative 4 ∷ []) ∷ s15

abbrev pub s17 : List Entry
s17 = Given (Fault 3 2 (LeafLiteral (positive 2))) (negative 5 ∷ negative 8 ∷ positive 2 ∷ []) ∷ s16

abbrev pub s18 : List Entry
s18 = Given (Fault 3 3 (LeafLiteral (positive 3))) (negative 5 ∷ negative 8 ∷ positive 3 ∷ []) ∷ s17

abbrev pub s20 : List Entry
s20 = Learned (negative 1 ∷ negative 5 ∷ negative 6 ∷ []) (4 ∷ 5 ∷ 1 ∷ []) ∷ faults_given

abbrev pub s21 : List Entry
s21 = Learned (negative 1 ∷ negative 5 ∷ negative 7 ∷ []) (6 ∷ 7 ∷ 2 ∷ []) ∷ s20

pub gate_logged : AreLogged gate_given
gate_logged = search (arith, new_name)

pub faults_logged : AreLogged faults_given
faults_logged = search (arith, new_name, gate_logged)

pub shown_logged : AreLogged shown
shown_logged = search (arith, ids_by, faults_logged)

-- a gate's clause
gate_of : (earlier : List Entry) (v i group : ℕ) (a b : Literal) (rest : List Literal) →
    name_of earlier group ≡ Some (Selector group) → name_of earlier v ≡ Some (And a b) → gate_rest v a b i ≡ Some rest →
    IsOriginsClause seen_conjunction earlier (Gate v i) (negative group ∷ rest)
gate_of earlier v i group a b rest is_group named is = record {
  group = group;
  rest = rest;
  clause_is = refl;
  is_group = is_group;
  rest_is = record { left = a; right = b; named = named; rest_is = is };
  one_leaf = λ w j k j' k' leaf leaf' rest' e. cc;
}

-- the universals' inputs and the existential's gate
abbrev pub leaf_for : ℕ → Leaf
leaf_for v = LeafLiteral (positive (v + 1))

-- a fault has its variable's leaf
abbrev pub Fits : Entry → Type 0
Fits e = (j i : ℕ) (leaf : Leaf) (c : List Literal) → e ≡ Given (Fault j i leaf) c → (v : ℕ) →
    option_map variable_of (matrix_literal seen_conjunction j i) ≡ Some v → leaf ≡ leaf_for v

pub fits : (j i v : ℕ) (c : List Literal) → option_map variable_of (matrix_literal seen_conjunction j i) ≡ Some v →
    Fits (Given (Fault j i (leaf_for v)) c)
fits j i v c own j' i' leaf c' h v' own' =
    let left : j ≡ j' = cc in
    let right : i ≡ i' = cc in
    let same : leaf_for v ≡ leaf = cc in
    let both : Some v ≡ Some v' = sym own ∙ ap (λ k. option_map variable_of (matrix_literal seen_conjunction k i)) left
    ∙ ap (λ k. option_map variable_of (matrix_literal seen_conjunction j' k)) right ∙ own' in
    let one : v ≡ v' = cc in
    sym same ∙ ap leaf_for one

fits_none : (leaf : Leaf) (c : List Literal) → Fits (Given (Fault 0 0 leaf) c)
fits_none leaf c j i leaf' c' h v own = search arith

gate_fits : Each (λ before e. Fits e) gate_given
gate_fits = search arith

pub f8 : Each (λ before e. Fits e) s8
f8 = ((λ j i leaf c h v own. cc), gate_fits)

pub f9 : Each (λ before e. Fits e) s9
f9 = ((λ j i leaf c h v own. cc), f8)

pub f10 : Each (λ before e. Fits e) s10
f10 = ((λ j i leaf c h v own. cc), f9)

pub f11 : Each (λ before e. Fits e) s11
f11 = ((λ j i leaf c h v own. cc), f10)

pub f12 : Each (λ before e. Fits e) s12
f12 = (fits 1 1 3 (negative 5 ∷ negative 6 ∷ positive 4 ∷ []) refl, f11)

pub f13 : Each (λ before e. Fits e) s13
f13 = (fits 1 2 1 (negative 5 ∷ negative 6 ∷ negative 2 ∷ []) refl, f12)

pub f14 : Each (λ before e. Fits e) s14
f14 = (fits 2 1 3 (negative 5 ∷ negative 7 ∷ positive 4 ∷ []) refl, f13)

pub f15 : Each (λ before e. Fits e) s15
f15 = (fits 2 2 2 (negative 5 ∷ negative 7 ∷ negative 3 ∷ []) refl, f14)

pub f16 : Each (λ before e. Fits e) s16
f16 = (fits 3 1 3 (negative 5 ∷ negative 8 ∷ negative 4 ∷ []) refl, f15)

pub f17 : Each (λ before e. Fits e) s17
f17 = (fits 3 2 1 (negative 5 ∷ negative 8 ∷ positive 2 ∷ []) refl, f16)

pub f18 : Each (λ before e. Fits e) s18
f18 = (fits 3 3 2 (negative 5 ∷ negative 8 ∷ positive 3 ∷ []) refl, f17)

pub faults_fit : Each (λ before e. Fits e) faults_given
faults_fit = (fits_none (Constant false) (negative 5 ∷ positive 6 ∷ positive 7 ∷ positive 8 ∷ []), f18)

one_leaf : (earlier : List Entry) → Each (λ before e. Fits e) earlier → (j i : ℕ) (leaf : Leaf) (c : List Literal) →
    Fits (Given (Fault j i leaf) c) → (group v j' i' : ℕ) (leaf' : Leaf) (rest : List Literal) →
    Contains earlier (Given (Fault j' i' leaf') (negative group ∷ rest)) →
    option_map variable_of (matrix_literal seen_conjunction j i) ≡ Some v →
    option_map variable_of (matrix_literal seen_conjunction j' i') ≡ Some v → leaf ≡ leaf'
one_leaf earlier all j i leaf c here group v j' i' leaf' rest inside own own' =
    here j i leaf c refl v own ∙ sym (contained_has Fits earlier
    (Given (Fault j' i' leaf') (negative group ∷ rest)) all inside j' i' leaf' (negative group ∷ rest) refl v own')

pub all_have_one : (earlier : List Entry) → Each (λ before e. Fits e) earlier →
    (j i : ℕ) (leaf : Leaf) (c : List Literal) → Fits (Given (Fault j i leaf) c) → (group : ℕ) →
    (v k l j' i' : ℕ) (leaf1 leaf2 : Leaf) (rest : List Literal) →
    Fault j i leaf ≡ Fault k l leaf1 → Contains earlier (Given (Fault j' i' leaf2) (negative group ∷ rest)) →
    option_map variable_of (matrix_literal seen_conjunction k l) ≡ Some v →
    option_map variable_of (matrix_literal seen_conjunction j' i') ≡ Some v → leaf1 ≡ leaf2
all_have_one earlier all j i leaf c here group v k l j' i' leaf1 leaf2 rest is inside own own' =
    let fault : Given (Fault k l leaf1) c ≡ Given (Fault j i leaf) c = ap (λ o. Given o c) (sym is) in
    one_leaf earlier all k l leaf1 c (subst Fits (sym fault) here) group v j' i' leaf2 rest inside own own'

-- a fault's clause
pub fault_of : (earlier : List Entry) → Each (λ before e. Fits e) earlier →
    (group j i bad v : ℕ) (literal : Literal) (tail : List Literal) → name_of earlier group ≡ Some (Selector group) →
    matrix_literal seen_conjunction (suc j) i ≡ Some literal →
    option_map variable_of (matrix_literal seen_conjunction (suc j) i) ≡ Some v →
    IsLeafOf seen_conjunction earlier (variable_of literal) (leaf_for v) →
    name_of earlier bad ≡ Some (Bad group (suc j)) →
    leaf_clause (leaf_with_sign (not (is_negative literal)) (leaf_for v)) ≡ Some tail →
    IsOriginsClause seen_conjunction earlier (Fault (suc j) i (leaf_for v)) (negative group ∷ negative bad ∷ tail)
fault_of earlier all group j i bad v literal tail is_group literal_is own leaf_is bad_is tail_is = record {
  group = group;
  rest = negative bad ∷ tail;
  clause_is = refl;
  is_group = is_group;
  rest_is = record {
    literal = literal;
    bad = bad;
    tail = tail;
    literal_is = literal_is;
    leaf_is = leaf_is;
    bad_is =
        bad_is;
    tail_is = tail_is;
    rest_is = refl;
  };
  one_leaf = all_have_one earlier all (suc j) i (leaf_for v) (negative group ∷ negative bad ∷ tail)
      (fits (suc j) i v (negative group ∷ negative bad ∷ tail) own) group;
}

some_of : IsOriginsClause seen_conjunction s18 (Fault 0 0 (Constant false))
    (negative 5 ∷ positive 6 ∷ positive 7 ∷ positive 8 ∷ [])
some_of = search (arith, all_have_one, f18, fits_none)

pub gate_matches : Each (MatchesOrigin seen_conjunction) gate_given
gate_matches = (
  gate_of s6 4 3 1 (positive 2) (positive 3) (positive 4 ∷ negative 2 ∷ negative 3 ∷ []) refl refl refl,
  (
    gate_of s5 4 2 1 (positive 2) (positive 3) (negative 4 ∷ positive 3 ∷ []) refl refl refl,
    (
      gate_of s4 4 1 1 (positive 2) (positive 3) (negative 4 ∷ positive 2 ∷ []) refl refl refl,
      (
        tt,
        (
          (1, omega arith, refl),
          (
            (0, omega arith, refl),
            (tt, tt),
          ),
        ),
      ),
    ),
  ),
)

pub faults_matches : Each (MatchesOrigin seen_conjunction) faults_given
faults_matches = (
  some_of,
  (
    fault_of s17 f17 5 2 3 8 2 (negative 2) (positive 3 ∷ []) refl refl refl ((λ h. (refl, refl)), refl) refl refl,
    (
      fault_of s16 f16 5 2 2 8 1 (negative 1) (positive 2 ∷ []) refl refl refl ((λ h. (refl, refl)), refl) refl refl,
      (
        fault_of s15 f15 5 2 1 8 3 (positive 3) (negative 4 ∷ []) refl refl refl
            ((λ h. absurd (false≢true h)), refl) refl refl,
        (
          fault_of s14 f14 5 1 2 7 2 (positive 2) (negative 3 ∷ []) refl refl refl
              ((λ h. (refl, refl)), refl) refl refl,
          (
            fault_of s13 f13 5 1 1 7 3 (negative 3) (positive 4 ∷ []) refl refl refl
                ((λ h. absurd (false≢true h)), refl) refl refl,
            (
              fault_of s12 f12 5 0 2 6 1 (positive 1) (negative 2 ∷ []) refl refl refl
                  ((λ h. (refl, refl)), refl) refl refl,
              (
                fault_of s11 f11 5 0 1 6 3 (negative 3) (positive 4 ∷ []) refl refl refl
                    ((λ h. absurd (false≢true h)), refl) refl refl,
                (
                  tt,
                  (
                    tt,
                    (
                      tt,
                      (tt, gate_matches),
                    ),
                  ),
                ),
              ),
            ),
          ),
        ),
      ),
    ),
  ),
)

pub shown_matches : Each (MatchesOrigin seen_conjunction) shown
shown_matches = search (arith, faults_matches)

pub gate_derived : Each IsDerivedByHints gate_given
gate_derived = search arith

pub faults_derived : Each IsDerivedByHints faults_given
faults_derived = search (arith, gate_derived)

pub shown_derived : Each IsDerivedByHints shown
shown_derived = search (arith, faults_derived)
