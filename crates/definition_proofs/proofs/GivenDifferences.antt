-- Clauses by which the first copy of an existential and an output differ, as they are given.
use Rattle.std.proofs.Common.{◌≡◌, ◌≢◌, ◌⊎◌, ℕ, true, false, inl, inr, List, ◌∷◌, Option, None, Some, refl, sym, ◌∙◌, ap, subst, arith}
use Rattle.std.specs.List.{Contains}
use Rattle.std.specs.Option.{option_map}
use Rattle.std.proofs.lemmas.Bool.{eq-eqb}
use Rattle.list_laws.proofs.Members.{contains_later, contains_cases}
use Rattle.dq_lits.specs.Literal.{Literal, negative, variable_of}
use Rattle.dq_lits.specs.Formula.{Dqbf}
use Rattle.hint_log.specs.Conditions.{AreLogged, is_term_name}
use Rattle.hint_log.specs.Entries.{Entry, Named, Given, ProofLog, with_entry, name_of}
use Rattle.hint_log.specs.Origins.{is_second, with_sign, leaf_with_sign, leaf_clause, IsRestOf, IsTermLeaf}
use Rattle.hint_log.specs.declared.names.Name.{Name}
use Rattle.hint_log.specs.declared.names.Name.TheVariants.{Selector, Copy as CopyOf, Term}
use Rattle.hint_log.specs.declared.origins.Leaf.{Leaf}
use Rattle.hint_log.specs.declared.origins.Leaf.TheVariants.{Constant, Literal as LeafLiteral}
use Rattle.hint_log.specs.declared.origins.Origin.{Origin}
use Rattle.hint_log.specs.declared.origins.Origin.TheVariants.{TermGate, Differ}
use Rattle.log_laws.specs.Engines.{copies, IsAddedBy}
use Rattle.log_laws.proofs.LargerLogs.{grown_by, grown_then}
use Rattle.log_laws.proofs.Kept.{NamesStay, name_stays_by, name_cases}
use Rattle.oracle.specs.Calls.{IsMade}
use Rattle.oracle.specs.declared.groups.Group.{Group}
use Rattle.definability.specs.Copies.{group_variable}
use Rattle.definability.specs.Growing.{HasFewFaults}
use Rattle.definability.proofs.GivenClauses.{in_by, in_then}
use Rattle.definition_proofs.specs.Terms.{is_proof_origin, GrewByProof}
use Rattle.definition_proofs.specs.Differing.{differing, IsPut, IsDifferenceOf, IsDifference, IsExistential, AreUndiffered, HasDifferenceAlone, LeavesTerms, AreDiffering}
use Rattle.definition_proofs.specs.declared.differing.Difference.{Difference}
use Rattle.definition_proofs.proofs.KnownTerms.{given_before, none_in_new}

some_name : (o : Option Name) → is_term_name o ≡ true → (n : Name) × (o ≡ Some n)
some_name None is = cc
some_name (Some n) is = (n, refl)

pub term_leaf_stays : (old new : List Entry) → NamesStay old new → (leaf : Leaf) → IsTermLeaf old leaf →
    IsTermLeaf new leaf
term_leaf_stays old new stay (Constant b) is = tt
term_leaf_stays old new stay (LeafLiteral l) is = search (arith, some_name)

pub difference_stays : (old new : List Entry) → NamesStay old new → (d : Difference) → IsDifference old d →
    IsDifference new d
difference_stays old new stay d is = search (arith, term_leaf_stays)

pub none_differ : (group : ℕ) (d : Difference) (old new : ProofLog) → new ≡ old → HasFewFaults old.entries →
    AreDiffering group d old new
none_differ group d old new is few = search arith

module _ (group : ℕ) (d : Difference) (old log new : ProofLog) (part : ℕ) (which : (part ≡ 1) ⊎ (part ≡ 2))
    (is_group : name_of log.entries group ≡ Some (Selector group)) (difference : IsDifference log.entries d)
    (first : (c : List Literal) → Contains log.entries (Given (Differ d.existential d.output part) c) → ⊥)
    (before : AreDiffering group d old log) where
  abbrev y : ℕ
  y = d.existential

  abbrev leaf : Leaf
  leaf = d.output

  abbrev copy : ℕ
  copy = variable_of d.copy

  one_more : (tail : List Literal) → leaf_clause (leaf_with_sign (is_second part) leaf) ≡ Some tail →
      AreDiffering group d old (with_entry log (Given (Differ d.existential d.output part)
      (negative group ∷ with_sign (is_second part) copy ∷ tail)))
  one_more tail tail_is = record {
    grew = λ f existential. in_then f group old log (with_entry log e) (before.grew f existential)
        (in_by f log group (Differ y leaf part) rest refl is_group (right f existential) first before.few);
    names = before.names;
    entries = λ x inside. contains_later e x log.entries (before.entries x inside);
    givens = λ o c inside. elim (contains_cases e (Given o c) log.entries inside) [
      | inl same ↦ (
          let o_is : Differ y leaf part ≡ o = cc in
          let c_is : negative group ∷ rest ≡ c = cc in
          inr (subst (IsDifferenceOf y leaf) o_is (refl, refl), (rest, sym c_is)))
      | inr behind ↦ before.givens o c behind
    ];
    few = before.few;
  } where
    rest : List Literal
    rest = with_sign (is_second part) copy ∷ tail

    e : Entry
    e = Given (Differ d.existential d.output part) (negative group ∷ with_sign (is_second part) copy ∷ tail)

    right : (f : Dqbf) → IsExistential f y → IsRestOf f log.entries group (Differ y leaf part) rest
    right f existential = (
      which,
      record {
        copy = copy;
        tail = tail;
        is_existential = existential;
        copy_is = difference.copy_is;
        leaf_is = difference.leaf_is;
        tail_is = tail_is;
        rest_is = refl;
      },
    )

  pub put_more : IsPut log new (Differ d.existential d.output part) group (differing copy leaf (is_second part)) →
      AreDiffering group d old new
  put_more = by (leaf_clause (leaf_with_sign (is_second part) leaf)) refl where
    by : (o : Option (List Literal)) → leaf_clause (leaf_with_sign (is_second part) leaf) ≡ o →
        IsPut log new (Differ d.existential d.output part) group
        (option_map (λ tail. with_sign (is_second part) copy ∷ tail) o) → AreDiffering group d old new
    by None e is = subst (λ (l : ProofLog). AreDiffering group d old l) (sym is) before
    by (Some tail) e is = subst (λ (l : ProofLog). AreDiffering group d old l) (sym is) (one_more tail e)

  -- the other part isn't given
  pub other_ungiven : (other : ℕ) → part ≢ other → ((c : List Literal) →
      Contains log.entries (Given (Differ d.existential d.output other) c) → ⊥) →
      IsPut log new (Differ d.existential d.output part) group (differing copy leaf (is_second part)) →
      (c : List Literal) → Contains new.entries (Given (Differ d.existential d.output other) c) → ⊥
  other_ungiven other apart none = by (differing copy leaf (is_second part)) where
    by : (o : Option (List Literal)) → IsPut log new (Differ d.existential d.output part) group o →
        (c : List Literal) → Contains new.entries (Given (Differ d.existential d.output other) c) → ⊥
    by None is c inside = none c
        (subst (λ (l : ProofLog). Contains l.entries (Given (Differ y leaf other) c)) is inside)
    by (Some rest) is c inside = elim (contains_cases (Given (Differ y leaf part) (negative group ∷ rest))
        (Given (Differ y leaf other) c) log.entries
        (subst (λ (l : ProofLog). Contains l.entries (Given (Differ y leaf other) c)) is inside)) [
          | inl same ↦ (let number : part ≡ other = cc in apart number)
          | inr behind ↦ none c behind
        ]

-- both parts, to a group that was made
module _ (g : Group) (d : Difference) (old mid new : ProofLog) (made : IsMade old.entries g)
    (difference : IsDifference old.entries d) (few : HasFewFaults old.entries)
    (none : AreUndiffered d.existential old.entries)
    (first : IsPut old mid (Differ d.existential d.output 1) (group_variable g)
    (differing (variable_of d.copy) d.output false)) where
  one_apart : ◌≢◌ {A = ℕ} 1 2
  one_apart is = omega (arith, is)

  pub first_put : AreDiffering (group_variable g) d old mid
  first_put = put_more (group_variable g) d old old mid 1 (inl refl) made.named difference (none d.output 1)
      (none_differ (group_variable g) d old old refl few) first

  pub second_put : IsPut mid new (Differ d.existential d.output 2) (group_variable g)
      (differing (variable_of d.copy) d.output true) → AreDiffering (group_variable g) d old new
  second_put second = put_more (group_variable g) d old mid new 2 (inr refl)
      (first_put.names (group_variable g) ∙ made.named)
      (difference_stays old.entries mid.entries (λ v n is. first_put.names v ∙ is) d difference)
      (other_ungiven (group_variable g) d old old mid 1 (inl refl) made.named difference (none d.output 1)
      (none_differ (group_variable g) d old old refl few) 2 one_apart (none d.output 2) first)
      first_put second

  pub second_stopped : new ≡ mid → AreDiffering (group_variable g) d old new
  second_stopped is = subst (λ (l : ProofLog). AreDiffering (group_variable g) d old l) (sym is) first_put

differs_is_proof : (y : ℕ) (output : Leaf) (o : Origin) → IsDifferenceOf y output o → is_proof_origin y o ≡ true
differs_is_proof y output (Differ x out part) is = eq-eqb x y is.0
differs_is_proof y output _ is = absurd is

-- a new group, and what is given to it
module _ (g : ℕ) (d : Difference) (old mid new : ProofLog) (logged : AreLogged old.entries)
    (unnamed : name_of old.entries g ≡ None) (is : mid ≡ with_entry old (Named g (Selector g)))
    (differ : AreDiffering g d mid new) where
  mid_is : mid.entries ≡ Named g (Selector g) ∷ old.entries
  mid_is = ap (λ (l : ProofLog). l.entries) is

  before : (o : Origin) (c : List Literal) → Contains mid.entries (Given o c) → Contains old.entries (Given o c)
  before o c inside = given_before g (Selector g) old.entries o c (subst (λ es. Contains es (Given o c)) mid_is inside)

  pub group_grew : (f : Dqbf) (standing : ℕ) → IsExistential f d.existential →
      GrewByProof f standing d.existential old new
  group_grew f standing existential = record {
    grew = λ start names. grown_then (IsAddedBy f copies standing true start) old mid new
        (grown_by (IsAddedBy f copies standing true start) old mid (Named g (Selector g)) is
        (record { unnamed = unnamed; own = inl refl; rightly = tt }))
        (differ.grew f existential standing start (inr (names g unnamed)));
    givens = λ o c inside. elim (differ.givens o c inside) [
      | inl was ↦ inl (before o c was)
      | inr now ↦ inr (differs_is_proof d.existential d.output o now.0)
    ];
  }

  pub group_alone : HasDifferenceAlone new.entries g d
  group_alone o rest inside = elim (differ.givens o (negative g ∷ rest) inside) [
    | inl was ↦ absurd (none_in_new old.entries g o rest logged unnamed (before o (negative g ∷ rest) was))
    | inr now ↦ now.0
  ]

  stay : NamesStay old.entries new.entries
  stay v n named = differ.names v ∙ ap (λ es. name_of es v) mid_is
      ∙ name_stays_by old.entries g (Selector g) unnamed v n named

  pub group_leaves : (other : ℕ) (n : Name) → name_of old.entries other ≡ Some n →
      LeavesTerms other old.entries new.entries
  group_leaves other n named = record {
    names = stay;
    terms = λ v a b there. elim (name_cases old.entries g v (Selector g) (Term a b)
        (sym (ap (λ es. name_of es v) mid_is) ∙ sym (differ.names v) ∙ there))
        [ inl same ↦ cc | inr was ↦ was ];
    copies = λ v x there. elim (name_cases old.entries g v (Selector g) (CopyOf 1 x)
        (sym (ap (λ es. name_of es v) mid_is) ∙ sym (differ.names v) ∙ there))
        [ inl same ↦ cc | inr was ↦ was ];
    entries = λ e inside. differ.entries e (subst (λ es. Contains es e) (sym mid_is)
        (contains_later (Named g (Selector g)) e old.entries inside));
    gates = λ v i c inside. elim (differ.givens (TermGate v i) c inside)
        [ inl was ↦ before (TermGate v i) c was | inr now ↦ absurd now.0 ];
    in_group = λ o rest inside. elim (differ.givens o (negative other ∷ rest) inside) [
      | inl was ↦ before o (negative other ∷ rest) was
      | inr now ↦ (
          let lists : negative other ∷ rest ≡ negative g ∷ now.1.0 = now.1.1 in
          let same : other ≡ g = cc in
          let both : None ≡ Some n = sym unnamed ∙ ap (name_of old.entries) (sym same) ∙ named in
          cc)
    ];
  }

-- the new group changes nothing else
pub undiffered_still : (y g : ℕ) (old new : List Entry) → new ≡ Named g (Selector g) ∷ old → AreUndiffered y old →
    AreUndiffered y new
undiffered_still y g old new is none output part c inside = none output part c (given_before g (Selector g) old
    (Differ y output part) c (subst (λ es. Contains es (Given (Differ y output part) c)) is inside))
