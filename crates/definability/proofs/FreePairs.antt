-- Values of both copies, as two rows with values of the existentials.
use Rattle.std.proofs.Common.{◌≡◌, ℕ, zero, suc, ◌+◌, ◌<◌, ◌==◌, Bool, true, false, true≢false, not, cond, ◌||◌, inl, inr, List, [], ◌∷◌, ◌++◌, map, length, get_or, slice_get, Some, refl, sym, ◌∙◌, ap, subst, arith}
use Rattle.std.specs.List.{All, Contains, list_any}
use Rattle.std.specs.Option.{option_and_then}
use Rattle.std.proofs.lemmas.Bool.{cases_Bool, eqb-true, eq-eqb, ne_eqb}
use Rattle.std.proofs.lemmas.List.Folds.{list_any_at}
use Rattle.std.proofs.lemmas.List.{length-map}
use Rattle.std.proofs.lemmas.List.Elements.{All-contains, All-head, All-tail, All-cons, All-nil, All-push, Contains-get_or, Contains-append_cases, Contains-append_left, Contains-append_right}
use Rattle.std.proofs.lemmas.Option.{slice_get-get_or, slice_get_within}
use Rattle.list_laws.proofs.Members.{contains_tested, element_at}
use Rattle.list_laws.proofs.Elements.{kept_there}
use Rattle.dq_lits.specs.Literal.{Assignment, Literal, positive, negative, variable_of, is_negative, literal_true, clause_true}
use Rattle.dq_lits.specs.Derivation.{MakesTrue}
use Rattle.dq_lits.specs.Formula.{Dqbf, IsWellFormed, declared, is_universal}
use Rattle.dq_lits.specs.Expansion.{row_assignment}
use Rattle.dq_lits.specs.Henkin.{MatrixHolds}
use Rattle.dq_lits.specs.Row.{assignment_of, bit_of}
use Rattle.dq_lits.proofs.TrueClauses.{positive_true}
use Rattle.dq_formula.specs.Prefix.{existential_variables}
use Rattle.hint_log.specs.Entries.{Entry, Given, has_id, last_id, numbered, clause_of, clause_at, name_of}
use Rattle.hint_log.specs.Naming.{named_literal, name_literal, AreNamedAs, by_universality, round_assignment}
use Rattle.hint_log.specs.declared.names.Name.{Name}
use Rattle.hint_log.specs.declared.names.Name.TheVariants.{Copy as CopyOf}
use Rattle.hint_log.specs.declared.origins.Origin.{Origin}
use Rattle.hint_log.specs.declared.origins.Origin.TheVariants.{Link}
use Rattle.log_laws.proofs.Found.{named_variable}
use Rattle.oracle.specs.Calls.{IsMade, assumed}
use Rattle.oracle.specs.declared.groups.Group.{Group}
use Rattle.definability.specs.Copies.{group_variable, is_copied_at, AreCopies, AreCopiesOf, IsCopied, copies_of, copy_names, IsMatrixCopy, IsLink, IsDefinability}
use Rattle.definability.specs.Defining.{IsSample}
use Rattle.definability.specs.Dividing.{IsQuestion, asked_of, IsAsked, IsRead, values_at, AreBits, IsPairOf, ModelsCopies, IsPairAt}
use Rattle.definability.specs.declared.asking.Asked.{Asked}
use Rattle.definability.specs.declared.copies.MatrixCopy.{MatrixCopy}
use Rattle.definability.specs.declared.defining.Pair.{Pair}
use Rattle.definability.specs.declared.definability.Definability.{Definability}
use Rattle.definability.proofs.CopiedVariables.{named_length}
use Rattle.definability.proofs.KeptPlaces.{bit_at, copied_there}
use Rattle.definability.proofs.LinkedInterpolants.{signed, literal_signed}
use Rattle.definability.proofs.DeclaredPlaces.{copies_declared}
use Rattle.definition_order.proofs.Firsts.{universals_apart}

-- a given clause has an id
pub given_id : (es : List Entry) (o : Origin) (c : List Literal) → Contains es (Given o c) →
    (id : ℕ) × (id < last_id es + 1) × (clause_at es id ≡ Some c)
given_id [] o c (k, lt, at) = absurd (omega (arith, lt))
given_id (e ∷ es) o c (zero, lt, at) = here e at
  where
    here : (e : Entry) → e ≡ Given o c → (id : ℕ) × (id < last_id (e ∷ es) + 1) × (clause_at (e ∷ es) id ≡ Some c)
    here e is = subst (λ x. (id : ℕ) × (id < last_id (x ∷ es) + 1) × (clause_at (x ∷ es) id ≡ Some c)) (sym is) (
      last_id es + 1,
      omega arith,
      ap (λ b. option_and_then clause_of
          (cond b (Some (Given o c)) (numbered has_id es (last_id es + 1))))
          (eq-eqb (last_id es + 1) (last_id es + 1) refl),
    )
given_id (e ∷ es) o c (suc k, lt, at) = search (arith, (given_id es o c), ne_eqb)

there_at : {X : Type 0} (xs : List X) (k : ℕ) → k < length xs → (x : X) × (slice_get xs k ≡ Some x)
there_at [] k lt = absurd (omega (arith, lt))
there_at (x ∷ xs) zero lt = (x, refl)
there_at (x ∷ xs) (suc k) lt = there_at xs k (omega (arith, lt))

missing_universal : (us : List ℕ) (v : ℕ) → list_any (λ x. x == v) us ≡ false → Contains us v → ⊥
missing_universal us v h (k, lt, at) = search (arith, true≢false, list_any_at, eq-eqb)

-- a universal's value is its bit of the row
pub universal_value : (f : Dqbf) (row values : List Bool) (v : ℕ) → Contains f.universals v →
    round_assignment f row values v ≡ row_assignment f row v
universal_value f row values v among = search (arith, cases_Bool, missing_universal)

module _ (f : Dqbf) (es : List Entry) (values : Assignment) (formula : IsWellFormed f)
    (unique : (v w : ℕ) (name : Name) → name_of es v ≡ Some name → name_of es w ≡ Some name → v ≡ w)
    (live : MakesTrue values (clause_at es)) where
  given_true : (o : Origin) (c : List Literal) → Contains es (Given o c) → clause_true values c ≡ true
  given_true o c inside = let r = given_id es o c inside in live r.0 c r.2

  -- where its group is active
  switched : (g : ℕ) (rest : List Literal) → values g ≡ true → clause_true values (negative g ∷ rest) ≡ true →
      clause_true values rest ≡ true
  switched g rest on h = sym (ap (λ b. not b || clause_true values rest) on) ∙ h

  -- the bit that a row of values has for a variable
  pub assigned : (side : ℕ) (xs : List ℕ) (lits : List Literal) → AreCopiesOf es side xs lits → (v w : ℕ) →
      Contains xs v → name_of es w ≡ Some (CopyOf side v) →
      assignment_of xs (values_at values lits) v ≡ values w
  assigned side [] lits are v w (k, lt, at) named = absurd (omega (arith, lt))
  assigned side (x ∷ xs) [] are v w among named = cc
  assigned side (x ∷ xs) (l ∷ lits) are v w among named =
      let here : name_literal es l ≡ Some (named_literal (CopyOf side x) false) = cc in
      let later : map (name_literal es) lits ≡ map Some (map (λ z. named_literal (CopyOf side z) false) xs) = cc in
      elim (cases_Bool (x == v)) [
        | inl same ↦ (
            let l_named = named_variable es l (CopyOf side x) false (name_of es (variable_of l)) refl here in
            let is : x ≡ v = eqb-true x v same in
            ap (λ b. cond b (values (variable_of l)) (assignment_of xs (values_at values lits) v)) same
            ∙ ap values (unique (variable_of l) w (CopyOf side v)
            (l_named.0 ∙ ap (λ z. Some (CopyOf side z)) is) named))
        | inr other ↦
            ap (λ b. cond b (values (variable_of l)) (assignment_of xs (values_at values lits) v)) other
            ∙ assigned side xs lits later v w (behind among other) named
      ]
    where
      behind : Contains (x ∷ xs) v → (x == v) ≡ false → Contains xs v
      behind (zero, lt, at) other = absurd (true≢false (sym (eq-eqb x v at) ∙ other))
      behind (suc k, lt, at) other = (k, omega (arith, lt), at)

  module _ (side : ℕ) (flags : List Bool) (copy : MatrixCopy) (is : IsMatrixCopy f side flags copy es)
      (covered : (clause : List Literal) → Contains f.matrix clause → All (λ l. IsCopied f flags (variable_of l)) clause)
      (others row bits : List Bool) (row_is : AreBits values flags others copy.universals.items row)
      (bits_are : bits ≡ values_at values copy.existentials.items)
      (active : (g : Group) → Contains copy.groups.items g → values (group_variable g) ≡ true) where
    abbrev m : Assignment
    m = round_assignment f row bits

    -- the bit of a universal
    pub universal_bit : (v w : ℕ) → Contains f.universals v → IsCopied f flags v → name_of es w ≡ Some (CopyOf side v) →
        row_assignment f row v ≡ values w
    universal_bit v w (k, lt, at) has named =
        let us = f.universals in
        let there : slice_get us k ≡ Some v = slice_get-get_or us k v lt ∙ ap Some at in
        let flag = has k (kept_there us (existential_variables f) k v there) in
        let long = is.universals.long in
        let l = there_at copy.universals.items k (omega (arith, lt, long)) in
        let l_named = named_variable es l.0 (CopyOf side v) false (name_of es (variable_of l.0)) refl
        (is.universals.named k v l.0 flag there l.1) in
        bit_at us row k v (universals_apart f formula.prefix) there ∙ row_is.copied k l.0 flag l.1
        ∙ ap values (unique (variable_of l.0) w (CopyOf side v) l_named.0 named)

    -- a declared variable has its copy's value
    pub copied_value : (v w : ℕ) → Contains (declared f) v → IsCopied f flags v →
        name_of es w ≡ Some (CopyOf side v) → m v ≡ values w
    copied_value v w among has named = elim (cases_Bool (is_universal f v)) [
      | inl universal ↦
          ap (λ b. by_universality b (row_assignment f row v) (assignment_of (existential_variables f) bits v))
          universal ∙ universal_bit v w (contains_tested f.universals v universal) has named
      | inr other ↦ elim (Contains-append_cases f.universals (existential_variables f) v among) [
        | inl universal ↦ absurd (missing_universal f.universals v other universal)
        | inr existential ↦
            ap (λ b. by_universality b (row_assignment f row v) (assignment_of (existential_variables f) bits v)) other
            ∙ ap (λ r. assignment_of (existential_variables f) r v) bits_are
            ∙ assigned side (existential_variables f) copy.existentials.items is.existentials v w existential named
      ]
    ]

    copied_literal_true : (l k : Literal) → Contains (declared f) (variable_of l) → IsCopied f flags (variable_of l) →
        name_literal es k ≡ Some (named_literal (CopyOf side (variable_of l)) (is_negative l)) →
        literal_true values k ≡ literal_true m l
    copied_literal_true l k among has is = search (arith, named_variable, literal_signed, copied_value)

    -- what was copied is true where its copies are
    pub originals_true : (ls ks : List Literal) → All (λ l. Contains (declared f) (variable_of l)) ls →
        All (λ l. IsCopied f flags (variable_of l)) ls → AreNamedAs es ks (copy_names side ls) → All (λ l. literal_true values l ≡ true) ks →
        All (λ l. literal_true m l ≡ true) ls
    originals_true [] ks bound has are on = All-nil (λ l. literal_true m l ≡ true)
    originals_true (l ∷ ls) [] bound has are on = cc
    originals_true (l ∷ ls) (k ∷ ks) bound has are on =
        let R : Literal → Type 0 = λ j. IsCopied f flags (variable_of j) in
        let here : name_literal es k ≡ Some (named_literal (CopyOf side (variable_of l)) (is_negative l)) = cc in
        let later : map (name_literal es) ks ≡ map Some (copy_names side ls) = cc in
        let P : Literal → Type 0 = λ j. Contains (declared f) (variable_of j) in
        let Q : Literal → Type 0 = λ j. literal_true values j ≡ true in
        All-cons (λ j. literal_true m j ≡ true) l ls (sym (copied_literal_true l k (All-head P l ls bound) (All-head R l ls has) here)
        ∙ All-head Q k ks on)
        (originals_true ls ks (All-tail P l ls bound) (All-tail R l ls has) later (All-tail Q k ks on))

    copied_clause_true : (ls ks : List Literal) → All (λ l. Contains (declared f) (variable_of l)) ls →
        All (λ l. IsCopied f flags (variable_of l)) ls → AreNamedAs es ks (copy_names side ls) → clause_true values ks ≡ clause_true m ls
    copied_clause_true [] [] bound has are = refl
    copied_clause_true [] (k ∷ ks) bound has are = cc
    copied_clause_true (l ∷ ls) [] bound has are = cc
    copied_clause_true (l ∷ ls) (k ∷ ks) bound has are =
        let R : Literal → Type 0 = λ j. IsCopied f flags (variable_of j) in
        let here : name_literal es k ≡ Some (named_literal (CopyOf side (variable_of l)) (is_negative l)) = cc in
        let later : map (name_literal es) ks ≡ map Some (copy_names side ls) = cc in
        let P : Literal → Type 0 = λ j. Contains (declared f) (variable_of j) in
        ap (λ b. b || clause_true values ks)
        (copied_literal_true l k (All-head P l ls bound) (All-head R l ls has) here) ∙ ap
        (λ b. literal_true m l || b) (copied_clause_true ls ks (All-tail P l ls bound) (All-tail R l ls has) later)

    pub matrix_holds : MatrixHolds f m
    matrix_holds j d lt =
        let clause = get_or f.matrix j d in
        let inside = Contains-get_or f.matrix j d lt in
        let there = is.whole clause inside in
        let given = there.given in
        sym (copied_clause_true clause given.rest (formula.bound j d lt) (covered clause inside) given.named)
        ∙ switched (group_variable there.group) given.rest (active there.group there.among)
        (given_true there.origin (negative (group_variable there.group) ∷ given.rest) given.given)

    pub sample : IsSample f row bits
    sample = record {
      row_length = row_is.long ∙ is.universals.long;
      values_length = ap length bits_are ∙ length-map copy.existentials.items (λ l. values (variable_of l))
          ∙ named_length es copy.existentials.items _ is.existentials
          ∙ length-map (existential_variables f) (λ v. named_literal (CopyOf side v) false) ∙ length-map f.existentials
          (λ y. y.variable);
      holds_there = matrix_holds;
    }

  -- an equation that is active
  equal_there : (x : ℕ) (g : Group) → IsLink f x g es → values (group_variable g) ≡ true → (v w : ℕ) →
      name_of es v ≡ Some (CopyOf 1 x) → name_of es w ≡ Some (CopyOf 2 x) → values v ≡ values w
  equal_there x g link on v w one two =
      let down = link.whole 1 (inl refl) in
      let up = link.whole 2 (inr refl) in
      both (values v) (values w)
      (pair_true down.rest true false down.named (switched (group_variable g) down.rest on
      (given_true (Link x 1) (negative (group_variable g) ∷ down.rest) down.given)))
      (pair_true up.rest false true up.named (switched (group_variable g) up.rest on
      (given_true (Link x 2) (negative (group_variable g) ∷ up.rest) up.given)))
    where
      pair_true : (ks : List Literal) (a b : Bool) → AreNamedAs es ks
          (named_literal (CopyOf 1 x) a ∷ named_literal (CopyOf 2 x) b ∷ []) → clause_true values ks ≡ true →
          (signed a (values v) || signed b (values w)) ≡ true
      pair_true [] a b are h = cc
      pair_true (k ∷ []) a b are h = cc
      pair_true (k ∷ j ∷ []) a b are h = search (arith, named_variable, literal_signed)
      pair_true (k ∷ j ∷ i ∷ ks) a b are h = cc

      both : (s t : Bool) → (not s || t) ≡ true → (s || not t) ≡ true → s ≡ t
      both true true d u = refl
      both true false d u = cc
      both false true d u = cc
      both false false d u = refl

pub all_there : (P : Literal → Type 0) (xs : List Group) (more : List Literal) → All P (map (λ g. g.selector) xs ++ more) →
    ((g : Group) → Contains xs g → P g.selector) × All P more
all_there P [] more all = search arith
all_there P (x ∷ xs) more all =
    search (arith, (all_there P xs more), (All-tail P x.selector), (All-head P x.selector))

pub all_parts : (P : Literal → Type 0) (xs ys : List Literal) → All P (xs ++ ys) → All P xs × All P ys
all_parts P [] ys all = (All-nil P, all)
all_parts P (x ∷ xs) ys all = let rest = all_parts P xs ys (All-tail P x (xs ++ ys) all) in
    (All-cons P x xs (All-head P x (xs ++ ys) all) rest.0, rest.1)

value_bit : (values : Assignment) (lits : List Literal) (k : ℕ) (l : Literal) → slice_get lits k ≡ Some l →
    bit_of (values_at values lits) k ≡ values (variable_of l)
value_bit values [] k l at = cc
value_bit values (m ∷ lits) zero l at = let same : m ≡ l = cc in ap (λ x. values (variable_of x)) same
value_bit values (m ∷ lits) (suc k) l at = value_bit values lits k l at

-- the values of all these literals' variables, as a row
pub bits_of_values : (values : Assignment) (flags : List Bool) (lits : List Literal) →
    AreBits values flags (values_at values lits) lits (values_at values lits)
bits_of_values values flags lits = record {
  long = length-map lits (λ l. values (variable_of l));
  copied = λ k l flag at. value_bit values lits k l at;
  rest = λ k none. refl;
}

-- active groups are on
pub groups_on : (es : List Entry) (values : Assignment) (gs : List Group) → All (IsMade es) gs →
    ((g : Group) → Contains gs g → literal_true values g.selector ≡ true) → (g : Group) → Contains gs g →
    values (group_variable g) ≡ true
groups_on es values gs made on g among = search (arith, (positive_true values g.selector), All-contains)

-- the pair that a search found
module _ (f : Dqbf) (places : List ℕ) (v : ℕ) (conditions : List Literal) (p : Definability) (others : List Bool)
    (asked : Asked) (es : List Entry)
    (values : Assignment) (pair : Pair) (formula : IsWellFormed f)
    (unique : (v w : ℕ) (name : Name) → name_of es v ≡ Some name → name_of es w ≡ Some name → v ≡ w)
    (definability : IsDefinability f p es) (posed : IsQuestion f p.copied.items places v conditions)
    (asked_there : IsAsked es v conditions asked) (models : ModelsCopies p places
    (asked.first.items ++ asked.second.items) values es) (are : IsPairOf p others values pair) where
  abbrev both : List Literal
  both = asked.first.items ++ asked.second.items

  abbrev flags : List Bool
  flags = p.copied.items

  abbrev m1 : Assignment
  m1 = round_assignment f pair.row1 pair.values1

  abbrev m2 : Assignment
  m2 = round_assignment f pair.row2 pair.values2

  live : MakesTrue values (clause_at es)
  live = models.model.clauses

  all : ((g : Group) → Contains (p.first.groups.items ++ (p.second.groups.items ++ models.are_active.links)) g →
      literal_true values g.selector ≡ true) × All (λ l. literal_true values l ≡ true) both
  all = all_there (λ l. literal_true values l ≡ true)
      (p.first.groups.items ++ (p.second.groups.items ++ models.are_active.links)) both
      (subst (λ gs. All (λ l. literal_true values l ≡ true) (assumed gs both)) models.are_active.active_is
      models.model.assumptions_true)

  in_both : All (λ l. literal_true values l ≡ true) asked.first.items × All
      (λ l. literal_true values l ≡ true) asked.second.items
  in_both = all_parts (λ l. literal_true values l ≡ true) asked.first.items asked.second.items all.1

  first_on : (g : Group) → Contains p.first.groups.items g → values (group_variable g) ≡ true
  first_on = groups_on es values p.first.groups.items definability.first.made (λ g among.
      all.0 g (Contains-append_left p.first.groups.items (p.second.groups.items ++ models.are_active.links) g among))

  second_on : (g : Group) → Contains p.second.groups.items g → values (group_variable g) ≡ true
  second_on = groups_on es values p.second.groups.items definability.second.made (λ g among.
      all.0 g (Contains-append_right p.first.groups.items (p.second.groups.items ++ models.are_active.links) g
      (Contains-append_left p.second.groups.items models.are_active.links g among)))

  link_on : (g : Group) → Contains models.are_active.links g → IsMade es g → values (group_variable g) ≡ true
  link_on g among made = positive_true values g.selector made.positive
      (all.0 g (Contains-append_right p.first.groups.items (p.second.groups.items ++ models.are_active.links) g
      (Contains-append_right p.second.groups.items models.are_active.links g among)))

  value1 : (x w : ℕ) → Contains (declared f) x → IsCopied f flags x → name_of es w ≡ Some (CopyOf 1 x) → m1 x ≡ values w
  value1 = copied_value f es values formula unique live 1 flags p.first definability.first definability.covered others pair.row1
      pair.values1 are.row1 are.values1 first_on

  value2 : (x w : ℕ) → Contains (declared f) x → IsCopied f flags x → name_of es w ≡ Some (CopyOf 2 x) → m2 x ≡ values w
  value2 = copied_value f es values formula unique live 2 flags p.second definability.second definability.covered others pair.row2
      pair.values2 are.row2 are.values2 second_on

  all_declared : (l : Literal) → Contains (declared f) (variable_of l) →
      All (λ k. Contains (declared f) (variable_of k)) (asked_of conditions l)
  all_declared l there = All-push (λ k. Contains (declared f) (variable_of k)) conditions l posed.are_declared there

  all_copied : (l : Literal) → IsCopied f flags (variable_of l) →
      All (λ k. IsCopied f flags (variable_of k)) (asked_of conditions l)
  all_copied l there = All-push (λ k. IsCopied f flags (variable_of k)) conditions l posed.are_copied there

  -- the copy at a place has a name
  copy_named : (side : ℕ) (lits : List Literal) → AreCopies es side flags (declared f) lits → (k x : ℕ) →
      is_copied_at flags k ≡ true → slice_get (declared f) k ≡ Some x →
      (w : ℕ) × (name_of es w ≡ Some (CopyOf side x))
  copy_named side lits named k x flag at =
      let lt = slice_get_within (declared f) k x at in
      let long = named.long in
      let l = there_at lits k (omega (arith, lt, long)) in
      let is = named.named k x l.0 flag at l.1 in
      (variable_of l.0, (named_variable es l.0 (CopyOf side x) false (name_of es (variable_of l.0)) refl is).0)

  agree_at : (x : ℕ) → IsRead f places x → m1 x ≡ m2 x
  agree_at x place =
      let lt = slice_get_within (declared f) place.0 x place.1 in
      let long = definability.as_many in
      let flag = All-contains (λ k. is_copied_at flags k ≡ true) places place.0 posed.places_copied place.2 in
      let g = there_at p.links.items place.0 (omega (arith, lt, long)) in
      let link = definability.links place.0 x g.0 flag place.1 g.1 in
      let on = link_on g.0 (models.are_active.complete place.0 g.0 place.2 g.1) link.made in
      let a = copy_named 1 (copies_of p.first) (copies_declared f 1 flags p.first es definability.first.universals
      definability.first.existentials) place.0 x flag place.1 in
      let b = copy_named 2 (copies_of p.second) (copies_declared f 2 flags p.second es definability.second.universals
      definability.second.existentials) place.0 x flag place.1 in
      let x_declared = element_at (declared f) place.0 x place.1 in
      let x_copied = copied_there f flags place.0 x formula.prefix.declared_once place.1 flag in
      value1 x a.0 x_declared x_copied a.1 ∙ equal_there f es values formula unique live x g.0 link on a.0 b.0 a.1 b.1
      ∙ sym (value2 x b.0 x_declared x_copied b.1)

  pub apart_pair : IsPairAt f flags others places v conditions pair
  apart_pair = record {
    first = sample f es values formula unique live 1 flags p.first definability.first definability.covered others pair.row1
        pair.values1 are.row1 are.values1 first_on;
    second = sample f es values formula unique live 2 flags p.second definability.second definability.covered others pair.row2
        pair.values2 are.row2 are.values2 second_on;
    agree = agree_at;
    first_true = originals_true f es values formula unique live 1 flags p.first definability.first definability.covered others
        pair.row1 pair.values1 are.row1 are.values1 first_on (asked_of conditions (positive v)) asked.first.items
        (all_declared (positive v) posed.is_declared) (all_copied (positive v) posed.is_copied) asked_there.first
        in_both.0;
    second_true = originals_true f es values formula unique live 2 flags p.second definability.second definability.covered others
        pair.row2 pair.values2 are.row2 are.values2 second_on (asked_of conditions (negative v)) asked.second.items
        (all_declared (negative v) posed.is_declared) (all_copied (negative v) posed.is_copied) asked_there.second
        in_both.1;
    first_rest = are.row1.rest;
    second_rest = are.row2.rest;
  }
