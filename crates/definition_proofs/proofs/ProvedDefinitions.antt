-- A definition that is proved: its leaf, then the clauses of the difference, then the search.
use Rattle.std.proofs.Common.{◌≡◌, ◌≢◌, ◌⊎◌, ℕ, zero, suc, true, false, inl, inr, List, [], ◌∷◌, ◌++◌, map, get_or, None, Some, refl, sym, ◌∙◌, subst, arith}
use Rattle.std.specs.List.{All, Contains}
use Rattle.std.proofs.lemmas.Bool.{eqb-true}
use Rattle.std.proofs.lemmas.List.Elements.{All-contains, Contains-get_or, Contains-append_cases, Contains-append_left, Contains-append_right}
use Rattle.dq_lits.specs.Literal.{Literal, negative, variable_of, literal_true}
use Rattle.dq_lits.specs.Formula.{Dqbf, IsWellFormed, declared}
use Rattle.dq_lits.proofs.SignedLiterals.{as_positive}
use Rattle.dq_lits.proofs.TrueClauses.{positive_true}
use Rattle.aig_graph.specs.declared.nodes.Node.{Node}
use Rattle.aig_graph.specs.declared.nodes.Node.TheVariants.{Constant}
use Rattle.aig_graph.specs.Graph.{AigGraph, node_support}
use Rattle.defining_nodes.specs.Definitions.{input_variable}
use Rattle.hint_log.specs.Conditions.{AreLogged}
use Rattle.hint_log.specs.Entries.{Entry, Given, ProofLog, name_of}
use Rattle.hint_log.specs.Naming.{named_literal, name_literal}
use Rattle.hint_log.specs.Origins.{IsTermLeaf}
use Rattle.hint_log.specs.declared.names.Name.{Name}
use Rattle.hint_log.specs.declared.names.Name.TheVariants.{Selector, Copy as CopyOf}
use Rattle.hint_log.specs.declared.origins.Leaf.{Leaf}
use Rattle.hint_log.specs.declared.origins.Origin.{Origin}
use Rattle.hint_log.specs.declared.origins.Origin.TheVariants.{Copy, TermGate, Differ}
use Rattle.hint_log.proofs.NamedEntries.{each_one}
use Rattle.log_laws.proofs.Found.{named_variable}
use Rattle.log_laws.proofs.Kept.{NamesStay}
use Rattle.oracle.specs.Calls.{IsMade}
use Rattle.oracle.specs.declared.groups.Group.{Group}
use Rattle.definability.specs.Copies.{group_variable, groups_of, is_copy_of, IsSideGiven, IsDefinability}
use Rattle.definability.specs.Growing.{HasFewFaults, HasSameGivens}
use Rattle.definability.specs.declared.definability.Definability.{Definability}
use Rattle.definability.proofs.FreePairs.{all_there, groups_on}
use Rattle.definability.proofs.SearchAnswers.{definability_learned, found_declared, found_variable}
use Rattle.definition_proofs.specs.Differing.{IsDifferenceOf, IsDifference, IsExistential, AreUndiffered, IsDifferenceGiven}
use Rattle.definition_proofs.specs.Leaves.{IsLeafFor}
use Rattle.definition_proofs.specs.Proving.{AreBeside, IsDefinedBy, HasLeaf, IsProvedBy}
use Rattle.definition_proofs.specs.Searching.{ArePremises, HaveNoModel}
use Rattle.definition_proofs.specs.Shown.{TermLeafReads, IsDefinitionGiven, IsShownDefinition}
use Rattle.definition_proofs.specs.Terms.{is_term_gate, AreTerms, GrewByProof}
use Rattle.definition_proofs.specs.declared.differing.Difference.{Difference}
use Rattle.definition_proofs.specs.declared.terms.Terms.{Terms}
use Rattle.definition_proofs.proofs.GivenDifferences.{difference_stays, term_leaf_stays}
use Rattle.definition_proofs.proofs.KnownTerms.{names_stay, few_still, definability_still, proof_then, terms_stay}
use Rattle.definition_proofs.proofs.NodeLiterals.{stands_still, on_term, reads_support}
use Rattle.definition_proofs.proofs.NoModels.{no_values}
use Rattle.definability.proofs.SameGivens.{learned_same}
use Rattle.definition_proofs.proofs.Refutations.{same_leaves}
use Rattle.definition_proofs.proofs.DeclaredSides.{leaves_sides, same_sides, leaf_declared}

pub is_existential : (f : Dqbf) (graph : AigGraph) (y : ℕ) (node : Node) → IsDefinedBy f graph y node →
    IsExistential f y
is_existential f graph y node defined none =
    let both : None ≡ Some defined.existential = sym none ∙ defined.found in
    cc

pub own_declared : (f : Dqbf) (graph : AigGraph) (y : ℕ) (node : Node) → IsDefinedBy f graph y node →
    Contains (declared f) y
own_declared f graph y node defined = search (arith, found_variable, found_declared)

-- no other existential's difference is given
pub own_differs : (f : Dqbf) (group y : ℕ) (old new : ProofLog) → GrewByProof f group y old new →
    (x part : ℕ) (output : Leaf) (c : List Literal) → Contains new.entries (Given (Differ x output part) c) →
    Contains old.entries (Given (Differ x output part) c) ⊎ (x ≡ y)
own_differs f group y old new grew x part output c inside = elim (grew.givens (Differ x output part) c inside)
    [ inl was ↦ inl was | inr now ↦ inr (eqb-true x y now) ]

-- a leaf stays, stands on first copies, and reads what its node reads
pub leaf_stays : (f : Dqbf) (graph : AigGraph) (old new : List Entry) → NamesStay old new → (n : Node) (output : Leaf) →
    IsLeafFor f graph old n output → IsLeafFor f graph new n output
leaf_stays f graph old new stay (Constant b) output is = is
leaf_stays f graph old new stay _ output (l, is, stands) = search (arith, stands_still)

leaf_on_term : (f : Dqbf) (graph : AigGraph) (es : List Entry) (n : Node) (output : Leaf) →
    IsLeafFor f graph es n output → IsTermLeaf es output
leaf_on_term f graph es (Constant b) output is = subst (IsTermLeaf es) (sym is) tt
leaf_on_term f graph es _ output (l, is, stands) = search (arith, on_term)

pub leaf_reads : (f : Dqbf) (graph : AigGraph) (es : List Entry) (n : Node) (output : Leaf) →
    IsLeafFor f graph es n output → (x : ℕ) → TermLeafReads es output x →
    Contains (map (input_variable f) (node_support graph n)) x
leaf_reads f graph es (Constant b) output is x reads = search arith
leaf_reads f graph es _ output (l, is, stands) x reads = search (arith, reads_support)

-- clauses of the three groups
copy_is_right : (y : ℕ) (output : Leaf) (o : Origin) → is_copy_of 1 o ≡ true → IsDefinitionGiven y output o
copy_is_right y output (Copy side j) h = eqb-true side 1 h
copy_is_right y output _ h = cc

gate_is_right : (y : ℕ) (output : Leaf) (o : Origin) → is_term_gate o ≡ true → IsDefinitionGiven y output o
gate_is_right y output (TermGate v i) h = tt
gate_is_right y output _ h = cc

difference_is_right : (y : ℕ) (output : Leaf) (o : Origin) → IsDifferenceOf y output o → IsDefinitionGiven y output o
difference_is_right y output (Copy side j) h = absurd h
difference_is_right y output (TermGate v i) h = absurd h
difference_is_right y output _ h = h

one_of_two : (a b g : Group) → Contains (a ∷ b ∷ []) g → (a ≡ g) ⊎ (b ≡ g)
one_of_two a b g (zero, lt, at) = inl at
one_of_two a b g (suc zero, lt, at) = inr at
one_of_two a b g (suc (suc k), lt, at) = absurd (omega (arith, lt))

-- behind the leaf
module _ (f : Dqbf) (graph : AigGraph) (p : Definability) (first t : Terms) (y : ℕ) (node : Node) (copy : Literal)
    (output : Leaf) (old log : ProofLog) (beside : AreBeside f p first old.entries)
    (defined : IsDefinedBy f graph y node) (none : AreUndiffered y old.entries)
    (leaf : HasLeaf f graph node first old t log output)
    (copied : IsDefinability f p log.entries → name_literal log.entries copy ≡ Some (named_literal (CopyOf 1 y) false)) where
  abbrev d : Difference
  d = record { existential = y; copy = copy; output = output }

  definability : IsDefinability f p log.entries
  definability = definability_still f (group_variable first.group) y old log (leaf.grew f y) p beside.apart beside.definability

  pub difference : IsDifference log.entries (record { existential = y; copy = copy; output = output })
  difference =
      let named = named_variable log.entries copy (CopyOf 1 y) false (name_of log.entries (variable_of copy)) refl
      (copied definability) in
      record {
        positive_copy = as_positive copy named.1;
        copy_is = named.0;
        leaf_is = leaf_on_term f graph log.entries node output leaf.leaf_is;
      }

  pub few : HasFewFaults log.entries
  few = few_still f (group_variable first.group) y old log (leaf.grew f y) beside.few

  pub undiffered : AreUndiffered y log.entries
  undiffered out part c inside = elim (own_differs f (group_variable first.group) (suc y) old log (leaf.grew f (suc y)) y
      part out c inside) [ inl was ↦ none out part c was | inr same ↦ omega (arith, same) ]

  module _ (formula : IsWellFormed f)
      (names_unique : (es : List Entry) (v w : ℕ) (name : Name) → AreLogged es → name_of es v ≡ Some name →
      name_of es w ≡ Some name → v ≡ w)
      (given : ProofLog) (group : Group)
      (more : (h : Dqbf) (standing : ℕ) → IsExistential h y → GrewByProof h standing y log given)
      (different : IsDifferenceGiven (record { existential = y; copy = copy; output = output }) log given group) where
    grew_more : GrewByProof f (group_variable first.group) y log given
    grew_more = more f (group_variable first.group) (is_existential f graph y node defined)

    stay : NamesStay log.entries given.entries
    stay = names_stay f (group_variable first.group) y log given grew_more

    definability_there : IsDefinability f p given.entries
    definability_there = definability_still f (group_variable first.group) y log given grew_more p beside.apart definability

    known_there : AreTerms t given.entries
    known_there = terms_stay t log.entries given.entries
        (different.leaves (group_variable t.group) (Selector (group_variable t.group)) leaf.terms.made.named) leaf.terms

    abbrev active : List Group
    active = p.first.groups.items ++ t.group ∷ group ∷ []

    which : (g : Group) → Contains active g → Contains p.first.groups.items g ⊎ ((t.group ≡ g) ⊎ (group ≡ g))
    which g among = elim (Contains-append_cases p.first.groups.items (t.group ∷ group ∷ []) g among)
        [ inl first ↦ inl first | inr behind ↦ inr (one_of_two t.group group g behind) ]

    own : (g : Group) → Contains p.first.groups.items g ⊎ ((t.group ≡ g) ⊎ (group ≡ g)) → (origin : Origin)
        (rest : List Literal) →
        Contains given.entries (Given origin (negative (group_variable g) ∷ rest)) → IsDefinitionGiven y output origin
    own g (inl among) origin rest inside =
        let e = Given origin (negative (group_variable g) ∷ rest) in
        let one = each_one (IsSideGiven f 1 (group_variable g)) given.entries e (definability_there.first.own g among) inside in
        copy_is_right y output origin (one.1 (rest, refl)).0
    own g (inr (inl is)) origin rest inside = gate_is_right y output origin (known_there.own origin rest
        (subst (λ h. Contains given.entries (Given origin (negative (group_variable h) ∷ rest))) (sym is) inside))
    own g (inr (inr is)) origin rest inside = difference_is_right y output origin (different.alone origin rest
        (subst (λ h. Contains given.entries (Given origin (negative (group_variable h) ∷ rest))) (sym is) inside))

    made_of : (g : Group) → Contains p.first.groups.items g ⊎ ((t.group ≡ g) ⊎ (group ≡ g)) → IsMade given.entries g
    made_of g (inl among) = All-contains (IsMade given.entries) p.first.groups.items g definability_there.first.made among
    made_of g (inr (inl is)) = subst (IsMade given.entries) is known_there.made
    made_of g (inr (inr is)) = subst (IsMade given.entries) is different.made

    pub premises : ArePremises given.entries y output (p.first.groups.items ++ t.group ∷ group ∷ [])
    premises = record {
      made = λ k d lt. made_of (get_or active k d) (which (get_or active k d) (Contains-get_or active k d lt));
      leaf_is = term_leaf_stays log.entries given.entries stay output (leaf_on_term f graph log.entries node output
          leaf.leaf_is);
      own = λ g among. own g (which g among);
    }

    pub no_model : HaveNoModel given (p.first.groups.items ++ t.group ∷ group ∷ [])
    no_model new values logged learned model =
        let P : Literal → Type 0 = λ l. literal_true values l ≡ true in
        let same = learned_same given new learned in
        let later : NamesStay given.entries new.entries = λ v n is. same.names v ∙ is in
        let on = (all_there P active [] model.assumptions_true).0 in
        let firsts = p.first.groups.items in
        let rest = t.group ∷ group ∷ [] in
        no_values f graph p t new.entries values formula (λ v w name a b. names_unique new.entries v w name logged a b)
        (definability_learned f p given new learned definability_there) beside.whole
        (terms_stay t given.entries new.entries (same_leaves (group_variable t.group) given.entries new.entries same)
        known_there)
        model.clauses
        (groups_on given.entries values firsts definability_there.first.made (λ g among.
        on g (Contains-append_left firsts rest g among)))
        (positive_true values t.group.selector known_there.made.positive
        (on t.group (Contains-append_right firsts rest t.group (0, omega arith, refl))))
        d (group_variable group) node
        (difference_stays log.entries new.entries (λ v n is. later v n (stay v n is)) d difference)
        (λ second rest is. same.entries _ (different.given second rest is))
        (leaf_stays f graph log.entries new.entries (λ v n is. later v n (stay v n is)) node output leaf.leaf_is)
        defined
        (positive_true values group.selector different.made.positive
        (on group (Contains-append_right firsts rest group (1, omega arith, refl))))

    -- behind the search
    module _ (last : ProofLog) (shown : (h : Dqbf) (standing : ℕ) → GrewByProof h standing y given last)
        (same : HasSameGivens given.entries last.entries) where
      whole : GrewByProof f (group_variable first.group) y old last
      whole = proof_then f (group_variable first.group) y old given last
          (proof_then f (group_variable first.group) y old log given (leaf.grew f y) grew_more)
          (shown f (group_variable first.group))

      pub still_beside : AreBeside f p t last.entries
      still_beside = record {
        definability = definability_still f (group_variable first.group) y old last whole p beside.apart beside.definability;
        whole = beside.whole;
        terms = terms_stay t given.entries last.entries
            (same_leaves (group_variable t.group) given.entries last.entries same) known_there;
        sides = same_sides f given.entries last.entries same (leaves_sides f (group_variable t.group) log.entries
            given.entries (different.leaves (group_variable t.group) (Selector (group_variable t.group)) leaf.terms.made.named)
            (leaf.sides beside.sides));
        apart = subst (λ h. All (λ g. g ≢ group_variable h) (groups_of p)) (sym leaf.group) beside.apart;
        few = few_still f (group_variable first.group) y old last whole beside.few;
      }

      own_leaf : IsLeafFor f graph last.entries node output
      own_leaf = search (arith, leaf_stays)

      pub proved_by : (id : ℕ) → IsShownDefinition last.entries y output id →
          IsProvedBy f graph p y node t last.entries (record { id = id; leaf = output })
      proved_by id is_shown = record {
        beside = still_beside;
        shown = is_shown;
        is_declared = leaf_declared f graph last.entries node output own_leaf;
        leaf_is = own_leaf;
        reads = leaf_reads f graph last.entries node output own_leaf;
      }
