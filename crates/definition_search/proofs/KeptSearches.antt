-- What the search keeps as the log grows.
use Rattle.std.proofs.Common.{◌≡◌, ◌≢◌, ◌⊎◌, ◌≤◌, ◌+◌, ◌<◌, ℕ, true, inl, inr, List, [], length, get_or, slice_get, Some, refl, sym, ◌∙◌, ap, subst, arith}
use Rattle.std.specs.List.{All, Contains}
use Rattle.aig_graph.specs.Graph.{AigGraph}
use Rattle.std.proofs.lemmas.List.{length-map, get_or-map}
use Rattle.std.proofs.lemmas.Option.{slice_get_within, slice_get-get_or, get_or_from_slice_get}
use Rattle.dq_lits.specs.Formula.{Dqbf, Existential, HasLawfulPrefix}
use Rattle.dq_lits.specs.Literal.{Literal}
use Rattle.dq_formula.specs.Prefix.{IsLawful, existential_variables}
use Rattle.hint_log.specs.Entries.{Entry, Given, ProofLog}
use Rattle.hint_log.specs.Growth.{Grew}
use Rattle.hint_log.specs.ProductiveLog.{IsProductiveLog, fault_groups, fault_room}
use Rattle.hint_log.specs.declared.origins.Leaf.{Leaf}
use Rattle.hint_log.specs.declared.origins.Origin.TheVariants.{Differ}
use Rattle.log_laws.specs.Engines.{copies, IsAddedBy, EnginesLeaveRest}
use Rattle.oracle.specs.Searched.{IsSearched}
use Rattle.definition_order.proofs.Declared.{one_place, variable}
use Rattle.definability.specs.Copies.{IsDefinability, IsWhole, groups_of}
use Rattle.definability.specs.Growing.{HasFewFaults, HasSameGivens}
use Rattle.definability.specs.Copies.{group_variable}
use Rattle.definition_proofs.specs.Proving.{AreBeside}
use Rattle.definition_proofs.proofs.DeclaredSides.{same_sides}
use Rattle.definition_proofs.proofs.KnownTerms.{terms_stay}
use Rattle.definition_proofs.proofs.Refutations.{same_leaves}
use Rattle.definition_export.specs.TermOrder.{HasRead}
use Rattle.definition_search.specs.Searching.{IsSearch}
use Rattle.definition_search.specs.Texts.{GoesOn}
use Rattle.definition_search.specs.declared.searching.Search.{Search}
use Rattle.definition_search.proofs.ReadNames.{read_stays}

pub some_at : (f : Dqbf) → IsLawful f → (vs : List ℕ) → vs ≡ existential_variables f → (p : ℕ) →
    p < length f.existentials → slice_get (existential_variables f) p ≡ Some (get_or vs p 0)
some_at f lawful vs are p below =
    let many = ap length are ∙ length-map f.existentials variable in
    ap (λ ws. slice_get ws p) (sym are) ∙ slice_get-get_or vs p 0 (omega (arith, below, many))

pub variable_at : (f : Dqbf) (vs : List ℕ) → vs ≡ existential_variables f → (p y : ℕ) →
    slice_get (existential_variables f) p ≡ Some y → get_or vs p 0 ≡ y
variable_at f vs are p y at =
    ap (λ ws. get_or ws p 0) are ∙ get_or_from_slice_get (existential_variables f) p y 0 at

pub named_there : (f : Dqbf) (vs : List ℕ) → vs ≡ existential_variables f → (p : ℕ) (y : Existential) →
    slice_get f.existentials p ≡ Some y → y.variable ≡ get_or vs p 0
named_there f vs are p y at =
    let below = slice_get_within f.existentials p y at in
    sym (ap (λ ws. get_or ws p 0) are ∙ get_or-map variable f.existentials p y 0 below
    ∙ ap variable (get_or_from_slice_get f.existentials p y y at))

pub still_productive : EnginesLeaveRest → (f : Dqbf) (group : ℕ) (old new : ProofLog) →
    Grew (IsAddedBy f copies group true old.entries) old new → IsSearched new.entries →
    IsProductiveLog f old.entries → IsProductiveLog f new.entries
still_productive law f group old new grew searched productive =
    let rest = law f copies group true old new grew in
    record {
      givens_match_origins = rest.origins productive.givens_match_origins;
      lemmas_are_derived = searched.derived;
      lemmas_are_new = searched.new;
      rounds_refute_new_rows = rest.new_rows productive.rounds_refute_new_rows;
      rounds_follow_a_model = rest.models productive.rounds_follow_a_model;
      givens_are_not_repeated = rest.givens productive.givens_are_not_repeated;
    }

pub still_few : EnginesLeaveRest → (f : Dqbf) (group : ℕ) (old new : ProofLog) →
    Grew (IsAddedBy f copies group true old.entries) old new → HasFewFaults old.entries → HasFewFaults new.entries
still_few law f group old new grew few =
    let rest = law f copies group true old new grew in
    subst (λ n. length (fault_groups new.entries) ≤ n) (sym rest.room)
    (subst (λ (gs : List ℕ). length gs ≤ fault_room old.entries) (sym (rest.faults refl)) few)

-- a question to the copies leaves the search as it is
pub asked_search : EnginesLeaveRest → (f : Dqbf) (s t : Search) (place : ℕ) (old new : ProofLog) →
    t.definability ≡ s.definability → t.terms ≡ s.terms → t.order ≡ s.order → t.graph.inputs ≡ s.graph.inputs →
    Grew (IsAddedBy f copies 0 true old.entries) old new → HasSameGivens old.entries new.entries →
    IsDefinability f t.definability new.entries → IsSearched new.entries → IsSearch f s place old.entries →
    IsSearch f t place new.entries
asked_search law f s t place old new definability_is terms_is order_is inputs_are grew same definability searched before = record {
  productive = still_productive law f 0 old new grew searched before.productive;
  beside = subst (λ u. AreBeside f t.definability u new.entries) (sym terms_is) (record {
    definability = definability;
    whole = subst (IsWhole f) (sym definability_is) before.beside.whole;
    terms = terms_stay s.terms old.entries new.entries (same_leaves (group_variable s.terms.group) old.entries
        new.entries same) before.beside.terms;
    sides = same_sides f old.entries new.entries same before.beside.sides;
    apart = subst (λ p. All (λ g. g ≢ group_variable s.terms.group) (groups_of p)) (sym definability_is) before.beside.apart;
    few = still_few law f 0 old new grew before.beside.few;
  });
  read = subst (λ o. HasRead o new.entries) (sym order_is)
      (read_stays (IsAddedBy f copies 0 true old.entries) s.order old new grew before.read);
  inputs = inputs_are ∙ before.inputs;
  undiffered = λ i y far at leaf part c inside. before.undiffered i y far at leaf part c (same.givens _ c inside);
}

-- two places have two existentials
apart : (f : Dqbf) → HasLawfulPrefix f → (i p x y : ℕ) → slice_get (existential_variables f) i ≡ Some x →
    slice_get (existential_variables f) p ≡ Some y → p < i → x ≡ y → ⊥
apart f lawful i p x y at_i at_p less same =
    let a = existential_of_place f i x at_i in
    let b = existential_of_place f p y at_p in
    let equal = one_place f lawful i p a.0 b.0 a.1 b.1 (a.2 ∙ same ∙ sym b.2) in
    omega (arith, equal, less) where
      existential_of_place : (f : Dqbf) (i x : ℕ) → slice_get (existential_variables f) i ≡ Some x →
          (y : Existential) × (slice_get f.existentials i ≡ Some y) × (y.variable ≡ x)
      existential_of_place f i x at =
          let within : i < length (existential_variables f) = slice_get_within (existential_variables f) i x at in
          let many = length-map f.existentials variable in
          let none : Existential = record { variable = 0; sees = [] } in
          let below : i < length f.existentials = omega (arith, within, many) in
          let y = get_or f.existentials i none in (
            y,
            slice_get-get_or f.existentials i none below,
            sym (get_or-map variable f.existentials i none 0 below)
                ∙ get_or_from_slice_get (existential_variables f) i x 0 at,
          )

-- a definition that was proved
pub proved_search : EnginesLeaveRest → (f : Dqbf) → IsLawful f → (s t : Search) (place y : ℕ) (old new : ProofLog) →
    slice_get (existential_variables f) place ≡ Some y → t.graph ≡ s.graph →
    Grew (IsAddedBy f copies (group_variable s.terms.group) true old.entries) old new → IsSearched new.entries →
    AreBeside f t.definability t.terms new.entries → HasRead t.order new.entries →
    ((x part : ℕ) (leaf : Leaf) (c : List Literal) → Contains new.entries (Given (Differ x leaf part) c) →
    Contains old.entries (Given (Differ x leaf part) c) ⊎ (x ≡ y)) → IsSearch f s place old.entries →
    IsSearch f t (place + 1) new.entries
proved_search law f lawful s t place y old new here graph_is grew searched beside read differs before = record {
  productive = still_productive law f (group_variable s.terms.group) old new grew searched before.productive;
  beside = beside;
  read = read;
  inputs = ap (λ (g : AigGraph). g.inputs) graph_is ∙ before.inputs;
  undiffered = λ i x far at leaf part c inside. elim (differs x part leaf c inside) [
    | inl was ↦ before.undiffered i x (omega (arith, far)) at leaf part c was
    | inr same ↦ apart f lawful.prefix i place x y at here (omega (arith, far)) same
  ];
}

-- nothing is asked of the existential at a place any more
pub later_search : (f : Dqbf) (s : Search) (place : ℕ) (entries : List Entry) → IsSearch f s place entries →
    IsSearch f s (place + 1) entries
later_search f s place entries before = record {
  productive = before.productive;
  beside = before.beside;
  read = before.read;
  inputs = before.inputs;
  undiffered = λ i y far at. before.undiffered i y (omega (arith, far)) at;
}

-- the log goes on
pub on_then : (f : Dqbf) (a b c : ProofLog) → GoesOn f a b → GoesOn f b c → GoesOn f a c
on_then f a b c first second = record {
  productive = second.productive;
  limit = second.limit ∙ first.limit;
  rounds = second.rounds ∙ first.rounds;
  undecided = λ was. second.undecided (first.undecided was);
}

pub on_by : EnginesLeaveRest → (f : Dqbf) (group : ℕ) (old new : ProofLog) →
    Grew (IsAddedBy f copies group true old.entries) old new → IsSearched new.entries →
    IsProductiveLog f old.entries → GoesOn f old new
on_by law f group old new grew searched productive =
    let rest = law f copies group true old new grew in
    record {
      productive = still_productive law f group old new grew searched productive;
      limit = grew.limit;
      rounds = rest.rounds;
      undecided = rest.decisions refl;
    }
