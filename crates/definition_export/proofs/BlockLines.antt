-- An answer that shows a definition is exported as a block whose proof the checker accepts and that
-- a text can hold.
use Rattle.std.proofs.Common.{◌≡◌, nat_le, ℕ, ◌+◌, ◌≤◌, true, false, List, [], ◌∷◌, ◌++◌, length, Option, None, Some, refl, sym, ◌∙◌, ap, subst, arith, append_assoc}
use Rattle.std.specs.List.{Contains}
use Rattle.std.proofs.lemmas.Bool.{and_from, le-leb}
use Rattle.std.proofs.lemmas.List.Kept.{AllPairs-from_increasing}
use Rattle.dq_lits.specs.Literal.{Literal, variable_of, negative}
use Rattle.dq_lits.specs.Derivation.{ProofStep, is_empty, proof_fault}
use Rattle.dq_lits.specs.Formula.{Dqbf}
use Rattle.dq_formula.specs.Prefix.{is_declared}
use Rattle.hint_log.specs.Conditions.{MayFollow, is_term_name}
use Rattle.hint_log.specs.Entries.{Entry, Given, Answer, has_id, last_id, numbered, name_of}
use Rattle.hint_log.specs.Growth.{Each}
use Rattle.hint_log.specs.Origins.{IsCopyRest, IsDifferRest, IsOriginsClause}
use Rattle.hint_log.specs.Reached.{Reaches}
use Rattle.hint_log.specs.declared.names.Name.TheVariants.{Selector, Term}
use Rattle.hint_log.specs.declared.origins.Leaf.{Leaf}
use Rattle.hint_log.specs.declared.origins.Leaf.TheVariants.{Literal as LeafLiteral}
use Rattle.hint_log.specs.declared.origins.Origin.{Origin}
use Rattle.hint_log.specs.declared.origins.Origin.TheVariants.{Copy, Link, TermGate, Differ}
use Rattle.cert_text.specs.AllowedDefinitions.{first_definition_id}
use Rattle.cert_text.specs.DefinitionBlocks.{Definition}
use Rattle.cert_text.specs.Variables.{is_up_to}
use Rattle.cert_text.specs.Grammar.{AreSteps}
use Rattle.defined_checker.specs.DefinitionBase.{definition_base}
use Rattle.definition_proofs.specs.Shown.{IsDefinitionGiven}
use Rattle.log_laws.proofs.Found.{split_at}
use Rattle.log_laws.proofs.ReachedClauses.{name_stays}
use Rattle.cert_export.specs.Given.{IsGivenRightly}
use Rattle.cert_export.specs.LineOrder.{IsRenamedBase, AreLineNumbers, AreLines, AreFinished}
use Rattle.cert_export.specs.Lines.{clause_or_empty, is_derived, derived_ids, line_clause, line_number, line_steps}
use Rattle.cert_export.specs.Renaming.{Renaming, IsInjective, renamed_clause, IsRenamingOf}
use Rattle.cert_export.proofs.Allowed.{consecutive, steps_allowed}
use Rattle.cert_export.proofs.Answers.{answer_there, reached_given, selectors_dropped}
use Rattle.cert_export.proofs.DerivedLines.{lines_are_derived}
use Rattle.cert_export.proofs.Numbers.{lines_have_numbers, rising_filter}
use Rattle.cert_export.proofs.ReachedLines.{rising_of, are_lines, are_finished}
use Rattle.definition_export.specs.ExportedDefinition.{definition_id, definition_number, definition_renaming, exported_definition, last_definition_id}
use Rattle.definition_export.specs.Exporting.{IsTermBefore}
use Rattle.definition_export.specs.Parts.{AreDefinitionIds}
use Rattle.definition_export.proofs.BlockClauses.{copy_right, gate_right, differ_right, dropped}
use Rattle.definition_export.proofs.NumberedVariables.{injective, number_bounds}
use Rattle.definition_export.proofs.OrderedGates.{existential_declared, listed_before}

module _ (f : Dqbf) (entries : List Entry) (id : ℕ) (ids : List ℕ) (y : ℕ) (leaf : Leaf) (gates : List ℕ)
    (d : AreDefinitionIds f entries id ids y leaf gates) where
  abbrev target : Renaming
  target = definition_renaming f entries gates

  abbrev all : List Entry
  all = Answer d.can.shown.clause d.can.shown.hints ∷ d.can.shown.earlier

  lawful' : Each MayFollow all
  lawful' = subst (Each MayFollow) d.can.shown.answered d.logged

  id_is : id ≡ last_id all
  id_is = d.can.shown.last ∙ ap last_id d.can.shown.answered

  abbrev pub IsUsable : Origin → List Literal → Type 0
  IsUsable (TermGate v i) c = Contains gates v × IsGivenRightly f entries (TermGate v i) c
  IsUsable origin c = IsDefinitionGiven y leaf origin × IsGivenRightly f entries origin c

  pub usable : (h : ℕ) (origin : Origin) (c : List Literal) → Reaches entries id h →
      numbered has_id entries h ≡ Some (Given origin c) → IsUsable origin c
  usable h origin c reached at =
      let reached' : Reaches all (last_id all) h = subst (λ n. Reaches all n h) id_is
      (subst (λ xs. Reaches xs id h) d.can.shown.answered reached) in
      let at' : numbered has_id all h ≡ Some (Given origin c) =
      ap (λ xs. numbered has_id xs h) (sym d.can.shown.answered) ∙ at in
      let there = reached_given d.can.shown.earlier d.can.shown.clause d.can.shown.hints lawful' h origin c reached'
      at' in
      by_origin origin (d.can.shown.rests origin c there) at (d.can.givens h origin c reached at) where
        by_origin : (o : Origin) → IsDefinitionGiven y leaf o → numbered has_id entries h ≡ Some (Given o c) →
            IsGivenRightly f entries o c → IsUsable o c
        by_origin (Copy side j) mine at right = (mine, right)
        by_origin (TermGate v i) mine at right = (d.block.used h v i c reached at, right)
        by_origin (Differ x out part) mine at right = (mine, right)
        by_origin _ mine at right = absurd mine

  own : is_declared f y ≡ true
  own = existential_declared f y d.can.existential

  -- the leaf stands on a gate or a first copy
  pub term_in_log : (l : Literal) → leaf ≡ LeafLiteral l → is_term_name (name_of entries (variable_of l)) ≡ true
  term_in_log l is = search arith

  pub inside_before : (v : ℕ) (l : Literal) → Contains gates v → IsTermBefore entries gates v l → (a b : Literal) →
      name_of entries (variable_of l) ≡ Some (Term a b) → Contains gates (variable_of l)
  inside_before v l inside before a b named = listed_before gates v (variable_of l) inside (before a b named)

  module _ (steps : List ProofStep) where
    abbrev block : Definition
    block = exported_definition f entries y leaf gates steps

    rightly : (o : Origin) (c : List Literal) → IsUsable o c → (more es : List Entry) →
        entries ≡ more ++ Given o c ∷ es → IsOriginsClause f es o c
    rightly (Link v i) c mine more es is = mine.1 more es is
    rightly _ c mine more es is = mine.1 more es is

    same : (es more : List Entry) → entries ≡ more ++ es → (c : List Literal) (g : ℕ) (rest : List Literal) →
        c ≡ negative g ∷ rest → name_of es g ≡ Some (Selector g) → renamed_clause target c ≡ renamed_clause target rest
    same es more is c g rest c_is named = ap (renamed_clause target) c_is
        ∙ dropped f entries y leaf gates steps d.well_formed d.logged d.can.sides d.can.leaf_declared
        d.block.order inside_before d.block.leaf_listed own g rest
        (ap (λ xs. name_of xs g) is ∙ name_stays more es g (Selector g) (subst (Each MayFollow) is d.logged) named)

    clause_right : (es more : List Entry) → entries ≡ more ++ es → (origin : Origin) (c : List Literal) →
        IsOriginsClause f es origin c → IsUsable origin c →
        (definition_base f block (definition_id f gates origin) ≡ Some (renamed_clause target c)) ×
        (definition_id f gates origin ≤ last_definition_id f gates)
    clause_right es more is (Copy side j) c o mine =
        let g = copy_right f entries y leaf gates steps d.well_formed d.logged d.can.sides d.can.leaf_declared
        d.block.order inside_before d.block.leaf_listed own es more is j o.rest
        (subst (λ s. IsCopyRest f es s j o.rest) mine.0 o.rest_is.1) in
        (g.0 ∙ ap Some (sym (same es more is c o.group o.rest o.clause_is o.is_group)), g.1)
    clause_right es more is (TermGate v i) c o mine =
        let g = gate_right f entries y leaf gates steps d.well_formed d.logged d.can.sides d.can.leaf_declared
        d.block.order inside_before d.block.leaf_listed own es more is v i o.rest mine.0 o.rest_is in
        (g.0 ∙ ap Some (sym (same es more is c o.group o.rest o.clause_is o.is_group)), g.1)
    clause_right es more is (Differ x out part) c o mine =
        let rest = subst (λ z. IsDifferRest f es z part leaf o.rest) mine.0.0
        (subst (λ z. IsDifferRest f es x part z o.rest) mine.0.1 o.rest_is.1) in
        let g = differ_right f entries y leaf gates steps d.well_formed d.logged d.can.sides d.can.leaf_declared
        d.block.order inside_before d.block.leaf_listed own es more is part o.rest o.rest_is.0 rest in
        (g.0 ∙ ap Some (sym (same es more is c o.group o.rest o.clause_is o.is_group)), g.1)
    clause_right es more is _ c o mine = absurd mine.0

    pub base_clause : (h : ℕ) (origin : Origin) (c : List Literal) →
        numbered has_id entries h ≡ Some (Given origin c) → IsUsable origin c →
        (definition_base f block (definition_id f gates origin) ≡ Some (renamed_clause target c)) ×
        (definition_id f gates origin ≤ last_definition_id f gates)
    base_clause h origin c at mine =
        let place = split_at entries h (Given origin c) at in
        let is : entries ≡ (place.0 ++ Given origin c ∷ []) ++ place.1 =
        place.2 ∙ sym (append_assoc place.0 (Given origin c ∷ []) place.1) in
        clause_right place.1 (place.0 ++ Given origin c ∷ []) is origin c
        (rightly origin c mine place.0 place.1 place.2) mine

  abbrev number : ℕ → ℕ
  number = line_number (last_definition_id f gates) (derived_ids entries ids)

  answer_at : numbered has_id entries id ≡ Some (Answer d.can.shown.clause d.can.shown.hints)
  answer_at = search (arith, id_is, answer_there, lawful')

  module _ (r : Renaming) (names : IsRenamingOf target entries ids r) where
    abbrev steps : List ProofStep
    steps = line_steps r (definition_id f gates) entries number (derived_ids entries ids)

    abbrev exported : Definition
    exported = exported_definition f entries y leaf gates steps

    abbrev IsUsed : Origin → List Literal → Type 0
    IsUsed origin c = IsUsable origin c × (renamed_clause r c ≡ renamed_clause target c)

    used : (h : ℕ) (origin : Origin) (c : List Literal) → Reaches entries id h →
        numbered has_id entries h ≡ Some (Given origin c) → IsUsed origin c
    used h origin c reached at =
        (usable h origin c reached at, names.whole h origin c (d.reached.complete h reached) at)

    base_right : IsRenamedBase r (definition_id f gates) IsUsed (definition_base f exported)
        (last_definition_id f gates) entries
    base_right h origin c at kept =
        let b = base_clause steps h origin c at kept.0 in (b.0 ∙ ap Some (sym kept.1), b.1)

    injective_r : IsInjective r
    injective_r v w n h k = search (arith, injective)

    numbers : AreLineNumbers entries id (last_definition_id f gates) number
    numbers = lines_have_numbers entries id (last_definition_id f gates) ids d.reached

    lines : AreLines IsUsed entries number (last_definition_id f gates) [] (derived_ids entries ids)
    lines = are_lines IsUsed entries d.logged id number (last_definition_id f gates) numbers used ids d.reached

    answer_empty : is_empty (line_clause r entries id) ≡ true
    answer_empty =
        ap (λ o. is_empty (renamed_clause r (clause_or_empty o))) answer_at
        ∙ ap is_empty (selectors_dropped d.can.shown.earlier d.can.shown.clause d.can.shown.hints lawful' r no_selector
        d.can.shown.clause d.can.shown.selectors) where
          no_selector : (v : ℕ) → name_of d.can.shown.earlier v ≡ Some (Selector v) → r v ≡ None
          no_selector v named = by_option (r v) refl where
            there : name_of entries v ≡ Some (Selector v)
            there = ap (λ xs. name_of xs v) d.can.shown.answered ∙ named

            by_option : (o : Option ℕ) → r v ≡ o → o ≡ None
            by_option None is = refl
            by_option (Some n) is = let both : None ≡ Some n = sym (ap (definition_number f gates v) there)
                ∙ names.right v n is in cc

    finished : AreFinished r entries false (derived_ids entries ids)
    finished = are_finished IsUsed entries d.logged id number (last_definition_id f gates) numbers used r ids d.reached
        (ap is_derived answer_at) answer_empty

    pub accepted : proof_fault (definition_base f exported) steps ≡ None
    accepted = lines_are_derived r (definition_id f gates) IsUsed (definition_base f exported)
        (last_definition_id f gates) entries number (derived_ids entries ids) injective_r d.logged
        d.can.lemmas_are_derived base_right lines false finished

    in_proof : (v x : ℕ) → r v ≡ Some x → is_up_to (f.variables + length gates) x ≡ true
    in_proof v x h = search (arith, number_bounds, and_from, nat_le, le-leb)

    pub steps_are_allowed : AreSteps (is_up_to (f.variables + length gates)) (first_definition_id f (length gates)) steps
    steps_are_allowed =
        let base = last_definition_id f gates in
        let rising = rising_filter (λ h. is_derived (numbered has_id entries h)) ids
        (rising_of ids (AllPairs-from_increasing ids d.reached.ascending)) in
        let first : base + 1 ≡ first_definition_id f (length gates) = omega arith in
        subst (λ n. AreSteps (is_up_to (f.variables + length gates)) n steps) first
        (steps_allowed r r (definition_id f gates) IsUsed (definition_base f exported) base entries number
        (is_up_to (f.variables + length gates)) refl base_right in_proof (derived_ids entries ids) [] (base + 1)
        lines (consecutive base (derived_ids entries ids) rising) (omega arith)
        (λ h inside. absurd (let b = inside.1 in omega arith)))
