-- Answers that show definitions can be exported, and what is exported of them is such as it should
-- be.
use Rattle.std.proofs.Common.{◌≡◌, ℕ, zero, suc, ◌≤◌, true, List, ◌∷◌, length, get_or, IfOk, Result, Ok, Err, Option, None, Some, IsSome, refl, sym, ◌∙◌, ap, subst, arith}
use Rattle.std.specs.List.{All, Contains}
use Rattle.std.specs.Option.{option_and_then}
use Rattle.std.proofs.lemmas.List.{length-map, get_or_default}
use Rattle.dq_lits.specs.Derivation.{ProofStep}
use Rattle.dq_lits.specs.Formula.{Dqbf, IsWellFormed}
use Rattle.dq_lits.specs.Literal.{Literal, variable_of}
use Rattle.dq_lits.specs.declared.memory.Memory.{Memory}
use Rattle.hint_log.specs.Conditions.{AreLogged, AreNamed, IsId, MayFollow, is_term_name}
use Rattle.hint_log.specs.Entries.{Entry, Given, clause_at, clause_of, has_id, name_of, numbered}
use Rattle.hint_log.specs.Growth.{Each}
use Rattle.hint_log.specs.Origins.{gate_rest, IsTermRest, IsOriginsClause}
use Rattle.hint_log.specs.ProductiveLog.{MatchesOrigin}
use Rattle.hint_log.specs.Reached.{AreReached, Reaches, by_hint}
use Rattle.hint_log.specs.declared.names.Name.{Name}
use Rattle.hint_log.specs.declared.names.Name.TheVariants.{Term}
use Rattle.hint_log.specs.declared.origins.Leaf.{Leaf}
use Rattle.hint_log.specs.declared.origins.Origin.{Origin}
use Rattle.hint_log.specs.declared.origins.Origin.TheVariants.{Copy, TermGate, Differ}
use Rattle.hint_log.proofs.NamedEntries.{number_below}
use Rattle.circuit_plain.specs.declared.circuits.Gate.{Gate}
use Rattle.log_laws.proofs.Found.{each_at, split_at}
use Rattle.log_laws.proofs.ReachedClauses.{name_stays}
use Rattle.cert_export.specs.CircuitPart.{leaf_code}
use Rattle.cert_export.specs.Lines.{derived_ids, line_number, line_steps}
use Rattle.cert_export.specs.Renaming.{Renaming, IsRenamingOf}
use Rattle.cert_export.specs.Written.{CanBeWritten}
use Rattle.cert_export.proofs.ExportableCircuits.{derived_consistent}
use Rattle.cert_export.proofs.LineCounts.{lines_few}
use Rattle.definition_export.specs.ExportedDefinition.{definition_id, definition_renaming, exported_definition, exported_gates, last_definition_id, term_gate}
use Rattle.definition_export.specs.Exporting.{AreBlockGates, CanExportDefinition, IsExportedDefinition, ProductiveDefinitionsCanExport}
use Rattle.definition_export.specs.Ground.{HasDefinitionId}
use Rattle.definition_export.specs.Parts.{AreBlockSteps, AreDefinitionIds, AreNamedTerms, CanBeListed}
use Rattle.definition_export.proofs.AllowedBlocks.{allowed, reads}
use Rattle.definition_export.proofs.BlockLines.{IsUsable, accepted, steps_are_allowed, usable}
use Rattle.definition_export.proofs.NumberedVariables.{injective}
use Rattle.definition_export.proofs.OrderedTerms.{term_sides}

pub productive_can_export : ProductiveDefinitionsCanExport
productive_can_export f entries id y leaf lawful log sides leaf_declared there shown = record {
  shown = shown;
  existential = there;
  sides = sides;
  leaf_declared = leaf_declared;
  givens = λ h origin c reached at more before is. each_at (MatchesOrigin f) more before (Given origin c)
      (subst (Each (MatchesOrigin f)) is log.givens_match_origins);
  lemmas_are_derived = log.lemmas_are_derived;
}

module _ (f : Dqbf) (entries : List Entry) (id : ℕ) (ids : List ℕ) (y : ℕ) (leaf : Leaf) (gates : List ℕ)
    (d : AreDefinitionIds f entries id ids y leaf gates) where
  pub given_named : ((es : List Entry) (h : ℕ) (c : List Literal) → AreLogged es → clause_at es h ≡ Some c →
      AreNamed es c)
      → (h : ℕ) (origin : Origin) (c : List Literal) → Contains ids h →
      numbered has_id entries h ≡ Some (Given origin c) → AreNamed entries c
  given_named law h origin c inside at = law entries h c d.logged (ap (option_and_then clause_of) at)

  known : (h : ℕ) (origin : Origin) (c : List Literal) → Contains ids h →
      numbered has_id entries h ≡ Some (Given origin c) → HasDefinitionId f gates origin
  known h origin c inside at =
      let reached = d.reached.sound h inside in
      let p = split_at entries h (Given origin c) at in
      by_origin origin at (usable f entries id ids y leaf gates d h origin c reached at)
      (d.can.givens h origin c reached at p.0 p.1 p.2) where
        part_of : (v : ℕ) (a b : Literal) (i : ℕ) (rest : List Literal) → gate_rest v a b i ≡ Some rest → i ≤ 3
        part_of v a b zero rest h = omega arith
        part_of v a b (suc zero) rest h = omega arith
        part_of v a b (suc (suc zero)) rest h = omega arith
        part_of v a b (suc (suc (suc zero))) rest h = omega arith
        part_of v a b (suc (suc (suc (suc i)))) rest h = cc

        by_origin : {es : List Entry} (o : Origin) → numbered has_id entries h ≡ Some (Given o c) →
            IsUsable f entries id ids y leaf gates d o c → IsOriginsClause f es o c → HasDefinitionId f gates o
        by_origin (Copy side j) at mine own = search (arith, number_below)
        by_origin (TermGate v i) at mine own = search arith
        by_origin (Differ x out part) at mine own = search arith
        by_origin _ at mine own = absurd mine.0

  pub can_be_written : (r : Renaming) → IsRenamingOf (definition_renaming f entries gates) entries ids r →
      CanBeWritten r (HasDefinitionId f gates) entries ids
  can_be_written r names = record {
    ascending = d.reached.ascending;
    are_ids = d.are_ids;
    closed = λ at hint hints inside own among. d.reached.complete hint
        (by_hint at hint hints (d.reached.sound at inside) own among);
    known = known;
    consistent = λ h inside learned. derived_consistent entries r d.can.lemmas_are_derived
        (λ v w n a b. injective f gates entries d.logged d.well_formed v w n (names.right v n a) (names.right w n b)) h
        learned;
  }

  pub listable : CanBeListed entries gates
  listable = record {
    named = d.block.named;
    sides = λ v a b named. let both = term_sides entries v a b d.logged named in
        (some (name_of entries (variable_of a)) both.0, some (name_of entries (variable_of b)) both.1);
  } where
    some : (o : Option Name) → is_term_name o ≡ true → IsSome o
    some None h = cc
    some (Some n) h = refl

  pub exported : (steps : List ProofStep) → AreBlockSteps f entries ids gates steps →
      IsExportedDefinition f entries y leaf (exported_definition f entries y leaf gates steps)
  exported steps are = let own = line_steps are.0 (definition_id f gates) entries
      (line_number (last_definition_id f gates) (derived_ids entries ids)) (derived_ids entries ids) in
      subst (λ ss. IsExportedDefinition f entries y leaf (exported_definition f entries y leaf gates ss))
      (sym are.2) (record {
        existential = refl;
        proved = accepted f entries id ids y leaf gates d are.0 are.1;
        reads = reads f entries id ids y leaf gates d own;
        allowed = λ few. allowed f entries id ids y leaf gates d own
            (steps_are_allowed f entries id ids y leaf gates d are.0 are.1)
            (let long = length-map gates (λ v. term_gate (definition_renaming f entries gates) v (name_of entries v)) in
            omega (arith, few, long));
        few_gates = let long = length-map gates (λ v. term_gate (definition_renaming f entries gates) v
            (name_of entries v)) in let few = d.block.few in omega (arith, few, long);
        few_steps = lines_few entries ids are.0 (definition_id f gates)
            (line_number (last_definition_id f gates) (derived_ids entries ids)) own d.reached.ascending refl;
      })

pub steps_or_memory : (f : Dqbf) (entries : List Entry) (ids gates : List ℕ) (r : Renaming) (last : ℕ)
    (result : Result (List ProofStep) Memory) → IsRenamingOf (definition_renaming f entries gates) entries ids r →
    last ≡ last_definition_id f gates → IfOk result (λ steps. steps
    ≡ line_steps r (definition_id f gates) entries (line_number last (derived_ids entries ids)) (derived_ids entries ids))
    → IfOk result (AreBlockSteps f entries ids gates)
steps_or_memory f entries ids gates r last (Err e) names is h = tt
steps_or_memory f entries ids gates r last (Ok steps) names is h = search arith

-- a block of these parts
pub block_of : (f : Dqbf) (entries : List Entry) (y : ℕ) (leaf : Leaf) (gates : List ℕ) (steps : List ProofStep)
    (output : ℕ) (listed : List Gate) → output ≡ leaf_code (definition_renaming f entries gates) leaf →
    listed ≡ exported_gates f entries gates →
    IsExportedDefinition f entries y leaf (exported_definition f entries y leaf gates steps) →
    IsExportedDefinition f entries y leaf
    (record { existential = y; output = output; gates = listed; steps = steps })
block_of f entries y leaf gates steps output listed output_is listed_is h = search arith

-- the answer's id
pub answer_id : (f : Dqbf) (entries : List Entry) (id y : ℕ) (leaf : Leaf) → CanExportDefinition f entries id y leaf →
    IsId entries id
answer_id f entries id y leaf can = search arith

pub ids_are : (entries : List Entry) (id : ℕ) (ids : List ℕ) → ((es : List Entry) (n i : ℕ) → AreLogged es →
    IsId es n → Reaches es n i → IsId es i) → AreLogged entries → IsId entries id → AreReached entries id ids →
    All (IsId entries) ids
ids_are entries id ids law lawful own reached = λ k e below. law entries id (get_or ids k e) lawful own
    (reached.sound (get_or ids k e) (k, below, get_or_default ids k (get_or ids k e) e below))

pub terms_named : (f : Dqbf) (entries : List Entry) (id y : ℕ) (leaf : Leaf) (ids : List ℕ) → AreLogged entries →
    CanExportDefinition f entries id y leaf → AreReached entries id ids → AreNamedTerms entries ids
terms_named f entries id y leaf ids lawful can reached h v i c inside at =
    let p = split_at entries h (Given (TermGate v i) c) at in
    let own : IsOriginsClause f p.1 (TermGate v i) c =
    can.givens h (TermGate v i) c (reached.sound h inside) at p.0 p.1 p.2 in
    let rest : IsTermRest p.1 v i own.rest = own.rest_is in
    let e = Given (TermGate v i) c in (
      rest.left,
      rest.right,
      ap (λ xs. name_of xs v) p.2
          ∙ name_stays p.0 (e ∷ p.1) v (Term rest.left rest.right) (subst (Each MayFollow) p.2 lawful) rest.named,
    )

pub definition_ids : (f : Dqbf) (entries : List Entry) (id y : ℕ) (leaf : Leaf) (ids gates : List ℕ) (n : ℕ) →
    IsWellFormed f → length f.matrix ≤ 10000000 → AreLogged entries → CanExportDefinition f entries id y leaf →
    AreReached entries id ids → All (IsId entries) ids →
    ((m : ℕ) → AreReached entries m ids → AreBlockGates entries m leaf gates) → n ≡ length gates →
    (n ≤ 10000000000000000) → AreDefinitionIds f entries id ids y leaf gates
definition_ids f entries id y leaf ids gates n well few lawful can reached are block n_is small = search arith
