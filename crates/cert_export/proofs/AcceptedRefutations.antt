-- An exported refutation names each pair by some row that it keeps; by the pairs' own numbers its
-- lines are derived.
use Rattle.std.proofs.Common.{◌≡◌, ℕ, ◌+◌, Bool, false, List, [], ◌∷◌, map, length, None, Some, refl, sym, ◌∙◌, ap, subst, arith}
use Rattle.std.proofs.lemmas.List.{length-map}
use Rattle.std.proofs.lemmas.List.Kept.{AllPairs-from_increasing}
use Rattle.dq_lits.specs.Literal.{Literal, opposite}
use Rattle.dq_lits.specs.Formula.{Dqbf, IsWellFormed}
use Rattle.dq_lits.specs.Expansion.{instance_at}
use Rattle.dq_lits.proofs.SignedLiterals.{variable_of-on, on-on}
use Rattle.hint_log.specs.Entries.{has_id, numbered, clause_at, Given, Entry}
use Rattle.hint_log.specs.Reached.{Reaches, AreReached}
use Rattle.hint_log.specs.declared.origins.Origin.{Origin}
use Rattle.refutation_checker.specs.Refutation.{normal_number, normal_literal, normal_step, refutation_fault}
use Rattle.rup_core.specs.Items.{derived, items_fault}
use Rattle.rup_core.proofs.DeletedClauses.{steps_alone}
use Rattle.hint_log.specs.Naming.{rows_of}
use Rattle.cert_export.specs.Renaming.{Renaming, IsInjective, renamed_clause, cut_hints}
use Rattle.expansion.specs.Table.{IsRefutedBy}
use Rattle.cert_export.specs.Lines.{is_derived, derived_ids, clause_or_empty, hints_or_none, new_number, renamed_clauses, line_clause, line_hints, line_step, line_steps}
use Rattle.cert_export.specs.Expansion.{row_of_round, used_rounds, rows_among, pair_of, pair_renaming, instance_id, IsInstanceClause, IsKeptClause}
use Rattle.cert_export.specs.Given.{EachGivenReached}
use Rattle.hint_log.specs.Growth.{Each}
use Rattle.hint_log.specs.Conditions.{AreLogged}
use Rattle.hint_log.specs.ProductiveLog.{IsDerivedByHints}
use Rattle.cert_text.specs.Grammar.{AreSteps}
use Rattle.cert_text.specs.Pairs.{is_pair_number}
use Rattle.cert_text.specs.Scan.{first_id}
use Rattle.cert_export.specs.LineOrder.{IsRenamedBase, AreLineNumbers, AreLines, AreFinished}
use Rattle.cert_export.proofs.Numbers.{lines_have_numbers, rising_filter}
use Rattle.cert_export.proofs.Allowed.{consecutive, steps_allowed}
use Rattle.cert_export.specs.Exported.{exported_steps, normal_names, IsPairRenaming, last_instance, exported_number, ExportedAnswerRefutes, ExportedLinesAreAllowed}
use Rattle.cert_export.proofs.PairNames.{pairs_are_injective}
use Rattle.cert_export.proofs.UsedRounds.{kept_clause}
use Rattle.cert_export.proofs.Renamings.{opposites_renamed}
use Rattle.cert_export.proofs.SameCuts.{cut_alike}
use Rattle.cert_export.proofs.Instances.{instances_are_expansion}
use Rattle.cert_export.proofs.Answers.{answer_at, answer_empty}
use Rattle.cert_export.proofs.DerivedLines.{lines_are_derived}
use Rattle.cert_export.proofs.ReachedLines.{rising_of, are_lines, are_finished}
use Rattle.refutation_checker.proofs.NormalLines.{normal_lines}

module _ (f : Dqbf) (rows : List (List Bool)) (r : Renaming) where
  abbrev named : Renaming
  named = normal_names f rows r

  normal_clause : (c : List Literal) → map (normal_literal f rows) (renamed_clause r c) ≡ renamed_clause named c
  normal_clause [] = refl
  normal_clause (l ∷ ls) = search (arith, (normal_clause ls), variable_of-on, on-on)

  -- no two names alike, and so no two of those that they are made of
  module _ (entries : List Entry) (injective : IsInjective named) where
    names_differ : IsInjective r
    names_differ v w x h k = search (arith, (injective v w))

    same_hints : (id : ℕ) → line_hints r entries id ≡ line_hints named entries id
    same_hints id =
        let c = clause_or_empty (numbered has_id entries id) in
        let hints = hints_or_none (numbered has_id entries id) in
        ap (λ ts. cut_hints (renamed_clauses r entries) ts hints) (opposites_renamed r names_differ c)
        ∙ cut_alike r named (normal_number f rows) (λ v. refl) names_differ injective (clause_at entries) hints
        (map opposite c)
        ∙ sym (ap (λ ts. cut_hints (renamed_clauses named entries) ts hints) (opposites_renamed named injective c))

    normal_steps : (base_id : Origin → ℕ) (number : ℕ → ℕ) (ids : List ℕ) →
        map (normal_step f rows) (line_steps r base_id entries number ids) ≡ line_steps named base_id entries number ids
    normal_steps base_id number [] = refl
    normal_steps base_id number (id ∷ ids) =
        let literals = normal_clause (clause_or_empty (numbered has_id entries id)) in
        let here : normal_step f rows (line_step r base_id entries number id) ≡ line_step named base_id entries number
        id =
        ap (λ ls. record {
          id = number id;
          literals = ls;
          hints = map (new_number base_id entries number) (line_hints r entries id);
        }) literals
        ∙ ap (λ hs. record {
          id = number id;
          literals = line_clause named entries id;
          hints = map (new_number base_id entries number) hs;
        }) (same_hints id) in
        ap (λ s. s ∷ map (normal_step f rows) (line_steps r base_id entries number ids)) here
        ∙ ap (λ ss. line_step named base_id entries number id ∷ ss) (normal_steps base_id number ids)

module _ (f : Dqbf) (live : List ℕ) (entries : List Entry) (id : ℕ) (ids : List ℕ) (r : Renaming)
    (well : IsWellFormed f) (lawful : AreLogged entries)
    (given : EachGivenReached (IsInstanceClause f live entries) entries id)
    (shown : IsRefutedBy entries id) (are : AreReached entries id ids) (names : IsPairRenaming f entries ids r) where
  abbrev C : ℕ
  C = length f.matrix

  abbrev rounds : List ℕ
  rounds = used_rounds entries ids

  abbrev kept : List (List Bool)
  kept = rows_among entries rounds

  abbrev target : Renaming
  target = pair_renaming f entries rounds

  abbrev pairs : Renaming
  pairs = normal_names f kept r

  abbrev IsUsed : Origin → List Literal → Type 0
  IsUsed origin c = IsKeptClause f rounds live entries origin c ×
      (renamed_clause pairs c ≡ renamed_clause target c)

  used : (h : ℕ) (origin : Origin) (c : List Literal) → Reaches entries id h →
      numbered has_id entries h ≡ Some (Given origin c) → IsUsed origin c
  used h origin c reached at =
      let inside = are.complete h reached in (
        kept_clause f live entries ids h origin c inside at (given h origin c reached at),
        names.names.whole h origin c inside at,
      )

  base_right : IsRenamedBase pairs (instance_id rounds live C) IsUsed (instance_at f kept)
      (last_instance f entries ids) entries
  base_right h origin c at used_here =
      let b = instances_are_expansion f rounds live entries well lawful h origin c at used_here.0 in
      (b.0 ∙ ap Some (sym used_here.1), b.1)

  injective : IsInjective pairs
  injective v w x h k = pairs_are_injective f well entries rounds lawful v w x (names.names.right v x h)
      (names.names.right w x k)

  numbers : AreLineNumbers entries id (last_instance f entries ids) (exported_number f entries ids)
  numbers = lines_have_numbers entries id (last_instance f entries ids) ids are

  lines : AreLines IsUsed entries (exported_number f entries ids) (last_instance f entries ids) []
      (derived_ids entries ids)
  lines = are_lines IsUsed entries lawful id (exported_number f entries ids)
      (last_instance f entries ids) numbers used ids are

  finished : AreFinished pairs entries false (derived_ids entries ids)
  finished = are_finished IsUsed entries lawful id (exported_number f entries ids)
      (last_instance f entries ids) numbers used pairs ids are
      (ap is_derived (answer_at entries shown.earlier shown.clause shown.hints id lawful shown.answered shown.last))
      (answer_empty entries shown.earlier shown.clause shown.hints id lawful shown.answered shown.last pairs target
      names.names.right (λ v named. ap (pair_of f (rows_of entries) kept) named) shown.decides.selectors)

  accepted : Each IsDerivedByHints entries → refutation_fault f
      (record { rows = kept; items = map derived (exported_steps f live entries ids r) }) ≡ None
  accepted lemmas =
      let normal = line_steps pairs (instance_id rounds live C) entries (exported_number f entries ids)
      (derived_ids entries ids) in
      ap (items_fault false (instance_at f kept))
      (normal_lines f kept (exported_steps f live entries ids r)
      ∙ ap (map derived) (normal_steps f kept r entries injective (instance_id rounds live C)
      (exported_number f entries ids) (derived_ids entries ids)))
      ∙ steps_alone false (instance_at f kept) normal
      ∙ lines_are_derived pairs (instance_id rounds live C) IsUsed (instance_at f kept)
      (last_instance f entries ids) entries (exported_number f entries ids) (derived_ids entries ids)
      injective lawful lemmas base_right lines false finished

  allowed : AreSteps (is_pair_number f (length kept)) (first_id f (length kept)) (exported_steps f live entries ids r)
  allowed =
      let base = last_instance f entries ids in
      let many : length kept ≡ length rounds = length-map rounds (row_of_round entries) in
      let rising = rising_filter (λ h. is_derived (numbered has_id entries h)) ids
      (rising_of ids (AllPairs-from_increasing ids are.ascending)) in
      subst (λ n. AreSteps (is_pair_number f (length kept)) (first_id f n) (exported_steps f live entries ids r))
      (sym many)
      (steps_allowed r pairs (instance_id rounds live C) IsUsed (instance_at f kept) base entries
      (exported_number f entries ids) (is_pair_number f (length kept))
      refl base_right names.pairs (derived_ids entries ids) []
      (base + 1)
      lines (consecutive base (derived_ids entries ids) rising) (omega arith)
      (λ h inside. absurd (let b = inside.1 in omega arith)))

pub exported_answer_refutes : ExportedAnswerRefutes
exported_answer_refutes f live entries id ids r well lawful given lemmas shown are names =
    accepted f live entries id ids r well lawful given shown are names lemmas

pub exported_lines_are_allowed : ExportedLinesAreAllowed
exported_lines_are_allowed f live entries id ids r well lawful given shown are names =
    allowed f live entries id ids r well lawful given shown are names
