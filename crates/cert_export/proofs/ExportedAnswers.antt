-- An answer that shows outputs to be right is exported as a proof that the checker accepts and that
-- a text can hold.
use Rattle.std.proofs.Common.{◌≡◌, nat_le, ℕ, ◌+◌, true, false, List, [], map, None, Some, refl, ◌∙◌, ap, subst, arith}
use Rattle.std.proofs.lemmas.Bool.{and_from, le-leb}
use Rattle.std.proofs.lemmas.List.{length-map}
use Rattle.std.proofs.lemmas.List.Kept.{AllPairs-from_increasing}
use Rattle.dq_lits.specs.Literal.{Literal}
use Rattle.dq_lits.specs.Formula.{Dqbf, IsWellFormed}
use Rattle.hint_log.specs.Conditions.{AreLogged}
use Rattle.hint_log.specs.Deciding.{ReachesGiven, IsCircuitGiven}
use Rattle.hint_log.specs.Entries.{Entry, Given, has_id, numbered}
use Rattle.hint_log.specs.Growth.{Each}
use Rattle.hint_log.specs.ProductiveLog.{IsDerivedByHints}
use Rattle.hint_log.specs.Reached.{Reaches, AreReached}
use Rattle.hint_log.specs.declared.origins.Origin.{Origin}
use Rattle.hint_log.specs.declared.origins.Origin.TheVariants.{Gate, Fault}
use Rattle.rup_core.specs.Items.{derived}
use Rattle.rup_core.proofs.DeletedClauses.{steps_alone}
use Rattle.cert_text.specs.CircuitProof.{is_proof_variable, first_proof_id}
use Rattle.cert_text.specs.Grammar.{AreSteps}
use Rattle.proof_checker.specs.CircuitProof.{negated_candidate, circuit_proof_fault}
use Rattle.cert_export.specs.CircuitPart.{CircuitPart, circuit_number, circuit_renaming, circuit_id, IsCircuitClause, IsRightCircuitClause, exported_candidate, exported_netlist, last_base_id}
use Rattle.cert_export.specs.ExportedCircuit.{IsExportedPart, IsCircuitRenaming, proof_number, proof_steps, ExportedAnswerIsAccepted, ExportedProofIsAllowed}
use Rattle.cert_export.specs.LineOrder.{IsRenamedBase, AreLineNumbers, AreLines, AreFinished}
use Rattle.cert_export.specs.Lines.{is_derived, derived_ids}
use Rattle.cert_export.specs.Given.{HasUniversalInputs, IsGivenRightly, EachGivenReached}
use Rattle.cert_export.specs.Renaming.{Renaming, IsInjective, renamed_clause}
use Rattle.cert_export.proofs.Allowed.{consecutive, steps_allowed}
use Rattle.cert_export.proofs.Answers.{reached_here, answer_at, answer_empty}
use Rattle.cert_export.proofs.CircuitClauses.{circuit_clauses_are_negated_matrix}
use Rattle.cert_export.proofs.CircuitNumbers.{number_cases, circuit_numbers_are_injective}
use Rattle.cert_export.proofs.DerivedLines.{lines_are_derived}
use Rattle.cert_export.proofs.Numbers.{lines_have_numbers, rising_filter}
use Rattle.cert_export.proofs.ReachedLines.{rising_of, are_lines, are_finished}

module _ (f : Dqbf) (entries : List Entry) (id : ℕ) (e : CircuitPart) (lawful : AreLogged entries)
    (x : IsExportedPart f entries id e) where
  pub usable : (h : ℕ) (origin : Origin) (c : List Literal) → Reaches entries id h →
      numbered has_id entries h ≡ Some (Given origin c) → IsCircuitClause f e origin c
  usable h origin c reached at =
      let there = reached_here entries x.decided.earlier x.decided.clause x.decided.hints id lawful x.decided.answered
      x.decided.last h origin c reached at in
      by_origin origin there (x.decided.decides.rests.circuit origin c there) at where
        by_origin : (o : Origin) → ReachesGiven x.decided.earlier x.decided.hints o c →
            IsCircuitGiven x.decided.decides.rests.group o c → numbered has_id entries h ≡ Some (Given o c) →
            IsCircuitClause f e o c
        by_origin (Gate v i) there mine at = x.used h v i c reached at
        by_origin (Fault j i out) there mine at = (
          x.group h j i out c reached at,
          λ k d below own. x.outs k d below out (record { j = j; i = i; clause = c; reached = there; own = own }),
        )
        by_origin _ there mine at = absurd mine

-- the numbers are those of the proof's variables
module _ (f : Dqbf) (entries : List Entry) (e : CircuitPart) where
  in_proof : (v x : ℕ) → circuit_renaming f entries e v ≡ Some x →
      is_proof_variable f (exported_netlist f entries e) x ≡ true
  in_proof v x h = search (arith, number_cases, and_from, nat_le, le-leb)

  first_is : last_base_id f e + 1 ≡ first_proof_id f (exported_netlist f entries e)
  first_is = search (arith, length-map)

module _ (f : Dqbf) (entries : List Entry) (id : ℕ) (e : CircuitPart) (ids : List ℕ) (r : Renaming)
    (well : IsWellFormed f)
    (lawful : AreLogged entries) (inputs : HasUniversalInputs f entries)
    (given : EachGivenReached (IsGivenRightly f entries) entries id) (x : IsExportedPart f entries id e)
    (are : AreReached entries id ids)
    (names : IsCircuitRenaming f entries e ids r) where
  abbrev IsUsed : Origin → List Literal → Type 0
  IsUsed origin c = IsRightCircuitClause f entries e origin c ×
      (renamed_clause r c ≡ renamed_clause (circuit_renaming f entries e) c)

  used : (h : ℕ) (origin : Origin) (c : List Literal) → Reaches entries id h →
      numbered has_id entries h ≡ Some (Given origin c) → IsUsed origin c
  used h origin c reached at = (
    (usable f entries id e lawful x h origin c reached at, given h origin c reached at),
    names.whole h origin c (are.complete h reached) at,
  )

  base_right : IsRenamedBase r (circuit_id f e) IsUsed (negated_candidate (exported_candidate f entries e))
      (last_base_id f e) entries
  base_right h origin c at kept = search (arith, circuit_clauses_are_negated_matrix)

  injective : IsInjective r
  injective v w n h k = circuit_numbers_are_injective f entries e lawful v w n (names.right v n h) (names.right w n k)

  numbers : AreLineNumbers entries id (last_base_id f e) (proof_number f entries e ids)
  numbers = lines_have_numbers entries id (last_base_id f e) ids are

  lines : AreLines IsUsed entries (proof_number f entries e ids) (last_base_id f e) [] (derived_ids entries ids)
  lines = are_lines IsUsed entries lawful id (proof_number f entries e ids) (last_base_id f e) numbers used ids are

  finished : AreFinished r entries false (derived_ids entries ids)
  finished = are_finished IsUsed entries lawful id (proof_number f entries e ids)
      (last_base_id f e) numbers used r ids are
      (ap is_derived (answer_at entries x.decided.earlier x.decided.clause x.decided.hints id lawful x.decided.answered
      x.decided.last))
      (answer_empty entries x.decided.earlier x.decided.clause x.decided.hints id lawful x.decided.answered
      x.decided.last r (circuit_renaming f entries e) names.right (λ v named. ap (circuit_number f e v) named)
      x.decided.decides.rests.selectors)

  accepted : Each IsDerivedByHints entries → circuit_proof_fault (exported_candidate f entries e)
      (map derived (proof_steps f entries e ids r)) ≡ None
  accepted lemmas =
      steps_alone false (negated_candidate (exported_candidate f entries e)) (proof_steps f entries e ids r)
      ∙ lines_are_derived r (circuit_id f e) IsUsed (negated_candidate (exported_candidate f entries e))
      (last_base_id f e) entries (proof_number f entries e ids) (derived_ids entries ids)
      injective lawful lemmas base_right lines false finished

  allowed : AreSteps (is_proof_variable f (exported_netlist f entries e))
      (first_proof_id f (exported_netlist f entries e)) (proof_steps f entries e ids r)
  allowed =
      let base = last_base_id f e in
      let rising = rising_filter (λ h. is_derived (numbered has_id entries h)) ids
      (rising_of ids (AllPairs-from_increasing ids are.ascending)) in
      subst (λ n. AreSteps (is_proof_variable f (exported_netlist f entries e)) n (proof_steps f entries e ids r))
      (first_is f entries e)
      (steps_allowed r r (circuit_id f e) IsUsed (negated_candidate (exported_candidate f entries e)) base entries
      (proof_number f entries e ids)
      (is_proof_variable f (exported_netlist f entries e)) refl base_right
      (λ v n h. in_proof f entries e v n (names.right v n h)) (derived_ids entries ids) [] (base + 1)
      lines (consecutive base (derived_ids entries ids) rising) (omega arith)
      (λ h inside. absurd (let b = inside.1 in omega arith)))

pub exported_answer_is_accepted : ExportedAnswerIsAccepted
exported_answer_is_accepted f entries id e ids r well lawful inputs given lemmas x are names =
    accepted f entries id e ids r well lawful inputs given x are names lemmas

pub exported_proof_is_allowed : ExportedProofIsAllowed
exported_proof_is_allowed f entries id e ids r well lawful inputs given x are names =
    allowed f entries id e ids r well lawful inputs given x are names
