-- Names of a group's clauses, one after the other.
use Rattle.std.proofs.Common.{◌≡◌, ℕ, suc, ◌+◌, ◌≤◌, ◌==◌, true, false, inl, inr, List, [], ◌∷◌, ◌++◌, map, Some, None, refl, sym, ◌∙◌, ap, subst, arith}
use Rattle.std.specs.List.{range_with_len}
use Rattle.std.specs.Option.{option_map}
use Rattle.std.proofs.lemmas.Bool.{eq-eqb, cond-true}
use Rattle.std.proofs.lemmas.List.{map-append}
use Rattle.list_laws.proofs.Numbers.{range_more}
use Rattle.list_laws.proofs.Members.{contains_cases}
use Rattle.dq_lits.specs.Literal.{Literal, positive}
use Rattle.dq_lits.specs.Formula.{Dqbf}
use Rattle.hint_log.specs.Entries.{Entry, Named, ProofLog, with_entry, name_of}
use Rattle.hint_log.specs.declared.names.Name.TheVariants.{Bad}
use Rattle.hint_log.specs.Growth.{Grew}
use Rattle.hint_log.specs.Naming.{NamedLiteral, named_literal, name_literal, AreNamedAs}
use Rattle.hint_log.specs.ProductiveLog.{fault_groups}
use Rattle.log_laws.specs.Engines.{circuits, IsAddedBy}
use Rattle.log_laws.proofs.LargerLogs.{grown_by, grown_by_none, grown_then}
use Rattle.log_laws.proofs.Kept.{named_stay, name_stays_by, name_cases}
use Rattle.circuit_cnf.specs.Faults.{IsNamingBads}

abbrev pub bad_name : ℕ → ℕ → NamedLiteral
bad_name group j = named_literal (Bad group j) false

-- the first clauses have names in the group
pub record BadsSoFar (group : ℕ) (old log : ProofLog) (bads : List Literal) (i : ℕ) : Type 0 where
  pub grew : (h : Dqbf) (standing : ℕ) (start : List Entry) → Grew (IsAddedBy h circuits standing true start) old log
  pub faults : fault_groups log.entries ≡ fault_groups old.entries
  pub alone : IsNamingBads group old.entries log.entries
  pub named : AreNamedAs log.entries bads (map (bad_name group) (range_with_len 1 i))
  pub names : (v j : ℕ) → name_of log.entries v ≡ Some (Bad group j) → j ≤ i

pub no_bads : (group : ℕ) (old : ProofLog) → ((v j : ℕ) → name_of old.entries v ≡ Some (Bad group j) → ⊥) →
    BadsSoFar group old old [] 0
no_bads group old fresh = record {
  grew = λ h standing start. grown_by_none (IsAddedBy h circuits standing true start) old old refl;
  faults = refl;
  alone = record { names = λ v name is. inl is; givens = λ origin c inside. inside };
  named = refl;
  names = λ v j is. absurd (fresh v j is);
}

pub bad_more : (group : ℕ) (old log new : ProofLog) (bads : List Literal) (i v : ℕ) → BadsSoFar group old log bads i →
    name_of log.entries v ≡ None → new ≡ with_entry log (Named v (Bad group (i + 1))) →
    BadsSoFar group old new (bads ++ positive v ∷ []) (i + 1)
bad_more group old log new bads i v before unnamed is = subst
    (λ l. BadsSoFar group old l (bads ++ positive v ∷ []) (i + 1)) (sym is) (record {
      grew = λ h standing start. grown_then (IsAddedBy h circuits standing true start) old log
          (with_entry log (Named v (Bad group (i + 1)))) (before.grew h standing start)
          (grown_by (IsAddedBy h circuits standing true start) log (with_entry log (Named v (Bad group (i + 1))))
          (Named v (Bad group (i + 1))) refl (record { unnamed = unnamed; own = inr refl; rightly = tt }));
      faults = before.faults;
      alone = search (arith, name_cases, contains_cases);
      named = whole;
      names = search (arith, name_cases);
    }) where
      whole : AreNamedAs (Named v (Bad group (i + 1)) ∷ log.entries) (bads ++ positive v ∷ [])
          (map (bad_name group) (range_with_len 1 (i + 1)))
      whole =
          let new_es = Named v (Bad group (i + 1)) ∷ log.entries in
          let kept = named_stay log.entries new_es (name_stays_by log.entries v (Bad group (i + 1)) unnamed) bads
          (map (bad_name group) (range_with_len 1 i)) before.named in
          let here : name_literal new_es (positive v) ≡ Some (bad_name group (i + 1)) =
          ap (option_map (λ k. named_literal k false)) (cond-true (v == v) (Some (Bad group (i + 1)))
          (name_of log.entries v) (eq-eqb v v refl)) in
          let one : i + 1 ≡ suc i = omega arith in
          let last : 1 + i ≡ i + 1 = omega arith in
          let range : range_with_len 1 (i + 1) ≡ range_with_len 1 i ++ (i + 1) ∷ [] =
          ap (range_with_len 1) one ∙ range_more 1 i ∙ ap (λ x. range_with_len 1 i ++ x ∷ []) last in
          map-append (name_literal new_es) bads (positive v ∷ [])
          ∙ ap (λ xs. xs ++ name_literal new_es (positive v) ∷ []) kept ∙ ap
          (λ o. map Some (map (bad_name group) (range_with_len 1 i)) ++ o ∷ []) here
          ∙ sym (map-append Some (map (bad_name group) (range_with_len 1 i)) (bad_name group (i + 1) ∷ []))
          ∙ ap (map Some) (sym (map-append (bad_name group) (range_with_len 1 i) ((i + 1) ∷ [])))
          ∙ ap (λ js. map Some (map (bad_name group) js)) (sym range)
