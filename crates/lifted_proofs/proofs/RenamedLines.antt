-- Lines stay derived where every literal gets another variable, no two variables the same.
use Rattle.std.proofs.Common.{◌≡◌, ℕ, ◌+◌, ◌==◌, Bool, not, List, [], ◌∷◌, map, Option, Some, None, refl, ◌∙◌, ap, arith}
use Rattle.std.specs.List.{list_any, list_all, filter}
use Rattle.std.specs.Option.{option_map}
use Rattle.std.proofs.lemmas.Bool.{cases_eq, eq-eqb, ne_eqb}
use Rattle.dq_lits.specs.Literal.{Literal, positive, negative, opposite, same_literal, variable_of, on_variable}
use Rattle.dq_lits.specs.Derivation.{LiveClauses, ClauseStatus, falsified, unit, stuck, with_clause, holds, status_by, status_of, fault_by, hint_fault, line_fault, is_empty, ProofStep}
use Rattle.rup_core.specs.Items.{ProofItem, derived, gone, items_fault, without_clauses}

abbrev pub renamed : (ℕ → ℕ) → Literal → Literal
renamed r l = on_variable (r (variable_of l)) l

abbrev pub renamed_step : (ℕ → ℕ) → ProofStep → ProofStep
renamed_step r step = record step { literals = map (renamed r) step.literals }

abbrev pub renamed_item : (ℕ → ℕ) → ProofItem → ProofItem
renamed_item r (derived step) = derived (renamed_step r step)
renamed_item r (gone ids) = gone ids

abbrev pub IsOneToOne : (ℕ → ℕ) → Type 0
IsOneToOne r = (v w : ℕ) → r v ≡ r w → v ≡ w

-- the clauses, renamed, under the same ids
abbrev pub IsRenamed : (ℕ → ℕ) → LiveClauses → LiveClauses → Type 0
IsRenamed r live other = (id : ℕ) → other id ≡ option_map (map (renamed r)) (live id)

module _ (r : ℕ → ℕ) (one : IsOneToOne r) where
  same-number : (v w : ℕ) → (r v == r w) ≡ (v == w)
  same-number v w = search (arith, cases_eq, eq-eqb, ne_eqb)

  same-renamed : (k l : Literal) → same_literal (renamed r k) (renamed r l) ≡ same_literal k l
  same-renamed (positive v) (positive w) = same-number v w
  same-renamed (positive v) (negative w) = refl
  same-renamed (negative v) (positive w) = refl
  same-renamed (negative v) (negative w) = same-number v w

  opposite-renamed : (l : Literal) → opposite (renamed r l) ≡ renamed r (opposite l)
  opposite-renamed (positive v) = refl
  opposite-renamed (negative v) = refl

  opposites-renamed : (ls : List Literal) → map opposite (map (renamed r) ls) ≡ map (renamed r) (map opposite ls)
  opposites-renamed [] = refl
  opposites-renamed (l ∷ ls) = rw (opposite-renamed l, opposites-renamed ls)

  holds-renamed : (xs : List Literal) (l : Literal) → holds (map (renamed r) xs) (renamed r l) ≡ holds xs l
  holds-renamed [] l = refl
  holds-renamed (x ∷ xs) l = rw (same-renamed l x, holds-renamed xs l)

  opposite-held : (xs : List Literal) (l : Literal) → holds (map (renamed r) xs) (opposite (renamed r l)) ≡ holds xs (opposite l)
  opposite-held xs l = ap (holds (map (renamed r) xs)) (opposite-renamed l) ∙ holds-renamed xs (opposite l)

  abbrev open_in : List Literal → List Literal → List Literal
  open_in trues clause = filter (λ l. not (holds trues (opposite l))) clause

  open-renamed : (trues clause : List Literal)
      → open_in (map (renamed r) trues) (map (renamed r) clause) ≡ map (renamed r) (open_in trues clause)
  open-renamed trues [] = refl
  open-renamed trues (l ∷ ls) = search (arith, opposite-held, (open-renamed trues ls))

  abbrev status_renamed : ClauseStatus → ClauseStatus
  status_renamed falsified = falsified
  status_renamed (unit l) = unit (renamed r l)
  status_renamed stuck = stuck

  all-same : (l : Literal) (rest : List Literal)
      → list_all (same_literal (renamed r l)) (map (renamed r) rest) ≡ list_all (same_literal l) rest
  all-same l [] = refl
  all-same l (k ∷ ks) = rw (same-renamed l k, all-same l ks)

  by-renamed : (trues rest : List Literal)
      → status_by (map (renamed r) trues) (map (renamed r) rest) ≡ status_renamed (status_by trues rest)
  by-renamed trues [] = refl
  by-renamed trues (l ∷ rest) = search (arith, all-same, holds-renamed)

  of-renamed : (trues : List Literal) (o : Option (List Literal))
      → status_of (map (renamed r) trues) (option_map (map (renamed r)) o) ≡ status_renamed (status_of trues o)
  of-renamed trues None = refl
  of-renamed trues (Some clause) = search (arith, open-renamed, by-renamed)

  hints-renamed : (live other : LiveClauses) → IsRenamed r live other → (hints : List ℕ) (trues : List Literal)
      (place : ℕ) → hint_fault other (map (renamed r) trues) place hints ≡ hint_fault live trues place hints
  hints-renamed live other is [] trues place = refl
  hints-renamed live other is (h ∷ hs) trues place =
      ap (λ s. fault_by s place hs (λ l. hint_fault other (l ∷ map (renamed r) trues) (place + 1) hs))
      (ap (status_of (map (renamed r) trues)) (is h) ∙ of-renamed trues (live h))
      ∙ by (status_of trues (live h)) hs (λ l. hints-renamed live other is hs (l ∷ trues) (place + 1))
    where
      by : (s : ClauseStatus) (hs : List ℕ)
          → ((l : Literal) → hint_fault other (renamed r l ∷ map (renamed r) trues) (place + 1) hs
          ≡ hint_fault live (l ∷ trues) (place + 1) hs)
          → fault_by (status_renamed s) place hs
          (λ l. hint_fault other (l ∷ map (renamed r) trues) (place + 1) hs)
          ≡ fault_by s place hs (λ l. hint_fault live (l ∷ trues) (place + 1) hs)
      by falsified [] later = refl
      by falsified (x ∷ xs) later = refl
      by (unit l) hs later = later l
      by stuck hs later = refl

  any-renamed : (xs ys : List Literal) → list_any (λ l. holds (map (renamed r) xs) (opposite l)) (map (renamed r) ys)
      ≡ list_any (λ l. holds xs (opposite l)) ys
  any-renamed xs [] = refl
  any-renamed xs (l ∷ ls) = rw (opposite-held xs l, any-renamed xs ls)

  line-renamed : (live other : LiveClauses) → IsRenamed r live other → (literals : List Literal) (hints : List ℕ)
      → line_fault other (map (renamed r) literals) hints ≡ line_fault live literals hints
  line-renamed live other is literals hints = search (arith, any-renamed, opposites-renamed, hints-renamed)

  empty-renamed : (ls : List Literal) → is_empty (map (renamed r) ls) ≡ is_empty ls
  empty-renamed [] = refl
  empty-renamed (l ∷ ls) = refl

  with-renamed : (live other : LiveClauses) (id : ℕ) (clause : List Literal) → IsRenamed r live other
      → IsRenamed r (with_clause live id clause) (with_clause other id (map (renamed r) clause))
  with-renamed live other id clause is i = search arith

  without-renamed : (live other : LiveClauses) (ids : List ℕ) → IsRenamed r live other
      → IsRenamed r (without_clauses live ids) (without_clauses other ids)
  without-renamed live other ids is i = search arith

  pub items-renamed : (finished : Bool) (live other : LiveClauses) (items : List ProofItem) → IsRenamed r live other
      → items_fault finished other (map (renamed_item r) items) ≡ items_fault finished live items
  items-renamed finished live other [] is = refl
  items-renamed finished live other (derived s ∷ items) is =
      rw (
        line-renamed live other is s.literals s.hints,
        empty-renamed s.literals,
        items-renamed (is_empty s.literals) (with_clause live s.id s.literals)
            (with_clause other s.id (map (renamed r) s.literals)) items (with-renamed live other s.id s.literals is),
      )
  items-renamed finished live other (gone ids ∷ items) is =
      items-renamed finished (without_clauses live ids) (without_clauses other ids) items
      (without-renamed live other ids is)
