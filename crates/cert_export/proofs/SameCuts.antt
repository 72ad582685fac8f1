-- Two renamings that name the same variables, and no two alike, cut a line's hints at one place.
use Rattle.std.proofs.Common.{◌≡◌, ℕ, Bool, true, false, not, cond, ◌&&◌, List, [], ◌∷◌, Option, Some, None, refl, sym, ◌∙◌, ap, subst, arith}
use Rattle.std.specs.List.{list_all, cons_option}
use Rattle.std.specs.Option.{option_map}
use Rattle.dq_lits.specs.Literal.{Literal, same_literal}
use Rattle.dq_lits.specs.Derivation.{LiveClauses, ClauseStatus, falsified, unit, stuck, holds, status_by, status_of}
use Rattle.cert_export.specs.Renaming.{Renaming, IsInjective, renamed_literal, renamed_clause, cut_by, cut_hints}
use Rattle.cert_export.proofs.Renamings.{same_renamed, holds_renamed, open_in, open_renamed}

-- the second name is made of the first
module _ (r s : Renaming) (to : ℕ → ℕ) (made : (v : ℕ) → s v ≡ option_map to (r v)) (first : IsInjective r)
    (second : IsInjective s) where
  -- both leave a literal out, or neither does
  abbrev AreNamedAlike : Option Literal → Option Literal → Type 0
  AreNamedAlike None None = Unit {0}
  AreNamedAlike (Some k) (Some l) = Unit {0}
  AreNamedAlike None (Some l) = ⊥
  AreNamedAlike (Some k) None = ⊥

  named_alike : (l : Literal) → AreNamedAlike (renamed_literal r l) (renamed_literal s l)
  named_alike l = search arith

  all_alike : (l k k' : Literal) → renamed_literal r l ≡ Some k → renamed_literal s l ≡ Some k' →
      (rest : List Literal) →
      list_all (same_literal k) (renamed_clause r rest) ≡ list_all (same_literal k') (renamed_clause s rest)
  all_alike l k k' e e' [] = refl
  all_alike l k k' e e' (x ∷ xs) = search (arith, (all_alike l k k' e e' xs), named_alike, same_renamed)

  -- the same becomes of a clause: its one open literal has its names
  abbrev AreAlike : ClauseStatus → ClauseStatus → Type 0
  AreAlike falsified falsified = Unit {0}
  AreAlike stuck stuck = Unit {0}
  AreAlike (unit k) (unit k') = (l : Literal) × (renamed_literal r l ≡ Some k) × (renamed_literal s l ≡ Some k')
  AreAlike _ _ = ⊥

  open_alike : (trues opens : List Literal) →
      AreAlike (status_by (renamed_clause r trues) (renamed_clause r opens)) (status_by (renamed_clause s trues)
      (renamed_clause s opens))
  open_alike trues [] = tt
  open_alike trues (l ∷ ls) = by_names (open_alike trues ls) (renamed_literal r l) (renamed_literal s l)
      refl refl (named_alike l) where
        by_bits : (k k' : Literal) → renamed_literal r l ≡ Some k → renamed_literal s l ≡ Some k' → (b c : Bool) →
            b ≡ c → AreAlike (cond b (unit k) stuck) (cond c (unit k') stuck)
        by_bits k k' e e' true true h = (l, e, e')
        by_bits k k' e e' false false h = tt
        by_bits k k' e e' true false h = cc
        by_bits k k' e e' false true h = cc

        by_names : AreAlike (status_by (renamed_clause r trues) (renamed_clause r ls)) (status_by
            (renamed_clause s trues) (renamed_clause s ls)) →
            (o p : Option Literal) → renamed_literal r l ≡ o → renamed_literal s l ≡ p → AreNamedAlike o p →
            AreAlike (status_by (renamed_clause r trues) (cons_option o (renamed_clause r ls)))
            (status_by (renamed_clause s trues) (cons_option p (renamed_clause s ls)))
        by_names later None None a b alike = later
        by_names later None (Some y) a b alike = absurd alike
        by_names later (Some y) None a b alike = absurd alike
        by_names later (Some y) (Some z) a b alike = by_bits y z a b
            (list_all (same_literal y) (renamed_clause r ls) && not (holds (renamed_clause r trues) y))
            (list_all (same_literal z) (renamed_clause s ls) && not (holds (renamed_clause s trues) z))
            (ap (λ b. b && not (holds (renamed_clause r trues) y)) (all_alike l y z a b ls)
            ∙ ap (λ b. list_all (same_literal z) (renamed_clause s ls) && not b)
            (holds_renamed r first l y a trues ∙ sym (holds_renamed s second l z b trues)))

  status_alike : (trues : List Literal) (o : Option (List Literal)) →
      AreAlike (status_of (renamed_clause r trues) (option_map (renamed_clause r) o))
      (status_of (renamed_clause s trues) (option_map (renamed_clause s) o))
  status_alike trues None = tt
  status_alike trues (Some c) =
      let opens = open_in r first trues c in
      subst (λ xs. AreAlike (status_by (renamed_clause r trues) xs)
      (status_of (renamed_clause s trues) (Some (renamed_clause s c)))) (sym (open_renamed r first trues c))
      (subst (λ xs. AreAlike (status_by (renamed_clause r trues) (renamed_clause r opens))
      (status_by (renamed_clause s trues) xs)) (sym (open_renamed s second trues c)) (open_alike trues opens))

  module _ (live : LiveClauses) where
    abbrev by : Renaming → LiveClauses
    by t id = option_map (renamed_clause t) (live id)

    pub cut_alike : (hints : List ℕ) (trues : List Literal) →
        cut_hints (by r) (renamed_clause r trues) hints ≡ cut_hints (by s) (renamed_clause s trues) hints
    cut_alike [] trues = refl
    cut_alike (h ∷ hs) trues = ap (λ xs. h ∷ xs) (by_status (status_of (renamed_clause r trues) (by r h))
        (status_of (renamed_clause s trues) (by s h)) (status_alike trues (live h))
        (λ l. cut_alike hs (l ∷ trues))) where
          by_status : (a b : ClauseStatus) → AreAlike a b → ((l : Literal) →
              cut_hints (by r) (renamed_clause r (l ∷ trues)) hs ≡ cut_hints (by s) (renamed_clause s (l ∷ trues)) hs) →
              cut_by a (λ k. cut_hints (by r) (k ∷ renamed_clause r trues) hs)
              ≡ cut_by b (λ k. cut_hints (by s) (k ∷ renamed_clause s trues) hs)
          by_status falsified falsified alike later = refl
          by_status stuck stuck alike later = refl
          by_status (unit k) (unit k') alike later =
              ap (λ o. cut_hints (by r) (cons_option o (renamed_clause r trues)) hs) (sym alike.1) ∙ later alike.0
              ∙ ap (λ o. cut_hints (by s) (cons_option o (renamed_clause s trues)) hs) alike.2
          by_status stuck (unit k) alike later = absurd alike
          by_status (unit k) stuck alike later = absurd alike
          by_status falsified _ alike later = absurd alike
          by_status _ falsified alike later = absurd alike
