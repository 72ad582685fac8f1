-- Values of the first copy, as a sample in which an existential has the other bit.
use Rattle.std.proofs.Common.{◌≡◌, ℕ, Bool, true, false, not, inl, inr, List, Some, refl, sym, ◌∙◌, ap}
use Rattle.std.specs.List.{All, Contains}
use Rattle.list_laws.proofs.Truths.{not-not}
use Rattle.dq_lits.specs.Derivation.{holds}
use Rattle.dq_lits.specs.Expansion.{row_assignment}
use Rattle.dq_lits.specs.Formula.{Dqbf, Existential, IsWellFormed, declared}
use Rattle.dq_lits.specs.Literal.{Assignment, Literal, variable_of, literal_true}
use Rattle.dq_lits.proofs.HeldLiterals.{held_of_all}
use Rattle.hint_log.specs.Entries.{Entry, clause_at, name_of}
use Rattle.hint_log.specs.Naming.{named_literal, name_literal}
use Rattle.hint_log.specs.declared.names.Name.{Name}
use Rattle.hint_log.specs.declared.names.Name.TheVariants.{Copy as CopyOf}
use Rattle.log_laws.proofs.Found.{named_variable}
use Rattle.oracle.specs.Calls.{IsModelUnder, assumed}
use Rattle.oracle.specs.declared.groups.Group.{Group}
use Rattle.definability.specs.Copies.{group_variable, IsCopied, IsDefinability}
use Rattle.definability.specs.Dividing.{AreBits, values_at}
use Rattle.definability.specs.Forcing.{IsLoose}
use Rattle.definability.specs.declared.definability.Definability.{Definability}
use Rattle.definability.proofs.AskedLiterals.{AreAsked, IsSeenAsked}
use Rattle.definability.proofs.FreePairs.{all_there, groups_on, sample, copied_value, universal_bit}
use Rattle.definability.proofs.KeptPlaces.{bit_at}
use Rattle.definability.proofs.LinkedInterpolants.{signed, literal_signed}
use Rattle.definition_order.proofs.Firsts.{universals_apart}
use Rattle.list_laws.proofs.Elements.{map_agree}

-- a signed bit that is true
signed_true : (s b : Bool) → signed s b ≡ true → b ≡ not s
signed_true true true h = cc
signed_true true false h = refl
signed_true false b h = h

module _ (f : Dqbf) (y : Existential) (p : Definability) (row : List Bool) (bit : Bool) (es : List Entry) (values : Assignment)
    (asked : List Literal) (formula : IsWellFormed f)
    (unique : (v w : ℕ) (name : Name) → name_of es v ≡ Some name → name_of es w ≡ Some name → v ≡ w)
    (definability : IsDefinability f p es) (are : AreAsked f es y row bit asked)
    (seen : (x : ℕ) → Contains y.sees x → IsSeenAsked f es p.copied.items row asked x)
    (y_declared : Contains (declared f) y.variable) (y_copied : IsCopied f p.copied.items y.variable)
    (seen_universal : (x : ℕ) → Contains y.sees x → Contains f.universals x)
    (model : IsModelUnder values (clause_at es) (assumed p.first.groups.items asked)) (other bits : List Bool)
    (other_is : AreBits values p.copied.items row p.first.universals.items other)
    (bits_are : bits ≡ values_at values p.first.existentials.items) where
  on : ((g : Group) → Contains p.first.groups.items g → literal_true values g.selector ≡ true)
      × All (λ l. literal_true values l ≡ true) asked
  on = all_there (λ l. literal_true values l ≡ true) p.first.groups.items asked model.assumptions_true

  first_on : (g : Group) → Contains p.first.groups.items g → values (group_variable g) ≡ true
  first_on = groups_on es values p.first.groups.items definability.first.made on.0

  -- a copy that was asked for has the value that was asked
  value_of : (l : Literal) (x : ℕ) (s : Bool) → holds asked l ≡ true →
      name_literal es l ≡ Some (named_literal (CopyOf 1 x) s) →
      (name_of es (variable_of l) ≡ Some (CopyOf 1 x)) × (values (variable_of l) ≡ not s)
  value_of l x s h is =
      let named = named_variable es l (CopyOf 1 x) s (name_of es (variable_of l)) refl is in
      let is_true = held_of_all (λ k. literal_true values k ≡ true) asked on.1 l h in (
        named.0,
        signed_true s (values (variable_of l)) (sym (literal_signed values l ∙ ap
            (λ b. signed b (values (variable_of l))) named.1) ∙ is_true),
      )

  agree_at : (x : ℕ) → Contains y.sees x → row_assignment f other x ≡ row_assignment f row x
  agree_at x among = elim (seen x among) [
    | inl there ↦ (
        let l = there.1 in
        let v = value_of l.0 x (not (row_assignment f row x)) l.1 l.2 in
        universal_bit f es values formula unique model.clauses 1 p.copied.items p.first definability.first definability.covered row
        other bits other_is bits_are first_on x (variable_of l.0) (seen_universal x among) there.0 v.0
        ∙ v.1 ∙ not-not (row_assignment f row x))
    | inr none ↦ (
        let us = f.universals in
        let distinct = universals_apart f formula.prefix in
        bit_at us other none.0 x distinct none.1 ∙ other_is.rest none.0 none.2
        ∙ sym (bit_at us row none.0 x distinct none.1))
  ]

  pub loose : IsLoose f y row bit other bits
  loose = record {
    sample = sample f es values formula unique model.clauses 1 p.copied.items p.first definability.first definability.covered row
        other bits other_is bits_are first_on;
    agree = map_agree (row_assignment f other) (row_assignment f row) y.sees agree_at;
    differs =
        let v = value_of are.own.0 y.variable bit are.own.1 are.own.2 in
        copied_value f es values formula unique model.clauses 1 p.copied.items p.first definability.first definability.covered row
        other bits other_is bits_are first_on y.variable (variable_of are.own.0) y_declared y_copied v.0 ∙ v.1;
  }
