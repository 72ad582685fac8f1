-- Bits of universals that make conditions true, one by one.
use Rattle.std.proofs.Common.{◌≡◌, ◌≢◌, ℕ, ◌+◌, ◌≤◌, Bool, false, not, List, length, set, replicate, slice_get, Some, IsSome, refl, sym, ◌∙◌, ap, subst, arith}
use Rattle.std.specs.List.{Contains}
use Rattle.std.proofs.lemmas.Bool.{cases_lt}
use Rattle.std.proofs.lemmas.List.{length-set, length-replicate, get_or-set_same, get_or-set_other}
use Rattle.std.proofs.lemmas.Option.{slice_get_within, get_or_from_slice_get}
use Rattle.list_laws.proofs.Quantified.{one_place}
use Rattle.list_laws.proofs.Members.{element_at}
use Rattle.list_laws.proofs.Numbers.{same_or_not}
use Rattle.dq_lits.specs.Derivation.{is_tautology}
use Rattle.dq_lits.specs.Formula.{Dqbf, existential_of}
use Rattle.dq_lits.specs.Literal.{Literal, variable_of, is_negative}
use Rattle.dq_lits.specs.Row.{bit_of}
use Rattle.dq_lits.proofs.FormulaVariables.{find_sound}
use Rattle.dq_formula.specs.Prefix.{IsLawful}
use Rattle.definition_order.proofs.Declared.{some_existential}
use Rattle.definability.specs.Conditions.{IsBitSet, MeetsLiterals}
use Rattle.definability.specs.Copies.{IsCopied}
use Rattle.definability.proofs.KeptPlaces.{existential_copied, signs_agree}
use Rattle.definability.proofs.SearchAnswers.{found_variable, mapped_existential}
use Rattle.definition_order.proofs.Firsts.{universals_apart}

pub existential_has_copies : (f : Dqbf) → IsLawful f → (flags : List Bool) (v : ℕ) →
    length flags ≡ length f.universals → IsSome (existential_of f v) → IsCopied f flags v
existential_has_copies f lawful flags v as_many is = some_existential f v (IsCopied f flags v) is (λ e found.
    subst (IsCopied f flags) (found_variable f v e found)
    (existential_copied f lawful.prefix flags e.variable as_many
    (mapped_existential f.existentials e (find_sound v f.existentials e found).0)))

pub none_met : (f : Dqbf) (lits : List Literal) (row : List Bool) → row ≡ replicate (length f.universals) false →
    MeetsLiterals f lits 0 row
none_met f lits row is = search (arith, length-replicate)

pub met_more : (f : Dqbf) (lits : List Literal) (i : ℕ) (l : Literal) (old new : List Bool) →
    is_tautology lits ≡ false → slice_get lits i ≡ Some l → IsBitSet f l old new → MeetsLiterals f lits i old →
    MeetsLiterals f lits (i + 1) new
met_more f lits i l old new consistent l_at bit before =
    search (arith, cases_lt, same_or_not, (signs_agree lits), (element_at lits), (element_at lits i l l_at))

pub all_met : (f : Dqbf) (lits : List Literal) (i : ℕ) (row : List Bool) → length lits ≤ i → MeetsLiterals f lits i row →
    MeetsLiterals f lits (length lits) row
all_met f lits i row all met = search arith

pub bit_set : (f : Dqbf) → IsLawful f → (l : Literal) (i : ℕ) (bit : Bool) (old new : List Bool) →
    length old ≡ length f.universals → slice_get f.universals i ≡ Some (variable_of l) → bit ≡ not (is_negative l) →
    new ≡ set old i bit → IsBitSet f l old new
bit_set f lawful l i bit old new long at bit_is is = subst (IsBitSet f l old) (sym is) (record {
  long = length-set old i bit;
  is_true = λ k there.
      let same = one_place f.universals i k (variable_of l) (universals_apart f lawful.prefix) at there in
      let within = slice_get_within f.universals i (variable_of l) at in
      ap (bit_of (set old i bit)) (sym same) ∙ get_or-set_same old i bit false (omega (arith, within, long)) ∙ bit_is;
  rest = λ k x there other. get_or-set_other old i k bit false (λ same. other_place k x there other (sym same));
})
  where
    other_place : (k x : ℕ) → slice_get f.universals k ≡ Some x → x ≢ variable_of l → i ≡ k → ⊥
    other_place k x there other same = search arith

pub bit_kept : (f : Dqbf) (l : Literal) (old new : List Bool) → new ≡ old → (Contains f.universals (variable_of l) → ⊥) →
    IsBitSet f l old new
bit_kept f l old new is none = subst (IsBitSet f l old) (sym is) (record {
  long = refl;
  is_true = λ k there. absurd (none (
    k,
    slice_get_within f.universals k (variable_of l) there,
    get_or_from_slice_get f.universals k (variable_of l) (variable_of l) there,
  ));
  rest = λ k x there other. refl;
})
