-- A fault that is given to a group.
use Rattle.std.proofs.Common.{◌≡◌, ℕ, zero, suc, ◌≤◌, true, false, not, inr, List, ◌∷◌, length, Some, None, refl, sym, ◌∙◌, ap, arith}
use Rattle.std.specs.List.{Contains}
use Rattle.std.specs.Option.{option_map}
use Rattle.std.proofs.lemmas.Bool.{false≢true}
use Rattle.dq_lits.specs.Literal.{Literal, negative, variable_of, is_negative, opposite}
use Rattle.dq_lits.specs.Formula.{Dqbf}
use Rattle.dq_lits.proofs.SignedLiterals.{negated-positive}
use Rattle.hint_log.specs.Entries.{Entry, Given, ProofLog, with_entry, name_of}
use Rattle.hint_log.specs.declared.names.Name.TheVariants.{Selector, Bad}
use Rattle.hint_log.specs.declared.origins.Leaf.{Leaf}
use Rattle.hint_log.specs.declared.origins.Origin.TheVariants.{Fault}
use Rattle.hint_log.specs.Growth.{Grew}
use Rattle.hint_log.specs.Origins.{leaf_with_sign, leaf_clause, matrix_literal, IsLeafOf, IsFaultOrSome}
use Rattle.hint_log.specs.ProductiveLog.{fault_groups, fault_room}
use Rattle.log_laws.specs.Engines.{circuits, IsGivenBy, IsAddedBy}
use Rattle.log_laws.proofs.LargerLogs.{grown_by}

-- what is asked of a fault
pub record IsFaultReady (f : Dqbf) (es : List Entry) (group bad : ℕ) (literal : Literal) (output : Leaf)
    (clause place : ℕ) : Type 0 where
  pub is_group : name_of es group ≡ Some (Selector group)
  pub from_one : 1 ≤ clause
  pub literal_is : matrix_literal f clause place ≡ Some literal
  pub leaf_is : IsLeafOf f es (variable_of literal) output
  pub bad_is : name_of es bad ≡ Some (Bad group clause)
  pub few : (rest : List Literal) → length (fault_groups (Given (Fault clause place output)
      (negative group ∷ rest) ∷ es)) ≤ fault_room es
  pub one_leaf : (j i v : ℕ) (out : Leaf) (rest : List Literal) →
      Contains es (Given (Fault j i out) (negative group ∷ rest)) →
      option_map variable_of (matrix_literal f j i) ≡ Some v → v ≡ variable_of literal → out ≡ output

fault_added : (f : Dqbf) (standing : ℕ) (start es : List Entry) (group bad : ℕ) (literal : Literal) (output : Leaf)
    (clause place : ℕ) (tail : List Literal) → IsFaultReady f es group bad literal output clause place →
    leaf_clause (leaf_with_sign (not (is_negative literal)) output) ≡ Some tail → name_of start group ≡ None →
    IsGivenBy f circuits standing start es (Fault clause place output) (negative group ∷ negative bad ∷ tail)
fault_added f standing start es group bad literal output clause place tail ready tail_is unnamed = record {
  own = refl;
  in_group = (group, (negative bad ∷ tail, refl), inr unnamed);
  matches_origin = record {
    group = group;
    rest = negative bad ∷ tail;
    clause_is = refl;
    is_group = ready.is_group;
    rest_is = by_number clause ready.from_one ready.literal_is ready.bad_is;
    one_leaf = λ v j i k l leaf other rest is inside own own'.
        let left : clause ≡ j = cc in
        let right : place ≡ i = cc in
        let same : output ≡ leaf = cc in
        let here : Some (variable_of literal) ≡ Some v = search arith in
        let variable : variable_of literal ≡ v = cc in
        sym same ∙ sym (ready.one_leaf k l v other rest inside own' (sym variable));
  };
  not_repeated = record { first = λ h c inside. false≢true (sym h); groups = ready.few (negative bad ∷ tail) };
} where
  by_number : (c : ℕ) → 1 ≤ c → matrix_literal f c place ≡ Some literal → name_of es bad ≡ Some (Bad group c) →
      IsFaultOrSome f es group c place output (negative bad ∷ tail)
  by_number zero one at named = absurd (omega (arith, one))
  by_number (suc c) one at named = search arith

pub fault_grown : (f : Dqbf) (standing : ℕ) (start : List Entry) (g bad literal : Literal) (output : Leaf)
    (clause place : ℕ) (lits tail : List Literal) (log new : ProofLog) → is_negative g ≡ false →
    is_negative bad ≡ false →
    IsFaultReady f log.entries (variable_of g) (variable_of bad) literal output clause place →
    leaf_clause (leaf_with_sign (not (is_negative literal)) output) ≡ Some tail → lits ≡ opposite bad ∷ tail →
    new ≡ with_entry log (Given (Fault clause place output) (opposite g ∷ lits)) →
    name_of start (variable_of g) ≡ None → Grew (IsAddedBy f circuits standing true start) log new
fault_grown f standing start g bad literal output clause place lits tail log new g_plain bad_plain ready tail_is
    lits_are added unnamed =
    let whole : opposite g ∷ lits ≡ negative (variable_of g) ∷ negative (variable_of bad) ∷ tail =
    ap (λ l. l ∷ lits) (negated-positive g g_plain) ∙ ap (λ ls. negative (variable_of g) ∷ ls)
    (lits_are ∙ ap (λ l. l ∷ tail) (negated-positive bad bad_plain)) in
    grown_by (IsAddedBy f circuits standing true start) log new
    (Given (Fault clause place output) (negative (variable_of g) ∷ negative (variable_of bad) ∷ tail))
    (added ∙ ap (λ c. with_entry log (Given (Fault clause place output) c)) whole)
    (fault_added f standing start log.entries (variable_of g)
    (variable_of bad) literal output clause place tail ready tail_is unnamed)
