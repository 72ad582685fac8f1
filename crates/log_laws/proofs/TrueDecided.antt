-- The log of a true formula keeps its selectors, and decides.
use Rattle.std.proofs.Common.{◌≡◌, ℕ, ◌==◌, true, inl, inr, ◌⊎◌, List, [], ◌∷◌, refl, sym, subst, arith}
use Rattle.std.specs.List.{Contains, list_any}
use Rattle.std.proofs.lemmas.Bool.{eqb-true}
use Rattle.std.proofs.lemmas.Map.Views.{Contains-from_any}
use Rattle.std.proofs.lemmas.List.Elements.{All-from_recursion}
use Rattle.dq_lits.specs.Literal.{Literal, negative}
use Rattle.dq_lits.specs.Derivation.{holds}
use Rattle.hint_log.specs.Entries.{Entry, Named, Given}
use Rattle.hint_log.specs.declared.names.Name.{Name}
use Rattle.hint_log.specs.declared.names.Name.TheVariants.{Input}
use Rattle.hint_log.specs.declared.origins.Leaf.{Leaf}
use Rattle.hint_log.specs.declared.origins.Leaf.TheVariants.{Constant, Literal as LeafLiteral}
use Rattle.hint_log.specs.declared.origins.Origin.{Origin}
use Rattle.hint_log.specs.declared.origins.Origin.TheVariants.{Gate, Fault}
use Rattle.hint_log.specs.Deciding.{KeepsSelectors, HoldsSelectors, DecidesTrue, IsCircuitGiven, IsFaultLeaf, LeafReads}
use Rattle.hint_log.specs.Growth.{Each}
use Rattle.log_laws.specs.Examples.{seen_conjunction, gate_given, faults_given, shown}
use Rattle.log_laws.specs.Meaning.{HasAnswer}
use Rattle.log_laws.proofs.Checks.{reached_has, named_has, read_is_named}
use Rattle.log_laws.proofs.TrueLog.{s21}

-- all clauses are of group 1 or 5
abbrev IsOfGroups : Entry → Type 0
IsOfGroups e = (origin : Origin) (g : ℕ) (rest : List Literal) → e ≡ Given origin (negative g ∷ rest) →
    (1 ≡ g) ⊎ (5 ≡ g)

of_one : (o : Origin) (r : List Literal) → IsOfGroups (Given o (negative 1 ∷ r))
of_one o r o' g r' h = inl cc

of_five : (o : Origin) (r : List Literal) → IsOfGroups (Given o (negative 5 ∷ r))
of_five o r o' g r' h = inr cc

faults_groups : Each (λ before e. IsOfGroups e) faults_given
faults_groups = search (arith, of_five, of_one)

holds_both : (entries : List Entry) (clause : List Literal) (hints : List ℕ) → holds clause (negative 1) ≡ true →
    holds clause (negative 5) ≡ true → Each (λ before e. IsOfGroups e) entries → HoldsSelectors entries clause hints
holds_both entries clause hints one five groups origin g rest reached =
    elim (reached_has IsOfGroups entries hints origin (negative g ∷ rest) groups reached origin g rest refl) [
      | inl is ↦ subst (λ v. holds clause (negative v) ≡ true) is one
      | inr is ↦ subst (λ v. holds clause (negative v) ≡ true) is five
    ]

pub gate_selectors : KeepsSelectors gate_given
gate_selectors = search arith

pub faults_selectors : KeepsSelectors faults_given
faults_selectors = search (arith, gate_selectors)

pub shown_selectors : KeepsSelectors shown
shown_selectors = search (arith, holds_both, faults_groups, faults_selectors)

-- gates and faults of group 5
abbrev IsCircuitIfGiven : Entry → Type 0
IsCircuitIfGiven e = (origin : Origin) (c : List Literal) → e ≡ Given origin c → IsCircuitGiven 5 origin c

gate_is : (v i : ℕ) (clause : List Literal) → IsCircuitIfGiven (Given (Gate v i) clause)
gate_is v i clause origin c h = search arith

fault_is : (j i : ℕ) (leaf : Leaf) (rest : List Literal) → IsCircuitIfGiven (Given (Fault j i leaf) (negative 5 ∷ rest))
fault_is j i leaf rest origin c h =
    let is : Fault j i leaf ≡ origin = cc in
    let same : (negative 5 ∷ rest) ≡ c = cc in
    subst (λ o. IsCircuitGiven 5 o c) is (rest, sym same)

shown_circuit : Each (λ before e. IsCircuitIfGiven e) s21
shown_circuit = search (arith, gate_is)

-- the inputs are those that the existential sees
abbrev IsSeenInput : Name → Type 0
IsSeenInput n = (x : ℕ) → n ≡ Input x → Contains (1 ∷ 2 ∷ []) x

input_seen : (v x : ℕ) → list_any (λ y. x == y) (1 ∷ 2 ∷ []) ≡ true → (w : ℕ) (n : Name) →
    Named v (Input x) ≡ Named w n → IsSeenInput n
input_seen v x h w n is y named = search (arith, Contains-from_any, eqb-true)

inputs_seen : Each (λ before e. (w : ℕ) (n : Name) → e ≡ Named w n → IsSeenInput n) s21
inputs_seen = search (arith, input_seen)

reads_seen : (leaf : Leaf) (x : ℕ) → LeafReads s21 leaf x → Contains (1 ∷ 2 ∷ []) x
reads_seen (Constant b) x reads = absurd reads
reads_seen (LeafLiteral l) x reads = let r = read_is_named s21 l x reads in
    named_has IsSeenInput s21 inputs_seen r.0 (Input x) r.1 x refl

pub shown_decides : HasAnswer (DecidesTrue seen_conjunction) shown
shown_decides = record {
  earlier = s21;
  clause = negative 1 ∷ negative 5 ∷ [];
  hints = (12 ∷ 13 ∷ 11 ∷ 8 ∷ 9 ∷ 10 ∷ 3 ∷ []);
  later = [];
  is_there = refl;
  decides = record {
    rests = record {
      selectors = search (arith, All-from_recursion);
      group = 5;
      circuit = search (arith, shown_circuit);
    };
    reads = All-from_recursion (λ y. (leaf : Leaf) → IsFaultLeaf seen_conjunction s21
        (12 ∷ 13 ∷ 11 ∷ 8 ∷ 9 ∷ 10 ∷ 3 ∷ []) y leaf → (x : ℕ) → LeafReads s21 leaf x → Contains y.sees x)
        seen_conjunction.existentials
        ((λ leaf fault x reads. reads_seen leaf x reads), tt);
  };
}
