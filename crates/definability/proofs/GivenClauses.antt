-- Clauses that are given to a group, and how steps compose.
use Rattle.std.proofs.Common.{◌≡◌, ℕ, ◌≤◌, Bool, true, false, inl, inr, List, [], ◌∷◌, length, Option, Some, None, IsSome, refl, sym, ◌∙◌, ap, subst, arith}
use Rattle.std.specs.List.{All, Contains}
use Rattle.std.proofs.lemmas.List.Elements.{All-head, All-cons}
use Rattle.list_laws.proofs.Members.{contains_cases}
use Rattle.dq_lits.specs.Literal.{Literal, negative, variable_of}
use Rattle.dq_lits.specs.Formula.{Dqbf}
use Rattle.hint_log.specs.Conditions.{AreLogged}
use Rattle.hint_log.specs.Entries.{Entry, Named, Given, ProofLog, with_entry, name_of}
use Rattle.hint_log.specs.Growth.{Each}
use Rattle.hint_log.specs.Naming.{AreNamedAs, named_literal, name_literal}
use Rattle.hint_log.specs.Origins.{IsRestOf}
use Rattle.hint_log.specs.ProductiveLog.{MatchesOrigin, is_fault, fault_groups, fault_room}
use Rattle.hint_log.specs.declared.names.Name.{Name}
use Rattle.hint_log.specs.declared.names.Name.TheVariants.{Selector, Copy as CopyOf}
use Rattle.hint_log.specs.declared.origins.Origin.{Origin}
use Rattle.hint_log.specs.declared.origins.Origin.TheVariants.{Fault}
use Rattle.hint_log.proofs.NamedEntries.{none_below}
use Rattle.log_laws.specs.Engines.{circuits, copies, origin_engine, IsAddedBy}
use Rattle.log_laws.proofs.Found.{named_variable}
use Rattle.log_laws.proofs.LargerLogs.{grown_by, grown_by_none, grown_then}
use Rattle.oracle.specs.Calls.{IsPlain}
use Rattle.definability.specs.Copies.{IsGroupGiven, copy_names}
use Rattle.definability.specs.Growing.{GrewAnew, GrewIn, HasFewFaults, Gives}

pub group_anew : (f : Dqbf) (old new : ProofLog) (g : ℕ) → name_of old.entries g ≡ None →
    new ≡ with_entry old (Named g (Selector g)) → GrewAnew f old new
group_anew f old new g unnamed is standing start names =
    grown_by (IsAddedBy f copies standing true start) old new (Named g (Selector g)) is
    (record { unnamed = unnamed; own = inl refl; rightly = tt })

pub in_then : (f : Dqbf) (group : ℕ) (a b c : ProofLog) → GrewIn f group a b → GrewIn f group b c → GrewIn f group a c
in_then f group a b c first second standing start h = grown_then (IsAddedBy f copies standing true start) a b c
    (first standing start h) (second standing start h)

pub in_same : (f : Dqbf) (group : ℕ) (old new : ProofLog) → new ≡ old → GrewIn f group old new
in_same f group old new is standing start h = grown_by_none (IsAddedBy f copies standing true start) old new is

pub no_fault : (origin : Origin) → origin_engine origin ≡ copies → is_fault origin ≡ false
no_fault (Fault j i leaf) e = let h : circuits ≡ copies = e in cc
no_fault _ e = refl

not_a_fault : (origin : Origin) → origin_engine origin ≡ copies → (j i : ℕ) {leaf : _} → origin ≡ Fault j i leaf → ⊥
not_a_fault origin e j i is = let h : copies ≡ circuits = sym e ∙ ap origin_engine is in cc

-- a right clause of a group
module _ (f : Dqbf) (log : ProofLog) (g : ℕ) (origin : Origin) (rest : List Literal)
    (own : origin_engine origin ≡ copies) (is_group : name_of log.entries g ≡ Some (Selector g))
    (rest_is : IsRestOf f log.entries g origin rest) (first : (c : List Literal) →
    Contains log.entries (Given origin c) → ⊥) (few : HasFewFaults log.entries) where
  pub right_clause : MatchesOrigin f log.entries (Given origin (negative g ∷ rest))
  right_clause = search (arith, not_a_fault)

  faults_same : fault_groups (Given origin (negative g ∷ rest) ∷ log.entries) ≡ fault_groups log.entries
  faults_same = rw (no_fault origin own) refl

  few_after : length (fault_groups (Given origin (negative g ∷ rest) ∷ log.entries)) ≤ fault_room log.entries
  few_after = subst (λ (gs : List ℕ). length gs ≤ fault_room log.entries) (sym faults_same) few

  pub few_more : HasFewFaults (Given origin (negative g ∷ rest) ∷ log.entries)
  few_more = few_after

  pub in_by : GrewIn f g log (with_entry log (Given origin (negative g ∷ rest)))
  in_by standing start h =
      grown_by (IsAddedBy f copies standing true start) log (with_entry log (Given origin (negative g ∷ rest)))
      (Given origin (negative g ∷ rest)) refl (record {
        own = own;
        in_group = (g, (rest, refl), h);
        matches_origin = right_clause;
        not_repeated = record { first = λ h c inside. first c inside; groups = few_after };
      })

-- clauses that are given to a group, one by one
pub gives_none : (f : Dqbf) (test : Origin → Bool) (g : ℕ) (log : ProofLog) → Gives f test g log log
gives_none f test g log = search (arith, in_same)

pub gives_more : (f : Dqbf) (test : Origin → Bool) (g : ℕ) (old log : ProofLog) (origin : Origin)
    (clause : List Literal) → test origin ≡ true → GrewIn f g log (with_entry log (Given origin clause)) →
    Gives f test g old log → Gives f test g old (with_entry log (Given origin clause))
gives_more f test g old log origin clause passes grew before = record {
  grew = in_then f g old log (with_entry log (Given origin clause)) before.grew grew;
  names = before.names;
  givens = λ o c inside. elim (contains_cases (Given origin clause) (Given o c) log.entries inside) [
    | inl same ↦ (let o_is : origin ≡ o = cc in inr (ap test (sym o_is) ∙ passes))
    | inr behind ↦ before.givens o c behind
  ];
}

-- a group without a name has no clause
pub fresh_group : (f : Dqbf) (test : Origin → Bool) (g : ℕ) (es : List Entry) → AreLogged es → name_of es g ≡ None →
    Each (IsGroupGiven f test g) es
fresh_group f test g [] lawful none = tt
fresh_group f test g (Named w n ∷ es) lawful none = search (arith, (fresh_group f test g es lawful.1), none_below)
fresh_group f test g (Given origin c ∷ es) lawful none = (
  λ inside.
      let named = All-head (λ l. IsSome (name_of es (variable_of l))) (negative g) inside.0
      (subst (All (λ l. IsSome (name_of es (variable_of l)))) inside.1 lawful.0) in
      absurd (no_some (name_of es g) none named),
  fresh_group f test g es lawful.1 none,
)
  where
    no_some : (o : Option Name) → o ≡ None → IsSome o → ⊥
    no_some None is some = cc
    no_some (Some n) is some = cc
fresh_group f test g (_ ∷ es) lawful none = (tt, fresh_group f test g es lawful.1 none)

-- literals on copies are no selectors
pub plain_copy : (es : List Entry) (k : Literal) (side v : ℕ) (b : Bool) →
    name_literal es k ≡ Some (named_literal (CopyOf side v) b) → IsPlain es k
plain_copy es k side v b is = search (arith, named_variable)

pub copies_plain : (es : List Entry) (side : ℕ) (clause lits : List Literal) →
    AreNamedAs es lits (copy_names side clause) → All (IsPlain es) lits
copies_plain es side [] [] are = λ k d below. absurd (omega (arith, below))
copies_plain es side [] (k ∷ ks) are = λ i d below. cc
copies_plain es side (l ∷ clause) [] are = λ k d below. absurd (omega (arith, below))
copies_plain es side (l ∷ clause) (k ∷ ks) are =
    search (arith, All-cons, plain_copy, (copies_plain es side clause ks))
