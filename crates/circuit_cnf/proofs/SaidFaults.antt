-- What a group says, fault after fault.
use Rattle.std.proofs.Common.{◌≡◌, ℕ, ◌+◌, ◌≤◌, ◌<◌, true, false, inl, inr, ◌⊎◌, not, List, [], ◌∷◌, ◌++◌, length, get_or, slice_get, Some, refl, sym, ◌∙◌, ap, subst, arith}
use Rattle.std.specs.List.{Contains}
use Rattle.std.proofs.lemmas.Bool.{false≢true}
use Rattle.std.proofs.lemmas.List.Elements.{Contains-append_right}
use Rattle.list_laws.proofs.Numbers.{below_or_here}
use Rattle.dq_lits.specs.Literal.{Literal, positive, negative, variable_of, is_negative, opposite}
use Rattle.dq_lits.specs.Formula.{Dqbf, declared}
use Rattle.dq_lits.specs.Row.{bit_of}
use Rattle.dq_lits.proofs.SignedLiterals.{negated-positive}
use Rattle.hint_log.specs.Entries.{Entry, Given, ProofLog, name_of, with_entry}
use Rattle.hint_log.specs.declared.names.Name.TheVariants.{Bad}
use Rattle.hint_log.specs.declared.origins.Leaf.{Leaf}
use Rattle.hint_log.specs.declared.origins.Leaf.TheVariants.{Constant}
use Rattle.hint_log.specs.declared.origins.Origin.TheVariants.{Fault}
use Rattle.hint_log.specs.Origins.{matrix_literal, leaf_clause, leaf_with_sign, IsLeafOf}
use Rattle.log_laws.specs.Engines.{circuits, IsAddedBy}
use Rattle.log_laws.proofs.LargerLogs.{grown_then}
use Rattle.circuit_cnf.specs.Faults.{AreSaid, HasFault, HasItsFaults, HaveChosenFaults, HaveFaults, IsFaulted, IsNeverBad, AreFewWith, HaveOneLeaf, AreBads}
use Rattle.circuit_cnf.specs.Saying.{MaySay, given_after, given_before, leaf_in, selector_in}
use Rattle.circuit_cnf.specs.declared.fault_clauses.Faults.{Faults}
use Rattle.circuit_cnf.specs.declared.fault_clauses.ClauseSelection.{ClauseSelection}
use Rattle.circuit_cnf.proofs.ClauseFaults.{few_more, one_leaf_more}
use Rattle.circuit_cnf.proofs.GivenFaults.{IsFaultReady, fault_grown}
use Rattle.circuit_cnf.proofs.GroupFaults.{some_leaf_more}
use Rattle.circuit_cnf.proofs.SomeFault.{some_grown}

pub said_then : (f : Dqbf) (group : ℕ) (leaf : ℕ → Leaf) (old log new : ProofLog) → AreSaid f group leaf old log →
    AreSaid f group leaf log new → AreSaid f group leaf old new
said_then f group leaf old log new before after = record {
  grew = λ standing start unnamed. grown_then (IsAddedBy f circuits standing true start) old log new
      (before.grew standing start unnamed) (after.grew standing start unnamed);
  names = λ v. after.names v ∙ before.names v;
  few = after.few;
  one_leaf = after.one_leaf;
}

fault_in_more : (group bad j i : ℕ) (l : Literal) (out : Leaf) (more es : List Entry) →
    HasFault group bad j i l out es → HasFault group bad j i l out (more ++ es)
fault_in_more group bad j i l out more es (inl none) = inl none
fault_in_more group bad j i l out more es (inr some) = search (arith, Contains-append_right)

faults_then : (f : Dqbf) (group bad j : ℕ) (leaf : ℕ → Leaf) (clause : List Literal) (i : ℕ) (log new : ProofLog) →
    AreSaid f group leaf log new →
    HaveFaults f group bad j leaf clause i log.entries → HaveFaults f group bad j leaf clause i new.entries
faults_then f group bad j leaf clause i log new said before k l below at =
    let grown = said.grew 0 [] refl in
    subst (HasFault group bad j (k + 1) l (leaf (variable_of l))) (sym grown.grown)
    (fault_in_more group bad j (k + 1) l (leaf (variable_of l)) grown.more log.entries (before k l below at))

pub faulted_then : (f : Dqbf) (group bad j : ℕ) (leaf : ℕ → Leaf) (clause : List Literal) (log new : ProofLog) →
    AreSaid f group leaf log new → IsFaulted f group bad j leaf clause log.entries →
    IsFaulted f group bad j leaf clause new.entries
faulted_then f group bad j leaf clause log new said (inl have) =
    inl (faults_then f group bad j leaf clause (length clause) log new said have)
faulted_then f group bad j leaf clause log new said (inr never) =
    let grown = said.grew 0 [] refl in
    inr (
      never.0,
      subst (λ es. Contains es (Given never.0 (negative group ∷ negative bad ∷ []))) (sym grown.grown)
          (Contains-append_right grown.more log.entries (Given never.0 (negative group ∷ negative bad ∷ [])) never.1),
    )

-- the fault of a literal that is true anyway says that the clause is never false
pub never_bad : (group bad j i : ℕ) (l : Literal) (leaf : Leaf) (es : List Entry) →
    leaf_with_sign (not (is_negative l)) leaf ≡ Constant false → HasFault group bad j i l leaf es →
    IsNeverBad group bad es
never_bad group bad j i l leaf es true_anyway (inl none) = search arith
never_bad group bad j i l leaf es true_anyway (inr some) = search arith

-- the first literals of a clause have their faults
pub record FaultsSoFar (f : Dqbf) (group bad j : ℕ) (leaf : ℕ → Leaf) (clause : List Literal) (old log : ProofLog)
    (i : ℕ) : Type 0 where
  pub said : AreSaid f group leaf old log
  pub given : HaveFaults f group bad j leaf clause i log.entries

pub next_fault : (f : Dqbf) (group bad j : ℕ) (leaf : ℕ → Leaf) (clause : List Literal) (old log new : ProofLog) (i : ℕ)
    (l : Literal) → FaultsSoFar f group bad j leaf clause old log i →
    AreSaid f group leaf log new → slice_get clause i ≡ Some l →
    HasFault group bad j (i + 1) l (leaf (variable_of l)) new.entries →
    FaultsSoFar f group bad j leaf clause old new (i + 1)
next_fault f group bad j leaf clause old log new i l before said at here =
    search (
      arith,
      (said_then f group leaf old log new before.said said),
      below_or_here,
      (faults_then f group bad j leaf clause i log new said before.given),
    )

-- the first clauses of a part have their faults, and those that had theirs before it
pub record PartSoFar (f : Dqbf) (group : ℕ) (bads : List Literal) (leaf : ℕ → Leaf) (part : ClauseSelection)
    (old log : ProofLog) (j : ℕ) : Type 0 where
  pub said : AreSaid f group leaf old log
  pub before : HaveChosenFaults f group bads leaf (given_before part) log.entries
  pub given : (k : ℕ) → k < j → bit_of part.marks.now k ≡ part.are_set → HasItsFaults f group bads leaf k log.entries

module _ (f : Dqbf) (group : ℕ) (bads : List Literal) (leaf : ℕ → Leaf) (part : ClauseSelection) (old log : ProofLog) (j : ℕ)
    (so_far : PartSoFar f group bads leaf part old log j) where
  pub next_clause : (new : ProofLog) → AreSaid f group leaf log new →
      (bit_of part.marks.now j ≡ part.are_set → HasItsFaults f group bads leaf j new.entries) →
      PartSoFar f group bads leaf part old new (j + 1)
  next_clause new said here = record {
    said = said_then f group leaf old log new so_far.said said;
    before = λ k below is. stays k (so_far.before k below is);
    given = λ k below mine. by k mine (below_or_here k j below);
  } where
    stays : (k : ℕ) → HasItsFaults f group bads leaf k log.entries → HasItsFaults f group bads leaf k new.entries
    stays k have = faulted_then f group (variable_of (get_or bads k (positive 0))) (k + 1) leaf (get_or f.matrix k [])
        log new said have

    by : (k : ℕ) → bit_of part.marks.now k ≡ part.are_set → (k < j) ⊎ (k ≡ j) →
        HasItsFaults f group bads leaf k new.entries
    by k mine (inl below) = stays k (so_far.given k below mine)
    by k mine (inr is) = subst (λ n. HasItsFaults f group bads leaf n new.entries) (sym is)
        (here (subst (λ n. bit_of part.marks.now n ≡ part.are_set) is mine))

  pub part_given : length f.matrix ≤ j → HaveChosenFaults f group bads leaf (given_after part) log.entries
  part_given whole k below is = search (arith, false≢true)

module _ (s : Faults) (log : ProofLog) (may : MaySay s log.entries) where
  pub nothing_said : AreSaid s.f.now (selector_in s) (leaf_in s) log log
  nothing_said = search arith

  pub same_said : (new : ProofLog) → new ≡ log → AreSaid s.f.now (selector_in s) (leaf_in s) log new
  same_said new same = subst (AreSaid s.f.now (selector_in s) (leaf_in s) log) (sym same) nothing_said

  pub may_say_on : (new : ProofLog) → AreSaid s.f.now (selector_in s) (leaf_in s) log new → MaySay s new.entries
  may_say_on new said = search arith

  -- the fault of a literal is given
  pub fault_is_said : (bad literal : Literal) (out : Leaf) (clause place : ℕ) (lits tail : List Literal)
      (new : ProofLog) → 1 ≤ clause → matrix_literal s.f.now clause place ≡ Some literal →
      Contains (declared s.f.now) (variable_of literal) → out ≡ leaf_in s (variable_of literal) →
      name_of log.entries (variable_of bad) ≡ Some (Bad (selector_in s) clause) → is_negative bad ≡ false →
      leaf_clause (leaf_with_sign (not (is_negative literal)) out) ≡ Some tail → lits ≡ opposite bad ∷ tail →
      new ≡ with_entry log (Given (Fault clause place out) (opposite s.group.now.selector ∷ lits)) →
      AreSaid s.f.now (selector_in s) (leaf_in s) log new
  fault_is_said bad literal out clause place lits tail new from_one literal_is inside leaf_is bad_is plain tail_is
      lits_are added =
      let sel = s.group.now.selector in
      let is_leaf : IsLeafOf s.f.now log.entries (variable_of literal) out =
      subst (IsLeafOf s.f.now log.entries (variable_of literal)) (sym leaf_is)
      (may.leaves (variable_of literal) inside) in
      let ready : IsFaultReady s.f.now log.entries (selector_in s) (variable_of bad) literal out clause place = record {
        is_group = may.made.named;
        from_one = from_one;
        literal_is = literal_is;
        leaf_is = is_leaf;
        bad_is = bad_is;
        few = may.few clause place out;
        one_leaf = λ j i v o rest within own same. may.one_leaf j i v o rest within own ∙ ap (leaf_in s) same
            ∙ sym leaf_is;
      } in
      let e : new.entries ≡ Given (Fault clause place (leaf_in s (variable_of literal)))
      (negative (selector_in s) ∷ lits) ∷ log.entries = search (arith, negated-positive) in
      record {
        grew = λ standing start unnamed. fault_grown s.f.now standing start sel bad literal out clause place lits tail
            log new may.made.positive plain ready tail_is lits_are added unnamed;
        names = λ v. ap (λ xs. name_of xs v) e;
        few = subst (AreFewWith (selector_in s)) (sym e) (few_more (selector_in s) clause place
            (leaf_in s (variable_of literal)) lits log.entries may.few);
        one_leaf = subst (HaveOneLeaf s.f.now (selector_in s) (leaf_in s)) (sym e)
            (one_leaf_more s.f.now (selector_in s) clause place
            (leaf_in s) literal lits log.entries literal_is may.one_leaf);
      }

  -- that some clause is false is given
  pub some_is_said : (bads : List Literal) (new : ProofLog) → AreBads s.f.now (selector_in s) bads log.entries →
      new ≡ with_entry log (Given (Fault 0 0 (Constant false)) (opposite s.group.now.selector ∷ bads)) →
      AreSaid s.f.now (selector_in s) (leaf_in s) log new
  some_is_said bads new named added =
      let sel = s.group.now.selector in
      let e : new.entries ≡ Given (Fault 0 0 (Constant false)) (negative (selector_in s) ∷ bads) ∷ log.entries =
      ap (λ (l : ProofLog). l.entries) added ∙ ap (λ l. Given (Fault 0 0 (Constant false)) (l ∷ bads) ∷ log.entries)
      (negated-positive sel may.made.positive) in
      record {
        grew = λ standing start unnamed. some_grown s.f.now standing start sel bads log new may.made.positive
            may.made.named named may.few added unnamed;
        names = λ v. ap (λ xs. name_of xs v) e;
        few = subst (AreFewWith (selector_in s)) (sym e) (few_more (selector_in s) 0 0
            (Constant false) bads log.entries may.few);
        one_leaf = subst (HaveOneLeaf s.f.now (selector_in s) (leaf_in s)) (sym e)
            (some_leaf_more s.f.now (selector_in s) (leaf_in s) bads log.entries may.one_leaf);
      }
