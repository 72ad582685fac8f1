-- What a new group says of the clauses, call by call.
use Rattle.std.proofs.Common.{◌≡◌, ℕ, Bool, zero, suc, ◌+◌, ◌≤◌, ◌<◌, true, false, inl, inr, List, [], ◌∷◌, map, length, get_or, Some, None, refl, sym, ◌∙◌, ap, subst, arith}
use Rattle.std.specs.List.{range_with_len}
use Rattle.std.specs.Option.{option_map}
use Rattle.std.proofs.lemmas.Bool.{false≢true}
use Rattle.list_laws.proofs.Members.{contains_later, contains_first, contains_cases}
use Rattle.dq_lits.specs.Literal.{Literal, positive, negative, variable_of, is_negative}
use Rattle.dq_lits.specs.Formula.{Dqbf}
use Rattle.hint_log.specs.Entries.{Entry, Given, ProofLog, with_entry, name_of}
use Rattle.hint_log.specs.declared.names.Name.TheVariants.{Bad}
use Rattle.hint_log.specs.declared.origins.Leaf.{Leaf}
use Rattle.hint_log.specs.declared.origins.Leaf.TheVariants.{Constant, Literal as LeafLiteral}
use Rattle.hint_log.specs.declared.origins.Origin.TheVariants.{Fault}
use Rattle.hint_log.specs.Conditions.{is_circuit_name}
use Rattle.hint_log.specs.Growth.{Grew}
use Rattle.hint_log.specs.Naming.{AreNamedAs}
use Rattle.hint_log.specs.Origins.{matrix_literal, IsLeafOf}
use Rattle.hint_log.specs.ProductiveLog.{fault_groups, with_group, fault_room}
use Rattle.log_laws.specs.Engines.{circuits, IsAddedBy, LeavesRest}
use Rattle.log_laws.proofs.Found.{named_variable}
use Rattle.log_laws.proofs.LargerLogs.{leaves_rest, grown_then}
use Rattle.log_laws.proofs.Kept.{NamesStay, named_stay}
use Rattle.circuit_cnf.specs.Faults.{HaveOneLeaf, AreFewWith, IsBadAt, HasItsFaults, HaveChosenFaults, IsNamingBads, AreGiven, AreChosenGiven, AreNamedAndSaid, AreSaid}
use Rattle.circuit_cnf.proofs.NamedBads.{bad_name}
use Rattle.circuit_cnf.proofs.ClauseFaults.{fault_stays}

pub after_bads : (f : Dqbf) (group : ℕ) (leaf : ℕ → Leaf) (old new : ProofLog) →
    ((h : Dqbf) (standing : ℕ) (start : List Entry) → Grew (IsAddedBy h circuits standing true start) old new) →
    fault_groups new.entries ≡ fault_groups old.entries → IsNamingBads group old.entries new.entries →
    AreFewWith group old.entries → HaveOneLeaf f group leaf old.entries → AreNamedAndSaid f group leaf old new
after_bads f group leaf old new grew faults alone few one = record {
  grew = λ standing start unnamed. grew f standing start;
  stay = rest.names;
  names = alone.names;
  few = λ j i out more. subst (λ gs. length (with_group (negative group ∷ more) gs) ≤ fault_room new.entries)
      (sym faults)
      (subst (λ n. length (with_group (negative group ∷ more) (fault_groups old.entries)) ≤ n) (sym rest.room)
      (few j i out more));
  one_leaf = λ j i v out more inside own. one j i v out more
      (alone.givens (Fault j i out) (negative group ∷ more) inside) own;
} where
  rest : LeavesRest f circuits group true old.entries new.entries
  rest = leaves_rest f circuits group true old new (grew f group old.entries)

pub after_all : (f : Dqbf) (group : ℕ) (leaf : ℕ → Leaf) (old log new : ProofLog) → AreNamedAndSaid f group leaf old log →
    AreSaid f group leaf log new → AreNamedAndSaid f group leaf old new
after_all f group leaf old log new before after = record {
  grew = λ standing start unnamed. grown_then (IsAddedBy f circuits standing true start) old log new
      (before.grew standing start unnamed) (after.grew standing start unnamed);
  stay = λ v n is. after.names v ∙ before.stay v n is;
  names = λ v name is. before.names v name (sym (after.names v) ∙ is);
  few = after.few;
  one_leaf = after.one_leaf;
}

pub some_leaf_more : (f : Dqbf) (group : ℕ) (leaf : ℕ → Leaf) (bads : List Literal) (es : List Entry) →
    HaveOneLeaf f group leaf es →
    HaveOneLeaf f group leaf (Given (Fault 0 0 (Constant false)) (negative group ∷ bads) ∷ es)
some_leaf_more f group leaf bads es before j i v out rest inside own =
    elim (contains_cases (Given (Fault 0 0 (Constant false)) (negative group ∷ bads))
    (Given (Fault j i out) (negative group ∷ rest)) es inside) [
      | inl same ↦ (let left : 0 ≡ j = cc in let none : None ≡ Some v =
          ap (λ x. option_map variable_of (matrix_literal f x i)) left ∙ own in cc)
      | inr earlier ↦ before j i v out rest earlier own
    ]

circuit_stays : (old new : List Entry) → NamesStay old new → (v : ℕ) → is_circuit_name (name_of old v) ≡ true →
    is_circuit_name (name_of new v) ≡ true
circuit_stays old new stay v h = search (arith, false≢true)

pub leaf_of_stays : (f : Dqbf) (old new : List Entry) (v : ℕ) (out : Leaf) → NamesStay old new → IsLeafOf f old v out →
    IsLeafOf f new v out
leaf_of_stays f old new v (Constant b) stay h = h
leaf_of_stays f old new v (LeafLiteral l) stay h = search (arith, circuit_stays)

-- the bads by their places
bad_from : (es : List Entry) (group from : ℕ) (count : ℕ) (bads : List Literal) (j : ℕ) →
    AreNamedAs es bads (map (bad_name group) (range_with_len from count)) → j < count →
    (name_of es (variable_of (get_or bads j (positive 0))) ≡ Some (Bad group (j + from))) ×
    (is_negative (get_or bads j (positive 0)) ≡ false)
bad_from es group from zero bads j h below = absurd (omega (arith, below))
bad_from es group from (suc count) [] j h below = cc
bad_from es group from (suc count) (l ∷ bads) zero h below = search (arith, named_variable)
bad_from es group from (suc count) (l ∷ bads) (suc j) h below =
    search (arith, (bad_from es group (from + 1) count bads j))

pub bads_are_at : (es : List Entry) (group count : ℕ) (bads : List Literal) →
    AreNamedAs es bads (map (bad_name group) (range_with_len 1 count)) → (j : ℕ) → j < count → IsBadAt group j bads es
bads_are_at es group count bads h j below = search (arith, (bad_from es group 1 count bads j h below))

counted : (es : List Entry) (group from count : ℕ) (bads : List Literal) →
    AreNamedAs es bads (map (bad_name group) (range_with_len from count)) → length bads ≡ count
counted es group from zero [] h = refl
counted es group from zero (l ∷ bads) h = cc
counted es group from (suc count) [] h = cc
counted es group from (suc count) (l ∷ bads) h =
    let later : AreNamedAs es bads (map (bad_name group) (range_with_len (from + 1) count)) = cc in
    let more = counted es group (from + 1) count bads later in omega (arith, more)

pub bads_count : (es : List Entry) (group count : ℕ) (bads : List Literal) →
    AreNamedAs es bads (map (bad_name group) (range_with_len 1 count)) → length bads ≡ count
bads_count es group count bads h = counted es group 1 count bads h

pub bads_stay : (old new : List Entry) (group count : ℕ) (bads : List Literal) →
    ((v : ℕ) → name_of new v ≡ name_of old v) → AreNamedAs old bads (map (bad_name group) (range_with_len 1 count)) →
    AreNamedAs new bads (map (bad_name group) (range_with_len 1 count))
bads_stay old new group count bads names are = search (arith, named_stay)

-- that some clause is false is given behind the faults of the chosen clauses
pub chosen_given : (f : Dqbf) (group : ℕ) (leaf : ℕ → Leaf) (bads : List Literal) (chosen : ℕ → Bool)
    (log new : ProofLog) → HaveChosenFaults f group bads leaf chosen log.entries →
    new ≡ with_entry log (Given (Fault 0 0 (Constant false)) (negative group ∷ bads)) →
    AreChosenGiven f group leaf bads chosen new.entries
chosen_given f group leaf bads chosen log new all is =
    subst (AreChosenGiven f group leaf bads chosen) (sym (ap (λ (l : ProofLog). l.entries) is)) (record {
      some = contains_first e log.entries;
      all = λ j below mine. by j (all j below mine);
    }) where
      e : Entry
      e = Given (Fault 0 0 (Constant false)) (negative group ∷ bads)

      by : (j : ℕ) → HasItsFaults f group bads leaf j log.entries →
          HasItsFaults f group bads leaf j (e ∷ log.entries)
      by j (inl have) = inl (λ i l small at. fault_stays group (variable_of (get_or bads j (positive 0))) (j + 1)
          (i + 1) l (leaf (variable_of l)) e log.entries (have i l small at))
      by j (inr never) = inr (
        never.0,
        contains_later e (Given never.0
            (negative group ∷ negative (variable_of (get_or bads j (positive 0))) ∷ [])) log.entries never.1,
      )

-- where all clauses have their faults, the group says what it is to say
pub all_given : (f : Dqbf) (group : ℕ) (leaf : ℕ → Leaf) (bads : List Literal) (chosen : ℕ → Bool)
    (es : List Entry) → ((j : ℕ) → chosen j ≡ true) →
    AreNamedAs es bads (map (bad_name group) (range_with_len 1 (length f.matrix))) →
    AreChosenGiven f group leaf bads chosen es → AreGiven f group leaf es
all_given f group leaf bads chosen es whole are given = record {
  bads = bads;
  count = bads_count es group (length f.matrix) bads are;
  bads_are = bads_are_at es group (length f.matrix) bads are;
  some = given.some;
  all = λ j below always. given.all j below (whole j);
}
