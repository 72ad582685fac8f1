-- A table to which a row is added: how it begins, and what stands at its end.
use Rattle.std.proofs.Common.{◌≡◌, ℕ, ◌+◌, ◌≤◌, ◌⊎◌, inl, inr, Bool, false, List, [], ◌∷◌, ◌++◌, length, get_or, slice_get, Some, sym, ◌∙◌, ap, subst, arith}
use Rattle.std.specs.List.{list_any}
use Rattle.std.proofs.lemmas.List.{length-append}
use Rattle.std.proofs.lemmas.List.Elements.{All-append, All-cons, All-nil}
use Rattle.std.proofs.lemmas.Option.{slice_get_within}
use Rattle.list_laws.proofs.Elements.{old_or_last, kept_there, last_there}
use Rattle.dq_lits.specs.Literal.{Literal}
use Rattle.dq_lits.specs.Formula.{Dqbf, IsWellFormed}
use Rattle.dq_lits.specs.Expansion.{universal_literal_true}
use Rattle.hint_log.specs.Conditions.{AreLogged}
use Rattle.hint_log.specs.Entries.{Entry, Named, Given, ProofLog, name_of}
use Rattle.hint_log.specs.Growth.{Grew}
use Rattle.hint_log.specs.Naming.{AreNamedAs, arbiter, rows_of}
use Rattle.hint_log.specs.ProductiveLog.{fault_groups, fault_room}
use Rattle.hint_log.specs.declared.names.Name.TheVariants.{Pair}
use Rattle.log_laws.specs.Engines.{instances, part, IsAddedBy}
use Rattle.log_laws.proofs.Kept.{each_of_weaker}
use Rattle.expansion.specs.FirstRows.{IsRowIndex}
use Rattle.expansion.specs.Table.{TableState, AreArbiters, HasInstance, IsOfPairs, IsTable, IsFullTable}
use Rattle.expansion.specs.Adding.{with_row, IsNewPair, IsAdding, AreNewArbiters, IsRowEntry}
use Rattle.expansion.proofs.NamedArbiters.{as_many, named_at}
use Rattle.expansion.proofs.InstanceModels.{own_name, found_variable}
use Rattle.expansion.proofs.RowOrders.{index_kept}
use Rattle.expansion.proofs.Firsts.{same_arbiter, names_same, instance_same}

-- rows that stand before have the same arbiters behind a further row
module _ (f : Dqbf) (t : TableState) (row : List Bool) (own : List Entry) (k : ℕ) (r : List Bool)
    (row_is : slice_get t.rows k ≡ Some r) where
  arbiters_behind : (vs : List ℕ) → AreArbiters f own t.rows r vs → AreArbiters f own (with_row t row) r vs
  arbiters_behind vs are = are ∙ names_same (arbiter f t.rows r) (arbiter f (with_row t row) r)
      (λ y. same_arbiter f t.rows (row ∷ []) k r y row_is) f.existentials

  pub instance_behind : (j : ℕ) (clause : List Literal) → HasInstance f t.group t.rows own k j r clause →
      HasInstance f t.group (with_row t row) own k j r clause
  instance_behind j clause h = record {
    rest = h.rest;
    given = h.given;
    named = subst (AreNamedAs own h.rest) (instance_same f (arbiter f t.rows r) (arbiter f (with_row t row) r)
        (λ y. same_arbiter f t.rows (row ∷ []) k r y row_is) clause) h.named;
  }

pub begin : (f : Dqbf) (t : TableState) (row : List Bool) (es : List Entry) → IsTable f t es →
    rows_of es ≡ with_row t row → length row ≡ length f.universals
    → length (fault_groups es) ≤ fault_room es → IsAdding f t row 0 0 es
begin f t row es table rows whole few = record {
  group = table.group;
  existentials = table.existentials;
  own_group = table.own_group;
  rows = rows;
  faults = few;
  own = record {
    whole = All-append (λ r. length r ≡ length f.universals) t.rows (row ∷ []) table.own.whole
        (All-cons (λ r. length r ≡ length f.universals) row [] whole (All-nil (λ r. length r ≡ length f.universals)));
    pairs_long = table.own.pairs_long;
    names = λ v k y is. inl (table.own.names v k y is);
    given_before = λ k j c has. inl (table.own.given k j c has);
    arbiters = λ k r vs row_is vs_are. arbiters_behind f t row (part instances es) k r row_is vs
        (table.own.arbiters k r vs row_is vs_are);
    complete = λ k j r clause row_is clause_is live. instance_behind f t row (part instances es) k r row_is j clause
        (table.own.complete k j r clause row_is clause_is live);
    complete_so_far = λ j clause lt clause_is live. absurd (omega (arith, lt));
  };
}

module _ (f : Dqbf) (t : TableState) (row : List Bool) (vs : List ℕ) (es : List Entry)
    (adding : IsAdding f t row (length f.existentials) (length f.matrix) es)
    (logged : AreLogged es) (first_rows : IsRowIndex f t.rows t.first_rows)
    (variables : AreNewArbiters f t row es vs) where
  abbrev own : List Entry
  own = part instances es

  abbrev more : TableState
  more = record {
    group = t.group;
    existentials = t.existentials;
    rows = with_row t row;
    pairs = t.pairs ++ vs ∷ [];
    first_rows = t.first_rows;
  }

  longer : length (with_row t row) ≡ length t.rows + 1
  longer = length-append t.rows (row ∷ [])

  within : {A B : Type 0} (k : ℕ) → ((k ≤ length t.rows) × A) ⊎ ((k ≡ length t.rows + 1) × B) →
      k ≤ length (with_row t row)
  within k (inl (old, other)) = let n = longer in omega (arith, old, n)
  within k (inr (new, other)) = let n = longer in omega (arith, new, n)

  given_within : {B : Type 0} (k : ℕ) → (k ≤ length t.rows) ⊎ ((k ≡ length t.rows + 1) × B) →
      k ≤ length (with_row t row)
  given_within k (inl old) = let n = longer in omega (arith, old, n)
  given_within k (inr (new, other)) = let n = longer in omega (arith, new, n)

  -- every pair's variable is one of a row's pairs
  among : (v k y : ℕ) → name_of own v ≡ Some (Pair k y) → ((k ≤ length t.rows) × IsOfPairs t.pairs v) ⊎
      ((k ≡ length t.rows + 1) × IsNewPair f t row (length f.existentials) y)
      → IsOfPairs (t.pairs ++ vs ∷ []) v
  among v k y named (inl (le, (p, us, us_are, has))) = (p, us, kept_there t.pairs (vs ∷ []) p us us_are, has)
  among v k y named (inr (new, (p, e, lt, e_is, first))) =
      let n = length t.rows + 1 in
      let many = as_many (name_of own) (λ z. Some (arbiter f (with_row t row) row z)) vs f.existentials variables in
      let its_own : name_of own (get_or vs p v) ≡ Some (Pair n y) =
      named_at own (arbiter f (with_row t row) row) vs f.existentials p v e variables e_is ∙ ap Some first in
      let mine : name_of own v ≡ Some (Pair n y) = named ∙ ap (λ i. Some (Pair i y)) new in
      let same : get_or vs p v ≡ v =
      sym (found_variable es (get_or vs p v) n y logged (own_name instances es (get_or vs p v)
      (Pair n y) logged its_own)) ∙ found_variable es v n y logged
      (own_name instances es v (Pair n y) logged mine) in
      (length t.pairs, vs, last_there t.pairs vs, (p, omega (arith, lt, many), same))

  arbiters_at : (k : ℕ) (r : List Bool) (us : List ℕ) → (slice_get t.rows k ≡ Some r) ⊎
      ((k ≡ length t.rows) × (row ≡ r)) → (slice_get t.pairs k ≡ Some us) ⊎ ((k ≡ length t.pairs) × (vs ≡ us))
      → AreArbiters f own (with_row t row) r us
  arbiters_at k r us (inl row_is) (inl us_are) = adding.own.arbiters k r us row_is us_are
  arbiters_at k r us (inl row_is) (inr (place, same)) = search (arith, slice_get_within)
  arbiters_at k r us (inr (place, same)) (inl us_are) = search (arith, slice_get_within)
  arbiters_at k r us (inr (place, row_same)) (inr (place', same)) = search arith

  instance_there : (k j : ℕ) (r : List Bool) (clause : List Literal) →
      (slice_get t.rows k ≡ Some r) ⊎ ((k ≡ length t.rows) × (row ≡ r)) → slice_get f.matrix j ≡ Some clause
      → list_any (universal_literal_true f r) clause ≡ false → HasInstance f t.group (with_row t row) own k j r clause
  instance_there k j r clause (inl row_is) clause_is live = adding.own.complete k j r clause row_is clause_is live
  instance_there k j r clause (inr (place, same)) clause_is live = search (arith, slice_get_within)

  pub finish : IsTable f more es
  finish = record {
    group = adding.group;
    existentials = adding.existentials;
    own_group = adding.own_group;
    own = record {
      whole = adding.own.whole;
      pairs_long = (let pairs = length-append t.pairs (vs ∷ []) in let rows = longer in
          omega (arith, pairs, rows, adding.own.pairs_long));
      names = λ v k y is. (within k (adding.own.names v k y is), among v k y is (adding.own.names v k y is));
      given = λ k j c has. given_within k (adding.own.given_before k j c has);
      arbiters = λ k r us row_is us_are. arbiters_at k r us (old_or_last t.rows row r k row_is)
          (old_or_last t.pairs vs us k us_are);
      complete = λ k j r clause row_is clause_is live. instance_there k j r clause
          (old_or_last t.rows row r k row_is) clause_is live;
    };
    first_rows = index_kept f t.rows (row ∷ []) t.first_rows first_rows;
  }

  pub finish_full : IsWellFormed f → IsFullTable f more es
  finish_full formula = record { formula = formula; table = finish; rows = adding.rows }

  -- the same of a table that has these parts
  pub finish_as : (new : TableState) → IsWellFormed f → new.group ≡ t.group → new.existentials ≡ t.existentials →
      new.rows ≡ with_row t row → new.pairs ≡ t.pairs ++ vs ∷ [] → new.first_rows ≡ t.first_rows → IsFullTable f new es
  finish_as new formula group existentials rows pairs index = search (arith, finish_full)

-- a table that looked at more of its rows
pub looked : (f : Dqbf) (t new : TableState) (es : List Entry) → new ≡ record t { first_rows = new.first_rows } →
    IsTable f t es → IsRowIndex f new.rows new.first_rows → IsTable f new es
looked f t new es same table index =
    let rows : new.rows ≡ t.rows = ap (λ (s : TableState). s.rows) same in
    subst (λ s. IsTable f s es) (sym same) (record {
      group = table.group;
      existentials = table.existentials;
      own_group = table.own_group;
      own = record {
        whole = table.own.whole;
        pairs_long = table.own.pairs_long;
        names = table.own.names;
        given = table.own.given;
        arbiters = table.own.arbiters;
        complete = table.own.complete;
      };
      first_rows = subst (λ rs. IsRowIndex f rs new.first_rows) rows index;
    })

-- what a row adds is the engine's
module _ (f : Dqbf) (group : ℕ) (silent : Bool) (first : List Entry) where
  row_is_added : (earlier : List Entry) (e : Entry) → IsRowEntry f group earlier e →
      IsAddedBy f instances group silent first earlier e
  row_is_added earlier (Named v n) h = h
  row_is_added earlier (Given origin c) h = search arith
  row_is_added earlier _ h = absurd h

  pub row_grew : (old new : ProofLog) → Grew (IsRowEntry f group) old new →
      Grew (IsAddedBy f instances group silent first) old new
  row_grew old new g = search (arith, each_of_weaker, row_is_added)
