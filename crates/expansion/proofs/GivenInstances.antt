-- An instance that is given.
use Rattle.std.proofs.Common.{◌≡◌, ℕ, zero, suc, ◌+◌, ◌-◌, ◌<◌, ◌≤◌, ◌^◌, ◌⊎◌, inl, inr, Bool, true, false, true≢false, cond, List, [], ◌∷◌, ◌++◌, map, length, get_or, slice_get, Option, Some, None, IsSome, refl, sym, ◌∙◌, ap, subst, arith}
use Rattle.std.specs.List.{All, Contains, list_any, filter_map, cons_option}
use Rattle.std.specs.Option.{option_map}
use Rattle.std.proofs.lemmas.Bool.{eqb-true, eq-eqb}
use Rattle.std.proofs.lemmas.List.{length-append, length-map, get_or_default}
use Rattle.std.proofs.lemmas.List.Elements.{All-cons}
use Rattle.std.proofs.lemmas.Option.{slice_get-get_or}
use Rattle.list_laws.proofs.Numbers.{below_or_here}
use Rattle.dq_lits.specs.Literal.{Literal, positive, negative, variable_of, is_negative, opposite}
use Rattle.dq_lits.specs.Formula.{Dqbf, Existential, existential_of}
use Rattle.dq_lits.specs.Expansion.{universal_literal_true}
use Rattle.hint_log.specs.Conditions.{AreLogged}
use Rattle.hint_log.specs.Entries.{Entry, Named, Given, Round, ProofLog, with_entry, rounds_of, row_at, name_of}
use Rattle.hint_log.specs.Growth.{Grew}
use Rattle.hint_log.specs.Naming.{numbered_from_one, named_literal, name_literal, AreNamedAs, arbiter, on_arbiter, rows_of, is_selector_name}
use Rattle.hint_log.specs.Origins.{IsOriginsClause}
use Rattle.hint_log.specs.declared.names.Name.{Name}
use Rattle.hint_log.specs.declared.origins.Origin.TheVariants.{Instance}
use Rattle.log_laws.specs.Engines.{instances, is_own, part}
use Rattle.log_laws.proofs.Found.{named_variable}
use Rattle.log_laws.proofs.LargerLogs.{grown_by, grown_by_none, grown_then}
use Rattle.log_laws.proofs.Kept.{named_stay}
use Rattle.oracle.specs.Calls.{IsPlain}
use Rattle.expansion.specs.Giving.{IsGivenInstance}
use Rattle.expansion.specs.Table.{TableState, AreArbiters, HasInstance, IsTable}
use Rattle.expansion.specs.Adding.{with_row, IsRowEntry, IsAddingPart, IsAdding, AreNewArbiters, AreInRange, IsGivenNext}
use Rattle.expansion.proofs.TableGrowth.{KeepsNames, more_keeps, instance_kept, one_more_done}
use Rattle.expansion.proofs.NamedArbiters.{as_many}
use Rattle.expansion.proofs.InstanceModels.{own_name}
use Rattle.expansion.proofs.Told.{switch_is}
use Rattle.list_laws.proofs.Members.{contains_cases, contains_later}

-- the row of the newest round
pub rounds_are_rows : (es : List Entry) → rounds_of es ≡ length (rows_of es)
rounds_are_rows [] = refl
rounds_are_rows (Round r b j ∷ es) = search (arith, (rounds_are_rows es), length-append)
rounds_are_rows (_ ∷ es) = rounds_are_rows es

last_same : {X : Type 0} (xs ys : List X) (x y : X) → xs ++ x ∷ [] ≡ ys ++ y ∷ [] → (xs ≡ ys) × (x ≡ y)
last_same [] [] x y e = (refl, cc)
last_same [] (z ∷ ys) x y e = search (arith, (length-append ys (y ∷ [])))
last_same (z ∷ xs) [] x y e = search (arith, (length-append xs (x ∷ [])))
last_same (z ∷ xs) (w ∷ ys) x y e = search (arith, (last_same xs ys x y))

newest_row : (es : List Entry) (rows : List (List Bool)) (row : List Bool) → rows_of es ≡ rows ++ row ∷ [] →
    row_at es (length rows + 1) ≡ Some row
newest_row [] rows row is = search (arith, (length-append rows (row ∷ [])))
newest_row (Round r b j ∷ es) rows row is = search (arith, last_same, rounds_are_rows, eq-eqb)
newest_row (_ ∷ es) rows row is = newest_row es rows row is

-- what is the table's is in its part
pub own_contains : (es : List Entry) (e : Entry) → is_own instances e ≡ true → Contains es e →
    Contains (part instances es) e
own_contains [] e mine (k, lt, at) = absurd (omega (arith, lt))
own_contains (x ∷ es) e mine has =
    elim (contains_cases x e es has) [
      | inl here ↦ subst (λ b. Contains (cond b (x ∷ part instances es) (part instances es)) e)
          (sym (ap (is_own instances) here ∙ mine)) (0, omega arith, here)
      | inr behind ↦ past (is_own instances x) (own_contains es e mine behind)
    ]
  where
    past : (b : Bool) → Contains (part instances es) e → Contains (cond b (x ∷ part instances es) (part instances es)) e
    past true h = contains_later x e (part instances es) h
    past false h = h

-- variables that have names are in range
pub named_range : (es : List Entry) (v : ℕ) (n : Name) → AreLogged es → name_of es v ≡ Some n → (1 ≤ v) × (v < 2 ^ 62)
named_range [] v n logged is = cc
named_range (Named w m ∷ es) v n logged is = search (arith, (named_range es v n logged.1), eqb-true)
named_range (_ ∷ es) v n logged is = named_range es v n logged.1 is

pub arbiters_in_range : (es : List Entry) (g : Existential → Name) (vs : List ℕ) (ys : List Existential) →
    AreLogged es → map (name_of (part instances es)) vs ≡ map (λ y. Some (g y)) ys → AreInRange vs
arbiters_in_range es g [] ys logged are k d below = absurd (omega (arith, below))
arbiters_in_range es g (v ∷ vs) [] logged are k d below = cc
arbiters_in_range es g (v ∷ vs) (y ∷ ys) logged are zero d below =
    let here : name_of (part instances es) v ≡ Some (g y) = cc in
    named_range es v (g y) logged (own_name instances es v (g y) logged here)
arbiters_in_range es g (v ∷ vs) (y ∷ ys) logged are (suc k) d below =
    search (arith, (arbiters_in_range es g vs ys logged))

-- literals of pairs are no selectors
module _ (f : Dqbf) (es : List Entry) (logged : AreLogged es) (rows : List (List Bool)) (row : List Bool) where
  pub pairs_plain : (clause lits : List Literal) → AreNamedAs (part instances es) lits
      (filter_map (on_arbiter f rows row) clause) → All (IsPlain es) lits
  pairs_plain [] [] is = λ k d below. absurd (omega (arith, below))
  pairs_plain [] (r ∷ lits) is = λ k d below. cc
  pairs_plain (l ∷ clause) lits is = by_option (pairs_plain clause) (existential_of f (variable_of l)) lits is
    where
      by_option : ((lits : List Literal) → AreNamedAs (part instances es) lits
          (filter_map (on_arbiter f rows row) clause) → All (IsPlain es) lits) → (o : Option Existential) →
          (lits : List Literal)
          → map (name_literal (part instances es)) lits ≡ map Some
          (cons_option (option_map (λ y. named_literal (arbiter f rows row y) (is_negative l)) o)
          (filter_map (on_arbiter f rows row) clause))
          → All (IsPlain es) lits
      by_option behind None lits is = behind lits is
      by_option behind (Some y) [] is = λ k d below. absurd (omega (arith, below))
      by_option behind (Some y) (r ∷ lits) is = All-cons (IsPlain es) r lits plain (behind lits rest)
        where
          n : Name
          n = arbiter f rows row y

          plain : IsPlain es r
          plain =
              let here : name_literal (part instances es) r ≡ Some (named_literal n (is_negative l)) = cc in
              let named = named_variable (part instances es) r n (is_negative l)
              (name_of (part instances es) (variable_of r)) refl here in
              let there = own_name instances es (variable_of r) n logged named.0 in
              record { named = subst IsSome (sym there) refl; no_selector = ap is_selector_name there }

          rest : AreNamedAs (part instances es) lits (filter_map (on_arbiter f rows row) clause)
          rest = cc

-- the pairs of a table's row
pub table_arbiters : (f : Dqbf) (t : TableState) (es : List Entry) → IsTable f t es → (k : ℕ) (row : List Bool)
    (vs : List ℕ) → 1 ≤ k → k ≤ length t.rows → row ≡ get_or t.rows (k - 1) row → vs ≡ get_or t.pairs (k - 1) []
    → AreArbiters f (part instances es) t.rows row vs
table_arbiters f t es table k row vs low high row_is vs_is = search (arith, slice_get-get_or)

pub row_pairs_many : (f : Dqbf) (t : TableState) (es : List Entry) → IsTable f t es → (k : ℕ) → 1 ≤ k →
    k ≤ length t.rows → length (get_or t.pairs (k - 1) []) ≡ length t.existentials
row_pairs_many f t es table k low high =
    let row = get_or t.rows (k - 1) [] in
    let are = table_arbiters f t es table k row (get_or t.pairs (k - 1) []) low high
    (get_or_default t.rows (k - 1) [] row (omega (arith, low, high))) refl in
    as_many (name_of (part instances es)) (λ y. Some (arbiter f t.rows row y)) (get_or t.pairs (k - 1) [])
    f.existentials are ∙ sym (ap length table.existentials ∙ length-map f.existentials (λ y. y.variable))

-- a clause's instance in a group
module _ (f : Dqbf) (group : ℕ) (rows : List (List Bool)) (row : List Bool) (k j : ℕ) (clause : List Literal)
    (log : ProofLog) where
  pub instance_passed : list_any (universal_literal_true f row) clause ≡ true →
      IsGivenInstance f group rows row k j clause log log
  instance_passed done = search (arith, true≢false)

pub instance_added : (f : Dqbf) (rows : List (List Bool)) (row : List Bool) (k j : ℕ) (clause : List Literal)
    (log : ProofLog) (sel : Literal) (lits : List Literal) (new : ProofLog) → is_negative sel ≡ false
    → list_any (universal_literal_true f row) clause ≡ false
    → AreNamedAs (part instances log.entries) lits (filter_map (on_arbiter f rows row) clause)
    → new ≡ with_entry log (Given (Instance k j) (opposite sel ∷ lits))
    → IsGivenInstance f (variable_of sel) rows row k j clause log new
instance_added f rows row k j clause log sel lits new plain live named added = search (arith, true≢false, switch_is)

-- the instance of the next clause
given_more : (f : Dqbf) (t : TableState) (row : List Bool) (named given : ℕ) (c : List Literal) (own : List Entry)
    → ((clause : List Literal) → slice_get f.matrix given ≡ Some clause →
    list_any (universal_literal_true f row) clause ≡ false
    → HasInstance f t.group (with_row t row) (Given (Instance (length t.rows + 1) (given + 1)) c ∷ own)
    (length t.rows) given row clause)
    → IsAddingPart f t row named given own → IsAddingPart f t row named (given + 1)
    (Given (Instance (length t.rows + 1) (given + 1)) c ∷ own)
given_more f t row named given c own here p = record {
  whole = p.whole;
  pairs_long = p.pairs_long;
  names = p.names;
  given_before = λ k j d has. by_entry k j (contains_cases e (Given (Instance k j) d) own has);
  arbiters = p.arbiters;
  complete = λ k j r clause row_is clause_is live. instance_kept f t.group (with_row t row) own after keeps
      (more_keeps own e) k j r clause (p.complete k j r clause row_is clause_is live);
  complete_so_far = λ j clause lt clause_is live. by_place j clause clause_is live (below_or_here j given lt);
}
  where
    e : Entry
    e = Given (Instance (length t.rows + 1) (given + 1)) c

    after : List Entry
    after = e ∷ own

    keeps : KeepsNames own after
    keeps v n is = is

    by_entry : (k j : ℕ) {d : List Literal} → (e ≡ Given (Instance k j) d) ⊎ Contains own (Given (Instance k j) d) →
        (k ≤ length t.rows) ⊎ ((k ≡ length t.rows + 1) × (j ≤ given + 1))
    by_entry k j (inl is) = search arith
    by_entry k j (inr behind) = weaker (p.given_before k j _ behind)
      where
        weaker : (k ≤ length t.rows) ⊎ ((k ≡ length t.rows + 1) × (j ≤ given)) →
            (k ≤ length t.rows) ⊎ ((k ≡ length t.rows + 1) × (j ≤ given + 1))
        weaker (inl old) = inl old
        weaker (inr (new, le)) = inr (new, omega (arith, le))

    by_place : (j : ℕ) (clause : List Literal) → slice_get f.matrix j ≡ Some clause →
        list_any (universal_literal_true f row) clause ≡ false → (j < given) ⊎ (j ≡ given)
        → HasInstance f t.group (with_row t row) after (length t.rows) j row clause
    by_place j clause clause_is live (inl before) = instance_kept f t.group (with_row t row) own after keeps
        (more_keeps own e) (length t.rows) j row clause (p.complete_so_far j clause before clause_is live)
    by_place j clause clause_is live (inr now) = subst (λ i. HasInstance f t.group (with_row t row) after
        (length t.rows) i row clause) (sym now) (here clause (ap (slice_get f.matrix) (sym now) ∙ clause_is) live)

module _ (f : Dqbf) (t : TableState) (row : List Bool) (j : ℕ) (log : ProofLog)
    (adding : IsAdding f t row (length f.existentials) j log.entries) (clause : List Literal)
    (below : j < length f.matrix) (clause_is : clause ≡ get_or f.matrix j []) where
  abbrev mine : List Entry
  mine = part instances log.entries

  there : slice_get f.matrix j ≡ Some clause
  there = slice_get-get_or f.matrix j [] below ∙ ap Some (sym clause_is)

  same_clause : (other : List Literal) → slice_get f.matrix j ≡ Some other → clause ≡ other
  same_clause other is = let both : Some clause ≡ Some other = sym there ∙ is in cc

  -- a clause that a universal makes true has no instance
  pub passed_next : (new : ProofLog) → list_any (universal_literal_true f row) clause ≡ true → new ≡ log →
      IsGivenNext f t row j log new
  passed_next new done same = subst (IsGivenNext f t row j log) (sym same) (record {
    grew = grown_by_none (IsRowEntry f t.group) log log refl;
    adding = record {
      group = adding.group;
      existentials = adding.existentials;
      own_group = adding.own_group;
      rows = adding.rows;
      faults = adding.faults;
      own = one_more_done f t row (length f.existentials) j mine
          (λ other other_is live. absurd (true≢false (sym done ∙ ap (list_any (universal_literal_true f row))
          (same_clause other other_is) ∙ live))) adding.own;
    };
    variables = λ vs are. are;
  })

  pub given_next : (sel : Literal) (lits : List Literal) (new : ProofLog) → AreLogged log.entries →
      is_negative sel ≡ false → variable_of sel ≡ t.group → list_any (universal_literal_true f row) clause ≡ false
      → AreNamedAs mine lits (filter_map (on_arbiter f (with_row t row) row) clause) →
      new ≡ with_entry log (Given (Instance (length t.rows + 1) (j + 1)) (opposite sel ∷ lits)) →
      IsGivenNext f t row j log new
  given_next sel lits new logged plain sel_is live named added =
      let n = length t.rows + 1 in
      let c : List Literal = negative t.group ∷ lits in
      let e : Entry = Given (Instance n (j + 1)) c in
      let entry : new ≡ with_entry log e = added ∙ ap (λ s. with_entry log
      (Given (Instance n (j + 1)) (opposite s ∷ lits))) (switch_is sel t.group plain sel_is) in
      let keeps : KeepsNames mine log.entries = λ v m is. own_name instances log.entries v m logged is in
      let in_log : AreNamedAs log.entries lits (filter_map (on_arbiter f (rows_of log.entries) row) clause) =
      subst (λ rs. AreNamedAs log.entries lits (filter_map (on_arbiter f rs row) clause)) (sym adding.rows)
      (named_stay mine log.entries keeps lits (filter_map (on_arbiter f (with_row t row) row) clause) named) in
      let plus_one : j + 1 ≡ suc j = omega arith in
      let matches : IsOriginsClause f log.entries (Instance n (j + 1)) c = record {
        group = t.group;
        rest = lits;
        clause_is = refl;
        is_group = adding.group;
        rest_is = record {
          row = row;
          clause = clause;
          row_is = newest_row log.entries t.rows row adding.rows;
          clause_is = ap (numbered_from_one f.matrix) plus_one ∙ there;
          open_row = live;
          named = in_log;
        };
        one_leaf = λ v a i a' i' leaf leaf' rest' is. cc;
      } in
      let not_yet : (d : List Literal) → Contains log.entries (Given (Instance n (j + 1)) d) → ⊥ =
      λ d has. nowhere (adding.own.given_before n (j + 1) d (own_contains log.entries
      (Given (Instance n (j + 1)) d) refl has)) in
      let here : HasInstance f t.group (with_row t row) (e ∷ mine) (length t.rows) j row clause = record {
        rest = lits;
        given = (0, omega arith, refl);
        named = named_stay mine (e ∷ mine) (λ v m is. is) lits
            (filter_map (on_arbiter f (with_row t row) row) clause) named;
      } in
      subst (IsGivenNext f t row j log) (sym entry) (record {
        grew = grown_by (IsRowEntry f t.group) log (with_entry log e) e refl (record {
          own = refl;
          in_group = (lits, refl);
          matches_origin = matches;
          not_repeated = record { first = λ h d has. not_yet d has; groups = adding.faults };
        });
        adding = record {
          group = adding.group;
          existentials = adding.existentials;
          own_group = (λ inside. (refl, matches), adding.own_group);
          rows = adding.rows;
          faults = adding.faults;
          own = given_more f t row (length f.existentials) j c mine
              (λ other other_is live'. subst (HasInstance f t.group (with_row t row) (e ∷ mine) (length t.rows) j row)
              (same_clause other other_is) here) adding.own;
        };
        variables = λ vs are. are;
      })
    where
      nowhere : (length t.rows + 1 ≤ length t.rows) ⊎ ((length t.rows + 1 ≡ length t.rows + 1) × (j + 1 ≤ j)) → ⊥
      nowhere (inl old) = omega (arith, old)
      nowhere (inr (same, old)) = omega (arith, old)

  -- the instance of the next clause
  pub next_instance : (new : ProofLog) → AreLogged log.entries → IsGivenInstance f t.group (with_row t row) row
      (length t.rows + 1) (j + 1) clause log new → IsGivenNext f t row j log new
  next_instance new logged given = by (list_any (universal_literal_true f row) clause) refl
    where
      by : (b : Bool) → list_any (universal_literal_true f row) clause ≡ b → IsGivenNext f t row j log new
      by true is = passed_next new is (given.passed is)
      by false is =
          let added = given.given is in
          given_next (positive t.group) added.rest new logged refl refl is added.named added.added

-- the instances of the first so many clauses were given
pub record AreGivenSoFar (f : Dqbf) (t : TableState) (row : List Bool) (vs : List ℕ) (j : ℕ)
    (old new : ProofLog) : Type 0 where
  pub grew : Grew (IsRowEntry f t.group) old new
  pub adding : IsAdding f t row (length f.existentials) j new.entries
  pub variables : AreNewArbiters f t row new.entries vs

pub given_so_far : (f : Dqbf) (t : TableState) (row : List Bool) (vs : List ℕ) (j : ℕ) (old log new : ProofLog) →
    AreGivenSoFar f t row vs j old log → IsGivenNext f t row j log new
    → AreGivenSoFar f t row vs (j + 1) old new
given_so_far f t row vs j old log new before next = search (arith, grown_then)
