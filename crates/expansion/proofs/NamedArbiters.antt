-- The variables of a new row's pairs, one by one.
use Rattle.std.proofs.Common.{◌≡◌, ◌≢◌, ℕ, zero, suc, ◌+◌, ◌<◌, ◌≤◌, ◌⊎◌, inl, inr, Bool, true, cond, List, [], ◌∷◌, ◌++◌, map, take, length, get_or, slice_get, Some, None, Result, Ok, Err, IfOk, refl, sym, ◌∙◌, ap, subst, arith}
use Rattle.std.specs.List.{AllPairs, position_or_len}
use Rattle.std.proofs.lemmas.Bool.{eq-eqb}
use Rattle.std.proofs.lemmas.List.{length-map, get_or-map, get_or_default, map-append, take_more}
use Rattle.std.proofs.lemmas.Option.{slice_get-get_or, slice_get_within, get_or_from_slice_get}
use Rattle.list_laws.proofs.Sequences.{position_most}
use Rattle.dq_lits.specs.Formula.{Dqbf, Existential, IsWellFormed}
use Rattle.dq_lits.specs.Expansion.{agree_on}
use Rattle.dq_lits.proofs.Followers.{existentials_once}
use Rattle.hint_log.specs.Conditions.{AreLogged}
use Rattle.hint_log.specs.Entries.{Entry, Named, ProofLog, with_entry, name_of}
use Rattle.hint_log.specs.Growth.{Grew}
use Rattle.hint_log.specs.Naming.{arbiter}
use Rattle.hint_log.specs.declared.names.Name.{Name}
use Rattle.hint_log.specs.declared.names.Name.TheVariants.{Pair}
use Rattle.log_laws.specs.Engines.{instances, part}
use Rattle.log_laws.proofs.LargerLogs.{grown_by, grown_by_none, grown_then}
use Rattle.log_laws.proofs.Kept.{name_stays_by}
use Rattle.expansion.specs.Table.{TableState, AreArbiters, IsOfPairs}
use Rattle.expansion.specs.FirstRows.{IsFirstRow}
use Rattle.expansion.specs.Adding.{with_row, IsRowEntry, IsNewPair, AreFirstArbiters, IsAddingPart, IsAdding, IsNamedNext}
use Rattle.expansion.proofs.TableGrowth.{pair_own, unnamed_own, names_kept, KeepsNames, one_more_named, new_named}
use Rattle.expansion.proofs.Firsts.{arbiter_of_first, arbiter_of_new, passes_there}

abbrev pub nobody : Existential
nobody = record { variable = 0; sees = [] }

-- what an index reads
pub found_at : (items xs : List ℕ) (k x : ℕ) → items ≡ xs → k < length xs → x ≡ get_or items k x → x ≡ get_or xs k 0
found_at items xs k x same below is = is ∙ ap (λ ys. get_or ys k x) same ∙ get_or_default xs k x 0 below

pub both_ok : {X E : Type 0} (P Q R : X → Type 0) (r : Result X E) → ((x : X) → P x → Q x → R x) → IfOk r P → IfOk r Q →
    IfOk r R
both_ok P Q R (Ok x) both p q = both x p q
both_ok P Q R (Err e) both p q = tt

-- as many variables as existentials
pub as_many : {X Y Z : Type 0} (g : X → Z) (h : Y → Z) (xs : List X) (ys : List Y) → map g xs ≡ map h ys →
    length xs ≡ length ys
as_many g h xs ys is = sym (length-map xs g) ∙ ap length is ∙ length-map ys h

-- the variable at an existential's place
pub named_at : (own : List Entry) (g : Existential → Name) (vs : List ℕ) (ys : List Existential) (p d : ℕ)
    (y : Existential) → map (name_of own) vs ≡ map (λ z. Some (g z)) ys → slice_get ys p ≡ Some y
    → name_of own (get_or vs p d) ≡ Some (g y)
named_at own g [] [] p d y names is = cc
named_at own g [] (z ∷ ys) p d y names is = cc
named_at own g (v ∷ vs) [] p d y names is = cc
named_at own g (v ∷ vs) (z ∷ ys) zero d y names is = search arith
named_at own g (v ∷ vs) (z ∷ ys) (suc p) d y names is = search (arith, (named_at own g vs ys p d y))

module _ (f : Dqbf) (t : TableState) (row : List Bool) (place : ℕ) (es : List Entry)
    (adding : IsAdding f t row place 0 es) where
  abbrev own : List Entry
  own = part instances es

  pub as_many_existentials : length t.existentials ≡ length f.existentials
  as_many_existentials = ap length adding.existentials ∙ length-map f.existentials (λ y. y.variable)

  -- an old row's pairs
  pub old_pairs : (k : ℕ) → k < length t.pairs → AreArbiters f own (with_row t row) (get_or t.rows k [])
      (get_or t.pairs k [])
  old_pairs k below = search (arith, slice_get-get_or)

  pub old_pairs_many : (k : ℕ) → k < length t.pairs → length (get_or t.pairs k []) ≡ length t.existentials
  old_pairs_many k below =
      as_many (name_of own) (λ y. Some (arbiter f (with_row t row) (get_or t.rows k []) y))
      (get_or t.pairs k []) f.existentials (old_pairs k below) ∙ sym as_many_existentials

  -- no variable has the name of the new row's pair yet
  pub no_pair_yet : IsWellFormed f → (y : ℕ) → slice_get t.existentials place ≡ Some y → (v : ℕ) →
      name_of es v ≡ Some (Pair (length t.rows + 1) y) → ⊥
  no_pair_yet formula y y_is v named = by_row (adding.own.names v (length t.rows + 1) y
      (pair_own es v (length t.rows + 1) y named))
    where
      once : AllPairs (λ v w. v ≢ w) t.existentials
      once = subst (AllPairs (λ v w. v ≢ w)) (sym adding.existentials)
          (existentials_once f.universals f.existentials formula.prefix.declared_once)

      by_row : ((length t.rows + 1 ≤ length t.rows) × IsOfPairs t.pairs v) ⊎
          ((length t.rows + 1 ≡ length t.rows + 1) × IsNewPair f t row place y) → ⊥
      by_row (inl (old, among)) = omega (arith, old)
      by_row (inr (same, (p, e, below, e_is, first))) =
          let variable_same : e.variable ≡ y = cc in
          let there : get_or t.existentials p 0 ≡ y =
          ap (λ xs. get_or xs p 0) adding.existentials ∙ get_or-map (λ z. z.variable) f.existentials p e 0
          (slice_get_within f.existentials p e e_is)
          ∙ ap (λ (z : Existential). z.variable) (get_or_from_slice_get f.existentials p e e e_is) ∙ variable_same in
          once p place 0 below (slice_get_within t.existentials place y y_is)
          (there ∙ sym (get_or_from_slice_get t.existentials place y 0 y_is))

-- a variable more
more_variables : (f : Dqbf) (t : TableState) (row : List Bool) (own : List Entry) (place : ℕ) (y : Existential) (v : ℕ)
    (vs : List ℕ) → slice_get f.existentials place ≡ Some y
    → name_of own v ≡ Some (arbiter f (with_row t row) row y) → AreFirstArbiters f t row own place vs →
    AreFirstArbiters f t row own (place + 1) (vs ++ v ∷ [])
more_variables f t row own place y v vs y_is named are =
    search (
      arith,
      (get_or_from_slice_get f.existentials place y y y_is),
      map-append,
      (take_more f.existentials place y (slice_get_within f.existentials place y y_is)),
      (slice_get_within f.existentials place y y_is),
    )

module _ (f : Dqbf) (t : TableState) (row : List Bool) (place first : ℕ) (log : ProofLog) (formula : IsWellFormed f)
    (adding : IsAdding f t row place 0 log.entries)
    (first_is : IsFirstRow f t.rows row place first) (below : place < length t.existentials) where
  abbrev mine : List Entry
  mine = part instances log.entries

  inside : place < length f.existentials
  inside = let many = as_many_existentials f t row place log.entries adding in omega (arith, many, below)

  abbrev here : Existential
  here = get_or f.existentials place nobody

  here_is : slice_get f.existentials place ≡ Some here
  here_is = slice_get-get_or f.existentials place nobody inside

  variable_is : (d : ℕ) → get_or t.existentials place d ≡ here.variable
  variable_is d = ap (λ xs. get_or xs place d) adding.existentials ∙ get_or-map
      (λ y. y.variable) f.existentials place nobody d inside

  one_more : IsAddingPart f t row (place + 1) 0 mine → IsAdding f t row (place + 1) 0 log.entries
  one_more own = record {
    group = adding.group;
    existentials = adding.existentials;
    own_group = adding.own_group;
    rows =
        adding.rows;
    faults = adding.faults;
    own = own;
  }

  -- a row that agrees has the pair's variable
  pub found_next : (v : ℕ) (new : ProofLog) → first < length t.pairs → v ≡ get_or (get_or t.pairs first []) place 0 →
      new ≡ log → IsNamedNext f t row place v log new
  found_next v new old v_is same =
      let in_rows : first < length t.rows = omega (arith, old, adding.own.pairs_long) in
      let place_is : first ≡ position_or_len (agree_on f here row) t.rows = first_is here here_is in
      let agrees : agree_on f here row (get_or t.rows first []) ≡ true =
      subst (λ k. agree_on f here row (get_or t.rows k []) ≡ true) (sym place_is)
      (passes_there (agree_on f here row) t.rows (subst (λ k. k < length t.rows) place_is in_rows)) in
      let named : name_of mine v ≡ Some (arbiter f (with_row t row) row here) =
      ap (name_of mine) v_is
      ∙ named_at mine (arbiter f (with_row t row) (get_or t.rows first []))
      (get_or t.pairs first []) f.existentials place 0 here
      (old_pairs f t row place log.entries adding first old) here_is
      ∙ ap Some (arbiter_of_first f t.rows (row ∷ []) row (get_or t.rows first []) here agrees) in
      subst (IsNamedNext f t row place v log) (sym same) (record {
        grew = grown_by_none (IsRowEntry f t.group) log log refl;
        adding = one_more (one_more_named f t row place 0 mine adding.own);
        variables = λ vs are. more_variables f t row mine place here v vs here_is named are;
      })

  -- where no row agrees, the pair has a variable of its own
  pub named_next : (v : ℕ) (new : ProofLog) → length t.pairs ≤ first → AreLogged log.entries →
      name_of log.entries v ≡ None → new ≡ with_entry log (Named v
      (Pair (length t.rows + 1) (get_or t.existentials place 0)))
      → IsNamedNext f t row place v log new
  named_next v new none logged unnamed added =
      let n : Name = Pair (length t.rows + 1) here.variable in
      let entry : new ≡ with_entry log (Named v n) = added ∙ ap
      (λ y. with_entry log (Named v (Pair (length t.rows + 1) y))) (variable_is 0) in
      let unnamed_there : name_of mine v ≡ None = unnamed_own log.entries v logged unnamed in
      let past : length t.rows ≤ first = omega (arith, none, adding.own.pairs_long) in
      let place_is : first ≡ position_or_len (agree_on f here row) t.rows = first_is here here_is in
      let arbiter_is : arbiter f (with_row t row) row here ≡ n =
      arbiter_of_new f t.rows row here first place_is past (subst (λ k. k ≤ length t.rows) (sym place_is)
      (position_most (agree_on f here row) t.rows)) in
      let keeps : KeepsNames mine (Named v n ∷ mine) = name_stays_by mine v n unnamed_there in
      let named : name_of (Named v n ∷ mine) v ≡ Some (arbiter f (with_row t row) row here) =
      ap (λ b. cond b (Some n) (name_of mine v)) (eq-eqb v v refl) ∙ ap Some (sym arbiter_is) in
      subst (IsNamedNext f t row place v log) (sym entry) (record {
        grew = grown_by (IsRowEntry f t.group) log (with_entry log (Named v n))
            (Named v n) refl (record { unnamed = unnamed; own = inr refl; rightly = tt });
        adding = search (arith, name_stays_by, new_named, here_is);
        variables = λ vs are.
            more_variables f t row (Named v n ∷ mine) place here v vs here_is named
            (names_kept mine (Named v n ∷ mine) (λ y. arbiter f (with_row t row) row y) keeps vs
            (take place f.existentials) are);
      })

-- the new row has the pairs of the first so many existentials
pub record ArePairsSoFar (f : Dqbf) (t : TableState) (row : List Bool) (place : ℕ) (vs : List ℕ)
    (old new : ProofLog) : Type 0 where
  pub grew : Grew (IsRowEntry f t.group) old new
  pub adding : IsAdding f t row place 0 new.entries
  pub variables : AreFirstArbiters f t row (part instances new.entries) place vs

pub pair_more : (f : Dqbf) (t : TableState) (row : List Bool) (place v : ℕ) (vs : List ℕ) (old log new : ProofLog) →
    ArePairsSoFar f t row place vs old log → IsNamedNext f t row place v log new
    → ArePairsSoFar f t row (place + 1) (vs ++ v ∷ []) old new
pair_more f t row place v vs old log new before next = search (arith, grown_then)
