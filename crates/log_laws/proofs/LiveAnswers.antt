-- What the answers of a session show.
use Rattle.std.proofs.Common.{◌≡◌, ℕ, zero, suc, true, List, [], ◌∷◌, ◌++◌, length, Option, None, Some, refl, sym, ◌∙◌, ap, subst, arith}
use Rattle.std.specs.List.{Contains, filter_map, cons_option}
use Rattle.dq_lits.specs.Literal.{Literal, negative}
use Rattle.dq_lits.specs.Formula.{Dqbf}
use Rattle.dq_lits.specs.Expansion.{IsExpansionUnsatisfiable}
use Rattle.hint_log.specs.Conditions.{MayFollow}
use Rattle.hint_log.specs.Deciding.{ReachesGiven, IsInstance, IsCircuitGiven, DecidesFalse, DecidesTrue, IsUndecided}
use Rattle.hint_log.specs.Entries.{Entry, Named, Given, Answer, Begun, name_of}
use Rattle.hint_log.specs.Growth.{Each}
use Rattle.hint_log.specs.Live.{live_numbers, before_beginning, formula_of, formula_by, live_formula}
use Rattle.hint_log.specs.Naming.{numbered_from_one, rows_of}
use Rattle.hint_log.specs.Origins.{IsOriginsClause}
use Rattle.hint_log.specs.ProductiveLog.{MatchesOrigin, IsDerivedByHints}
use Rattle.hint_log.specs.ProductiveSession.{IsSinceBeginning, MatchesLiveOrigin, RefutesNewLiveRow, DecidesLiveFalse, DecidesLiveTrue, IsUndecidedSince}
use Rattle.hint_log.specs.declared.names.Name.{Name}
use Rattle.hint_log.specs.declared.origins.Origin.{Origin}
use Rattle.hint_log.specs.declared.origins.Origin.TheVariants.{Instance, Gate, Fault}
use Rattle.hint_log.specs.declared.origins.Leaf.{Leaf}
use Rattle.log_laws.specs.Meaning.{IsSoundAnswer}
use Rattle.log_laws.specs.Sessions.{SessionRoundsAreFew, PlainLogsAreSessions}
use Rattle.log_laws.proofs.FewRows.{HasNewRow, has_new_row, few_by_rows}
use Rattle.log_laws.proofs.Found.{each_weaker, each_at}
use Rattle.log_laws.proofs.Implied.{LinesAreImplied}
use Rattle.log_laws.proofs.LeafFunctions.{is_in_group, MatchesInGroup}
use Rattle.log_laws.proofs.ReachedClauses.{name_stays}
use Rattle.log_laws.proofs.Refuted.{IsInstanceAmong, refuted_among}

-- the prefix is that of all
pub same_universals : (all : Dqbf) (o : Option (List ℕ)) → length (formula_by all o).universals ≡ length all.universals
same_universals all None = refl
same_universals all (Some live) = refl

new_live_row : (all : Dqbf) (earlier : List Entry) (e : Entry) → RefutesNewLiveRow all earlier e →
    HasNewRow (length all.universals) earlier e
new_live_row all earlier e h = search (arith, has_new_row, same_universals)

pub few_session_rounds : SessionRoundsAreFew
few_session_rounds all entries rounds = search (arith, few_by_rows, each_weaker, new_live_row)

-- a live clause is one of the formula's
live_clause : (all : Dqbf) (live : List ℕ) (j : ℕ) (clause : List Literal) → Contains live j →
    numbered_from_one all.matrix j ≡ Some clause → Contains (formula_of all live).matrix clause
live_clause all [] j clause (k, below, is) at = absurd (omega (arith, below))
live_clause all (i ∷ live) j clause (zero, below, is) at = search arith
live_clause all (i ∷ live) j clause (suc k, below, is) at =
    behind (numbered_from_one all.matrix i) (live_clause all live j clause
    (k, (let b = below in omega (arith, b)), is) at)
  where
    behind : (o : Option (List Literal)) → Contains (filter_map (numbered_from_one all.matrix) live) clause →
        Contains (cons_option o (filter_map (numbered_from_one all.matrix) live)) clause
    behind None inside = inside
    behind (Some c) inside = let b = inside.1 in (suc inside.0, omega (arith, b), inside.2)

-- an answer that rests on instances of live clauses alone
module _ (all : Dqbf) (earlier : List Entry) (clause : List Literal) (hints : List ℕ) (lawful : Each MayFollow earlier)
    (given : Each (MatchesLiveOrigin all) earlier)
    (derived_all : Each IsDerivedByHints earlier) (derived : IsDerivedByHints earlier (Answer clause hints)) where
  pub live_refuted : LinesAreImplied → (live : List ℕ) → live_numbers earlier ≡ Some live →
      DecidesLiveFalse earlier clause hints
      → IsExpansionUnsatisfiable (formula_of all live) (rows_of earlier)
  live_refuted implied live is decides =
      refuted_among implied all (formula_of all live).matrix earlier clause hints
      (record {
        logged = lawful;
        lemmas_are_derived = derived_all;
        derived = derived;
        givens_match_origins = λ more before origin c at reached. origins more before origin c at
            (decides.decides.instances origin c reached);
      })
      decides.decides.selectors (λ origin c reached. among origin c reached
      (decides.decides.instances origin c reached))
    where
      origins : (more before : List Entry) (origin : Origin) (c : List Literal) →
          earlier ≡ more ++ Given origin c ∷ before → IsInstance origin → IsOriginsClause all before origin c
      origins more before (Instance k j) c at what = each_at (MatchesLiveOrigin all) more before
          (Given (Instance k j) c) (subst (Each (MatchesLiveOrigin all)) at given)
      origins more before _ c at what = absurd what

      among : (origin : Origin) (c : List Literal) → ReachesGiven earlier hints origin c → IsInstance origin →
          IsInstanceAmong all (formula_of all live).matrix origin
      among (Instance k j) c reached what = λ clause at. live_clause all live j clause
          (decides.live live k j c is reached) at
      among _ c reached what = absurd what

-- what stood before a group that is since the last beginning, is behind it
pub same_search : (more before : List Entry) (origin : Origin) (c : List Literal) (g : ℕ) (n : Name) →
    Each MayFollow (more ++ Given origin c ∷ before) → name_of before g ≡ Some n
    → IsSinceBeginning (more ++ Given origin c ∷ before) g →
    live_numbers (more ++ Given origin c ∷ before) ≡ live_numbers before
same_search [] before origin c g n lawful named since = refl
same_search (Begun live ∷ more) before origin c g n lawful named since =
    let stays : name_of (more ++ Given origin c ∷ before) g ≡ Some n = search (arith, name_stays) in
    let none : name_of (more ++ Given origin c ∷ before) g ≡ None = since in
    cc
same_search (_ ∷ more) before origin c g n lawful named since =
    same_search more before origin c g n lawful.1 named since

-- a gate's clause is its origin's by any formula
pub gate_of_any : (f g : Dqbf) (before : List Entry) (v i : ℕ) (c : List Literal) →
    IsOriginsClause f before (Gate v i) c → IsOriginsClause g before (Gate v i) c
gate_of_any f g before v i c o = search arith

-- an answer that rests on a circuit of its own search
module _ (all : Dqbf) (earlier : List Entry) (clause : List Literal) (hints : List ℕ) (lawful : Each MayFollow earlier)
    (given : Each (MatchesLiveOrigin all) earlier)
    (derived_all : Each IsDerivedByHints earlier) (derived : IsDerivedByHints earlier (Answer clause hints))
    (decides : DecidesLiveTrue all earlier clause hints) where
  group : ℕ
  group = decides.decides.rests.group

  -- a fault of the group is its origin's clause by the search's formula
  fault_of_search : (more before : List Entry) (j i : ℕ) (leaf : Leaf) (c : List Literal) (rest : List Literal) →
      earlier ≡ more ++ Given (Fault j i leaf) c ∷ before
      → c ≡ negative decides.decides.rests.group ∷ rest → IsOriginsClause (live_formula all earlier) before
      (Fault j i leaf) c
  fault_of_search more before j i leaf c rest at mine = search (arith, each_at, same_search)

  pub live_sound : IsSoundAnswer (live_formula all earlier) earlier clause hints
  live_sound = record {
    logged = lawful;
    lemmas_are_derived = derived_all;
    derived = derived;
    givens_match_origins = λ more before origin c at reached. by more before origin c at
        (decides.decides.rests.circuit origin c reached);
  }
    where
      by : (more before : List Entry) (origin : Origin) (c : List Literal) → earlier ≡ more ++ Given origin c ∷ before →
          IsCircuitGiven decides.decides.rests.group origin c
          → IsOriginsClause (live_formula all earlier) before origin c
      by more before (Gate v i) c at mine = gate_of_any all (live_formula all earlier) before v i c
          (each_at (MatchesLiveOrigin all) more before (Given (Gate v i) c)
          (subst (Each (MatchesLiveOrigin all)) at given))
      by more before (Fault j i leaf) c at mine = fault_of_search more before j i leaf c mine.0 at mine.1
      by more before _ c at mine = absurd mine

  -- the same of all faults of the group
  faults_of_group : (more es : List Entry) → earlier ≡ more ++ es →
      Each (MatchesInGroup (live_formula all earlier) decides.decides.rests.group) es
  faults_of_group more [] at = tt
  faults_of_group more (e ∷ es) at = (by e at, faults_of_group (more ++ e ∷ []) es (at ∙ sym (append-one more e es)))
    where
      append-one : (xs : List Entry) (x : Entry) (ys : List Entry) → (xs ++ x ∷ []) ++ ys ≡ xs ++ x ∷ ys
      append-one [] x ys = refl
      append-one (y ∷ xs) x ys = ap (λ zs. y ∷ zs) (append-one xs x ys)

      in_mine : (g : ℕ) (c : List Literal) → is_in_group g c ≡ true → (origin : Origin) →
          IsOriginsClause (live_formula all es) es origin c → (rest : List Literal) × (c ≡ negative g ∷ rest)
      in_mine g c inside origin own = search arith

      by : (e : Entry) → earlier ≡ more ++ e ∷ es → MatchesInGroup
          (live_formula all earlier) decides.decides.rests.group es e
      by (Given (Fault j i leaf) c) at' = λ inside.
          let here : IsOriginsClause (live_formula all es) es (Fault j i leaf) c =
          each_at (MatchesLiveOrigin all) more es (Given (Fault j i leaf) c)
          (subst (Each (MatchesLiveOrigin all)) at' given) in
          let mine = in_mine decides.decides.rests.group c inside (Fault j i leaf) here in
          fault_of_search more es j i leaf c mine.0 at' mine.1
      by (Given _ c) at' = tt
      by _ at' = tt

  pub live_faults : Each (MatchesInGroup (live_formula all earlier) decides.decides.rests.group) earlier
  live_faults = faults_of_group [] earlier refl

-- where no search began
no_earlier : (e : Entry) (es : List Entry) → live_numbers (e ∷ es) ≡ None → live_numbers es ≡ None
no_earlier (Begun live) es h = cc
no_earlier _ es h = h

each_plain : (P Q : List Entry → Entry → Type 0) → ((earlier : List Entry) (e : Entry) →
    live_numbers (e ∷ earlier) ≡ None → P earlier e → Q earlier e) → (es : List Entry) → live_numbers es ≡ None →
    Each P es → Each Q es
each_plain P Q weaker [] none h = tt
each_plain P Q weaker (e ∷ es) none h = (weaker es e none h.0, each_plain P Q weaker es (no_earlier e es none) h.1)

plain_origin : (all : Dqbf) (earlier : List Entry) (e : Entry) → live_numbers (e ∷ earlier) ≡ None →
    MatchesOrigin all earlier e → MatchesLiveOrigin all earlier e
plain_origin all earlier (Named v n) none h = h
plain_origin all earlier (Given (Fault j i leaf) c) none h = search arith
plain_origin all earlier (Begun live) none h = cc
plain_origin all earlier (Given _ c) none h = h
plain_origin all earlier _ none h = tt

origin_plain : (all : Dqbf) (earlier : List Entry) (e : Entry) → live_numbers (e ∷ earlier) ≡ None →
    MatchesLiveOrigin all earlier e → MatchesOrigin all earlier e
origin_plain all earlier (Named v n) none h = h
origin_plain all earlier (Given (Fault j i leaf) c) none h = search arith
origin_plain all earlier (Begun live) none h = cc
origin_plain all earlier (Given _ c) none h = h
origin_plain all earlier _ none h = tt

-- and nothing stands before a search
none_before : (es : List Entry) → live_numbers es ≡ None → before_beginning es ≡ []
none_before [] none = refl
none_before (Begun live ∷ es) none = cc
none_before (_ ∷ es) none = none_before es none

undecided_plain : (all : Dqbf) (es : List Entry) → live_numbers es ≡ None → IsUndecided all es → IsUndecidedSince all es
undecided_plain all [] none u = tt
undecided_plain all (Answer c hints ∷ es) none u = (
  (λ (d : DecidesLiveFalse es c hints). u.0.0 d.decides),
  (λ (d : DecidesLiveTrue all es c hints). u.0.1 (subst (λ o. DecidesTrue (formula_by all o) es c hints) none
      d.decides)),
  undecided_plain all es none u.1,
)
undecided_plain all (Begun live ∷ es) none u = cc
undecided_plain all (_ ∷ es) none u = undecided_plain all es none u.1

live_false : (es : List Entry) (c : List Literal) (hints : List ℕ) → live_numbers es ≡ None → DecidesFalse es c hints →
    DecidesLiveFalse es c hints
live_false es c hints none d = search arith

live_true : (all : Dqbf) (es : List Entry) (c : List Literal) (hints : List ℕ) → live_numbers es ≡ None →
    DecidesTrue all es c hints → DecidesLiveTrue all es c hints
live_true all es c hints none d =
    let live : DecidesTrue (live_formula all es) es c hints = search arith in
    record { decides = live; current = ap (λ xs. name_of xs live.rests.group) (none_before es none) }

plain_undecided : (all : Dqbf) (es : List Entry) → live_numbers es ≡ None → IsUndecidedSince all es → IsUndecided all es
plain_undecided all [] none u = tt
plain_undecided all (Answer c hints ∷ es) none u =
    search (arith, live_false, live_true, (plain_undecided all es none u.2))
plain_undecided all (Begun live ∷ es) none u = cc
plain_undecided all (_ ∷ es) none u = (tt, plain_undecided all es none u)

pub plain_sessions : PlainLogsAreSessions
plain_sessions all frames entries none =
    search (arith, each_plain, plain_origin, no_earlier, origin_plain, undecided_plain, plain_undecided)
