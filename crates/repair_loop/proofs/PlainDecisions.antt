-- Where the one search of a log is about all clauses, an answer that decides for one formula
-- decides for the search: so a search that is undecided leaves the log undecided.
use Rattle.std.proofs.Common.{◌≡◌, ◌==◌, ◌+◌, ◌≤◌, ℕ, zero, suc, Bool, true, false, ◌&&◌, cond, inl, inr, ◌⊎◌, List, [], ◌∷◌, ◌++◌, length, Option, None, Some, refl, sym, ◌∙◌, ap, subst, arith}
use Rattle.std.specs.List.{Contains}
use Rattle.std.proofs.lemmas.Bool.{cases_Bool, eqb-true}
use Rattle.dq_lits.specs.Literal.{Literal}
use Rattle.dq_lits.specs.Formula.{Dqbf}
use Rattle.hint_log.specs.Deciding.{IsCircuitGiven, DecidesFalse, DecidesTrue, IsUndecided}
use Rattle.hint_log.specs.Entries.{Entry, Named, Given, Answer, Begun, has_id, numbered, name_of, count, beginnings_of}
use Rattle.hint_log.specs.Growth.{Each}
use Rattle.hint_log.specs.Live.{live_numbers, before_beginning, live_formula, formula_of, formula_by}
use Rattle.hint_log.specs.ProductiveSession.{MatchesLiveOrigin, DecidesLiveFalse, DecidesLiveTrue, IsUndecidedSince}
use Rattle.hint_log.specs.declared.names.Name.{Name}
use Rattle.hint_log.specs.declared.origins.Origin.{Origin}
use Rattle.hint_log.specs.declared.origins.Origin.TheVariants.{Instance, Gate, Fault}
use Rattle.hint_log.proofs.NamedEntries.{each_one, numbered_low}
use Rattle.log_laws.specs.Engines.{IsInGroup}
use Rattle.repair_loop.specs.SearchStates.{IsOfSearch}
use Rattle.repair_loop.specs.Turning.{AreFaultsNew}

-- a number above all that were named
abbrev above : List Entry → ℕ
above [] = 0
above (Named v n ∷ es) = v + 1 + above es
above (e ∷ es) = above es

unnamed_above : (es : List Entry) (v : ℕ) → above es ≤ v → name_of es v ≡ None
unnamed_above [] v high = refl
unnamed_above (Named w n ∷ es) v high =
    by_bit (cases_Bool (v == w)) (unnamed_above es v (omega (arith, high)))
  where
    by_bit : ((v == w) ≡ true) ⊎ ((v == w) ≡ false) → name_of es v ≡ None → name_of (Named w n ∷ es) v ≡ None
    by_bit (inl same) none = let is : v ≡ w = eqb-true v w same in absurd (omega (arith, is, high))
    by_bit (inr other) none = ap (λ b. cond b (Some n) (name_of es v)) other ∙ none
unnamed_above (_ ∷ es) v high = unnamed_above es v high

-- the entry with an id is an entry
numbered_there : (test : Entry → Bool) (es : List Entry) (n : ℕ) (e : Entry) → numbered test es n ≡ Some e →
    Contains es e
numbered_there test [] n e is = cc
numbered_there test (x ∷ es) n e is =
    by_bit (test x && (n == count test es + 1)) is (numbered_there test es n e)
  where
    by_bit : (b : Bool) → cond b (Some x) (numbered test es n) ≡ Some e → (numbered test es n ≡ Some e → Contains es e) →
        Contains (x ∷ es) e
    by_bit true h later = let same : x ≡ e = cc in (0, omega arith, same)
    by_bit false h later = let r = later h in let below = r.1 in (suc r.0, omega (arith, below), r.2)

-- before the first search no fault was given
no_fault : (es : List Entry) → Each IsOfSearch es → live_numbers es ≡ None → (j i : ℕ) (leaf : _) (c : List Literal) →
    Contains es (Given (Fault j i leaf) c) → ⊥
no_fault [] tried none j i leaf c (k, below, is) = absurd (omega (arith, below))
no_fault (x ∷ es) tried none j i leaf c (zero, below, is) =
    let here : IsOfSearch es (Given (Fault j i leaf) c) = subst (IsOfSearch es) is tried.0 in
    let still : live_numbers (Given (Fault j i leaf) c ∷ es) ≡ None = ap (λ e. live_numbers (e ∷ es)) (sym is) ∙ none in
    cc
no_fault (Begun live ∷ es) tried none j i leaf c (suc k, below, is) = cc
no_fault (_ ∷ es) tried none j i leaf c (suc k, below, is) =
    no_fault es tried.1 none j i leaf c (k, omega (arith, below), is)

module _ (f : Dqbf) (live : List ℕ) (whole : formula_of f live ≡ f)
    (all_live : (j : ℕ) → 1 ≤ j → j ≤ length f.matrix → Contains live j) (old : List Entry)
    (tried : Each IsOfSearch old) (plain : live_numbers old ≡ None) (before : IsUndecided f old) where
  since : List Entry → List Entry
  since more = more ++ Begun live ∷ old

  same_live : (more : List Entry) → beginnings_of more ≡ 0 → live_numbers (more ++ Begun live ∷ old) ≡ Some live
  same_live [] none = refl
  same_live (Begun numbers ∷ more) none = absurd (omega (arith, none))
  same_live (_ ∷ more) none = same_live more none

  same_before : (more : List Entry) → beginnings_of more ≡ 0 → before_beginning (more ++ Begun live ∷ old) ≡ old
  same_before [] none = refl
  same_before (Begun numbers ∷ more) none = absurd (omega (arith, none))
  same_before (_ ∷ more) none = same_before more none

  tail_new : (es : List Entry) (origin : Origin) (c : List Literal) → AreFaultsNew old (Given origin c ∷ es) →
      AreFaultsNew old es
  tail_new es (Fault j i leaf) c new = new.1
  tail_new es _ c new = new

  head_new : (es : List Entry) (origin : Origin) (d : List Literal) → AreFaultsNew old (Given origin d ∷ es) →
      (j i : ℕ) (leaf : _) (c : List Literal) (g : ℕ) → Given origin d ≡ Given (Fault j i leaf) c → IsInGroup g c →
      name_of old g ≡ None
  head_new es origin d new j i leaf c g is inside =
      let here : AreFaultsNew old (Given (Fault j i leaf) c ∷ es) = subst (λ e. AreFaultsNew old (e ∷ es)) is new in
      here.0 g inside

  fault_new : (more : List Entry) → beginnings_of more ≡ 0 → AreFaultsNew old (more ++ Begun live ∷ old) →
      (j i : ℕ) (leaf : _) (c : List Literal) → Contains (more ++ Begun live ∷ old) (Given (Fault j i leaf) c) →
      (g : ℕ) → IsInGroup g c → name_of old g ≡ None
  fault_new [] none new j i leaf c (zero, below, is) g inside = cc
  fault_new [] none new j i leaf c (suc k, below, is) g inside =
      absurd (no_fault old tried plain j i leaf c (k, omega (arith, below), is))
  fault_new (Given origin d ∷ more) none new j i leaf c (zero, below, is) g inside =
      head_new (more ++ Begun live ∷ old) origin d new j i leaf c g is inside
  fault_new (Given origin d ∷ more) none new j i leaf c (suc k, below, is) g inside =
      fault_new more none (tail_new (more ++ Begun live ∷ old) origin d new) j i leaf c (k, omega (arith, below), is) g
      inside
  fault_new (Begun numbers ∷ more) none new j i leaf c has g inside = absurd (omega (arith, none))
  fault_new (_ ∷ more) none new j i leaf c (suc k, below, is) g inside =
      fault_new more none new j i leaf c (k, omega (arith, below), is) g inside
  fault_new (_ ∷ more) none new j i leaf c (zero, below, is) g inside = cc

  module _ (more : List Entry) (none : beginnings_of more ≡ 0)
      (given : Each (MatchesLiveOrigin f) (more ++ Begun live ∷ old))
      (new : AreFaultsNew old (more ++ Begun live ∷ old)) (c : List Literal) (hints : List ℕ) where
    abbrev es : List Entry
    es = more ++ Begun live ∷ old

    live_false : DecidesFalse es c hints → DecidesLiveFalse es c hints
    live_false d = record {
      decides = d;
      live = λ numbers k j i named reached.
          let same : live ≡ numbers = let e : Some live ≡ Some numbers = sym (same_live more none) ∙ named in cc in
          let there = each_one (MatchesLiveOrigin f) es (Given (Instance k j) i) given
          (numbered_there has_id es reached.id (Given (Instance k j) i) reached.is_given) in
          let inside = numbered_low f.matrix j there.1.rest_is.clause there.1.rest_is.clause_is in
          subst (λ ns. Contains ns j) same (all_live j inside.0 inside.1);
    }

    formula : live_formula f es ≡ f
    formula = ap (formula_by f) (same_live more none) ∙ whole

    moved : (g h : ℕ) (n : Name) → name_of old g ≡ Some n → (origin : Origin) (i : List Literal) →
        Contains es (Given origin i) → IsCircuitGiven g origin i → IsCircuitGiven h origin i
    moved g h n old_name (Gate v part) i has is = tt
    moved g h n old_name (Fault j part leaf) i has is =
        let nothing = fault_new more none new j part leaf i has g is in
        let e : Some n ≡ None = sym old_name ∙ nothing in
        cc
    moved g h n old_name _ i has is = absurd is

    since_decides : (d : DecidesTrue f es c hints) → name_of old d.rests.group ≡ None → DecidesLiveTrue f es c hints
    since_decides d fresh = record {
      decides = record {
        rests = d.rests;
        reads = (subst (λ g. DecidesTrue g es c hints) (sym formula) d).reads;
      };
      current = ap (λ xs. name_of xs d.rests.group) (same_before more none) ∙ fresh;
    }

    with_new_group : (d : DecidesTrue f es c hints) (n : Name) → name_of old d.rests.group ≡ Some n →
        DecidesTrue f es c hints
    with_new_group d n named = record {
      rests = record {
        selectors = d.rests.selectors;
        group = above old;
        circuit = λ origin i reached. moved d.rests.group (above old) n named origin i
            (numbered_there has_id es reached.id (Given origin i) reached.is_given) (d.rests.circuit origin i reached);
      };
      reads = d.reads;
    }

    live_true : DecidesTrue f es c hints → DecidesLiveTrue f es c hints
    unfolding with_new_group
    live_true d = by (name_of old d.rests.group) refl
      where
        by : (o : Option Name) → name_of old d.rests.group ≡ o → DecidesLiveTrue f es c hints
        by None fresh = since_decides d fresh
        by (Some n) named = since_decides (with_new_group d n named) (unnamed_above old (above old) (omega arith))

  pub undecided_plainly : (more : List Entry) → beginnings_of more ≡ 0 →
      Each (MatchesLiveOrigin f) (more ++ Begun live ∷ old) → AreFaultsNew old (more ++ Begun live ∷ old) →
      IsUndecidedSince f (more ++ Begun live ∷ old) → IsUndecided f (more ++ Begun live ∷ old)
  undecided_plainly [] none given new u = (tt, before)
  undecided_plainly (Given origin c ∷ more) none given new u =
      (tt, undecided_plainly more none given.1 (tail_new (more ++ Begun live ∷ old) origin c new) u)
  undecided_plainly (Answer c hints ∷ more) none given new u = (
    (
      λ no. u.0 (live_false more none given.1 new c hints no),
      λ yes. u.1 (live_true more none given.1 new c hints yes),
    ),
    undecided_plainly more none given.1 new u.2,
  )
  undecided_plainly (Begun numbers ∷ more) none given new u = absurd (omega (arith, none))
  undecided_plainly (_ ∷ more) none given new u = (tt, undecided_plainly more none given.1 new u)
