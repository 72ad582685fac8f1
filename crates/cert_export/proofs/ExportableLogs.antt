-- Answers that decide can be exported, in a log of productive work and in a session.
use Rattle.std.proofs.Common.{◌≡◌, ℕ, zero, suc, ◌+◌, ◌-◌, ◌≤◌, ◌==◌, Bool, true, false, not, cond, List, [], ◌∷◌, ◌++◌, length, slice_get, Some, refl, sym, ◌∙◌, ap, subst, arith}
use Rattle.std.specs.List.{All, Contains, filter_map, cons_option, position_or_len, range_with_len}
use Rattle.std.specs.List.Sorted.{IsStrictlyIncreasing}
use Rattle.std.proofs.lemmas.Bool.{eq-eqb, eqb-true, false≢true}
use Rattle.std.proofs.lemmas.List.FromFn.{length-range_with_len, get_or-range_with_len}
use Rattle.std.proofs.lemmas.List.Sums.{position_or_len_is}
use Rattle.std.proofs.lemmas.List.Elements.{All-head, All-tail}
use Rattle.list_laws.proofs.Elements.{place_within as small_place}
use Rattle.list_laws.proofs.Members.{contains-range_from_one}
use Rattle.dq_lits.specs.Literal.{Literal}
use Rattle.dq_lits.specs.Formula.{Dqbf}
use Rattle.hint_log.specs.Conditions.{MayFollow}
use Rattle.hint_log.specs.Deciding.{ReachesGiven, IsInstance}
use Rattle.hint_log.specs.Entries.{Entry, Given, Answer, has_id, numbered}
use Rattle.hint_log.specs.Growth.{Each}
use Rattle.hint_log.specs.Live.{live_numbers, formula_of, formula_by, AreNumbers}
use Rattle.hint_log.specs.Naming.{numbered_from_one}
use Rattle.hint_log.specs.Origins.{IsOriginsClause}
use Rattle.hint_log.specs.ProductiveLog.{MatchesOrigin, RefutesNewRow, IsDerivedByHints, IsProductiveLog}
use Rattle.hint_log.specs.ProductiveSession.{MatchesLiveOrigin, RefutesNewLiveRow, IsSinceBeginning, DecidesLiveTrue, IsProductiveSession}
use Rattle.hint_log.specs.declared.origins.Origin.{Origin}
use Rattle.hint_log.specs.declared.origins.Origin.TheVariants.{Instance}
use Rattle.hint_log.proofs.NamedEntries.{live_are_numbers}
use Rattle.log_laws.specs.Meaning.{IsSoundAnswer}
use Rattle.log_laws.proofs.Found.{each_at, split_at}
use Rattle.log_laws.proofs.LiveAnswers.{live_sound, same_universals}
use Rattle.expansion.specs.Table.{IsRefutedBy}
use Rattle.cert_export.specs.Expansion.{number_among, IsInstanceClause}
use Rattle.cert_export.specs.Exported.{CanExportFalse}
use Rattle.cert_export.specs.ExportedCircuit.{IsDecidedTrue, CanExportTrue}
use Rattle.cert_export.specs.ExportableLogs.{ProductiveAnswersCanExport, RestsOnLive, SessionAnswersCanExport}
use Rattle.cert_export.proofs.Answers.{reached_here}
use Rattle.cert_export.proofs.CircuitNumbers.{inputs_by}
use Rattle.cert_export.proofs.CircuitClauses.{there_is}
use Rattle.cert_export.proofs.ExportableAnswers.{rows_whole}

-- where all clauses are live, each has its own number
own_number : (n j : ℕ) → 1 ≤ j → j ≤ n → number_among (range_with_len 1 n) j ≡ j
own_number n j one last =
    search (
      arith,
      position_or_len_is,
      (length-range_with_len 1 n),
      (get_or-range_with_len 1 n),
      (get_or-range_with_len 1 n (j - 1) 0),
    )

all_ascend : (n : ℕ) → IsStrictlyIncreasing (range_with_len 1 n)
all_ascend n k below = search (arith, length-range_with_len, get_or-range_with_len)

-- the numbers of an instance's clause
instance_number : (f : Dqbf) (before : List Entry) (k j : ℕ) (c : List Literal) →
    IsOriginsClause f before (Instance k j) c → (1 ≤ j) × (j ≤ length f.matrix)
instance_number f before k j c own = search (arith, small_place)

module _ (f : Dqbf) (entries : List Entry) (id : ℕ) (lawful : Each MayFollow entries)
    (log : IsProductiveLog f entries) where
  own_origin : (origin : Origin) (c : List Literal) (more before : List Entry) →
      entries ≡ more ++ Given origin c ∷ before → IsOriginsClause f before origin c
  own_origin origin c more before is = each_at (MatchesOrigin f) more before (Given origin c)
      (subst (Each (MatchesOrigin f)) is log.givens_match_origins)

  can_export_true : IsDecidedTrue f entries id → CanExportTrue f entries id
  can_export_true decided = record {
    decided = decided;
    inputs = λ v x named. inputs_by f (MatchesOrigin f) (λ es w n right. right) entries v x
        log.givens_match_origins named;
    givens = λ h origin c reached at. own_origin origin c;
    lemmas_are_derived = log.lemmas_are_derived;
  }

  instance_clause : (h : ℕ) (origin : Origin) (c : List Literal) → IsInstance origin →
      numbered has_id entries h ≡ Some (Given origin c) → IsInstanceClause f
      (range_with_len 1 (length f.matrix)) entries origin c
  instance_clause h (Instance k j) c mine at =
      let place = split_at entries h (Given (Instance k j) c) at in
      let number = instance_number f place.1 k j c (own_origin (Instance k j) c place.0 place.1 place.2) in (
        contains-range_from_one (length f.matrix) j number.0 number.1,
        λ more before is. subst (λ i. IsOriginsClause f before (Instance k i) c)
            (sym (own_number (length f.matrix) j number.0 number.1)) (own_origin (Instance k j) c more before is),
      )
  instance_clause h _ c mine at = absurd mine

  can_export_false : IsRefutedBy entries id → CanExportFalse f (range_with_len 1 (length f.matrix)) entries id
  can_export_false refuted = record {
    refuted = refuted;
    instances = λ h origin c reached at. instance_clause h origin c
        (refuted.decides.instances origin c (reached_here entries refuted.earlier refuted.clause refuted.hints id lawful
        refuted.answered refuted.last h origin c reached at)) at;
    numbers_ascend = all_ascend (length f.matrix);
    one_each = length-range_with_len 1 (length f.matrix);
    lemmas_are_derived = log.lemmas_are_derived;
    whole_rows = rows_whole (length f.universals) (RefutesNewRow f) (λ es row values j new. new.row_length) entries
        log.rounds_refute_new_rows;
  }

pub productive_answers : ProductiveAnswersCanExport
productive_answers f entries id lawful log = search (arith, can_export_true, can_export_false)

-- the clauses of live numbers, each at its number's place
live_clauses_long : (all : Dqbf) (live : List ℕ) → All (λ i. (1 ≤ i) × (i ≤ length all.matrix)) live →
    length (filter_map (numbered_from_one all.matrix) live) ≡ length live
live_clauses_long all [] are = refl
live_clauses_long all (i ∷ live) are =
    let P : ℕ → Type 0 = λ n. (1 ≤ n) × (n ≤ length all.matrix) in
    let here = All-head P i live are in
    let clause = there_is all.matrix i here.0 here.1 in
    let later = live_clauses_long all live (All-tail P i live are) in
    ap (λ o. length (cons_option o (filter_map (numbered_from_one all.matrix) live))) clause.1 ∙ ap suc later

live_clause_there : (all : Dqbf) (live : List ℕ) (j : ℕ) (c : List Literal) →
    All (λ i. (1 ≤ i) × (i ≤ length all.matrix)) live → Contains live j → numbered_from_one all.matrix j ≡ Some c
    → slice_get (filter_map (numbered_from_one all.matrix) live) (position_or_len (λ i. i == j) live) ≡ Some c
live_clause_there all [] j c are (k, below, is) at = absurd (omega (arith, below))
live_clause_there all (i ∷ live) j c are inside at =
    ap (λ o. slice_get (cons_option o clauses) (position_or_len (λ n. n == j) (i ∷ live))) first.1
    ∙ by_bit (i == j) refl inside (λ later. live_clause_there all live j c (All-tail P i live are) later at)
  where
    P : ℕ → Type 0
    P n = (1 ≤ n) × (n ≤ length all.matrix)

    clauses : List (List Literal)
    clauses = filter_map (numbered_from_one all.matrix) live

    first : (x : List Literal) × (numbered_from_one all.matrix i ≡ Some x)
    first = let here = All-head P i live are in there_is all.matrix i here.0 here.1

    by_bit : (b : Bool) → (i == j) ≡ b → Contains (i ∷ live) j →
        (Contains live j → slice_get clauses (position_or_len (λ n. n == j) live) ≡ Some c)
        → slice_get (first.0 ∷ clauses) (cond (not b) (1 + position_or_len (λ n. n == j) live) 0) ≡ Some c
    by_bit true same inside behind = sym first.1 ∙ ap (numbered_from_one all.matrix) (eqb-true i j same) ∙ at
    by_bit false other (zero, below, is) behind = let same = eq-eqb i j is in absurd (false≢true (sym other ∙ same))
    by_bit false other (suc k, below, is) behind = search arith

-- an instance of a live clause, by the formula of the live ones
live_instance : (all : Dqbf) (live : List ℕ) (before : List Entry) (k j : ℕ) (c : List Literal) → AreNumbers all live →
    Contains live j → IsOriginsClause all before (Instance k j) c
    → IsOriginsClause (formula_of all live) before (Instance k (number_among live j)) c
live_instance all live before k j c are inside own = search (arith, live_clause_there)

module _ (all : Dqbf) (frames live : List ℕ) (entries : List Entry) (id : ℕ) (lawful : Each MayFollow entries)
    (log : IsProductiveSession all frames entries) (is_live : live_numbers entries ≡ Some live) where
  module _ (decided : IsDecidedTrue (formula_of all live) entries id)
      (since : IsSinceBeginning decided.earlier decided.decides.rests.group) where
    lives : live_numbers decided.earlier ≡ Some live
    lives = ap live_numbers (sym decided.answered) ∙ is_live

    live_true : DecidesLiveTrue all decided.earlier decided.clause decided.hints
    live_true = record {
      decides = search (arith, lives);
      current = since;
    }

    sound : IsSoundAnswer (formula_of all live) decided.earlier decided.clause decided.hints
    sound =
        let given = subst (Each (MatchesLiveOrigin all)) decided.answered log.givens_match_origins in
        let derived = subst (Each IsDerivedByHints) decided.answered log.lemmas_are_derived in
        subst (λ m. IsSoundAnswer (formula_by all m) decided.earlier decided.clause decided.hints) lives
        (live_sound all decided.earlier decided.clause decided.hints
        (subst (Each MayFollow) decided.answered lawful).1 given.1 derived.1 derived.0 live_true)

    live_givens : (origin : Origin) (c : List Literal) → ReachesGiven decided.earlier decided.hints origin c →
        (more before : List Entry) → entries ≡ more ++ Given origin c ∷ before
        → IsOriginsClause (formula_of all live) before origin c
    live_givens origin c reached [] before is = search arith
    live_givens origin c reached (e ∷ more) before is =
        let both : Answer decided.clause decided.hints ∷ decided.earlier ≡ e ∷ more ++ Given origin c ∷ before =
        sym decided.answered ∙ is in
        let behind : decided.earlier ≡ more ++ Given origin c ∷ before = cc in
        sound.givens_match_origins more before origin c behind reached

    session_true : CanExportTrue (formula_of all live) entries id
    session_true = record {
      decided = decided;
      inputs = λ v x named. inputs_by all (MatchesLiveOrigin all) (λ es w n right. right) entries v x
          log.givens_match_origins named;
      givens = λ h origin c reached at. live_givens origin c
          (reached_here entries decided.earlier decided.clause decided.hints id lawful decided.answered decided.last h
          origin c reached at);
      lemmas_are_derived = log.lemmas_are_derived;
    }

  numbers : AreNumbers all live
  numbers = live_are_numbers all entries live log.givens_match_origins is_live

  live_origin : (k j : ℕ) (c : List Literal) (more before : List Entry) →
      entries ≡ more ++ Given (Instance k j) c ∷ before → IsOriginsClause all before (Instance k j) c
  live_origin k j c more before is = search (arith, each_at)

  live_instance_clause : (origin : Origin) (c : List Literal) → IsInstance origin →
      ((k j : ℕ) → origin ≡ Instance k j → Contains live j) →
      IsInstanceClause (formula_of all live) live entries origin c
  live_instance_clause (Instance k j) c mine among = (
    among k j refl,
    λ more before is. live_instance all live before k j c numbers (among k j refl) (live_origin k j c more before is),
  )
  live_instance_clause _ c mine among = absurd mine

  session_false : (refuted : IsRefutedBy entries id) → RestsOnLive live entries id refuted →
      CanExportFalse (formula_of all live) live entries id
  session_false refuted rests = record {
    refuted = refuted;
    instances = λ h origin c reached at.
        let mine = reached_here entries refuted.earlier refuted.clause refuted.hints id lawful refuted.answered
        refuted.last h origin c reached at in
        live_instance_clause origin c (refuted.decides.instances origin c mine)
        (λ k j is. rests k j c (subst (λ o. ReachesGiven refuted.earlier refuted.hints o c) is mine));
    numbers_ascend = numbers.ascending;
    one_each = sym (live_clauses_long all live numbers.numbers);
    lemmas_are_derived = log.lemmas_are_derived;
    whole_rows = rows_whole (length all.universals) (RefutesNewLiveRow all)
        (λ es row values j new. new.row_length ∙ same_universals all (live_numbers es)) entries
        log.rounds_refute_new_rows;
  }

pub session_answers : SessionAnswersCanExport
session_answers all frames live entries id lawful log is_live = search (arith, session_true, session_false)
