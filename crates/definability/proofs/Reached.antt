-- The given clauses that an answer of the copies reaches.
use Rattle.std.proofs.Common.{◌≡◌, ◌⊎◌, ℕ, ◌+◌, Bool, true, false, true≢false, append_assoc, ◌||◌, inl, inr, List, [], ◌∷◌, ◌++◌, Some, IsSome, refl, sym, ◌∙◌, ap, subst, arith}
use Rattle.std.specs.List.{Contains}
use Rattle.std.specs.Option.{option_and_then}
use Rattle.std.proofs.lemmas.Bool.{eq-eqb}
use Rattle.std.proofs.lemmas.List.Elements.{All-head, All-tail}
use Rattle.dq_lits.specs.Literal.{Assignment, Literal, negative, variable_of, literal_true, clause_true}
use Rattle.dq_lits.specs.Derivation.{LiveClauses, MakesTrue, holds, IsDerived}
use Rattle.dq_lits.specs.Formula.{Dqbf}
use Rattle.hint_log.specs.Conditions.{IsId, AreLogged}
use Rattle.hint_log.specs.Deciding.{ReachesGiven, AreNegatedSelectors, IsInstance, IsCircuitGiven, DecidesNothing}
use Rattle.hint_log.specs.Entries.{Entry, Given, Answer, has_id, numbered, last_id, hints_of, clause_at, hints_at, origin_at, name_of}
use Rattle.hint_log.specs.Growth.{Each}
use Rattle.hint_log.specs.Reached.{Reaches, itself, by_hint}
use Rattle.hint_log.specs.declared.names.Name.TheVariants.{Selector}
use Rattle.hint_log.specs.declared.origins.Origin.{Origin}
use Rattle.hint_log.specs.declared.origins.Origin.TheVariants.{Instance, Gate, Fault}
use Rattle.log_laws.specs.Engines.{circuits, instances, copies, origin_engine}
use Rattle.log_laws.proofs.Found.{split_at, each_at}
use Rattle.log_laws.proofs.ReachedClauses.{answer_true, name_stays}
use Rattle.log_laws.proofs.Kept.{NamesStay}
use Rattle.hint_log.specs.ProductiveLog.{MatchesOrigin}
use Rattle.oracle.specs.Searched.{IsSearched, IsGivenToGroup, IsOfGroup}
use Rattle.definability.specs.Copies.{is_copy_of, IsCopyGiven, IsGroupGiven, IsSideGiven}
use Rattle.definability.proofs.KeptCopies.{copy_given_stays}

-- the law of derived lines
abbrev pub LinesAreImplied : Type 0
LinesAreImplied = (live : LiveClauses) (literals : List Literal) (hints : List ℕ) → IsDerived live literals hints →
    (m : Assignment) → MakesTrue m live → clause_true m literals ≡ true

-- what an answer reaches, but for itself, its hints reach
module _ (es : List Entry) (clause : List Literal) (hints : List ℕ)
    (stays : (e : Entry) (entries : List Entry) (id : ℕ) → IsId entries id →
    numbered has_id (e ∷ entries) id ≡ numbered has_id entries id)
    (are_ids : (entries : List Entry) (id i : ℕ) → AreLogged entries → IsId entries id → Reaches entries id i →
    IsId entries i)
    (logged : AreLogged (Answer clause hints ∷ es)) where
  abbrev all : List Entry
  all = Answer clause hints ∷ es

  abbrev last : ℕ
  last = last_id es + 1

  last_there : numbered has_id all last ≡ Some (Answer clause hints)
  last_there = search (arith, eq-eqb)

  abbrev ReachedByHint : ℕ → Type 0
  ReachedByHint i = (hint : ℕ) × Contains hints hint × Reaches es hint i × IsId es i

  hint_ids : (hint : ℕ) → Contains hints hint → IsId es hint
  hint_ids hint among = logged.0.1 hint among

  pub by_a_hint : (i : ℕ) → Reaches all last i → (i ≡ last) ⊎ ReachedByHint i
  by_a_hint i itself = inl refl
  by_a_hint i (by_hint at hint hs reached found among) = elim (by_a_hint at reached) [
    | inl same ↦ (
        let own : hints_at all at ≡ Some hints = ap (hints_at all) same ∙ ap
        (option_and_then (λ e. Some (hints_of e))) last_there in
        let both : Some hints ≡ Some hs = sym own ∙ found in
        let same_hints : hints ≡ hs = cc in
        let inside = subst (λ xs. Contains xs hint) (sym same_hints) among in
        inr (hint, inside, itself, hint_ids hint inside))
    | inr below ↦ (
        let found_there : hints_at es at ≡ Some hs = sym (ap (option_and_then (λ e. Some (hints_of e)))
        (stays (Answer clause hints) es at below.3)) ∙ found in
        let reached_there = by_hint at hint hs below.2 found_there among in
        inr (
          below.0,
          below.1,
          reached_there,
          are_ids es below.0 hint logged.1
              (hint_ids below.0 below.1) reached_there,
        ))
  ]

  pub reached_given : (i : ℕ) (origin : Origin) (c : List Literal) → Reaches all last i →
      numbered has_id all i ≡ Some (Given origin c) → ReachesGiven es hints origin c
  reached_given i origin c reached at = search (arith, by_a_hint, last_there)

-- an entry with an origin and a clause is a given one
pub is_given_entry : (es : List Entry) (i : ℕ) (c : List Literal) → IsSome (origin_at es i) → clause_at es i ≡ Some c →
    (origin : Origin) × (numbered has_id es i ≡ Some (Given origin c))
is_given_entry es i c has is = search arith

-- a given clause that an answer's hints reach, with its group's selector, which the answer's clause
-- negates
pub record IsOfAnswer (es : List Entry) (clause : List Literal) (origin : Origin) (c : List Literal) : Type 0 where
  pub more : List Entry
  pub earlier : List Entry
  pub split : es ≡ more ++ Given origin c ∷ earlier
  pub grouped : IsOfGroup earlier c
  pub kept : holds clause (negative grouped.group) ≡ true

pub of_answer : (es : List Entry) (clause : List Literal) (hints : List ℕ) → IsSearched (Answer clause hints ∷ es) →
    (origin : Origin) (c : List Literal) → ReachesGiven es hints origin c →
    IsOfAnswer es clause origin c
of_answer es clause hints searched origin c reached =
    let place = split_at es reached.id (Given origin c) reached.is_given in
    let grouped : IsOfGroup place.1 c = each_at IsGivenToGroup place.0 place.1 (Given origin c)
    (subst (Each IsGivenToGroup) place.2 searched.grouped.1) in
    record {
      more = place.0;
      earlier = place.1;
      split = place.2;
      grouped = grouped;
      kept = searched.kept.0 origin grouped.group grouped.rest
          (subst (ReachesGiven es hints origin) grouped.clause_is reached);
    }

-- such a clause, seen from the answer
module _ (f : Dqbf) (es : List Entry) (clause : List Literal) (hints : List ℕ)
    (searched : IsSearched (Answer clause hints ∷ es)) (origin : Origin) (c : List Literal)
    (is : IsOfAnswer es clause origin c) where
  more_split : Answer clause hints ∷ es ≡ (Answer clause hints ∷ is.more) ++ Given origin c ∷ is.earlier
  more_split = ap (λ xs. Answer clause hints ∷ xs) is.split

  joined : Answer clause hints ∷ es ≡ ((Answer clause hints ∷ is.more) ++ Given origin c ∷ []) ++ is.earlier
  joined = more_split ∙ sym (append_assoc (Answer clause hints ∷ is.more) (Given origin c ∷ []) is.earlier)

  pub earlier_stay : NamesStay is.earlier (Answer clause hints ∷ es)
  earlier_stay v n named =
      ap (λ xs. name_of xs v) joined ∙ name_stays ((Answer clause hints ∷ is.more) ++ Given origin c ∷ []) is.earlier v
      n (subst AreLogged joined searched.logged) named

  pub group_named : name_of (Answer clause hints ∷ es) is.grouped.group ≡ Some (Selector is.grouped.group)
  group_named = earlier_stay is.grouped.group (Selector is.grouped.group) is.grouped.named

  pub own_at : (test : Origin → Bool) (h : ℕ) → is.grouped.group ≡ h →
      Each (IsGroupGiven f test h) (Answer clause hints ∷ es) →
      (test origin ≡ true) × MatchesOrigin f is.earlier (Given origin c)
  own_at test h same own = search (arith, each_at, more_split)

  pub side_at : (side h : ℕ) → is.grouped.group ≡ h →
      Each (IsSideGiven f side h) (Answer clause hints ∷ es) →
      (is_copy_of side origin ≡ true) × IsCopyGiven (Answer clause hints ∷ es) f side c
  side_at side h same own =
      let r = each_at (IsSideGiven f side h) (Answer clause hints ∷ is.more) is.earlier (Given origin c)
      (subst (Each (IsSideGiven f side h)) more_split own)
      (is.grouped.rest, is.grouped.clause_is ∙ ap (λ k. negative k ∷ is.grouped.rest) same) in
      (r.0, copy_given_stays is.earlier (Answer clause hints ∷ es) f side c earlier_stay r.1)

-- a clause of negated selectors isn't true everywhere
abbrev all_true : Assignment
all_true v = true

negatives_false : (es : List Entry) (clause : List Literal) → AreNegatedSelectors es clause →
    clause_true all_true clause ≡ false
negatives_false es [] are = refl
negatives_false es (l ∷ ls) are =
    let P : Literal → Type 0 = λ k. (k ≡ negative (variable_of k)) ×
    (name_of es (variable_of k) ≡ Some (Selector (variable_of k))) in
    ap (λ b. b || clause_true all_true ls) (ap (literal_true all_true) (All-head P l ls are).0) ∙ negatives_false es ls
    (All-tail P l ls are)

abbrev pub IsOfCopies : Origin → Type 0
IsOfCopies origin = origin_engine origin ≡ copies

no_instance : (origin : Origin) → IsOfCopies origin → IsInstance origin → ⊥
no_instance (Instance k j) own h = let e : instances ≡ copies = own in cc
no_instance _ own h = h

no_circuit : (group : ℕ) (origin : Origin) (c : List Literal) → IsOfCopies origin → IsCircuitGiven group origin c → ⊥
no_circuit group (Gate v i) c own h = let e : circuits ≡ copies = own in cc
no_circuit group (Fault j i leaf) c own h = let e : circuits ≡ copies = own in cc
no_circuit group _ c own h = h

-- an answer that reaches no given clause but those of the copies decides nothing
pub undecided_answer : LinesAreImplied → (f : Dqbf) (es : List Entry) (clause : List Literal) (hints : List ℕ) →
    IsSearched (Answer clause hints ∷ es) →
    ((origin : Origin) (c : List Literal) → ReachesGiven es hints origin c → IsOfCopies origin) →
    DecidesNothing f es (Answer clause hints)
undecided_answer implied f es clause hints searched own = (
  λ decides. nothing decides.selectors (λ origin c reached. no_instance origin (own origin c reached)
      (decides.instances origin c reached)),
  λ decides. nothing decides.rests.selectors (λ origin c reached. no_circuit decides.rests.group origin c
      (own origin c reached) (decides.rests.circuit origin c reached)),
)
  where
    -- with no given clause, the answer's would be true everywhere
    nothing : AreNegatedSelectors es clause → ((origin : Origin) (c : List Literal) →
        ReachesGiven es hints origin c → ⊥) → ⊥
    nothing selectors none =
        let is_true = answer_true implied es hints all_true (λ earlier more origin c is reached. absurd
        (none origin c reached)) clause searched.derived.1 searched.derived.0 in
        true≢false (sym is_true ∙ negatives_false es clause selectors)
