-- The solver goes with the log, as clauses are added to both.
use Rattle.std.proofs.lemmas.Option.{slice_get_past, slice_get_within}
use Rattle.std.proofs.Common.{zero, is_some, ◌≡◌, ◌≢◌, ℕ, suc, ◌+◌, Bool, true, ◌⊎◌, inl, inr, List, [], ◌∷◌, ◌++◌, length, Some, refl, sym, ◌∙◌, ap, arith, length-append}
use Rattle.std.proofs.lemmas.Bool.{false≢true, cases_eq, eq-eqb, ne_eqb, and_from}
use Rattle.list_laws.proofs.Elements.{last_there}
use Rattle.dq_lits.specs.Literal.{Literal, opposite}
use Rattle.dq_lits.specs.Derivation.{holds, IsDerived}
use Rattle.dq_lits.proofs.SignedLiterals.{opposite_variable, opposite-negative}
use Rattle.dq_lits.proofs.HeldLiterals.{holds_cases}
use Rattle.hint_log.specs.Entries.{Entry}
use Rattle.hint_log.specs.Entries.{Given, Learned, Answer}
use Rattle.hint_log.specs.declared.origins.Origin.{Origin}
use Rattle.hint_log.specs.Conditions.{AreNamed, AreIds}
use Rattle.hint_log.specs.Entries.{clause_at, clause_of, name_of, last_id, has_id}
use Rattle.hint_log.specs.ProductiveLog.{IsNewByPropagation}
use Rattle.oracle.specs.Fit.{HoldsHintedSelectors}
use Rattle.oracle.specs.declared.groups.Group.{Group}
use Rattle.oracle.specs.Calls.{IsMade, IsPlain}
use Rattle.oracle.specs.Fit.{Fit, live_in}
use Rattle.oracle.specs.Searched.{Stands, IsOfGroup}
use Rattle.oracle.proofs.KeptSelectors.{holds_reached}
use Rattle.learning_trail.specs.Resting.{IsPut, HeldFit}
use Rattle.learning_trail.proofs.Lessons.{live_more}

module _ (held : List (List Literal)) (c : List Literal) (es : List Entry) (e : Entry) (numbered' : has_id e ≡ true)
    (is : clause_of e ≡ Some c) (count : length held ≡ last_id es) where
  at_new : (id : ℕ) → id ≡ last_id es + 1 → clause_at (e ∷ es) id ≡ Some c
  at_new id h = search (arith, and_from, eq-eqb)

  at_old : (id : ℕ) → id ≢ last_id es + 1 → clause_at (e ∷ es) id ≡ clause_at es id
  at_old id n = search (arith, ne_eqb)

  pub same_more : ((id : ℕ) → live_in held id ≡ clause_at es id) → (id : ℕ) →
      live_in (held ++ c ∷ []) id ≡ clause_at (e ∷ es) id
  same_more same id = elim (cases_eq id (last_id es + 1)) [
    | inl h ↦
        let at : id ≡ suc (length held) = omega (arith, h, count) in
        ap (live_in (held ++ c ∷ [])) at ∙ last_there held c ∙ sym (at_new id h)
    | inr n ↦ elim (live_more held c id) [
      | inl k ↦ k ∙ same id ∙ sym (at_old id n)
      | inr k ↦ absurd (n (omega (arith, k.0, count)))
    ]
  ]

  pub standing_more : (P : Literal → Type 0) → ((id : ℕ) (d : List Literal) (l : Literal) → clause_at es id ≡ Some d →
      holds d l ≡ true → P l)
      → ((l : Literal) → holds c l ≡ true → P l) → (id : ℕ) (d : List Literal) (l : Literal) →
      clause_at (e ∷ es) id ≡ Some d → holds d l ≡ true → P l
  standing_more P before new id d l at h = search (arith, cases_eq, at_new, at_old)

fit_learned : (held : List (List Literal)) (variables : ℕ) (es : List Entry) (c : List Literal) (hs : List ℕ) →
    Fit held variables es
    → AreNamed es c → AreIds es hs → IsDerived (clause_at es) c hs → IsNewByPropagation es c →
    HoldsHintedSelectors es c hs → ((k : Literal) → holds c k ≡ true → Stands es k) →
    Fit (held ++ c ∷ []) variables (Learned c hs ∷ es)
fit_learned held variables es c hs fit are_named are_ids derived new tied stands = record {
  count = let n = fit.count in omega (arith, n, length-append held (c ∷ []));
  same = same_more held c es (Learned c hs) refl refl fit.count fit.same;
  in_range = fit.in_range;
  all_named = fit.all_named;
  selectors = fit.selectors;
  logged = ((are_named, are_ids), fit.logged);
  grouped = (tt, fit.grouped);
  negated = λ id d k at h. let s = standing_more held c es (Learned c hs) refl refl fit.count
      (Stands es) fit.negated stands id d k at h in record { named = s.named; negated = s.negated };
  derived = (derived, fit.derived);
  new = (new, fit.new);
  hinted = (tied, fit.hinted);
  kept = (holds_reached es c hs fit.logged fit.grouped fit.hinted tied, fit.kept);
}

fit_answered : (held : List (List Literal)) (variables : ℕ) (es : List Entry) (c : List Literal) (hs : List ℕ) →
    Fit held variables es
    → AreNamed es c → AreIds es hs → IsDerived (clause_at es) c hs → HoldsHintedSelectors es c hs →
    ((k : Literal) → holds c k ≡ true → Stands es k) → Fit (held ++ c ∷ []) variables (Answer c hs ∷ es)
fit_answered held variables es c hs fit are_named are_ids derived tied stands = record {
  count = let n = fit.count in omega (arith, n, length-append held (c ∷ []));
  same = same_more held c es (Answer c hs) refl refl fit.count fit.same;
  in_range = fit.in_range;
  all_named = fit.all_named;
  selectors = fit.selectors;
  logged = ((are_named, are_ids), fit.logged);
  grouped = (tt, fit.grouped);
  negated = λ id d k at h. let s = standing_more held c es (Answer c hs) refl refl fit.count
      (Stands es) fit.negated stands id d k at h in record { named = s.named; negated = s.negated };
  derived = (derived, fit.derived);
  new = (tt, fit.new);
  hinted = (tied, fit.hinted);
  kept = (holds_reached es c hs fit.logged fit.grouped fit.hinted tied, fit.kept);
}

fit_given : (held : List (List Literal)) (variables : ℕ) (es : List Entry) (o : Origin) (c : List Literal) →
    Fit held variables es → AreNamed es c
    → ((k : Literal) → holds c k ≡ true → Stands es k) → IsOfGroup es c →
    Fit (held ++ c ∷ []) variables (Given o c ∷ es)
fit_given held variables es o c fit are_named stands grouped = record {
  count = let n = fit.count in omega (arith, n, length-append held (c ∷ []));
  same = same_more held c es (Given o c) refl refl fit.count fit.same;
  in_range = fit.in_range;
  all_named = fit.all_named;
  selectors = fit.selectors;
  logged = (are_named, fit.logged);
  grouped = (grouped, fit.grouped);
  negated = λ id d k at h. let s = standing_more held c es (Given o c) refl refl fit.count
      (Stands es) fit.negated stands id d k at h in record { named = s.named; negated = s.negated };
  derived = (tt, fit.derived);
  new = (tt, fit.new);
  hinted = (tt, fit.hinted);
  kept = (tt, fit.kept);
}

-- one clause more for both
module _ (held : List (List Literal)) (resting : List Bool) (variables : ℕ) (es : List Entry) (c : List Literal)
    (fit : HeldFit held resting variables es) where
  more_same : (id : ℕ) (clause put : List Literal) → live_in (fit.whole ++ c ∷ []) id ≡ Some clause →
      live_in (held ++ c ∷ []) id ≡ Some put → (put ≡ clause) ⊎ IsPut resting clause put
  more_same id clause put at at' = search (arith, live_more, last_there, slice_get_within)

  held_more : (e : Entry) → Fit (fit.whole ++ c ∷ []) variables (e ∷ es) →
      ((v : ℕ) → name_of (e ∷ es) v ≡ name_of es v) → HeldFit (held ++ c ∷ []) resting variables (e ∷ es)
  held_more e longer names = search (arith, length-append, more_same)

  pub held_learned : (hs : List ℕ) → AreNamed es c → AreIds es hs → IsDerived (clause_at es) c hs →
      IsNewByPropagation es c → HoldsHintedSelectors es c hs → ((k : Literal) → holds c k ≡ true → Stands es k) →
      HeldFit (held ++ c ∷ []) resting variables (Learned c hs ∷ es)
  held_learned hs are_named are_ids derived new tied stands = search (arith, held_more, fit_learned)

  pub held_answered : (hs : List ℕ) → AreNamed es c → AreIds es hs → IsDerived (clause_at es) c hs →
      HoldsHintedSelectors es c hs → ((k : Literal) → holds c k ≡ true → Stands es k) →
      HeldFit (held ++ c ∷ []) resting variables (Answer c hs ∷ es)
  held_answered hs are_named are_ids derived tied stands = search (arith, held_more, fit_answered)

  pub held_given : (o : Origin) → AreNamed es c → ((k : Literal) → holds c k ≡ true → Stands es k) → IsOfGroup es c →
      HeldFit (held ++ c ∷ []) resting variables (Given o c ∷ es)
  held_given o are_named stands grouped = search (arith, held_more, fit_given)

-- a group's clause stands
pub given_stands : (es : List Entry) (g : Group) (lits : List Literal) → IsMade es g →
    ((l : Literal) → holds lits l ≡ true → IsPlain es l) → (l : Literal)
    → holds (opposite g.selector ∷ lits) l ≡ true → Stands es l
given_stands es g lits made plain l h =
    search (arith, holds_cases, is_some, opposite_variable, opposite-negative, false≢true)

pub given_grouped : (es : List Entry) (g : Group) (lits clause : List Literal) → IsMade es g →
    ((l : Literal) → holds lits l ≡ true → IsPlain es l) → clause ≡ opposite g.selector ∷ lits
    → IsOfGroup es clause
given_grouped es g lits clause made plain is = search (arith, false≢true)

nothing_held : (id : ℕ) → live_in [] id ≡ clause_at [] id
nothing_held zero = refl
nothing_held (suc i) = slice_get_past [] i (omega arith)

-- a solver without clauses and variables goes with a log without entries
fit_first : Fit [] 0 []
fit_first = search (arith, nothing_held, false≢true)

pub held_first : HeldFit [] [] 0 []
held_first = search (arith, fit_first, false≢true, slice_get_within)
