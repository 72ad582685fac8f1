-- Watches guard, as they move and as a trail grows.
use Rattle.std.proofs.Common.{◌≡◌, ℕ, zero, suc, true, false, inl, inr, List, [], ◌∷◌, ◌++◌, Option, None, Some, slice_get, All, refl, sym, ◌∙◌, ap, arith}
use Rattle.std.specs.List.{list_any}
use Rattle.std.proofs.lemmas.Bool.{cases_Bool, false≢true}
use Rattle.std.proofs.lemmas.List.Elements.{All-head, All-tail}
use Rattle.dq_lits.specs.Literal.{Literal, opposite, same_literal}
use Rattle.dq_lits.specs.Derivation.{stuck, falsified, unit, holds, status_of}
use Rattle.dq_lits.proofs.Truth.{same_literal-sound}
use Rattle.dq_lits.proofs.HeldLiterals.{any_one, any_gives, holds_cases, holds_here, holds_later}
use Rattle.dq_lits.proofs.SignedLiterals.{same_literal-refl, opposite-opposite, same_literal-differs}
use Rattle.hint_log.specs.ProductiveLog.{IsClosed}
use Rattle.oracle.specs.Fit.{live_in}
use Rattle.learning_trail.specs.declared.trails.Step.{Step}
use Rattle.learning_trail.specs.Steps.{literals_of, is_decision, Grown}
use Rattle.cdcl_core.specs.Chains.{watch_at}
use Rattle.cdcl_core.specs.Watching.{AreWatched, AreSame, AreShort, Guards, AreShortTrue, IsGuarded, AreLevelsGuarded, IsMove, AreMoved}
use Rattle.learning_trail.proofs.ConflictAnalysis.{AreConsistent}
use Rattle.dq_lits.proofs.LiteralValues.{same_literal-sym}
use Rattle.learning_trail.proofs.StatusLaws.{is_falsified, is_unit, stuck_from_true, stuck_from_two}

abbrev pub Among : List Literal → List Literal → Type 0
Among few many = (t : Literal) → holds few t ≡ true → holds many t ≡ true

pub among_suffix : (popped steps : List Step) → Among (literals_of steps) (literals_of (popped ++ steps))
among_suffix [] steps t h = h
among_suffix (s ∷ popped) steps t h = search (arith, holds_later, (among_suffix popped steps t h))

pub among_grown : (old new : List Step) → Grown old new → Among (literals_of old) (literals_of new)
among_grown old new grown t h = ap (λ xs. holds (literals_of xs) t) grown.is ∙ among_suffix grown.more old t h

pub any_more : (few many c : List Literal) → Among few many → list_any (holds few) c ≡ true →
    list_any (holds many) c ≡ true
any_more few many c among h = let g = any_gives (holds few) c h in any_one (holds many) c g.0 g.1 (among g.0 g.2)

pub watched_turned : (clauses : List (List Literal)) (these others : List Literal) → AreWatched clauses these others →
    AreWatched clauses others these
watched_turned clauses these others w i c at = record {
  two = λ n. let h = (w i c at).two (same_literal-differs (watch_at others i) (watch_at these i) n) in (h.1, h.0);
  one = λ s x m.
      let e : watch_at others i ≡ watch_at these i = same_literal-sound (watch_at others i) (watch_at these i) s in
      (w i c at).one (same_literal-sym (watch_at others i) (watch_at these i) s) x m ∙ sym e;
}

-- the side that moved
pub guards_moved : (trues old_trues new_trues processed old new others : List Literal) → AreMoved trues old new others →
    Among processed trues → Among old_trues new_trues
    → Guards processed old_trues old others → Guards processed new_trues new others
guards_moved trues old_trues new_trues processed old new others moved among grown guards i apart is_false =
    search (arith, false≢true)

-- the other side
pub guards_beside : (trues old_trues new_trues processed old new others : List Literal) →
    AreMoved trues old new others → AreConsistent trues → Among old_trues trues → Among old_trues new_trues
    → Guards processed old_trues others old → Guards processed new_trues others new
guards_beside trues old_trues new_trues processed old new others moved consistent inside grown guards i apart
    is_false =
    search (arith, same_literal-differs)

pub short_moved : (clauses : List (List Literal)) (trues old_trues new_trues old new others : List Literal) →
    AreMoved trues old new others → Among old_trues new_trues
    → AreShortTrue clauses old others old_trues → AreShortTrue clauses new others new_trues
short_moved clauses trues old_trues new_trues old new others moved grown short i c at same = elim (moved i) [
  | inl e ↦ any_more old_trues new_trues c grown (short i c at
      (ap (λ l. same_literal l (watch_at others i)) (sym e) ∙ same))
  | inr m ↦ absurd (false≢true (sym m.apart ∙ same))
]

pub short_turned : (clauses : List (List Literal)) (first second trues : List Literal) →
    AreShortTrue clauses first second trues → AreShortTrue clauses second first trues
short_turned clauses first second trues short i c at same = search (arith, same_literal-sym)

-- all that guards, where the first side moved
pub guarded_moved : (clauses : List (List Literal)) (trues old_trues new_trues processed old new others : List Literal)
    → AreMoved trues old new others → AreConsistent trues
    → Among processed trues → Among old_trues trues → Among old_trues new_trues →
    IsGuarded clauses old others processed old_trues → IsGuarded clauses new others processed new_trues
guarded_moved clauses trues old_trues new_trues processed old new others moved consistent among inside grown g =
    search (arith, guards_moved, guards_beside, short_moved)

pub guarded_turned : (clauses : List (List Literal)) (first second processed trues : List Literal) →
    IsGuarded clauses first second processed trues → IsGuarded clauses second first processed trues
guarded_turned clauses first second processed trues g = search (arith, short_turned)

pub guarded_grown : (clauses : List (List Literal)) (first second processed old_trues new_trues : List Literal) →
    Among old_trues new_trues → IsGuarded clauses first second processed old_trues
    → IsGuarded clauses first second processed new_trues
guarded_grown clauses first second processed old_trues new_trues grown g = record {
  first_guards = λ i n f. grown (watch_at second i) (g.first_guards i n f);
  second_guards = λ i n f. grown (watch_at first i) (g.second_guards i n f);
  short = λ i c at same. any_more old_trues new_trues c grown (g.short i c at same);
}

-- at each level's end
pub levels_moved : (clauses : List (List Literal)) (trues old new others : List Literal) (steps : List Step) →
    AreMoved trues old new others → AreConsistent trues → Among (literals_of steps) trues
    → AreLevelsGuarded clauses old others steps → AreLevelsGuarded clauses new others steps
levels_moved clauses trues old new others [] moved consistent among levels = tt
levels_moved clauses trues old new others (s ∷ earlier) moved consistent among levels =
    let below : Among (literals_of earlier) trues = λ t h. among t (holds_later s.literal (literals_of earlier) t h) in
    let here = literals_of earlier in (
      λ d. guarded_moved clauses trues here here here old new others moved consistent below below (λ t h. h)
          (levels.0 d),
      levels_moved clauses trues old new others earlier moved consistent below levels.1,
    )

pub levels_turned : (clauses : List (List Literal)) (first second : List Literal) (steps : List Step) →
    AreLevelsGuarded clauses first second steps → AreLevelsGuarded clauses second first steps
levels_turned clauses first second [] levels = tt
levels_turned clauses first second (s ∷ earlier) levels =
    search (arith, guarded_turned, (levels_turned clauses first second earlier levels.1))

levels_more : (clauses : List (List Literal)) (first second : List Literal) (more old : List Step) →
    All (λ s. is_decision s ≡ false) more → AreLevelsGuarded clauses first second old
    → AreLevelsGuarded clauses first second (more ++ old)
levels_more clauses first second [] old implied levels = levels
levels_more clauses first second (s ∷ more) old implied levels = (
  λ d. absurd (false≢true (sym (All-head (λ (k : Step). is_decision k ≡ false) s more implied) ∙ d)),
  levels_more clauses first second more old (All-tail (λ (k : Step). is_decision k ≡ false) s more implied) levels,
)

pub levels_grown : (clauses : List (List Literal)) (first second : List Literal) (old new : List Step) → Grown old new →
    AreLevelsGuarded clauses first second old → AreLevelsGuarded clauses first second new
levels_grown clauses first second old new grown levels = search (arith, levels_more)

pub levels_later : (clauses : List (List Literal)) (first second : List Literal) (popped steps : List Step) →
    AreLevelsGuarded clauses first second (popped ++ steps) → AreLevelsGuarded clauses first second steps
levels_later clauses first second [] steps levels = levels
levels_later clauses first second (s ∷ popped) steps levels = levels_later clauses first second popped steps levels.1

-- the notes on short clauses
pub short_kept : (clauses : List (List Literal)) (trues old new others : List Literal) (short : List ℕ) →
    AreMoved trues old new others → AreShort clauses old others short → AreShort clauses new others short
short_kept clauses trues old new others short moved notes = search (arith, false≢true)

pub short_notes_turned : (clauses : List (List Literal)) (first second : List Literal) (short : List ℕ) →
    AreShort clauses first second short → AreShort clauses second first short
short_notes_turned clauses first second short notes = search (arith, same_literal-sym, same_literal-sound)

-- a clause with one literal that is stuck is true
pub same_stuck : (trues c : List Literal) → AreSame c → status_of trues (Some c) ≡ stuck →
    list_any (holds trues) c ≡ true
same_stuck trues [] same h = let n : falsified ≡ stuck = h in cc
same_stuck trues (x ∷ c) same h = elim (cases_Bool (holds trues x)) [
  | inl on ↦ any_one (holds trues) (x ∷ c) x (holds_here x c) on
  | inr off ↦ elim (cases_Bool (holds trues (opposite x))) [
    | inl is_false ↦
        let f = is_falsified trues (x ∷ c) (λ l m. ap (λ k. holds trues (opposite k)) (same l x m (holds_here x c))
        ∙ is_false) in
        let clash : falsified ≡ stuck = sym f ∙ h in
        cc
    | inr free ↦
        let u = is_unit trues (x ∷ c) x (holds_here x c) (λ l m n. absurd (n (same l x m (holds_here x c))))
        (off, free) in
        let clash : unit x ≡ stuck = sym u ∙ h in
        cc
  ]
]

-- where everything was processed, no clause is unit or falsified
pub guarded_closed : (clauses : List (List Literal)) (first second trues : List Literal) →
    AreWatched clauses first second → AreConsistent trues → IsGuarded clauses first second trues trues
    → IsClosed (live_in clauses) trues
guarded_closed clauses first second trues watched consistent g zero = refl
guarded_closed clauses first second trues watched consistent g (suc i) = by (slice_get clauses i) refl
  where
    off : (l : Literal) → holds trues l ≡ true → holds trues (opposite l) ≡ false
    off l on = elim (cases_Bool (holds trues (opposite l))) [ inl t ↦ absurd (consistent l on t) | inr f ↦ f ]

    at : (c : List Literal) → slice_get clauses i ≡ Some c → status_of trues (Some c) ≡ stuck
    at c is =
        let k = watch_at first i in
        let l = watch_at second i in
        elim (cases_Bool (same_literal k l)) [
          | inl same ↦
              let t = any_gives (holds trues) c (g.short i c is same) in
              stuck_from_true trues c t.0 t.1 t.2 (off t.0 t.2)
          | inr apart ↦
              let two = (watched i c is).two apart in
              elim (cases_Bool (holds trues (opposite k))) [
                | inl f ↦ let on = g.first_guards i apart f in stuck_from_true trues c l two.1 on (off l on)
                | inr kf ↦ elim (cases_Bool (holds trues (opposite l))) [
                  | inl f ↦ let on = g.second_guards i (same_literal-differs k l apart) f in
                      stuck_from_true trues c k two.0 on (off k on)
                  | inr lf ↦ stuck_from_two trues c k l two.0 two.1
                      (λ e. false≢true (sym apart ∙ ap (same_literal k) (sym e) ∙ same_literal-refl k)) kf lf
                ]
              ]
        ]

    by : (o : Option (List Literal)) → slice_get clauses i ≡ o → status_of trues (slice_get clauses i) ≡ stuck
    by None e = ap (status_of trues) e
    by (Some c) e = ap (status_of trues) e ∙ at c e

-- the literal that was visited is processed too
pub guards_visited : (trues these others processed : List Literal) (l : Literal) → Guards processed trues these others
    → ((i : ℕ) → same_literal (watch_at these i) (watch_at others i) ≡ false → watch_at these i ≡ l →
    holds trues (watch_at others i) ≡ true)
    → Guards (opposite l ∷ processed) trues these others
guards_visited trues these others processed l guards done i apart is_false =
    search (arith, holds_cases, opposite-opposite)

-- moves behind one another
pub moved_both : (trues now_trues old now new others : List Literal) → Among trues now_trues →
    AreMoved trues old now others → AreMoved now_trues now new others
    → ((i : ℕ) → IsMove now_trues (watch_at now i) (watch_at new i) (watch_at others i) →
    holds trues (opposite (watch_at now i)) ≡ true)
    → AreMoved trues old new others
moved_both trues now_trues old now new others among first second here i = search (arith, cases_Bool, false≢true)
