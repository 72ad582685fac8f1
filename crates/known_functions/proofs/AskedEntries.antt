-- A question names nothing and gives nothing: what it adds to the log are learned clauses, and answers
-- that decide nothing.
use Rattle.std.proofs.Common.{◌≡◌, ℕ, true, List, [], ◌∷◌, ◌++◌, None, refl, sym, ◌∙◌, ap, subst, arith, append_assoc}
use Rattle.std.specs.List.{Contains}
use Rattle.std.proofs.lemmas.Bool.{eq-eqb}
use Rattle.std.proofs.lemmas.List.Elements.{Contains-append_right}
use Rattle.dq_lits.specs.Formula.{Dqbf}
use Rattle.hint_log.specs.Entries.{Entry, Named, Given, Learned, Answer, Round, Begun, ProofLog, name_of}
use Rattle.hint_log.specs.Growth.{EachOf, Grew}
use Rattle.hint_log.specs.declared.names.Name.{Name}
use Rattle.log_laws.specs.Engines.{copies, IsAddedBy}
use Rattle.definability.specs.Growing.{HasSameGivens}
use Rattle.definability.proofs.GivenClauses.{no_fault}
use Rattle.known_functions.specs.Searching.{IsAsked}

-- what has a name later has no name before only where it was named between
unnamed_before : (later old : List Entry) (v : ℕ) → name_of (later ++ old) v ≡ None → name_of old v ≡ None
unnamed_before [] old v none = none
unnamed_before (Named w name ∷ later) old v none = search (arith, (unnamed_before later old v))
unnamed_before (Given origin c ∷ later) old v none = unnamed_before later old v none
unnamed_before (Learned c hints ∷ later) old v none = unnamed_before later old v none
unnamed_before (Answer c hints ∷ later) old v none = unnamed_before later old v none
unnamed_before (Round row values j ∷ later) old v none = unnamed_before later old v none
unnamed_before (Begun live ∷ later) old v none = unnamed_before later old v none

-- whatever comes later, a variable that was named has a name
named_later : (later earlier : List Entry) (v : ℕ) (name : Name) →
    name_of (later ++ Named v name ∷ earlier) v ≡ None → ⊥
named_later [] earlier v name none = search (arith, eq-eqb)
named_later (e ∷ later) earlier v name none = search (arith, (named_later later earlier v name), unnamed_before)

first_in : (later : List Entry) (e : Entry) (earlier : List Entry) → Contains (later ++ e ∷ earlier) e
first_in later e earlier = Contains-append_right later (e ∷ earlier) e (0, omega arith, refl)

asked_each : (f : Dqbf) (old more : List Entry) → HasSameGivens old (more ++ old) → (later rest : List Entry) →
    more ≡ later ++ rest → EachOf (IsAddedBy f copies 0 true old) rest old → EachOf (IsAsked f) rest old
asked_each f old more same later [] is each = tt
asked_each f old more same later (Named v name ∷ rest) is each =
    search (arith, append_assoc, unnamed_before, named_later)
asked_each f old more same later (Given origin c ∷ rest) is each =
    let all : more ++ old ≡ later ++ Given origin c ∷ (rest ++ old) =
    ap (λ es. es ++ old) is ∙ append_assoc later (Given origin c ∷ rest) old in
    let there = same.givens origin c (subst (λ es. Contains es (Given origin c)) (sym all)
    (first_in later (Given origin c) (rest ++ old))) in
    absurd (each.0.not_repeated.first (no_fault origin each.0.own) c
    (Contains-append_right rest old (Given origin c) there))
asked_each f old more same later (Learned c hints ∷ rest) is each =
    search (arith, (asked_each f old more same (later ++ Learned c hints ∷ []) rest), append_assoc)
asked_each f old more same later (Answer c hints ∷ rest) is each =
    search (arith, (asked_each f old more same (later ++ Answer c hints ∷ []) rest), append_assoc)
asked_each f old more same later (Round row values j ∷ rest) is each = absurd each.0
asked_each f old more same later (Begun live ∷ rest) is each = absurd each.0

pub asked_alone : (f : Dqbf) (old new : ProofLog) → Grew (IsAddedBy f copies 0 true old.entries) old new →
    HasSameGivens old.entries new.entries → Grew (IsAsked f) old new
asked_alone f old new grew same = record {
  more = grew.more;
  grown = grew.grown;
  each = asked_each f old.entries grew.more (subst (HasSameGivens old.entries) grew.grown same) [] grew.more refl
      grew.each;
  limit = grew.limit;
}
