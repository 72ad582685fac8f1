-- Lemmas on what entries name and say.
use Rattle.std.proofs.Common.{◌≡◌, ℕ, ◌==◌, Bool, true, false, cond, List, ◌∷◌, Some, None, [], subst, zero, suc, arith, ◌≤◌, length, ◌++◌, sym, Option, refl, ◌+◌, ◌&&◌}
use Rattle.std.specs.List.{Contains}
use Rattle.std.proofs.lemmas.Option.{slice_get_within}
use Rattle.std.proofs.lemmas.List.{append_assoc}
use Rattle.std.proofs.lemmas.Bool.{eqb-true}
use Rattle.list_laws.proofs.Members.{contains_later, contains_first}
use Rattle.dq_lits.specs.Formula.{Dqbf}
use Rattle.dq_lits.specs.Literal.{Literal, negative, variable_of}
use Rattle.hint_log.specs.Entries.{Entry, Named, Begun, name_of, has_id, numbered, clause_at, last_id}
use Rattle.hint_log.specs.Growth.{Each, EachOf}
use Rattle.hint_log.specs.Live.{live_numbers, AreNumbers}
use Rattle.hint_log.specs.ProductiveSession.{MatchesLiveOrigin}
use Rattle.hint_log.specs.Naming.{numbered_from_one}
use Rattle.hint_log.specs.Conditions.{IsId}
use Rattle.hint_log.specs.declared.names.Name.TheVariants.{Selector}
use Rattle.hint_log.specs.declared.names.Name.{Name}

-- what has no name had none before
pub unnamed_before : (e : Entry) (es : List Entry) (v : ℕ) → name_of (e ∷ es) v ≡ None → name_of es v ≡ None
unnamed_before (Named w n) es v none = search arith
unnamed_before _ es v none = none

-- the live numbers are those of clauses
pub live_are_numbers : (all : Dqbf) (es : List Entry) (live : List ℕ) → Each (MatchesLiveOrigin all) es →
    live_numbers es ≡ Some live → AreNumbers all live
live_are_numbers all [] live given h = cc
live_are_numbers all (Begun numbers ∷ es) live given h = search arith
live_are_numbers all (_ ∷ es) live given h = live_are_numbers all es live given.1 h

-- a fact of each entry is one of this entry
pub each_one : (P : List Entry → Entry → Type 0) (es : List Entry) (e : Entry) → Each P es → Contains es e →
    (earlier : List Entry) × P earlier e
each_one P [] e each (k, lt, at) = absurd (omega (arith, lt))
each_one P (x ∷ es) e each (zero, lt, at) = (es, subst (P es) at each.0)
each_one P (x ∷ es) e each (suc k, lt, at) = each_one P es e each.1 (k, omega (arith, lt), at)

pub number_below : {X : Type 0} (xs : List X) (j : ℕ) (x : X) → numbered_from_one xs j ≡ Some x
    → (1 ≤ j) × (j ≤ length xs)
number_below xs zero x is = cc
number_below xs (suc k) x is = let below = slice_get_within xs k x is in (omega arith, omega (arith, below))

pub each_both : (P : List Entry → Entry → Type 0) (more first old : List Entry) → EachOf P more (first ++ old) →
    EachOf P first old → EachOf P (more ++ first) old
each_both P [] first old a b = b
each_both P (e ∷ more) first old a b = search (arith, append_assoc, (each_both P more first old a.1 b))

pub entry_known : (es : List Entry) (id : ℕ) (e : Entry) → numbered has_id es id ≡ Some e → (1 ≤ id) × (id ≤ last_id es)
entry_known [] id e at = cc
entry_known (x ∷ es) id e at = by (has_id x) refl (id == last_id es + 1) refl (λ h. entry_known es id e h) at
  where
    by : (a : Bool) → has_id x ≡ a → (b : Bool) → (id == last_id es + 1) ≡ b →
        (numbered has_id es id ≡ Some e → (1 ≤ id) × (id ≤ last_id es))
        → cond (a && b) (Some x) (numbered has_id es id) ≡ Some e →
        (1 ≤ id) × (id ≤ cond (has_id x) (last_id es + 1) (last_id es))
    by true p true q before h =
        let same : id ≡ last_id es + 1 = eqb-true id (last_id es + 1) q in
        (omega (arith, same), subst (λ a. id ≤ cond a (last_id es + 1) (last_id es)) (sym p) (omega (arith, same)))
    by true p false q before h = let r = before h in let high = r.1 in
        (r.0, subst (λ a. id ≤ cond a (last_id es + 1) (last_id es)) (sym p) (omega (arith, high)))
    by false p b q before h = let r = before h in (
      r.0,
      subst (λ a. id ≤ cond a (last_id es + 1) (last_id es))
          (sym p) r.1,
    )

pub clause_known : (es : List Entry) (id : ℕ) (c : List Literal) → clause_at es id ≡ Some c → IsId es id
clause_known es id c at = search (arith, entry_known)

pub is_selector_here : (es : List Entry) (g : ℕ) (l : Literal) → name_of es g ≡ Some (Selector g) → l ≡ negative g →
    (l ≡ negative (variable_of l)) × (name_of es (variable_of l) ≡ Some (Selector (variable_of l)))
is_selector_here es g l named h = search arith

pub numbered_low : (xs : List (List Literal)) (j : ℕ) (c : List Literal) → numbered_from_one xs j ≡ Some c →
    (1 ≤ j) × (j ≤ length xs)
numbered_low xs zero c is = cc
numbered_low xs (suc i) c is = let below = slice_get_within xs i c is in (omega arith, omega (arith, below))

pub none_below : (b : Bool) (n : Name) (o : Option Name) → cond b (Some n) o ≡ None → o ≡ None
none_below true n o h = cc
none_below false n o h = h

-- a name stands in the log
pub named_contains : (es : List Entry) (v : ℕ) (n : Name) → name_of es v ≡ Some n → Contains es (Named v n)
named_contains [] v n is = cc
named_contains (Named w m ∷ es) v n is =
    search (arith, (named_contains es v n), eqb-true, contains_first, contains_later)
named_contains (e ∷ es) v n is = contains_later e (Named v n) es (named_contains es v n is)
