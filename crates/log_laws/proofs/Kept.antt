-- What stays as a log grows: names, ids of clauses, and what holds of each entry that was added.
use Rattle.std.proofs.Common.{◌≡◌, ℕ, ◌+◌, ◌≤◌, ◌==◌, ◌&&◌, Bool, true, false, cond, ◌⊎◌, inl, inr, List, [], ◌∷◌, ◌++◌, Some, None, refl, sym, ◌∙◌, ap, arith, subst, IsSome}
use Rattle.std.specs.Option.{option_and_then}
use Rattle.std.proofs.lemmas.Bool.{eqb-true, cond-false, ne_eqb, eq-eqb, false≢true}
use Rattle.dq_lits.specs.Literal.{Literal, negative}
use Rattle.hint_log.specs.Entries.{Entry, Named, name_of, has_id, last_id, numbered, clause_of, clause_at, Given}
use Rattle.hint_log.specs.Growth.{EachOf}
use Rattle.hint_log.specs.Naming.{NamedLiteral, name_literal, AreNamedAs}
use Rattle.hint_log.specs.declared.names.Name.{Name}
use Rattle.std.specs.List.{Contains}
use Rattle.list_laws.proofs.Members.{contains_cases}
use Rattle.hint_log.specs.declared.origins.Origin.{Origin}
use Rattle.hint_log.specs.Conditions.{AreNamed}
use Rattle.log_laws.specs.Engines.{IsInGroup}

abbrev pub NamesStay : List Entry → List Entry → Type 0
NamesStay old new = (v : ℕ) (n : Name) → name_of old v ≡ Some n → name_of new v ≡ Some n

pub literal_stays : (old new : List Entry) → NamesStay old new → (l : Literal) (n : NamedLiteral) →
    name_literal old l ≡ Some n → name_literal new l ≡ Some n
literal_stays old new stay l n is = search arith

pub named_stay : (old new : List Entry) → NamesStay old new → (ls : List Literal) (ns : List NamedLiteral) →
    AreNamedAs old ls ns → AreNamedAs new ls ns
named_stay old new stay [] [] h = refl
named_stay old new stay [] (n ∷ ns) h = cc
named_stay old new stay (l ∷ ls) [] h = cc
named_stay old new stay (l ∷ ls) (n ∷ ns) h = search (arith, literal_stays, (named_stay old new stay ls ns))

-- a name more
pub name_stays_by : (es : List Entry) (v : ℕ) (m : Name) → name_of es v ≡ None → NamesStay es (Named v m ∷ es)
name_stays_by es v m unnamed w n is = search (arith, cond-false, ne_eqb)

pub name_cases : (es : List Entry) (v w : ℕ) (m n : Name) → name_of (Named v m ∷ es) w ≡ Some n →
    ((w ≡ v) × (m ≡ n)) ⊎ (name_of es w ≡ Some n)
name_cases es v w m n is = search (arith, eqb-true)

-- a clause has an id no later than the last one
pub small_id : (es : List Entry) (id : ℕ) (c : List Literal) → clause_at es id ≡ Some c → id ≤ last_id es
small_id [] id c h = cc
small_id (x ∷ es) id c h = by (has_id x) (id == last_id es + 1) refl (small_id es id c) h
  where
    by : (a b : Bool) → (id == last_id es + 1) ≡ b → (clause_at es id ≡ Some c → id ≤ last_id es) →
        option_and_then clause_of (cond (a && b) (Some x) (numbered has_id es id)) ≡ Some c
        → id ≤ cond a (last_id es + 1) (last_id es)
    by true true same before is = let at = eqb-true id (last_id es + 1) same in omega (arith, at)
    by true false other before is = let le = before is in omega (arith, le)
    by false b other before is = before is

pub each_of_weaker : (P Q : List Entry → Entry → Type 0) → ((earlier : List Entry) (e : Entry) → P earlier e →
    Q earlier e) → (more old : List Entry) → EachOf P more old → EachOf Q more old
each_of_weaker P Q weaker [] old h = tt
each_of_weaker P Q weaker (e ∷ more) old h = (weaker (more ++ old) e h.0, each_of_weaker P Q weaker more old h.1)

-- a given clause has an id
pub given_id : (es : List Entry) (o : Origin) (c : List Literal) → Contains es (Given o c) →
    (id : ℕ) × (clause_at es id ≡ Some c)
given_id [] o c (k, lt, at) = absurd (omega (arith, lt))
given_id (x ∷ es) o c h = elim (contains_cases x (Given o c) es h) [
  | inl here ↦ (
    last_id es + 1,
    subst (λ e. clause_at (e ∷ es) (last_id es + 1) ≡ Some c) (sym here)
        (ap (λ b. option_and_then clause_of (cond b (Some (Given o c)) (numbered has_id es (last_id es + 1))))
        (eq-eqb (last_id es + 1) (last_id es + 1) refl)),
  )
  | inr behind ↦
      (let before = given_id es o c behind in
      let small = small_id es before.0 c before.1 in
      (before.0, past before.0 (has_id x) (before.0 == last_id es + 1) refl small before.1))
] where
  past : (id : ℕ) (a b : Bool) → (id == last_id es + 1) ≡ b → id ≤ last_id es → clause_at es id ≡ Some c →
      option_and_then clause_of (cond (a && b) (Some x) (numbered has_id es id)) ≡ Some c
  past id true true same small is = let at = eqb-true id (last_id es + 1) same in absurd (omega (arith, at, small))
  past id true false other small is = is
  past id false b other small is = is

-- what has no name later had none earlier
pub unnamed_earlier : (first start : List Entry) → NamesStay first start → (v : ℕ) → name_of start v ≡ None →
    name_of first v ≡ None
unnamed_earlier first start stay v unnamed = search arith

pub some_stays : (old new : List Entry) → NamesStay old new → (v : ℕ) → IsSome (name_of old v) → IsSome (name_of new v)
some_stays old new stay v some = search (arith, false≢true)

-- a clause of a group stands on the group's variable, which has a name
pub in_unnamed : (es : List Entry) (g : ℕ) (c : List Literal) → AreNamed es c → name_of es g ≡ None → IsInGroup g c → ⊥
in_unnamed es g c named none inside = search arith

pub in_one_group : (g h : ℕ) (c : List Literal) → IsInGroup g c → IsInGroup h c → g ≡ h
in_one_group g h c a b = let e : negative g ∷ a.0 ≡ negative h ∷ b.0 = sym a.1 ∙ b.1 in cc
