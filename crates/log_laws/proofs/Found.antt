-- What is found in lists and logs.
use Rattle.std.proofs.Common.{◌≡◌, ℕ, zero, suc, ◌+◌, ◌<◌, ◌==◌, Bool, true, false, cond, ◌&&◌, List, [], ◌∷◌, ◌++◌, map, length, get_or, slice_get, Option, None, Some, refl, ap, subst, arith}
use Rattle.std.specs.List.{Contains, find, position_or_len}
use Rattle.std.specs.Option.{option_map}
use Rattle.std.proofs.lemmas.Bool.{eq-eqb}
use Rattle.list_laws.proofs.Members.{element_at}
use Rattle.dq_lits.specs.Literal.{Literal, variable_of, is_negative}
use Rattle.dq_lits.specs.Formula.{Existential, Dqbf}
use Rattle.hint_log.specs.Entries.{Entry, has_id, count, numbered, name_of, Given, Answer}
use Rattle.hint_log.specs.declared.names.Name.{Name}
use Rattle.hint_log.specs.Conditions.{MayFollow}
use Rattle.hint_log.specs.ProductiveLog.{MatchesOrigin, IsDerivedByHints}
use Rattle.log_laws.specs.Meaning.{IsSoundLog, IsSoundAnswer}
use Rattle.hint_log.specs.Growth.{Each}
use Rattle.hint_log.specs.Naming.{numbered_from_one, named_literal}

abbrev pub variable : Existential → ℕ
variable y = y.variable

-- what is there is found
pub find_there : (ys : List Existential) (v : ℕ) → Contains (map variable ys) v →
    find (λ z. z.variable == v) ys ≡ None → ⊥
find_there [] v (k, below, is) h = absurd (omega arith)
find_there (y ∷ ys) v (zero, below, is) h = search (arith, eq-eqb)
find_there (y ∷ ys) v (suc k, below, is) h = by_bit (λ g. find_there ys v
    (k, (let b : k < length (map variable ys) = omega arith in b), is) g) (y.variable == v) h where
      by_bit : (find (λ z. z.variable == v) ys ≡ None → ⊥) → (b : Bool) →
          cond b (Some y) (find (λ z. z.variable == v) ys) ≡ None → ⊥
      by_bit later true h = cc
      by_bit later false h = later h

pub numbered_among : {X : Type 0} (xs : List X) (j : ℕ) (x : X) → numbered_from_one xs j ≡ Some x → Contains xs x
numbered_among xs zero x h = cc
numbered_among xs (suc j) x h = element_at xs j x h

pub slice_get_at : {X : Type 0} (xs : List X) (k : ℕ) (d : X) → k < length xs → slice_get xs k ≡ Some (get_or xs k d)
slice_get_at [] k d h = absurd (omega arith)
slice_get_at (x ∷ xs) zero d h = refl
slice_get_at (x ∷ xs) (suc k) d h = let below : k < length xs = omega arith in slice_get_at xs k d below

pub position_small : (p : List Bool → Bool) (xs : List (List Bool)) (k : ℕ) (d : List Bool) → k < length xs →
    p (get_or xs k d) ≡ true → position_or_len p xs < length xs
position_small p [] k d below h = absurd (omega arith)
position_small p (x ∷ xs) zero d below h = rw h (omega arith)
position_small p (x ∷ xs) (suc k) d below h = search (arith, (position_small p xs k d))

pub position_append : (p : List Bool → Bool) (xs ys : List (List Bool)) → position_or_len p xs < length xs →
    position_or_len p (xs ++ ys) ≡ position_or_len p xs
position_append p [] ys h = absurd (omega arith)
position_append p (x ∷ xs) ys h = search (arith, (position_append p xs ys))

-- a literal that is named so
pub named_variable : (es : List Entry) (l : Literal) (n : Name) (b : Bool) (o : Option Name) →
    name_of es (variable_of l) ≡ o → option_map (λ m. named_literal m (is_negative l)) o ≡ Some (named_literal n b) →
    (name_of es (variable_of l) ≡ Some n) × (is_negative l ≡ b)
named_variable es l n b None e h = cc
named_variable es l n b (Some m) e h = search arith

-- a fact of each entry is one of this entry
pub each_at : (P : List Entry → Entry → Type 0) (more es : List Entry) (e : Entry) → Each P (more ++ e ∷ es) → P es e
each_at P [] es e h = h.0
each_at P (x ∷ more) es e h = each_at P more es e h.1

-- a weaker fact of each entry
pub each_weaker : (P Q : List Entry → Entry → Type 0) → ((earlier : List Entry) (e : Entry) → P earlier e → Q earlier e)
    → (es : List Entry) → Each P es → Each Q es
each_weaker P Q weaker [] h = tt
each_weaker P Q weaker (e ∷ es) h = (weaker es e h.0, each_weaker P Q weaker es h.1)

pub each_before : (P : List Entry → Entry → Type 0) (more es : List Entry) → Each P (more ++ es) → Each P es
each_before P [] es h = h
each_before P (x ∷ more) es h = each_before P more es h.1

-- of an entry and those before it
pub each_from : (P : List Entry → Entry → Type 0) (all more es : List Entry) (e : Entry) → all ≡ more ++ e ∷ es →
    Each P all → P es e × Each P es
each_from P all more es e is h = each_before P more (e ∷ es) (subst (Each P) is h)

-- what makes a log's answers right makes each one right
pub sound_answer : (f : Dqbf) (entries later earlier : List Entry) (clause : List Literal) (hints : List ℕ) →
    IsSoundLog f entries → entries ≡ later ++ Answer clause hints ∷ earlier → IsSoundAnswer f earlier clause hints
sound_answer f entries later earlier clause hints sound is =
    let e = Answer clause hints in
    let derived = each_from IsDerivedByHints entries later earlier e is sound.lemmas_are_derived in
    let given = (each_from (MatchesOrigin f) entries later earlier e is sound.givens_match_origins).1 in
    record {
      logged = (each_from MayFollow entries later earlier e is sound.logged).1;
      lemmas_are_derived = derived.1;
      derived = derived.0;
      givens_match_origins = λ more before origin c at reached. each_at (MatchesOrigin f) more before (Given origin c)
          (subst (Each (MatchesOrigin f)) at given);
    }

-- the place of a numbered entry
pub split_at : (es : List Entry) (id : ℕ) (e : Entry) → numbered has_id es id ≡ Some e →
    (more : List Entry) × (earlier : List Entry) × (es ≡ more ++ e ∷ earlier)
split_at [] id e h = cc
split_at (x ∷ es) id e h = by_bit (split_at es id e) (has_id x && (id == count has_id es + 1)) h where
  by_bit : (numbered has_id es id ≡ Some e → (more : List Entry) × (earlier : List Entry) × (es ≡ more ++ e ∷ earlier))
      → (b : Bool) → cond b (Some x) (numbered has_id es id) ≡ Some e →
      (more : List Entry) × (earlier : List Entry) × (x ∷ es ≡ more ++ e ∷ earlier)
  by_bit later true h = let same : x ≡ e = cc in ([], es, ap (λ y. y ∷ es) same)
  by_bit later false h = let r = later h in (x ∷ r.0, r.1, ap (λ ys. x ∷ ys) r.2)
