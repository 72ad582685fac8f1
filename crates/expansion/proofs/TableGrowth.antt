-- How a table's part of the log grows by an arbiter's name or by an instance.
use Rattle.std.proofs.Common.{◌≡◌, ℕ, zero, suc, ◌+◌, ◌<◌, ◌≤◌, ◌==◌, ◌⊎◌, inl, inr, Bool, true, false, cond, List, [], ◌∷◌, map, length, slice_get, Option, Some, None, refl, sym, ◌∙◌, ap, subst, arith}
use Rattle.std.specs.List.{Contains, list_any}
use Rattle.list_laws.proofs.Numbers.{below_or_here}
use Rattle.dq_lits.specs.Literal.{Literal}
use Rattle.dq_lits.specs.Formula.{Dqbf, Existential}
use Rattle.dq_lits.specs.Expansion.{universal_literal_true}
use Rattle.hint_log.specs.Conditions.{AreLogged}
use Rattle.hint_log.specs.Entries.{Entry, Named, Given, name_of}
use Rattle.hint_log.specs.Naming.{arbiter}
use Rattle.hint_log.specs.declared.names.Name.{Name}
use Rattle.hint_log.specs.declared.names.Name.TheVariants.{Pair}
use Rattle.hint_log.specs.declared.origins.Origin.TheVariants.{Instance}
use Rattle.log_laws.specs.Engines.{instances, part}
use Rattle.log_laws.proofs.Kept.{named_stay, name_stays_by}
use Rattle.expansion.specs.Table.{TableState, HasInstance, IsOfPairs}
use Rattle.expansion.specs.Adding.{with_row, IsNewPair, IsAddingPart}
use Rattle.expansion.proofs.InstanceModels.{own_name}

-- an arbiter's name is of the table's part
pub pair_own : (es : List Entry) (v k y : ℕ) → name_of es v ≡ Some (Pair k y) →
    name_of (part instances es) v ≡ Some (Pair k y)
pair_own [] v k y h = h
pair_own (Named w m ∷ es) v k y h = search (arith, (pair_own es v k y))
pair_own (Given o c ∷ es) v k y h = search (arith, (pair_own es v k y h))
pair_own (_ ∷ es) v k y h = pair_own es v k y h

-- what has no name has none in the part
pub unnamed_own : (es : List Entry) (v : ℕ) → AreLogged es → name_of es v ≡ None → name_of (part instances es) v ≡ None
unnamed_own es v logged none = by_name (name_of (part instances es) v) refl
  where
    by_name : (o : Option Name) → name_of (part instances es) v ≡ o → o ≡ None
    by_name None is = refl
    by_name (Some n) is = let there = own_name instances es v n logged is in cc

abbrev pub KeepsNames : List Entry → List Entry → Type 0
KeepsNames own after = (v : ℕ) (n : Name) → name_of own v ≡ Some n → name_of after v ≡ Some n

abbrev pub KeepsEntries : List Entry → List Entry → Type 0
KeepsEntries own after = (e : Entry) → Contains own e → Contains after e

pub more_keeps : (own : List Entry) (e : Entry) → KeepsEntries own (e ∷ own)
more_keeps own e x (k, lt, at) = (suc k, omega (arith, lt), at)

pub names_kept : (own after : List Entry) (g : Existential → Name) → KeepsNames own after →
    (vs : List ℕ) (ys : List Existential) →
    map (name_of own) vs ≡ map (λ y. Some (g y)) ys → map (name_of after) vs ≡ map (λ y. Some (g y)) ys
names_kept own after g keeps [] ys is = is
names_kept own after g keeps (v ∷ vs) [] is = cc
names_kept own after g keeps (v ∷ vs) (y ∷ ys) is = search (arith, (names_kept own after g keeps vs ys))

pub instance_kept : (f : Dqbf) (group : ℕ) (rows : List (List Bool)) (own after : List Entry) → KeepsNames own after →
    KeepsEntries own after → (k j : ℕ) (row : List Bool) (clause : List Literal)
    → HasInstance f group rows own k j row clause → HasInstance f group rows after k j row clause
instance_kept f group rows own after names entries k j row clause h = search (arith, named_stay)

-- an existential more has its arbiter's name, which may be an old one
pub one_more_named : (f : Dqbf) (t : TableState) (row : List Bool) (named given : ℕ) (own : List Entry) →
    IsAddingPart f t row named given own → IsAddingPart f t row (named + 1) given own
one_more_named f t row named given own p = search arith

pub new_named : (f : Dqbf) (t : TableState) (row : List Bool) (named given : ℕ) (own : List Entry) (v y : ℕ)
    (e : Existential) → name_of own v ≡ None → slice_get f.existentials named ≡ Some e
    → arbiter f (with_row t row) row e ≡ Pair (length t.rows + 1) y → IsAddingPart f t row named given own →
    IsAddingPart f t row (named + 1) given (Named v (Pair (length t.rows + 1) y) ∷ own)
new_named f t row named given own v y e none e_is first p = record {
  whole = p.whole;
  pairs_long = p.pairs_long;
  names = λ u k z is. by_bit u k z (u == v) is;
  given_before = λ k j c has. p.given_before k j c (inside k j c has);
  arbiters = λ k r vs row_is vs_are. names_kept own after (λ e. arbiter f (with_row t row) r e) keeps vs f.existentials
      (p.arbiters k r vs row_is vs_are);
  complete = λ k j r clause row_is clause_is live. instance_kept f t.group (with_row t row) own after keeps
      (more_keeps own (Named v P)) k j r clause (p.complete k j r clause row_is clause_is live);
  complete_so_far = λ j clause lt clause_is live. instance_kept f t.group (with_row t row) own after keeps
      (more_keeps own (Named v P)) (length t.rows) j row clause (p.complete_so_far j clause lt clause_is live);
}
  where
    P : Name
    P = Pair (length t.rows + 1) y

    after : List Entry
    after = Named v P ∷ own

    keeps : KeepsNames own after
    keeps = name_stays_by own v P none

    inside : (k j : ℕ) (c : List Literal) → Contains after (Given (Instance k j) c) →
        Contains own (Given (Instance k j) c)
    inside k j c (zero, lt, at) = cc
    inside k j c (suc i, lt, at) = (i, omega (arith, lt), at)

    by_bit : (u k z : ℕ) (b : Bool) → cond b (Some P) (name_of own u) ≡ Some (Pair k z) →
        ((k ≤ length t.rows) × IsOfPairs t.pairs u) ⊎ ((k ≡ length t.rows + 1) × IsNewPair f t row (named + 1) z)
    by_bit u k z true is = search arith
    by_bit u k z false is = (one_more_named f t row named given own p).names u k z is

-- a clause more is done: a universal makes it true, or its instance stands
pub one_more_done : (f : Dqbf) (t : TableState) (row : List Bool) (named given : ℕ) (own : List Entry)
    → ((clause : List Literal) → slice_get f.matrix given ≡ Some clause →
    list_any (universal_literal_true f row) clause ≡ false →
    HasInstance f t.group (with_row t row) own (length t.rows) given row clause)
    → IsAddingPart f t row named given own → IsAddingPart f t row named (given + 1) own
one_more_done f t row named given own here p = record {
  whole = p.whole;
  pairs_long = p.pairs_long;
  names = p.names;
  given_before = λ k j c has. weaker (p.given_before k j c has);
  arbiters = p.arbiters;
  complete = p.complete;
  complete_so_far = λ j clause lt clause_is live. by_place j clause clause_is live lt (below_or_here j given lt);
}
  where
    weaker : {k j : ℕ} → (k ≤ length t.rows) ⊎ ((k ≡ length t.rows + 1) × (j ≤ given)) →
        (k ≤ length t.rows) ⊎ ((k ≡ length t.rows + 1) × (j ≤ given + 1))
    weaker (inl old) = inl old
    weaker (inr (new, le)) = inr (new, omega (arith, le))

    by_place : (j : ℕ) (clause : List Literal) → slice_get f.matrix j ≡ Some clause →
        list_any (universal_literal_true f row) clause ≡ false → j < given + 1 → (j < given) ⊎ (j ≡ given)
        → HasInstance f t.group (with_row t row) own (length t.rows) j row clause
    by_place j clause clause_is live lt (inl before) = p.complete_so_far j clause before clause_is live
    by_place j clause clause_is live lt (inr now) = subst (λ i. HasInstance f t.group (with_row t row) own
        (length t.rows) i row clause) (sym now) (here clause (ap (slice_get f.matrix) (sym now) ∙ clause_is) live)
