-- Variables of given clauses get their names.
use Rattle.std.proofs.Common.{◌≡◌, ℕ, ◌++◌, true, false, is_some, ◌+◌, ◌≤◌, ◌<◌, ◌⊎◌, inl, inr, List, [], ◌∷◌, take, length, get_or, Option, None, Some, IsSome, refl, sym, ◌∙◌, ap, subst, arith}
use Rattle.std.specs.List.{All, Contains, cons_option}
use Rattle.std.specs.Option.{option_map}
use Rattle.std.proofs.lemmas.Bool.{true≢false}
use Rattle.std.proofs.lemmas.List.{take_all, take_more}
use Rattle.std.proofs.lemmas.List.Elements.{All-push, All-head, All-tail}
use Rattle.list_laws.proofs.Members.{last_or_inside}
use Rattle.dq_lits.specs.Literal.{Literal, variable_of, on_variable}
use Rattle.hint_log.specs.Entries.{Entry, Given, has_id, numbered, clause_at, origin_at}
use Rattle.hint_log.specs.declared.origins.Origin.{Origin}
use Rattle.cert_export.specs.Renaming.{Renaming, renamed_literal, renamed_clause, IsPartOf, IsNamed, AreNamedIn, IsRenamingOf}

-- one variable more has its name
pub right_with : (target old new : Renaming) (v x : ℕ) → target v ≡ Some x → IsPartOf old target →
    ((w n : ℕ) → new w ≡ Some n → (old w ≡ Some n) ⊎ ((w ≡ v) × (n ≡ x))) → IsPartOf new target
right_with target old new v x is right only w n h = search arith

-- a name that is part of the other renaming's, and is there, is the same
pub named_as : (target r : Renaming) (v : ℕ) → IsPartOf r target → IsSome (r v) → r v ≡ target v
named_as target r v right there = search arith

-- it stays so with more names
pub named_still : (target old new : Renaming) (l : Literal) → IsPartOf old new → IsPartOf new target →
    IsNamed target old l → IsNamed target new l
named_still target old new l kept right named = search arith

-- so far these literals are named
pub record NamedSoFar (target old new : Renaming) (done : List Literal) : Type 0 where
  pub kept : IsPartOf old new
  pub right : IsPartOf new target
  pub named : All (IsNamed target new) done

pub one_named : (target old mid new : Renaming) (lits : List Literal) (i : ℕ) (l : Literal) →
    NamedSoFar target old mid (take i lits) →
    IsPartOf mid new → IsPartOf new target → IsNamed target new l → i < length lits → l ≡ get_or lits i l →
    NamedSoFar target old new (take (i + 1) lits)
one_named target old mid new lits i l so_far kept right here below l_is =
    let P = IsNamed target new in
    record {
      kept = λ v x h. kept v x (so_far.kept v x h);
      right = right;
      named = subst (All P) (sym (take_more lits i l below))
          (All-push P (take i lits) (get_or lits i l) (λ k d less. named_still target mid new
          (get_or (take i lits) k d) kept right (so_far.named k d less)) (subst P l_is here));
    }

pub all_named : (target old new : Renaming) (lits : List Literal) (i : ℕ) → length lits ≤ i →
    NamedSoFar target old new (take i lits) → AreNamedIn target new lits
all_named target old new lits i past so_far = record {
  right = so_far.right;
  named =
      subst (All (IsNamed target new)) (take_all i lits past) so_far.named;
}

pub renamed_as : (target r : Renaming) (lits : List Literal) → All (IsNamed target r) lits →
    renamed_clause r lits ≡ renamed_clause target lits
renamed_as target r [] named = refl
renamed_as target r (l ∷ ls) named =
    let P = IsNamed target r in
    ap (λ o. cons_option (option_map (λ w. on_variable w l) o) (renamed_clause r ls)) (All-head P l ls named)
    ∙ ap (λ rest. cons_option (renamed_literal target l) rest) (renamed_as target r ls (All-tail P l ls named))

-- the given clauses among the first so many ids are named
pub record GivenNamed (target : Renaming) (entries : List Entry) (r : Renaming) (done : List ℕ) : Type 0 where
  pub right : IsPartOf r target
  pub named : (id : ℕ) (origin : Origin) (c : List Literal) → Contains done id →
      numbered has_id entries id ≡ Some (Given origin c) → All (IsNamed target r) c

pub one_given : (target : Renaming) (entries : List Entry) (old new : Renaming) (ids : List ℕ) (i id : ℕ) →
    GivenNamed target entries old (take i ids) → IsPartOf old new → IsPartOf new target →
    i < length ids → id ≡ get_or ids i id → ((origin : Origin) (c : List Literal) →
    numbered has_id entries id ≡ Some (Given origin c) → All (IsNamed target new) c) →
    GivenNamed target entries new (take (i + 1) ids)
one_given target entries old new ids i id so_far kept right below id_is here = record {
  right = right;
  named = λ h origin c inside at. by_place h origin c at (subst (λ xs. Contains xs h)
      (take_more ids i id below) inside);
} where
  P : Literal → Type 0
  P = IsNamed target new

  by_place : (h : ℕ) (origin : Origin) (c : List Literal) → numbered has_id entries h ≡ Some (Given origin c) →
      Contains (take i ids ++ get_or ids i id ∷ []) h → All (IsNamed target new) c
  by_place h origin c at inside = elim (last_or_inside (take i ids) (get_or ids i id) h inside) [
    | inl before ↦ λ k d less. named_still target old new (get_or c k d) kept right
        (so_far.named h origin c before at k d less)
    | inr same ↦ here origin c (ap (numbered has_id entries) (id_is ∙ same) ∙ at)
  ]

pub all_given : (target : Renaming) (entries : List Entry) (r : Renaming) (ids : List ℕ) (i : ℕ) → length ids ≤ i →
    GivenNamed target entries r (take i ids) → IsRenamingOf target entries ids r
all_given target entries r ids i past so_far = record {
  right = so_far.right;
  whole = λ id origin c inside at. renamed_as target r c (so_far.named id origin c
      (subst (λ xs. Contains xs id) (sym (take_all i ids past)) inside) at);
}

-- the clause of a given entry
pub given_here : (target : Renaming) (entries : List Entry) (r : Renaming) (id : ℕ) (clause : List Literal) →
    clause_at entries id ≡ Some clause → All (IsNamed target r) clause →
    (origin : Origin) (c : List Literal) → numbered has_id entries id ≡ Some (Given origin c) → All (IsNamed target r) c
given_here target entries r id clause there named origin c at = search arith

-- an id without an origin isn't a given one's
pub none_here : (target : Renaming) (entries : List Entry) (r : Renaming) (id : ℕ) →
    is_some (origin_at entries id) ≡ false →
    (origin : Origin) (c : List Literal) → numbered has_id entries id ≡ Some (Given origin c) → All (IsNamed target r) c
none_here target entries r id none origin c at = search (arith, true≢false)

-- the given entry of an origin
pub given_of : (es : List Entry) (id : ℕ) (o : Origin) → origin_at es id ≡ Some o →
    (c : List Literal) × (numbered has_id es id ≡ Some (Given o c))
given_of es id o at = search arith

-- what is known of the clause of an origin
pub known_clause : (P : Origin → List Literal → Type 0) (entries : List Entry) (ids : List ℕ) (id : ℕ) (origin : Origin)
    (clause : List Literal) → ((i : ℕ) (o : Origin) (c : List Literal) → Contains ids i →
    numbered has_id entries i ≡ Some (Given o c) → P o c) → Contains ids id →
    origin_at entries id ≡ Some origin → clause_at entries id ≡ Some clause → P origin clause
known_clause P entries ids id origin clause known inside own there = search (arith, given_of)

-- what is known of the given clauses among the ids
pub known_of : (P : ℕ → Type 0) (entries : List Entry) (ids : List ℕ) (id : ℕ) (clause : List Literal)
    → ((i : ℕ) (origin : Origin) (c : List Literal) → Contains ids i →
    numbered has_id entries i ≡ Some (Given origin c) → All (λ l. P (variable_of l)) c)
    → Contains ids id → is_some (origin_at entries id) ≡ true → clause_at entries id ≡ Some clause →
    All (λ l. P (variable_of l)) clause
known_of P entries ids id clause known inside given there = by_origin (origin_at entries id) refl given where
  by_origin : (o : Option Origin) → origin_at entries id ≡ o → is_some o ≡ true → All (λ l. P (variable_of l)) clause
  by_origin None is h = cc
  by_origin (Some origin) is h = search (arith, known_clause)
