-- A variable of a store that has all parts counts as one that has copies.
use Rattle.std.proofs.Common.{◌≡◌, ℕ, ◌<◌, ◌≤◌, true, ◌⊎◌, inl, inr, List, length, set, refl, sym, ◌∙◌, ap, arith, subst, zero, suc, ◌+◌, Bool, [], ◌∷◌, get_or, slice_get, Some}
use Rattle.std.proofs.lemmas.List.{get_or-set_other, length-set}
use Rattle.list_laws.proofs.Numbers.{same_or_not}
use Rattle.dq_lits.specs.Formula.{Dqbf}
use Rattle.hint_log.specs.Conditions.{AreLogged}
use Rattle.hint_log.specs.Entries.{ProofLog}
use Rattle.definability.specs.Copies.{is_copied_at, IsCopied}
use Rattle.definability.specs.Following.{IsFollowing, HasMore, CanGiveCopies}
use Rattle.definability.specs.Store.{StoreState, parts_at, IsPartialStore, store_of}
use Rattle.definability.proofs.PreservedStores.{IsGrown}
use Rattle.definability.proofs.StoreSteps.{following_same, following_none}
use Rattle.definability.specs.declared.definability.Definability.{Definability}
use Rattle.definability.proofs.KeptPlaces.{flag_past, declared_cases}
use Rattle.std.proofs.lemmas.Bool.{cases_lt}
use Rattle.std.specs.List.{Contains}
use Rattle.std.proofs.lemmas.Option.{slice_get_within}
use Rattle.dq_lits.specs.Literal.{Literal, variable_of}
use Rattle.dq_formula.specs.Prefix.{existential_variables}
use Rattle.definability.specs.Preservation.{IsMarkedMore}

-- a flag that is set, and the others
pub set_flag : (flags : List Bool) (i : ℕ) → i < length flags → is_copied_at (set flags i true) i ≡ true
set_flag [] i lt = absurd (omega (arith, lt))
set_flag (b ∷ flags) zero lt = refl
set_flag (b ∷ flags) (suc i) lt = set_flag flags i (omega (arith, lt))

other_flag : (flags : List Bool) (i k : ℕ) → is_copied_at flags k ≡ true → is_copied_at (set flags i true) k ≡ true
other_flag [] i k flag = flag
other_flag (b ∷ flags) zero zero flag = refl
other_flag (b ∷ flags) zero (suc k) flag = flag
other_flag (b ∷ flags) (suc i) zero flag = flag
other_flag (b ∷ flags) (suc i) (suc k) flag = other_flag flags i k flag

pub marked_set : (flags new : List Bool) (i : ℕ) → new ≡ set flags i true → IsMarkedMore flags new
marked_set flags new i is = subst (IsMarkedMore flags) (sym is) (record {
  as_many = length-set flags i true;
  stays = λ k flag. other_flag flags i k flag;
})

pub copied_more : (f : Dqbf) (old new : List Bool) (v : ℕ) → IsMarkedMore old new → IsCopied f old v → IsCopied f new v
copied_more f old new v more is k at = more.stays k (is k at)

-- a variable without a flag
pub other_marked : (f : Dqbf) (flags : List Bool) (v : ℕ) → length flags ≡ length f.universals →
    (Contains f.universals v → ⊥) → IsCopied f flags v
other_marked f flags v as_many none k at = elim (declared_cases f.universals (existential_variables f) k v at) [
  | inl universal ↦ search (arith, (slice_get_within f.universals k v), (get_or_there f.universals k v))
  | inr far ↦ flag_past flags k (omega (arith, far, as_many))
]
  where
    get_or_there : (us : List ℕ) (k v : ℕ) → slice_get us k ≡ Some v → get_or us k v ≡ v
    get_or_there [] k v at = cc
    get_or_there (u ∷ us) zero v at = cc
    get_or_there (u ∷ us) (suc k) v at = get_or_there us k v at

-- literal by literal
pub literals_more : (f : Dqbf) (clause : List Literal) (i : ℕ) (old new : List Bool) → IsMarkedMore old new →
    ((k : ℕ) (d : Literal) → k < i → k < length clause → IsCopied f old (variable_of (get_or clause k d))) →
    ((d : Literal) → i < length clause → IsCopied f new (variable_of (get_or clause i d))) →
    (k : ℕ) (d : Literal) → k < i + 1 → k < length clause → IsCopied f new (variable_of (get_or clause k d))
literals_more f clause i old new more before here k d less within = search (arith, cases_lt, copied_more)

-- a universal that has all parts
module _ (all : Dqbf) (numbered : List ℕ) (s : StoreState) (log : ProofLog) (store : IsPartialStore all numbered s log.entries)
    (logged : AreLogged log.entries) (place : ℕ) (below : place < length s.copied) (done : 5 ≤ parts_at s place) where
  abbrev pub flagged : StoreState
  flagged = record s { copied = set s.copied place true }

  flagged_grown : IsGrown s flagged
  flagged_grown = search arith

  all_parts : (k : ℕ) → k < length all.universals → is_copied_at (set s.copied place true) k ≡ true → 5 ≤ parts_at s k
  all_parts k within flag = search (arith, same_or_not, get_or-set_other)

  flagged_store : IsPartialStore all numbered flagged log.entries
  flagged_store = record {
    places = search (arith, length-set);
    whole = all_parts;
    parts = store.parts;
    groups = store.groups;
    givens = λ side j one has.
        let there = store.givens side j one has in
        record {
          clause = there.clause;
          clause_is = there.clause_is;
          covered = λ k d lt. copied_more all s.copied (set s.copied place true) _
              (marked_set s.copied (set s.copied place true) place refl) (there.covered k d lt);
          group = there.group;
          has_group = there.has_group;
          given = there.given;
        };
    own = store.own;
    active = store.active;
  }

  pub flagged_following : (new : ProofLog) → new ≡ log → IsFollowing all numbered s log flagged new
  flagged_following new is = search (arith, following_same, flagged_store, flagged_grown, marked_set)

-- the same of the copies, where an existential has no flag
module _ (f : Dqbf) (p q : Definability) (log : ProofLog) (place : ℕ) (logged : AreLogged log.entries)
    (done : 5 ≤ parts_at (store_of p) place) (same : q ≡ record p { copied = q.copied })
    (flag : place < length p.copied.items → q.copied.items ≡ set p.copied.items place true)
    (none : length p.copied.items ≤ place → q ≡ p) where
  by_flag : (all : Dqbf) (numbered : List ℕ) → CanGiveCopies all numbered f (store_of p) log.entries →
      (place < length p.copied.items) ⊎ (length p.copied.items ≤ place) →
      IsFollowing all numbered (store_of p) log (store_of q) log
  by_flag all numbered h (inl below) =
      subst (λ t. IsFollowing all numbered (store_of p) log t log)
      (sym (ap store_of same ∙ ap (λ flags. record (store_of p) { copied = flags }) (flag below)))
      (flagged_following all numbered (store_of p) log h.store logged place below done log refl)
  by_flag all numbered h (inr past) = search (arith, following_none)

  pub flagged_more : HasMore f p log q log
  flagged_more = record {
    follows = λ all numbered h. by_flag all numbered h (cases_lt place (length p.copied.items));
    given = ap (λ (r : Definability). r.given) same;
    frames = ap (λ (r : Definability). r.frames) same;
    first_groups = ap (λ (r : Definability). r.first.groups) same;
    second_groups = ap (λ (r : Definability). r.second.groups) same;
  }

  pub parts_stay : 5 ≤ parts_at (store_of q) place
  parts_stay = subst (λ (r : Definability). 5 ≤ parts_at (store_of r) place) (sym same) done

  pub flag_set : is_copied_at q.copied.items place ≡ true
  flag_set = elim (cases_lt place (length p.copied.items)) [
    | inl below ↦ ap (λ flags. is_copied_at flags place) (flag below) ∙ set_flag p.copied.items place below
    | inr past ↦ ap (λ (r : Definability). is_copied_at r.copied.items place) (none past) ∙ flag_past p.copied.items place past
  ]
