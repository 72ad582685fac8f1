-- The log of a false formula meets every point.
use Rattle.std.proofs.Common.{◌≡◌, ℕ, zero, suc, ◌≤◌, ◌<◌, ◌==◌, Bool, true, false, List, [], ◌∷◌, length, None, Some, refl, subst, arith, nat_le}
use Rattle.std.specs.List.{Contains, list_any, filter_map}
use Rattle.std.proofs.lemmas.Bool.{leb-true}
use Rattle.std.proofs.lemmas.List.Elements.{All-from_recursion}
use Rattle.dq_lits.specs.Literal.{Literal, positive, negative}
use Rattle.dq_lits.specs.Formula.{Dqbf, IsWellFormed}
use Rattle.dq_lits.specs.Expansion.{universal_literal_true, IsExpansionModel}
use Rattle.hint_log.specs.Entries.{Entry, Named, Given, Learned, Round, name_of, row_at}
use Rattle.hint_log.specs.declared.names.Name.{Name}
use Rattle.hint_log.specs.declared.names.Name.TheVariants.{Selector, Pair}
use Rattle.hint_log.specs.declared.origins.Origin.{Origin}
use Rattle.hint_log.specs.declared.origins.Origin.TheVariants.{Instance}
use Rattle.hint_log.specs.Conditions.{AreLogged, IsNewName, HasSides}
use Rattle.hint_log.specs.Deciding.{KeepsSelectors, DecidesFalse, IsInstance}
use Rattle.hint_log.specs.Growth.{Each}
use Rattle.hint_log.specs.Naming.{numbered_from_one, AreNamedAs, rows_of, on_arbiter}
use Rattle.hint_log.specs.Origins.{IsOriginsClause}
use Rattle.hint_log.specs.ProductiveLog.{MatchesOrigin, IsDerivedByHints, IsNewLemma, RefutesNewRow, FollowsModel, IsNotRepeated, IsProductiveLog, fault_groups, fault_room}
use Rattle.log_laws.specs.Examples.{blind_negation, tried_once, refuted}
use Rattle.log_laws.specs.Meaning.{HasAnswer}
use Rattle.log_laws.proofs.Checks.{ids_by, no_name, closed_by, rest_by, no_given, holds_group, well_formed_by}

pub new_name : (earlier : List Entry) (v : ℕ) (name : Name) → 1 ≤ v → v < 4611686018427387904 →
    name_of earlier v ≡ None → Each (λ before e. (w : ℕ) → e ≡ Named w name → ⊥) earlier →
    HasSides earlier name → IsNewName earlier v name
new_name earlier v name from_one in_range unnamed others sides =
    record {
      from_one = from_one;
      in_range = in_range;
      unnamed = unnamed;
      fresh =
          λ w is. no_name name earlier others w is;
      sides = sides;
    }

pub instance_of : (f : Dqbf) (earlier : List Entry) (k j group : ℕ) (row : List Bool) (clause rest : List Literal) →
    name_of earlier group ≡ Some (Selector group) → row_at earlier k ≡ Some row →
    numbered_from_one f.matrix j ≡ Some clause → list_any (universal_literal_true f row) clause ≡ false →
    AreNamedAs earlier rest (filter_map (on_arbiter f (rows_of earlier) row) clause) →
    IsOriginsClause f earlier (Instance k j) (negative group ∷ rest)
instance_of f earlier k j group row clause rest is_group row_is clause_is open_row named = search arith

pub first_of : (earlier : List Entry) (origin : Origin) (clause : List Literal) →
    Each (λ before e. (c : List Literal) → e ≡ Given origin c → ⊥) earlier →
    nat_le (length (fault_groups (Given origin clause ∷ earlier))) (fault_room earlier) ≡ true →
    IsNotRepeated earlier (Given origin clause)
first_of earlier origin clause others few = record {
  first = λ h c inside. no_given origin earlier others c inside;
  groups = leb-true (length (fault_groups (Given origin clause ∷ earlier))) (fault_room earlier) few;
}

abbrev s1 : List Entry
s1 = Named 1 (Selector 1) ∷ []

abbrev s2 : List Entry
s2 = Round (false ∷ []) (false ∷ false ∷ []) 1 ∷ s1

abbrev s3 : List Entry
s3 = Named 2 (Pair 1 2) ∷ s2

abbrev s4 : List Entry
s4 = Named 3 (Pair 1 3) ∷ s3

abbrev s5 : List Entry
s5 = Given (Instance 1 1) (negative 1 ∷ positive 2 ∷ positive 3 ∷ []) ∷ s4

pub tried_logged : AreLogged tried_once
tried_logged = search (arith, new_name)

pub tried_matches : Each (MatchesOrigin blind_negation) tried_once
tried_matches = (
  instance_of blind_negation s5 1 2 1 (false ∷ []) (positive 1 ∷ positive 2 ∷ negative 3 ∷ [])
      (positive 2 ∷ negative 3 ∷ []) refl refl refl refl refl,
  (
    instance_of blind_negation s4 1 1 1 (false ∷ []) (positive 2 ∷ positive 3 ∷ [])
        (positive 2 ∷ positive 3 ∷ []) refl refl refl refl refl,
    (tt, (tt, (tt, (tt, tt)))),
  ),
)

pub tried_derived : Each IsDerivedByHints tried_once
tried_derived = (tt, (tt, (tt, (tt, (tt, (tt, tt))))))

pub tried_new : Each IsNewLemma tried_once
tried_new = (tt, (tt, (tt, (tt, (tt, (tt, tt))))))

pub tried_rows : Each (RefutesNewRow blind_negation) tried_once
tried_rows = (
  tt,
  (
    tt,
    (
      tt,
      (
        tt,
        (
          record {
            row_length = refl;
            values_length = refl;
            untried = λ inside. (let b = inside.1 in omega arith);
            clause = positive 2 ∷ positive 3 ∷ [];
            clause_is = refl;
            is_false = refl;
          },
          (tt, tt),
        ),
      ),
    ),
  ),
)

pub tried_models : Each (FollowsModel blind_negation) tried_once
tried_models = (
  tt,
  (
    tt,
    (
      tt,
      (
        tt,
        (
          record { model = λ _. false; holds_there = λ k d below. absurd (omega arith); values_are = refl },
          (tt, tt),
        ),
      ),
    ),
  ),
)

pub tried_single : Each IsNotRepeated tried_once
tried_single = search arith

pub tried_selectors : KeepsSelectors tried_once
tried_selectors = (tt, (tt, (tt, (tt, (tt, (tt, tt))))))

abbrev s7 : List Entry
s7 = Learned (negative 1 ∷ positive 2 ∷ []) (1 ∷ 2 ∷ []) ∷ tried_once

abbrev s8 : List Entry
s8 = Round (true ∷ []) (true ∷ false ∷ []) 3 ∷ s7

abbrev s9 : List Entry
s9 = Given (Instance 2 1) (negative 1 ∷ positive 2 ∷ positive 3 ∷ []) ∷ s8

abbrev s10 : List Entry
s10 = Given (Instance 2 3) (negative 1 ∷ negative 2 ∷ positive 3 ∷ []) ∷ s9

abbrev pub s11 : List Entry
s11 = Given (Instance 2 4) (negative 1 ∷ negative 2 ∷ negative 3 ∷ []) ∷ s10

pub refuted_logged : AreLogged refuted
refuted_logged = search (arith, ids_by, tried_logged)

refuted_matches : Each (MatchesOrigin blind_negation) refuted
refuted_matches = search (arith, instance_of, tried_matches)

refuted_new : Each IsNewLemma refuted
refuted_new = (
  tt,
  (
    tt,
    (
      tt,
      (
        tt,
        (
          tt,
          (
            record {
              literal = positive 2;
              trues = positive 1 ∷ [];
              among = refl;
              no_selector = refl;
              consistent = refl;
              not_true = refl;
              not_false = refl;
              rest_false = rest_by (positive 1 ∷ []) (positive 2) (negative 1 ∷ positive 2 ∷ []) refl;
              closed = closed_by (positive 1 ∷ []) tried_once (refl, (refl, (refl, (refl, (refl, (refl, tt))))));
            },
            tried_new,
          ),
        ),
      ),
    ),
  ),
)

pub other_row : Contains {X = List Bool} ((false ∷ []) ∷ []) (true ∷ []) → ⊥
other_row (zero, below, is) = cc
other_row (suc k, below, is) = omega arith

refuted_rows : Each (RefutesNewRow blind_negation) refuted
refuted_rows = (
  tt,
  (
    tt,
    (
      tt,
      (
        tt,
        (
          record {
            row_length = refl;
            values_length = refl;
            untried = other_row;
            clause =
                negative 1 ∷ negative 2 ∷ positive 3 ∷ [];
            clause_is = refl;
            is_false = refl;
          },
          (tt, tried_rows),
        ),
      ),
    ),
  ),
)

-- 2 is true and 3 is false
pub model_of_first_row : IsExpansionModel blind_negation ((false ∷ []) ∷ []) (λ v. v == 2)
model_of_first_row = search (arith, All-from_recursion)

refuted_models : Each (FollowsModel blind_negation) refuted
refuted_models = (
  tt,
  (
    tt,
    (
      tt,
      (
        tt,
        (
          record { model = λ v. v == 2; holds_there = model_of_first_row; values_are = refl },
          (tt, tried_models),
        ),
      ),
    ),
  ),
)

refuted_single : Each IsNotRepeated refuted
refuted_single = search (arith, tried_single)

pub refuted_productive : IsProductiveLog blind_negation refuted
refuted_productive =
    search (arith, refuted_matches, tried_derived, refuted_new, refuted_rows, refuted_models, refuted_single)

-- all clauses are of group 1
abbrev pub IsOfGroup1 : Entry → Type 0
IsOfGroup1 e = (origin : Origin) (g : ℕ) (rest : List Literal) → e ≡ Given origin (negative g ∷ rest) → 1 ≡ g

pub tried_group : Each (λ before e. IsOfGroup1 e) tried_once
tried_group = search arith

refuted_group : Each (λ before e. IsOfGroup1 e) s11
refuted_group = search (arith, tried_group)

pub refuted_selectors : KeepsSelectors refuted
refuted_selectors = search (arith, holds_group, refuted_group, tried_group, tried_selectors)

abbrev IsInstanceIfGiven : Entry → Type 0
IsInstanceIfGiven e = (origin : Origin) (c : List Literal) → e ≡ Given origin c → IsInstance origin

instance_is : (k j : ℕ) (clause : List Literal) → IsInstanceIfGiven (Given (Instance k j) clause)
instance_is k j clause origin c h = let is : Instance k j ≡ origin = cc in subst IsInstance is tt

refuted_instances : Each (λ before e. IsInstanceIfGiven e) s11
refuted_instances = search (arith, instance_is)

pub refuted_decides : HasAnswer DecidesFalse refuted
refuted_decides = record {
  earlier = s11;
  clause = negative 1 ∷ [];
  hints = 3 ∷ 5 ∷ 6 ∷ [];
  later = [];
  is_there = refl;
  decides = search (arith, All-from_recursion, refuted_instances);
}

pub blind_negation_well_formed : IsWellFormed blind_negation
blind_negation_well_formed = search (arith, well_formed_by)

pub tried_productive : IsProductiveLog blind_negation tried_once
tried_productive = search (arith, tried_matches, tried_derived, tried_new, tried_rows, tried_models, tried_single)
