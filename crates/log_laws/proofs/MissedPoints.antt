-- Logs that miss one point alone.
use Rattle.std.proofs.Common.{◌≡◌, ◌≢◌, ◌==◌, Bool, true, false, true≢false, ◌||◌, [], ◌∷◌, refl, arith}
use Rattle.std.proofs.lemmas.Bool.{false≢true}
use Rattle.std.proofs.lemmas.List.Elements.{All-head}
use Rattle.dq_lits.specs.Literal.{positive, negative}
use Rattle.hint_log.specs.Origins.{IsInstanceRest}
use Rattle.hint_log.specs.ProductiveLog.{HasModelWith}
use Rattle.log_laws.specs.Examples.{Point, matching_origins, derived_lemmas, new_lemmas, new_rows, followed_models, single_givens, Meets, MissesAlone, blind_negation, tried_once, true_clause_given, hint_missing, known_clause_learned, row_tried_again, instances_ignored, instance_given_twice}
use Rattle.log_laws.proofs.Checks.{named_by, ids_by, closed_by, rest_by, holds_group}
use Rattle.log_laws.proofs.FalseLog.{instance_of, tried_logged, tried_matches, tried_derived, tried_new, tried_rows, tried_models, tried_single, tried_selectors, tried_group, model_of_first_row, other_row}
use Rattle.log_laws.proofs.SettledClauses.{unknown}

-- an instance of a clause that is true there
no_true_clause : IsInstanceRest blind_negation tried_once 1 3 (negative 2 ∷ positive 3 ∷ []) → ⊥
no_true_clause r = search (arith, true≢false)

true_clause_missed : Meets blind_negation true_clause_given matching_origins → ⊥
true_clause_missed h = search (arith, no_true_clause)

true_clause_others : (other : Point) → other ≢ matching_origins → Meets blind_negation true_clause_given other
true_clause_others matching_origins differs = absurd (differs refl)
true_clause_others derived_lemmas differs = (tt, tried_derived)
true_clause_others new_lemmas differs = (tt, tried_new)
true_clause_others new_rows differs = (tt, tried_rows)
true_clause_others followed_models differs = (tt, tried_models)
true_clause_others single_givens differs = search (arith, tried_single)

pub true_clause_misses : MissesAlone blind_negation true_clause_given matching_origins
true_clause_misses = search (arith, true_clause_missed, true_clause_others, tried_logged, tried_selectors)

hint_others : (other : Point) → other ≢ derived_lemmas → Meets blind_negation hint_missing other
hint_others matching_origins differs = (tt, tried_matches)
hint_others derived_lemmas differs = absurd (differs refl)
hint_others new_lemmas differs = (
  record {
    literal = positive 2;
    trues = positive 1 ∷ [];
    among = refl;
    no_selector = refl;
    consistent = refl;
    not_true = refl;
    not_false = refl;
    rest_false = rest_by (positive 1 ∷ []) (positive 2) (negative 1 ∷ positive 2 ∷ []) refl;
    closed = closed_by (positive 1 ∷ []) tried_once (refl, (refl, (refl, (refl, (refl, (refl, tt))))));
  },
  tried_new,
)
hint_others new_rows differs = (tt, tried_rows)
hint_others followed_models differs = (tt, tried_models)
hint_others single_givens differs = (tt, tried_single)

hint_missed : Meets blind_negation hint_missing derived_lemmas → ⊥
hint_missed h = let never = h.0 in cc

pub hint_misses : MissesAlone blind_negation hint_missing derived_lemmas
hint_misses =
    search (arith, hint_missed, hint_others, ids_by, tried_logged, holds_group, tried_group, tried_selectors)

known_others : (other : Point) → other ≢ new_lemmas → Meets blind_negation known_clause_learned other
known_others matching_origins differs = (tt, tried_matches)
known_others derived_lemmas differs = (refl, tried_derived)
known_others new_lemmas differs = absurd (differs refl)
known_others new_rows differs = (tt, tried_rows)
known_others followed_models differs = (tt, tried_models)
known_others single_givens differs = (tt, tried_single)

pub known_misses : MissesAlone blind_negation known_clause_learned new_lemmas
known_misses = record {
  missed = λ h. unknown tried_once (negative 1 ∷ positive 2 ∷ positive 3 ∷ []) h.0 1
      (negative 1 ∷ positive 2 ∷ positive 3 ∷ []) refl (λ l inside. inside);
  others = known_others;
  logged = search (arith, ids_by, tried_logged);
  keeps_selectors = search (arith, holds_group, tried_group, tried_selectors);
}

again_others : (other : Point) → other ≢ new_rows → Meets blind_negation row_tried_again other
again_others matching_origins differs = (tt, tried_matches)
again_others derived_lemmas differs = (tt, tried_derived)
again_others new_lemmas differs = (tt, tried_new)
again_others new_rows differs = absurd (differs refl)
again_others followed_models differs = (
  record {
    model = λ v. v == 2;
    holds_there = model_of_first_row;
    values_are = search arith;
  },
  tried_models,
)
again_others single_givens differs = (tt, tried_single)

pub again_misses : MissesAlone blind_negation row_tried_again new_rows
again_misses = search (arith, again_others, tried_logged, tried_selectors)

-- no model of the first row's instances gives both existentials 0
both_false : (a b : Bool) → false ≡ a → false ≡ b → (a || (b || false)) ≡ true → ⊥
both_false true b h k t = absurd (false≢true h)
both_false false true h k t = absurd (false≢true k)
both_false false false h k t = false≢true t

no_model : HasModelWith blind_negation ((false ∷ []) ∷ []) (true ∷ []) (false ∷ false ∷ []) → ⊥
no_model h = search (arith, All-head, both_false)

ignored_others : (other : Point) → other ≢ followed_models → Meets blind_negation instances_ignored other
ignored_others matching_origins differs = (tt, tried_matches)
ignored_others derived_lemmas differs = (tt, tried_derived)
ignored_others new_lemmas differs = (tt, tried_new)
ignored_others new_rows differs = search (arith, other_row, tried_rows)
ignored_others followed_models differs = absurd (differs refl)
ignored_others single_givens differs = (tt, tried_single)

pub ignored_misses : MissesAlone blind_negation instances_ignored followed_models
ignored_misses = record {
  missed = λ h. no_model h.0;
  others = ignored_others;
  logged = (tt, tried_logged);
  keeps_selectors = (tt, tried_selectors);
}

twice_others : (other : Point) → other ≢ single_givens → Meets blind_negation instance_given_twice other
twice_others matching_origins differs = search (arith, instance_of, tried_matches)
twice_others derived_lemmas differs = (tt, tried_derived)
twice_others new_lemmas differs = (tt, tried_new)
twice_others new_rows differs = (tt, tried_rows)
twice_others followed_models differs = (tt, tried_models)
twice_others single_givens differs = absurd (differs refl)

pub twice_misses : MissesAlone blind_negation instance_given_twice single_givens
twice_misses = record {
  missed = λ h. h.0.first refl (negative 1 ∷ positive 2 ∷ positive 3 ∷ []) (1, omega arith, refl);
  others = twice_others;
  logged = (named_by tried_once (negative 1 ∷ positive 2 ∷ positive 3 ∷ []) refl, tried_logged);
  keeps_selectors = (tt, tried_selectors);
}
