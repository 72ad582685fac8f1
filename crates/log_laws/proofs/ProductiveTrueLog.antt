-- The log of a true formula is productive: no lemma, row, model or fault stands twice.
use Rattle.std.proofs.Common.{◌≡◌, true, List, [], ◌∷◌, length, refl, nat_le, arith}
use Rattle.std.proofs.lemmas.Bool.{leb-true}
use Rattle.dq_lits.specs.Literal.{Literal, positive, negative}
use Rattle.dq_lits.specs.Formula.{IsWellFormed}
use Rattle.hint_log.specs.Entries.{Entry, Given}
use Rattle.hint_log.specs.declared.origins.Origin.{Origin}
use Rattle.hint_log.specs.Growth.{Each}
use Rattle.hint_log.specs.ProductiveLog.{IsNewLemma, RefutesNewRow, FollowsModel, IsNotRepeated, IsProductiveLog, is_fault, fault_groups, fault_room}
use Rattle.log_laws.specs.Examples.{seen_conjunction, gate_given, faults_given, shown}
use Rattle.log_laws.proofs.Checks.{rest_by, well_formed_by}
use Rattle.log_laws.proofs.TrueLog.{shown_derived, shown_matches}

pub gate_new : Each IsNewLemma gate_given
gate_new = search arith

pub faults_new : Each IsNewLemma faults_given
faults_new = (
  tt,
  (
    tt,
    (
      tt,
      (
        tt,
        (
          tt,
          (
            tt,
            (
              tt,
              (
                tt,
                (
                  tt,
                  (
                    tt,
                    (
                      tt,
                      (tt, gate_new),
                    ),
                  ),
                ),
              ),
            ),
          ),
        ),
      ),
    ),
  ),
)

pub shown_new : Each IsNewLemma shown
shown_new = (
  tt,
  (
    record {
      literal = negative 7;
      trues = positive 1 ∷ positive 5 ∷ negative 6 ∷ [];
      among = refl;
      no_selector = refl;
      consistent = refl;
      not_true = refl;
      not_false = refl;
      rest_false = search (arith, rest_by);
      closed = search arith;
    },
    (
      record {
        literal = negative 6;
        trues = positive 1 ∷ positive 5 ∷ [];
        among = refl;
        no_selector = refl;
        consistent = refl;
        not_true = refl;
        not_false = refl;
        rest_false = search (arith, rest_by);
        closed = search arith;
      },
      faults_new,
    ),
  ),
)

pub gate_rows : Each (RefutesNewRow seen_conjunction) gate_given
gate_rows = search arith

pub faults_rows : Each (RefutesNewRow seen_conjunction) faults_given
faults_rows = search (arith, gate_rows)

pub shown_rows : Each (RefutesNewRow seen_conjunction) shown
shown_rows = search (arith, faults_rows)

pub gate_models : Each (FollowsModel seen_conjunction) gate_given
gate_models = search arith

pub faults_models : Each (FollowsModel seen_conjunction) faults_given
faults_models = search (arith, gate_models)

pub shown_models : Each (FollowsModel seen_conjunction) shown
shown_models = search (arith, faults_models)

-- faults may be given again
pub fault_first : (earlier : List Entry) (origin : Origin) (clause : List Literal) → is_fault origin ≡ true →
    nat_le (length (fault_groups (Given origin clause ∷ earlier))) (fault_room earlier) ≡ true →
    IsNotRepeated earlier (Given origin clause)
fault_first earlier origin clause fault few = search (arith, leb-true)

pub gate_single : Each IsNotRepeated gate_given
gate_single = search arith

pub faults_single : Each IsNotRepeated faults_given
faults_single = search (arith, fault_first, gate_single)

pub shown_single : Each IsNotRepeated shown
shown_single = search (arith, faults_single)

pub shown_productive : IsProductiveLog seen_conjunction shown
shown_productive = search (arith, shown_matches, shown_derived, shown_new, shown_rows, shown_models, shown_single)

pub seen_conjunction_well_formed : IsWellFormed seen_conjunction
seen_conjunction_well_formed = search (arith, well_formed_by)
