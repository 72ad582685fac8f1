use Rattle.log_laws.specs.Examples.{seen_conjunction, shown}
use Rattle.log_laws.specs.Meaning.{IsSoundLog}
use Rattle.log_laws.proofs.TrueDecided.{shown_selectors, shown_decides}
use Rattle.log_laws.proofs.TrueLog.{shown_logged}
use Rattle.log_laws.proofs.ProductiveTrueLog.{shown_productive, seen_conjunction_well_formed}
use Rattle.log_laws.proofs.examples.true_formula_is_shown.Goals as goal

sound : IsSoundLog seen_conjunction shown
sound = record {
  logged = shown_logged;
  givens_match_origins = shown_productive.givens_match_origins;
  lemmas_are_derived = shown_productive.lemmas_are_derived;
}

pub returns : goal.returns
returns c =
    let is_true = c.decided_true_is_true.ensures seen_conjunction shown seen_conjunction_well_formed sound
    shown_decides in
    record {
      well_formed = seen_conjunction_well_formed;
      logged = shown_logged;
      productive = shown_productive;
      keeps_selectors = shown_selectors;
      undecided = (
        tt,
        (
          tt,
          (
            tt,
            (
              tt,
              (
                tt,
                (
                  tt,
                  (
                    tt,
                    (
                      tt,
                      (
                        tt,
                        (tt, (tt, (tt, (tt, (tt, (tt, (tt, (tt, (tt, (tt, tt)))))))))),
                      ),
                    ),
                  ),
                ),
              ),
            ),
          ),
        ),
      );
      decided = shown_decides;
      is_true = is_true;
      not_false = λ answer. c.no_formula_is_both.ensures seen_conjunction is_true
          (c.decided_false_is_false.ensures seen_conjunction shown seen_conjunction_well_formed sound answer);
    }
