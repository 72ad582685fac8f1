use Rattle.log_laws.specs.Examples.{blind_negation, refuted}
use Rattle.log_laws.specs.Meaning.{IsSoundLog}
use Rattle.log_laws.proofs.FalseLog.{tried_productive, refuted_logged, refuted_productive, refuted_selectors, refuted_decides, blind_negation_well_formed}
use Rattle.log_laws.proofs.examples.false_formula_is_refuted.Goals as goal

sound : IsSoundLog blind_negation refuted
sound = record {
  logged = refuted_logged;
  givens_match_origins = refuted_productive.givens_match_origins;
  lemmas_are_derived = refuted_productive.lemmas_are_derived;
}

pub returns : goal.returns
returns c =
    let is_false = c.decided_false_is_false.ensures blind_negation refuted blind_negation_well_formed sound
    refuted_decides in
    record {
      well_formed = blind_negation_well_formed;
      logged = refuted_logged;
      productive = refuted_productive;
      keeps_selectors = refuted_selectors;
      begun = tried_productive;
      undecided = (tt, (tt, (tt, (tt, (tt, (tt, tt))))));
      decided = refuted_decides;
      is_false = is_false;
      not_true = λ answer. c.no_formula_is_both.ensures blind_negation
          (c.decided_true_is_true.ensures blind_negation refuted blind_negation_well_formed sound answer) is_false;
    }
