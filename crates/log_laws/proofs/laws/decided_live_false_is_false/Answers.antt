use Rattle.std.proofs.Common.{subst, sym}
use Rattle.dq_lits.specs.Formula.{IsWellFormed}
use Rattle.dq_lits.specs.Henkin.{IsFalseFormula}
use Rattle.hint_log.specs.Conditions.{MayFollow}
use Rattle.hint_log.specs.Entries.{Answer}
use Rattle.hint_log.specs.Live.{formula_of, formula_by}
use Rattle.hint_log.specs.Naming.{rows_of}
use Rattle.hint_log.specs.ProductiveLog.{IsDerivedByHints}
use Rattle.hint_log.specs.ProductiveSession.{MatchesLiveOrigin}
use Rattle.log_laws.proofs.Found.{each_from}
use Rattle.log_laws.proofs.LiveAnswers.{live_refuted}
use Rattle.log_laws.proofs.laws.decided_live_false_is_false.Goals as goal

pub returns : goal.returns
returns c all entries live sound a is well =
    let e = Answer a.clause a.hints in
    let derived = each_from IsDerivedByHints entries a.later a.earlier e a.is_there sound.lemmas_are_derived in
    let lawful = (each_from MayFollow entries a.later a.earlier e a.is_there sound.logged).1 in
    let given = (each_from (MatchesLiveOrigin all) entries a.later a.earlier e a.is_there
    sound.givens_match_origins).1 in
    let refuted = live_refuted all a.earlier a.clause a.hints lawful given derived.1 derived.0
    c.derived_line_is_implied.ensures live is a.decides in
    let well_live = subst (λ o. IsWellFormed (formula_by all o)) is well in
    subst (λ o. IsFalseFormula (formula_by all o)) (sym is) (c.expansion_lifts.ensures (formula_of all live)
    (rows_of a.earlier) well_live refuted)
