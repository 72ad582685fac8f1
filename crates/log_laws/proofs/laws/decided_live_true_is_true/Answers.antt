use Rattle.hint_log.specs.Conditions.{MayFollow}
use Rattle.hint_log.specs.Entries.{Answer}
use Rattle.hint_log.specs.Live.{live_formula}
use Rattle.hint_log.specs.ProductiveLog.{IsDerivedByHints}
use Rattle.hint_log.specs.ProductiveSession.{MatchesLiveOrigin}
use Rattle.log_laws.proofs.Found.{each_from}
use Rattle.log_laws.proofs.LeafFunctions.{functions, functions_are}
use Rattle.log_laws.proofs.LiveAnswers.{live_sound, live_faults}
use Rattle.log_laws.proofs.laws.decided_live_true_is_true.Goals as goal

pub returns : goal.returns
returns c all entries sound a well =
    let e = Answer a.clause a.hints in
    let f = live_formula all a.earlier in
    let derived = each_from IsDerivedByHints entries a.later a.earlier e a.is_there sound.lemmas_are_derived in
    let lawful = (each_from MayFollow entries a.later a.earlier e a.is_there sound.logged).1 in
    let given = (each_from (MatchesLiveOrigin all) entries a.later a.earlier e a.is_there
    sound.givens_match_origins).1 in
    let answer = live_sound all a.earlier a.clause a.hints lawful given derived.1 derived.0 a.decides in
    let faults = live_faults all a.earlier a.clause a.hints lawful given derived.1 derived.0 a.decides in
    let solve = c.leaves_solve.ensures f a.earlier a.clause a.hints well answer a.decides.decides.rests in
    c.skolem_functions_show_true.ensures f (functions f well a.earlier a.clause a.hints lawful a.decides.decides
    faults solve)
    (functions_are f well a.earlier a.clause a.hints lawful a.decides.decides faults solve)
