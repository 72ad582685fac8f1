use Rattle.hint_log.specs.Entries.{Answer}
use Rattle.hint_log.specs.ProductiveLog.{MatchesOrigin}
use Rattle.log_laws.proofs.Found.{each_from, each_weaker, sound_answer}
use Rattle.log_laws.proofs.LeafFunctions.{MatchesInGroup, matches_in_group, functions, functions_are}
use Rattle.log_laws.proofs.laws.decided_true_is_true.Goals as goal

pub returns : goal.returns
returns c f entries well sound a =
    let answer = sound_answer f entries a.later a.earlier a.clause a.hints sound a.is_there in
    let given = (each_from (MatchesOrigin f) entries a.later a.earlier
    (Answer a.clause a.hints) a.is_there sound.givens_match_origins).1 in
    let of_group = each_weaker (MatchesOrigin f) (MatchesInGroup f a.decides.rests.group)
    (matches_in_group f a.decides.rests.group) a.earlier given in
    let solve = c.leaves_solve.ensures f a.earlier a.clause a.hints well answer a.decides.rests in
    c.skolem_functions_show_true.ensures f (functions f well a.earlier a.clause a.hints answer.logged a.decides
    of_group solve)
    (functions_are f well a.earlier a.clause a.hints answer.logged a.decides of_group solve)
