-- What a database stands for that follows a script.
use Rattle.std.proofs.Common.{◌≡◌, ℕ, List, [], ◌∷◌, ◌++◌, map, length, refl, sym, ◌∙◌, ap, subst, append_assoc, append-nil, arith}
use Rattle.std.specs.List.{filter_map, range_with_len}
use Rattle.std.proofs.lemmas.List.{map-append}
use Rattle.std.proofs.lemmas.List.Elements.{filter_map-append}
use Rattle.dq_lits.specs.Literal.{Literal}
use Rattle.dq_lits.specs.Formula.{Dqbf}
use Rattle.hint_log.specs.Live.{with_matrix, formula_of}
use Rattle.hint_log.specs.Naming.{numbered_from_one}
use Rattle.script_text.specs.Commands.{ScriptCommand, add, solve}
use Rattle.script_text.specs.Frames.{Frames, clauses_of, formula_in, frames_behind, formulas_from}
use Rattle.dq_session.specs.declared.live.Live.{Live}
use Rattle.dq_session.specs.declared.live.OpenFrame.{OpenFrame}
use Rattle.session_runs.specs.Numbering.{NumberedFrame, Numbering, numbering_at_start, numbering_behind, numbering_from, live_in, live_from, newest_number}
use Rattle.session_runs.specs.Following.{AreOpenFrames, AreFramesOf}
use Rattle.session_runs.specs.Laws.{FollowingDatabasesStand, NumbersNameFormulas}
use Rattle.session_runs.proofs.Followed.{same-depth, frames-follow, frames-still}
use Rattle.session_runs.proofs.Lists.{all-found, file-found}

numbers-back : (to : ℕ → Live) → ((j : ℕ) → (to j).clause ≡ j) → (js : List ℕ)
    → map (λ (l : Live). l.clause) (map to js) ≡ js
numbers-back to back [] = refl
numbers-back to back (j ∷ js) = search (arith, (numbers-back to back js))

live-numbers : (file : ℕ) (ns : List NumberedFrame) (opens : List OpenFrame) (live : List Live)
    → AreOpenFrames file ns opens live → map (λ (l : Live). l.clause) live ≡ live_in file ns
live-numbers file [] opens live (none, is) = search (arith, numbers-back)
live-numbers file (n ∷ ns) opens live (below, rest, opens-are, live-are, deeper) =
    search (arith, map-append, (live-numbers file ns below rest deeper), numbers-back)

-- the clauses of these numbers are the formula's and the frames'
named-clauses : (m : List (List Literal)) (file : ℕ) (ns : List NumberedFrame) (frames : Frames)
    → AreFramesOf m ns frames
    → filter_map (numbered_from_one m) (live_in file ns)
    ≡ filter_map (numbered_from_one m) (range_with_len 1 file) ++ clauses_of frames
named-clauses m file [] [] are = sym (append-nil (filter_map (numbered_from_one m) (range_with_len 1 file)))
named-clauses m file [] (c ∷ cs) are = absurd are
named-clauses m file (n ∷ ns) [] are = absurd are
named-clauses m file (n ∷ ns) (c ∷ cs) (own, deeper) =
    search (arith, filter_map-append, (named-clauses m file ns cs deeper), all-found, append_assoc)

-- so the formula of these numbers is the script's
named-formula : (f : Dqbf) (all more : List (List Literal)) (ns : List NumberedFrame) (frames : Frames)
    → all ≡ f.matrix ++ more → AreFramesOf all ns frames
    → formula_of (with_matrix f all) (live_in (length f.matrix) ns) ≡ formula_in f frames
named-formula f all more ns frames is are =
    search (arith, (named-clauses all (length f.matrix) ns frames are), (file-found f.matrix more))

pub following-databases-stand : FollowingDatabasesStand
following-databases-stand s frames b follows are = search (arith, live-numbers, named-formula, same-depth)

-- commands that come leave what was numbered
pub clauses-come : (s : Numbering) (commands : List ScriptCommand)
    → (more : List (List Literal)) × ((numbering_from s commands).clauses ≡ s.clauses ++ more)
clauses-come s [] = ([], sym (append-nil s.clauses))
clauses-come s (add clause ∷ commands) =
    let r = clauses-come (numbering_behind s (add clause)) commands in
    (clause ∷ r.0, r.1 ∙ append_assoc s.clauses (clause ∷ []) r.0)
clauses-come s (solve ∷ commands) = clauses-come s commands
clauses-come s (e ∷ commands) = clauses-come (numbering_behind s e) commands

pub frames-come : (s : Numbering) (commands : List ScriptCommand)
    → (more : List ℕ) × ((numbering_from s commands).frames ≡ s.frames ++ more)
frames-come s [] = ([], sym (append-nil s.frames))
frames-come s (add clause ∷ commands) =
    let r = frames-come (numbering_behind s (add clause)) commands in
    let n = newest_number s.open_frames in
    (n ∷ r.0, r.1 ∙ append_assoc s.frames (n ∷ []) r.0)
frames-come s (solve ∷ commands) = frames-come s commands
frames-come s (e ∷ commands) = frames-come (numbering_behind s e) commands

-- the formulas that are still to be searched
named-from : (f : Dqbf) (s : Numbering) (frames : Frames) (commands : List ScriptCommand) (added : List (List Literal))
    → s.clauses ≡ f.matrix ++ added → AreFramesOf s.clauses s.open_frames frames
    → map (formula_of (with_matrix f (numbering_from s commands).clauses)) (live_from (length f.matrix) s commands)
    ≡ formulas_from f frames commands
named-from f s frames [] added is are = refl
named-from f s frames (add clause ∷ commands) added is are =
    named-from f (numbering_behind s (add clause)) (frames_behind frames (add clause)) commands (added ++ clause ∷ [])
    (ap (λ cs. cs ++ clause ∷ []) is ∙ append_assoc f.matrix added (clause ∷ []))
    (frames-follow s frames (add clause) are)
named-from f s frames (solve ∷ commands) added is are =
    let more = clauses-come s commands in
    let all = (numbering_from s commands).clauses in
    let grown : AreFramesOf all s.open_frames frames =
    subst (λ m. AreFramesOf m s.open_frames frames) (sym more.1)
    (frames-still s.clauses more.0 s.open_frames frames are) in
    let here : formula_of (with_matrix f all) (live_in (length f.matrix) s.open_frames) ≡ formula_in f frames =
    named-formula f all (added ++ more.0) s.open_frames frames
    (more.1 ∙ ap (λ m. m ++ more.0) is ∙ append_assoc f.matrix added more.0) grown in
    ap (λ g. g ∷ map (formula_of (with_matrix f all)) (live_from (length f.matrix) s commands)) here
    ∙ ap (λ gs. formula_in f frames ∷ gs) (named-from f s frames commands added is are)
named-from f s frames (e ∷ commands) added is are =
    named-from f (numbering_behind s e) (frames_behind frames e) commands added is (frames-follow s frames e are)

pub numbers-name-formulas : NumbersNameFormulas
numbers-name-formulas f commands =
    named-from f (numbering_at_start f) [] commands [] (sym (append-nil f.matrix)) tt
