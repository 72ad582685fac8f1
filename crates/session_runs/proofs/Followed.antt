-- A database that follows a script, behind the next command.
use Rattle.std.proofs.Common.{◌≡◌, ℕ, ◌+◌, ◌-◌, ◌≤◌, List, [], ◌∷◌, ◌++◌, take, length, get_or, replicate, refl, ap, subst₂, arith, append_assoc, append-nil}
use Rattle.std.proofs.lemmas.List.{length-append, map-append}
use Rattle.list_laws.proofs.Elements.{last_there}
use Rattle.dq_lits.specs.Literal.{Literal}
use Rattle.script_text.specs.Commands.{ScriptCommand, push, add, pop, solve}
use Rattle.script_text.specs.Frames.{Frames, with_clause as with_script_clause, older_frames, frames_behind}
use Rattle.dq_session.specs.Databases.{DatabaseState}
use Rattle.dq_session.specs.declared.live.Live.{Live}
use Rattle.dq_session.specs.declared.live.OpenFrame.{OpenFrame}
use Rattle.session_runs.specs.Numbering.{NumberedFrame, Numbering, newest_number, with_number, without_newest, numbering_behind}
use Rattle.session_runs.specs.Following.{database_behind, MayCome, frame_live, AreOpenFrames, Follows, AreFramesOf}
use Rattle.session_runs.specs.Laws.{DatabasesFollow}
use Rattle.session_runs.proofs.GrownSessions.{numbered-more}
use Rattle.session_runs.proofs.Lists.{last-at, front-taken, last-place, found-still}

abbrev nobody : OpenFrame
nobody = record { number = 0; start = 0 }

-- the frame that was opened last
abbrev last-frame : List OpenFrame → OpenFrame
last-frame opens = get_or opens (length opens - 1) nobody

last-frame-is : (opens below : List OpenFrame) (o : OpenFrame) → opens ≡ below ++ o ∷ [] → last-frame opens ≡ o
last-frame-is opens below o is = search (arith, last-at, last-place)

pub same-depth : (file : ℕ) (ns : List NumberedFrame) (opens : List OpenFrame) (live : List Live)
    → AreOpenFrames file ns opens live → length opens ≡ length ns
same-depth file [] opens live (none, is) = ap (λ os. length os) none
same-depth file (n ∷ ns) opens live (below, rest, opens-are, live-are, deeper) =
    search (arith, length-append, (same-depth file ns below rest deeper))

some-open : (file : ℕ) (opens : List OpenFrame) (live : List Live) {X : Type 0} → AreOpenFrames file [] opens live
    → 1 ≤ length opens → X
some-open file opens live (none, is) some = absurd (omega (arith, some, ap (λ os. length os) none))

newest-is : (file : ℕ) (ns : List NumberedFrame) (opens : List OpenFrame) (live : List Live)
    → AreOpenFrames file ns opens live → 1 ≤ length opens → (last-frame opens).number ≡ newest_number ns
newest-is file [] opens live are some = some-open file opens live are some
newest-is file (n ∷ ns) opens live (below, rest, opens-are, live-are, deeper) some = search (arith, last-frame-is)

-- a clause more in the newest frame
clause-comes : (file : ℕ) (ns : List NumberedFrame) (opens : List OpenFrame) (live : List Live) (j : ℕ) (l : Live)
    → AreOpenFrames file ns opens live → 1 ≤ length opens → l ≡ frame_live (last-frame opens).number j
    → AreOpenFrames file (with_number j ns) opens (live ++ l ∷ [])
clause-comes file [] opens live j l are some is = some-open file opens live are some
clause-comes file (n ∷ ns) opens live j l (below, rest, opens-are, live-are, deeper) some is =
    search (arith, last-frame-is, append_assoc, map-append)

-- the newest frame goes
frame-goes : (file : ℕ) (ns : List NumberedFrame) (opens : List OpenFrame) (live : List Live)
    → AreOpenFrames file ns opens live → 1 ≤ length opens
    → AreOpenFrames file (without_newest ns) (take (length opens - 1) opens) (take (last-frame opens).start live)
frame-goes file [] opens live are some = some-open file opens live are some
frame-goes file (n ∷ ns) opens live (below, rest, opens-are, live-are, deeper) some =
    search (arith, last-frame-is, front-taken, last-place, subst₂)

-- frames by their clauses, where a clause comes
pub frames-still : (m more : List (List Literal)) (ns : List NumberedFrame) (frames : Frames) → AreFramesOf m ns frames
    → AreFramesOf (m ++ more) ns frames
frames-still m more [] [] are = tt
frames-still m more [] (c ∷ cs) are = absurd are
frames-still m more (n ∷ ns) [] are = absurd are
frames-still m more (n ∷ ns) (c ∷ cs) (own, deeper) =
    search (arith, found-still, numbered-more, (frames-still m more ns cs deeper))

clause-in : (m : List (List Literal)) (clause : List Literal) (ns : List NumberedFrame) (frames : Frames)
    → AreFramesOf m ns frames
    → AreFramesOf (m ++ clause ∷ []) (with_number (length m + 1) ns) (with_script_clause clause frames)
clause-in m clause [] [] are = tt
clause-in m clause [] (c ∷ cs) are = absurd are
clause-in m clause (n ∷ ns) [] are = absurd are
clause-in m clause (n ∷ ns) (c ∷ cs) (own, deeper) =
    search (
      arith,
      map-append,
      found-still,
      (numbered-more m (clause ∷ [])),
      (last_there m clause),
      (frames-still m (clause ∷ []) ns cs deeper),
    )

frame-out : (m : List (List Literal)) (ns : List NumberedFrame) (frames : Frames) → AreFramesOf m ns frames
    → AreFramesOf m (without_newest ns) (older_frames frames)
frame-out m [] [] are = tt
frame-out m [] (c ∷ cs) are = absurd are
frame-out m (n ∷ ns) [] are = absurd are
frame-out m (n ∷ ns) (c ∷ cs) (own, deeper) = deeper

pub frames-follow : (s : Numbering) (frames : Frames) (command : ScriptCommand)
    → AreFramesOf s.clauses s.open_frames frames
    → AreFramesOf (numbering_behind s command).clauses (numbering_behind s command).open_frames
    (frames_behind frames command)
frames-follow s frames push are = (refl, are)
frames-follow s frames (add clause) are = clause-in s.clauses clause s.open_frames frames are
frames-follow s frames pop are = frame-out s.clauses s.open_frames frames are
frames-follow s frames solve are = are

database-follows : (s : Numbering) (b : DatabaseState) (command : ScriptCommand) → Follows s b → MayCome b command
    → Follows (numbering_behind s command) (database_behind b command)
database-follows s b push follows may = search (arith, length-append, append-nil)
database-follows s b (add clause) follows may =
    search (arith, length-append, newest-is, append_assoc, replicate, clause-comes)
database-follows s b pop follows may = search (arith, frame-goes)
database-follows s b solve follows may = follows

pub databases-follow : DatabasesFollow
databases-follow s frames b command follows are may = search (arith, database-follows, frames-follow)
