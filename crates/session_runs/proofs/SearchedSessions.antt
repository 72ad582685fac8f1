-- A session behind one search more.
use Rattle.std.proofs.Common.{◌≡◌, ℕ, ◌+◌, List, ◌++◌, length, Option, Some, IfSome, Result, Ok, Err, OnErr, sym, subst, arith}
use Rattle.dq_lits.specs.Formula.{Dqbf}
use Rattle.hint_log.specs.Entries.{ProofLog}
use Rattle.dq_session.specs.Databases.{now_of}
use Rattle.repair_loop.specs.SearchStates.{CanBeginSearch, IsDatabaseAfter}
use Rattle.session_runs.specs.Blocks.{block_head}
use Rattle.session_runs.specs.Invariant.{IsFound, IsSearchedOn}
use Rattle.session_runs.specs.declared.sessions.Session.{Session}

some-is : (a b : Dqbf) → Some a ≡ Some b → a ≡ b
some-is a b e = cc

pub on-err-weaker : {X E P Q : Type 0} (r : Result X E) → (P → Q) → OnErr r P → OnErr r Q
on-err-weaker (Ok x) step h = h
on-err-weaker (Err e) step h = step h

kept-one : (o : Option Dqbf) (f g : Dqbf) → o ≡ Some f → f ≡ g → IfSome o (λ h. h ≡ g)
kept-one o f g is same = subst (λ (p : Option Dqbf). IfSome p (λ h. h ≡ g)) (sym is) same

-- the formula was renewed, a search made, and its block written
pub searched-on : (s r t : Session) (log new : ProofLog) (f : Dqbf) (text bytes : List ℕ)
    → r ≡ record s { current = r.current } → r.current ≡ Some (now_of s.database) → r.current ≡ Some f
    → IsFound r.database f log new text → bytes ≡ text → CanBeginSearch t.database t.search_state t.graph new.entries
    → IsDatabaseAfter r.database t.database → t.file ≡ r.file
    → t.current ≡ r.current → t.count ≡ r.count + 1
    → t.text.items ≡ r.text.items ++ (block_head (r.count + 1) (length bytes) ++ bytes)
    → IsSearchedOn s log t new
searched-on s r t log new f text bytes same now is found bytes-are ready after file current count written =
    search (arith, some-is, kept-one)
