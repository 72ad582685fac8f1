-- Each command of a script may come where it stands.
use Rattle.std.proofs.Common.{◌≡◌, ℕ, zero, suc, ◌≤◌, ◌==◌, nat_lt, nat_abs, ℤ, pos, negsuc, Bool, true, false, cond, List, [], ◌∷◌, ◌++◌, length, Option, None, Some, Result, Ok, Err, refl, sym, ◌∙◌, ap, subst, arith}
use Rattle.std.specs.List.{All, Contains, list_any}
use Rattle.std.proofs.lemmas.Bool.{ltb-true}
use Rattle.std.proofs.lemmas.List.Elements.{All-append, All-nil, All-cons}
use Rattle.list_laws.proofs.Members.{contains_listed}
use Rattle.dq_lits.specs.Literal.{Literal, variable_of, dimacs_literal, same_literal}
use Rattle.dq_lits.specs.Formula.{Dqbf, declared}
use Rattle.dq_formula.specs.Prefix.{is_declared}
use Rattle.dq_text.specs.Line.{TextLine, line_tokens, lines_from}
use Rattle.dq_text.specs.Number.{number_of}
use Rattle.dq_text.specs.declared.numbers.Number.{Number}
use Rattle.dq_text.specs.declared.numbers.Number.TheVariants.{Int, NotANumber, TooBig}
use Rattle.dqdimacs_reader.specs.Building.{add_literal}
use Rattle.dqdimacs_reader.proofs.SpelledClauses.{grown, add_literal-distinct}
use Rattle.script_text.specs.Commands.{ScriptCommand, push, add, pop, solve}
use Rattle.script_text.specs.Lawful.{IsClauseFor, IsAllowed, AreAllowed, ScriptsAreAllowed}
use Rattle.script_text.specs.Reading.{ScriptState, Refusal, max_clauses, and_then, on_line, checked_literal, clause_word, clause_from, at_zero, behind_zero, by_word, alone, in_frame, in_limit, with_command, behind, behind_line, command_of, keyword, read_lines, start, depth_behind, clauses_behind}
use Rattle.script_text.specs.declared.commands.Keyword.{Keyword}
use Rattle.script_text.specs.declared.commands.Keyword.TheVariants.{Push, Add, Pop, Solve}
use Rattle.script_text.specs.declared.faults.ScriptFault.{ScriptFault}
use Rattle.script_text.specs.declared.faults.ScriptFault.TheVariants.{VarRange, Undeclared, NoFrame, Limit}

-- ---- the literals of a clause

variable-of : (n : ℤ) → variable_of (dimacs_literal n) ≡ nat_abs n
variable-of (pos v) = refl
variable-of (negsuc v) = refl

literal-declared : (f : Dqbf) (n : ℤ) (l : Literal) → checked_literal f n ≡ Ok (Some l) →
    Contains (declared f) (variable_of l)
literal-declared f n l is = by_bits (nat_abs n == 0) (nat_lt f.variables (nat_abs n)) (is_declared f (nat_abs n)) refl is
  where
    by_bits : (zero high inside : Bool) → is_declared f (nat_abs n) ≡ inside →
        cond zero (Ok None) (cond high (Err VarRange) (cond inside (Ok (Some (dimacs_literal n))) (Err Undeclared)))
        ≡ Ok (Some l) → Contains (declared f) (variable_of l)
    by_bits true high inside e h = cc
    by_bits false true inside e h = cc
    by_bits false false true e h =
        let same : dimacs_literal n ≡ l = cc in
        subst (λ k. Contains (declared f) (variable_of k)) same
        (subst (Contains (declared f)) (sym (variable-of n)) (contains_listed (nat_abs n) (declared f) e))
    by_bits false false false e h = cc

word-declared : (f : Dqbf) (n : Number) (l : Literal) → clause_word f n ≡ Ok (Some l) →
    Contains (declared f) (variable_of l)
word-declared f NotANumber l is = cc
word-declared f TooBig l is = cc
word-declared f (Int n) l is = literal-declared f n l is

grown-clause : (f : Dqbf) (clause : List Literal) (l : Literal) → IsClauseFor f clause →
    Contains (declared f) (variable_of l) → IsClauseFor f (add_literal clause l)
grown-clause f clause l is inside = record {
  distinct = add_literal-distinct clause l is.distinct;
  bound = grown (All (λ k. Contains (declared f) (variable_of k))) (list_any (same_literal l) clause)
      (clause ++ l ∷ []) clause (λ _. All-append (λ k. Contains (declared f) (variable_of k)) clause (l ∷ []) is.bound
      (All-cons (λ k. Contains (declared f) (variable_of k)) l [] inside
      (All-nil (λ k. Contains (declared f) (variable_of k))))) is.bound;
}

nothing-behind : (f : Dqbf) (tokens : List (List ℕ)) (clause : List Literal) → behind_zero f tokens ≡ Ok clause → ⊥
nothing-behind f [] clause h = cc
nothing-behind f (token ∷ tokens) clause h = at (nothing-behind f tokens clause) (clause_word f (number_of token)) h
  where
    at : (behind_zero f tokens ≡ Ok clause → ⊥) → (r : Result (Option Literal) ScriptFault) →
        and_then r (λ word. behind_zero f tokens) ≡ Ok clause → ⊥
    at later (Ok word) k = later k
    at later (Err name) k = cc

ended-clause : (f : Dqbf) (clause : List Literal) (tokens : List (List ℕ)) (is : List Literal) → IsClauseFor f clause →
    at_zero f clause tokens ≡ Ok is → IsClauseFor f is
ended-clause f clause [] is good h = let same : clause ≡ is = cc in subst (IsClauseFor f) same good
ended-clause f clause (token ∷ tokens) is good h = absurd (nothing-behind f (token ∷ tokens) is h)

read-clause : (f : Dqbf) (tokens : List (List ℕ)) (clause is : List Literal) → IsClauseFor f clause →
    clause_from f clause tokens ≡ Ok is → IsClauseFor f is
read-clause f [] clause is good h = cc
read-clause f (token ∷ tokens) clause is good h =
    at (λ l more. read-clause f tokens (add_literal clause l) is more) (clause_word f (number_of token)) refl h
  where
    at : ((l : Literal) → IsClauseFor f (add_literal clause l) → clause_from f (add_literal clause l) tokens ≡ Ok is →
        IsClauseFor f is) → (r : Result (Option Literal) ScriptFault) → clause_word f (number_of token) ≡ r →
        and_then r (λ word. by_word word (at_zero f clause tokens) (λ l. clause_from f (add_literal clause l) tokens))
        ≡ Ok is → IsClauseFor f is
    at later (Ok None) e k = ended-clause f clause tokens is good k
    at later (Ok (Some l)) e k =
        later l (grown-clause f clause l good (word-declared f (number_of token) l e)) k
    at later (Err name) e k = cc

no-literals : (f : Dqbf) → IsClauseFor f []
no-literals f = record {
  distinct = λ i j d less below. absurd (omega (arith, below));
  bound = All-nil (λ l. Contains (declared f) (variable_of l));
}

-- ---- the command of a line

abbrev Allowed : Dqbf → ScriptState → ScriptCommand → Type 0
Allowed f s c = IsAllowed f s.depth s.clauses c

alone-word : (f : Dqbf) (s : ScriptState) (tokens : List (List ℕ)) (r : Result ScriptCommand ScriptFault)
    (c : ScriptCommand) → (r ≡ Ok c → Allowed f s c) → alone tokens r ≡ Ok c → Allowed f s c
alone-word f s [] r c of h = of h
alone-word f s (token ∷ tokens) r c of h = cc

framed : (f : Dqbf) (s : ScriptState) (r : Result ScriptCommand ScriptFault) (c : ScriptCommand) →
    (1 ≤ s.depth → r ≡ Ok c → Allowed f s c) → in_frame s.depth r ≡ Ok c → Allowed f s c
framed f s r c of h = by_bit (s.depth == 0) refl h where
  some : (n : ℕ) → (n == 0) ≡ false → 1 ≤ n
  some zero e = cc
  some (suc n) e = omega arith

  by_bit : (b : Bool) → (s.depth == 0) ≡ b → cond b (Err NoFrame) r ≡ Ok c → Allowed f s c
  by_bit true e k = cc
  by_bit false e k = of (some s.depth e) k

added : (f : Dqbf) (s : ScriptState) (clause : List Literal) (c : ScriptCommand) → 1 ≤ s.depth → IsClauseFor f clause →
    in_limit s.clauses clause ≡ Ok c → Allowed f s c
added f s clause c some good h = by_bit (nat_lt s.clauses max_clauses) refl h where
  by_bit : (b : Bool) → nat_lt s.clauses max_clauses ≡ b → cond b (Ok (add clause)) (Err Limit) ≡ Ok c → Allowed f s c
  by_bit true e k = let same : add clause ≡ c = cc in subst (Allowed f s) same (some, ltb-true s.clauses max_clauses e, good)
  by_bit false e k = cc

command-allowed : (f : Dqbf) (s : ScriptState) (k : Option Keyword) (tokens : List (List ℕ)) (c : ScriptCommand) →
    command_of f s k tokens ≡ Ok c → Allowed f s c
command-allowed f s None tokens c h = cc
command-allowed f s (Some Push) tokens c h =
    alone-word f s tokens (Ok push) c (λ e. let same : push ≡ c = cc in subst (Allowed f s) same tt) h
command-allowed f s (Some Solve) tokens c h =
    alone-word f s tokens (Ok solve) c (λ e. let same : solve ≡ c = cc in subst (Allowed f s) same tt) h
command-allowed f s (Some Pop) tokens c h =
    alone-word f s tokens (in_frame s.depth (Ok pop)) c
    (framed f s (Ok pop) c (λ some e. let same : pop ≡ c = cc in subst (Allowed f s) same some)) h
command-allowed f s (Some Add) tokens c h =
    framed f s (and_then (clause_from f [] tokens) (in_limit s.clauses)) c (λ some e. at some (clause_from f [] tokens) refl e)
    h
  where
    at : 1 ≤ s.depth → (r : Result (List Literal) ScriptFault) → clause_from f [] tokens ≡ r →
        and_then r (in_limit s.clauses) ≡ Ok c → Allowed f s c
    at some (Ok clause) e k = added f s clause c some (read-clause f tokens [] clause (no-literals f) e) k
    at some (Err name) e k = cc

-- ---- the commands of a text

abbrev depth-behind : ℕ → List ScriptCommand → ℕ
depth-behind depth [] = depth
depth-behind depth (c ∷ cs) = depth-behind (depth_behind depth c) cs

abbrev clauses-behind : ℕ → List ScriptCommand → ℕ
clauses-behind clauses [] = clauses
clauses-behind clauses (c ∷ cs) = clauses-behind (clauses_behind clauses c) cs

depth-snoc : (depth : ℕ) (cs : List ScriptCommand) (c : ScriptCommand) →
    depth-behind depth (cs ++ c ∷ []) ≡ depth_behind (depth-behind depth cs) c
depth-snoc depth [] c = refl
depth-snoc depth (d ∷ cs) c = depth-snoc (depth_behind depth d) cs c

clauses-snoc : (clauses : ℕ) (cs : List ScriptCommand) (c : ScriptCommand) →
    clauses-behind clauses (cs ++ c ∷ []) ≡ clauses_behind (clauses-behind clauses cs) c
clauses-snoc clauses [] c = refl
clauses-snoc clauses (d ∷ cs) c = clauses-snoc (clauses_behind clauses d) cs c

one-more : (f : Dqbf) (depth clauses : ℕ) (cs : List ScriptCommand) (c : ScriptCommand) → AreAllowed f depth clauses cs →
    IsAllowed f (depth-behind depth cs) (clauses-behind clauses cs) c → AreAllowed f depth clauses (cs ++ c ∷ [])
one-more f depth clauses [] c before is = (is, tt)
one-more f depth clauses (d ∷ cs) c before is =
    (before.0, one-more f (depth_behind depth d) (clauses_behind clauses d) cs c before.1 is)

record Follows (f : Dqbf) (s : ScriptState) : Type 0 where
  allowed : AreAllowed f 0 (length f.matrix) s.commands
  opened : s.depth ≡ depth-behind 0 s.commands
  counted : s.clauses ≡ clauses-behind (length f.matrix) s.commands

follows-more : (f : Dqbf) (s : ScriptState) (c : ScriptCommand) → Follows f s → Allowed f s c →
    Follows f (with_command s c)
follows-more f s c before is = record {
  allowed = one-more f 0 (length f.matrix) s.commands c before.allowed
      (subst (λ n. IsAllowed f (depth-behind 0 s.commands) n c) before.counted
      (subst (λ n. IsAllowed f n s.clauses c) before.opened is));
  opened = ap (λ n. depth_behind n c) before.opened ∙ sym (depth-snoc 0 s.commands c);
  counted = ap (λ n. clauses_behind n c) before.counted ∙ sym (clauses-snoc (length f.matrix) s.commands c);
}

follows-line : (f : Dqbf) (s now : ScriptState) (tokens : List (List ℕ)) → Follows f s →
    behind_line f s tokens ≡ Ok now → Follows f now
follows-line f s now [] before h = let same : s ≡ now = cc in subst (Follows f) same before
follows-line f s now (word ∷ tokens) before h = at (command_of f s (keyword word) tokens) refl h where
  at : (r : Result ScriptCommand ScriptFault) → command_of f s (keyword word) tokens ≡ r → behind s r ≡ Ok now →
      Follows f now
  at (Ok c) e k =
      let same : with_command s c ≡ now = cc in
      subst (Follows f) same (follows-more f s c before (command-allowed f s (keyword word) tokens c e))
  at (Err name) e k = cc

follows-lines : (f : Dqbf) (lines : List TextLine) (s now : ScriptState) → Follows f s → read_lines f s lines ≡ Ok now →
    Follows f now
follows-lines f [] s now before h = let same : s ≡ now = cc in subst (Follows f) same before
follows-lines f (line ∷ lines) s now before h =
    at (λ next more. follows-lines f lines next now more) (behind_line f s (line_tokens line.text)) refl h
  where
    at : ((next : ScriptState) → Follows f next → read_lines f next lines ≡ Ok now → Follows f now) →
        (r : Result ScriptState ScriptFault) → behind_line f s (line_tokens line.text) ≡ r →
        and_then (on_line line.number r) (λ next. read_lines f next lines) ≡ Ok now → Follows f now
    at later (Ok next) e k = later next (follows-line f s next (line_tokens line.text) before e) k
    at later (Err name) e k = cc

pub scripts-allowed : ScriptsAreAllowed
scripts-allowed f text commands h = at (read_lines f (start f) (lines_from 1 text)) refl h where
  at : (r : Result ScriptState Refusal) → read_lines f (start f) (lines_from 1 text) ≡ r →
      and_then r (λ s. Ok s.commands) ≡ Ok commands → AreAllowed f 0 (length f.matrix) commands
  at (Ok s) e k =
      let same : s.commands ≡ commands = cc in
      let all = follows-lines f (lines_from 1 text) (start f) s
      (record { allowed = tt; opened = refl; counted = refl }) e in
      subst (AreAllowed f 0 (length f.matrix)) same all.allowed
  at (Err refusal) e k = cc
