-- A script that is read is spelled on the page.
use Rattle.std.proofs.Common.{◌≡◌, ℕ, suc, ◌+◌, ◌-◌, ◌==◌, nat_lt, pos, negsuc, Bool, true, false, not, cond, List, [], ◌∷◌, ◌++◌, map, codes, Option, None, Some, Result, Ok, Err, refl, sym, ◌∙◌, ap, subst, arith, append_assoc}
use Rattle.std.specs.List.{AllZip, Contains, filter, fold, list_all}
use Rattle.std.specs.Str.{bytes_eq}
use Rattle.std.proofs.lemmas.Bool.{eqb-true}
use Rattle.std.proofs.lemmas.List.{append-nil}
use Rattle.std.proofs.lemmas.List.Elements.{All-from_recursion}
use Rattle.std.proofs.lemmas.Slice.Eq.{bytes_eq-Decides}
use Rattle.list_laws.proofs.Members.{contains_listed}
use Rattle.dq_lits.specs.Formula.{Dqbf, declared}
use Rattle.dq_lits.specs.Literal.{Literal as ReadLiteral, negative as read_negative, positive as read_positive, variable_of as read_variable}
use Rattle.dq_formula.specs.Prefix.{is_declared}
use Rattle.dq_text.specs.BlankLine.{is_blank_line}
use Rattle.dq_text.specs.Line.{TextLine, line_tokens, lines_from}
use Rattle.dq_text.specs.Number.{number_of}
use Rattle.dq_text.specs.declared.numbers.Number.{Number}
use Rattle.dq_text.specs.declared.numbers.Number.TheVariants.{Int, NotANumber, TooBig}
use Rattle.dqdimacs_reader.specs.Building.{add_literal, distinct}
use Rattle.script_text.specs.Commands.{ScriptCommand}
use Rattle.script_text.specs.Commands.{push as read_push, add as read_add, pop as read_pop, solve as read_solve}
use Rattle.script_text.specs.Lawful.{AreAllowed}
use Rattle.script_text.specs.Reading.{Refusal, ScriptState, alone, and_then, at_zero, behind, behind_line, behind_zero, by_word, clause_from, clause_word, command_of, in_frame, in_limit, keyword, max_clauses, on_line, read_lines, read_script, start, with_command}
use Rattle.script_text.specs.declared.commands.Keyword.{Keyword}
use Rattle.script_text.specs.declared.commands.Keyword.TheVariants.{Push, Add, Pop, Solve}
use Rattle.script_text.specs.declared.faults.ScriptFault.{ScriptFault}
use Rattle.script_text.specs.declared.faults.ScriptFault.TheVariants.{Limit, NoFrame, Undeclared, VarRange}
use Rattle.headline.specs.Headline.{Formula, IsNatural, Spells, is_space, lines, literal_symbol, natural, variable_of, words}
use Rattle.headline.specs.Sessions.{AreLawful, Command, SpellsScript, add, command_symbols, pop, push, solve, variables_of}
use Rattle.headline_laws.proofs.Constraints.{page_literal, page_literals}
use Rattle.headline_laws.proofs.NamedPlaces.{blank_same}
use Rattle.headline_laws.proofs.Symbols.{natural_number, negative_number}
use Rattle.headline_laws.proofs.Tokens.{lines_are, texts, words_are}
use Rattle.session_laws.proofs.GrownFormulas.{AreDeclared, declared_known}

-- ---- a word of a clause

zero_word : (f : Dqbf) (token : List ℕ) (n : Number) → number_of token ≡ n → clause_word f n ≡ Ok None → IsNatural token 0
zero_word f token NotANumber is h = cc
zero_word f token TooBig is h = cc
zero_word f token (Int (pos v)) is h = by (v == 0) (nat_lt f.variables v) (is_declared f v) refl h where
  by : (none high inside : Bool) → (v == 0) ≡ none →
      cond none (Ok None) (cond high (Err VarRange) (cond inside (Ok (Some (read_positive v))) (Err Undeclared)))
      ≡ Ok None → IsNatural token 0
  by true high inside e k = natural_number token 0 (is ∙ ap (λ n. Int (pos n)) (eqb-true v 0 e))
  by false true inside e k = cc
  by false false true e k = cc
  by false false false e k = cc
zero_word f token (Int (negsuc v)) is h = by (suc v == 0) (nat_lt f.variables (suc v)) (is_declared f (suc v)) refl h where
  by : (none high inside : Bool) → (suc v == 0) ≡ none →
      cond none (Ok None) (cond high (Err VarRange) (cond inside (Ok (Some (read_negative (suc v)))) (Err Undeclared)))
      ≡ Ok None → IsNatural token 0
  by true high inside e k = let zero_is = eqb-true (suc v) 0 e in absurd (omega (arith, zero_is))
  by false true inside e k = cc
  by false false true e k = cc
  by false false false e k = cc

-- the literal is spelled, and its variable declared
abbrev IsLiteral : Dqbf → List ℕ → ReadLiteral → Type 0
IsLiteral f token l = Spells token (literal_symbol (page_literal l)) × Contains (declared f) (read_variable l)

literal_word : (f : Dqbf) (token : List ℕ) (l : ReadLiteral) (n : Number) → number_of token ≡ n →
    clause_word f n ≡ Ok (Some l) → IsLiteral f token l
literal_word f token l NotANumber is h = cc
literal_word f token l TooBig is h = cc
literal_word f token l (Int (pos v)) is h = by (v == 0) (nat_lt f.variables v) (is_declared f v) refl h where
  by : (none high inside : Bool) → is_declared f v ≡ inside →
      cond none (Ok None) (cond high (Err VarRange) (cond inside (Ok (Some (read_positive v))) (Err Undeclared)))
      ≡ Ok (Some l) → IsLiteral f token l
  by true high inside e k = cc
  by false true inside e k = cc
  by false false true e k =
      let same : read_positive v ≡ l = cc in
      subst (IsLiteral f token) same (natural_number token v is, contains_listed v (declared f) e)
  by false false false e k = cc
literal_word f token l (Int (negsuc v)) is h =
    by (suc v == 0) (nat_lt f.variables (suc v)) (is_declared f (suc v)) refl h
  where
    by : (none high inside : Bool) → is_declared f (suc v) ≡ inside →
        cond none (Ok None) (cond high (Err VarRange) (cond inside (Ok (Some (read_negative (suc v)))) (Err Undeclared)))
        ≡ Ok (Some l) → IsLiteral f token l
    by true high inside e k = cc
    by false true inside e k = cc
    by false false true e k =
        let same : read_negative (suc v) ≡ l = cc in
        subst (IsLiteral f token) same (negative_number token v is, contains_listed (suc v) (declared f) e)
    by false false false e k = cc

-- ---- a clause

-- nothing stands behind the 0
at_end : (f : Dqbf) (literals is : List ReadLiteral) (tokens : List (List ℕ)) → at_zero f literals tokens ≡ Ok is →
    (tokens ≡ []) × (is ≡ literals)
at_end f literals is [] h = (refl, cc)
at_end f literals is (token ∷ tokens) h = absurd (never (token ∷ tokens) h) where
  never : (ts : List (List ℕ)) → behind_zero f ts ≡ Ok is → ⊥
  never [] e = cc
  never (t ∷ ts) e = by (never ts) (clause_word f (number_of t)) e where
    by : (behind_zero f ts ≡ Ok is → ⊥) → (r : Result (Option ReadLiteral) ScriptFault) →
        and_then r (λ word. behind_zero f ts) ≡ Ok is → ⊥
    by later (Ok word) k = later k
    by later (Err name) k = cc

-- these literals, up to the 0
record IsClause (f : Dqbf) (before : List ReadLiteral) (tokens : List (List ℕ)) (is : List ReadLiteral) : Type 0 where
  literals : List ReadLiteral
  added : is ≡ fold add_literal before literals
  spelled : AllZip Spells tokens (map literal_symbol (page_literals literals) ++ natural 0 ∷ [])
  bound : AreDeclared f literals

clause_spelled : (f : Dqbf) (tokens : List (List ℕ)) (before is : List ReadLiteral) → clause_from f before tokens ≡ Ok is →
    IsClause f before tokens is
clause_spelled f [] before is h = cc
clause_spelled f (token ∷ tokens) before is h =
    by (λ l. clause_spelled f tokens (add_literal before l) is) (clause_word f (number_of token)) refl h
  where
    by : ((l : ReadLiteral) → clause_from f (add_literal before l) tokens ≡ Ok is →
        IsClause f (add_literal before l) tokens is) → (r : Result (Option ReadLiteral) ScriptFault) →
        clause_word f (number_of token) ≡ r →
        and_then r (λ word. by_word word (at_zero f before tokens) (λ l. clause_from f (add_literal before l) tokens))
        ≡ Ok is → IsClause f before (token ∷ tokens) is
    by later (Ok None) e k =
        let end = at_end f before is tokens k in
        record {
          literals = [];
          added = end.1;
          spelled = subst (λ ts. AllZip Spells (token ∷ ts) (natural 0 ∷ [])) (sym end.0)
              (zero_word f token (number_of token) refl e, tt);
          bound = tt;
        }
    by later (Ok (Some l)) e k =
        let more = later l k in
        let one = literal_word f token l (number_of token) refl e in
        record {
          literals = l ∷ more.literals;
          added = more.added;
          spelled = (one.0, more.spelled);
          bound = (one.1, more.bound);
        }
    by later (Err name) e k = cc

-- ---- a command

-- what a command is to the reader and on the page: there a clause has its literals as they are written
pub data IsSame (f : Dqbf) : ScriptCommand → Command → Type 0 where
  pushes : IsSame f read_push push
  adds : (literals : List ReadLiteral) → AreDeclared f literals
      → IsSame f (read_add (distinct literals)) (add (page_literals literals))
  pops : IsSame f read_pop pop
  solves : IsSame f read_solve solve

record IsCommand (f : Dqbf) (tokens : List (List ℕ)) (c : ScriptCommand) : Type 0 where
  page : Command
  spelled : AllZip Spells tokens (command_symbols page)
  same : IsSame f c page

abbrev text_of : Keyword → List ℕ
text_of Push = codes "push"
text_of Add = codes "add"
text_of Pop = codes "pop"
text_of Solve = codes "solve"

keyword_is : (word : List ℕ) (k : Keyword) → keyword word ≡ Some k → word ≡ text_of k
keyword_is word k h =
    by (bytes_eq word (codes "push")) (bytes_eq word (codes "add")) (bytes_eq word (codes "pop"))
    (bytes_eq word (codes "solve")) (bytes_eq-Decides word (codes "push")).0 (bytes_eq-Decides word (codes "add")).0
    (bytes_eq-Decides word (codes "pop")).0 (bytes_eq-Decides word (codes "solve")).0 h
  where
    by : (a b c d : Bool) → (a ≡ true → word ≡ codes "push") → (b ≡ true → word ≡ codes "add") →
        (c ≡ true → word ≡ codes "pop") → (d ≡ true → word ≡ codes "solve") →
        cond a (Some Push) (cond b (Some Add) (cond c (Some Pop) (cond d (Some Solve) None))) ≡ Some k → word ≡ text_of k
    by true b c d one two three four e = let same : Push ≡ k = cc in subst (λ x. word ≡ text_of x) same (one refl)
    by false true c d one two three four e = let same : Add ≡ k = cc in subst (λ x. word ≡ text_of x) same (two refl)
    by false false true d one two three four e =
        let same : Pop ≡ k = cc in subst (λ x. word ≡ text_of x) same (three refl)
    by false false false true one two three four e =
        let same : Solve ≡ k = cc in subst (λ x. word ≡ text_of x) same (four refl)
    by false false false false one two three four e = cc

alone_is : (tokens : List (List ℕ)) (r : Result ScriptCommand ScriptFault) (c : ScriptCommand) → alone tokens r ≡ Ok c →
    (tokens ≡ []) × (r ≡ Ok c)
alone_is [] r c h = (refl, h)
alone_is (token ∷ tokens) r c h = cc

framed_is : (depth : ℕ) (r : Result ScriptCommand ScriptFault) (c : ScriptCommand) → in_frame depth r ≡ Ok c → r ≡ Ok c
framed_is depth r c h = by (depth == 0) h where
  by : (b : Bool) → cond b (Err NoFrame) r ≡ Ok c → r ≡ Ok c
  by true e = cc
  by false e = e

limited_is : (clauses : ℕ) (clause : List ReadLiteral) (c : ScriptCommand) → in_limit clauses clause ≡ Ok c →
    read_add clause ≡ c
limited_is clauses clause c h = by (nat_lt clauses max_clauses) h where
  by : (b : Bool) → cond b (Ok (read_add clause)) (Err Limit) ≡ Ok c → read_add clause ≡ c
  by true e = cc
  by false e = cc

-- a word that stands alone
single : (f : Dqbf) (word : List ℕ) (tokens : List (List ℕ)) (c d : ScriptCommand) (page : Command) (k : Keyword) →
    word ≡ text_of k → tokens ≡ [] → AllZip Spells (text_of k ∷ []) (command_symbols page) → c ≡ d → IsSame f c page →
    IsCommand f (word ∷ tokens) d
single f word tokens c d page k is none spelled same one = record {
  page = page;
  spelled = subst (λ ts. AllZip Spells (word ∷ ts) (command_symbols page)) (sym none)
      (subst (λ w. AllZip Spells (w ∷ []) (command_symbols page)) (sym is) spelled);
  same = subst (λ x. IsSame f x page) same one;
}

ok_is : (c d : ScriptCommand) → ◌≡◌ {A = Result ScriptCommand ScriptFault} (Ok c) (Ok d) → c ≡ d
ok_is c d e = cc

command_spelled : (f : Dqbf) (s : ScriptState) (word : List ℕ) (tokens : List (List ℕ)) (c : ScriptCommand)
    (k : Option Keyword) → keyword word ≡ k → command_of f s k tokens ≡ Ok c → IsCommand f (word ∷ tokens) c
command_spelled f s word tokens c None is h = cc
command_spelled f s word tokens c (Some Push) is h =
    let one = alone_is tokens (Ok read_push) c h in
    single f word tokens read_push c push Push (keyword_is word Push is) one.0 (refl, tt) (ok_is read_push c one.1) pushes
command_spelled f s word tokens c (Some Pop) is h =
    let one = alone_is tokens (in_frame s.depth (Ok read_pop)) c h in
    single f word tokens read_pop c pop Pop (keyword_is word Pop is) one.0 (refl, tt)
    (ok_is read_pop c (framed_is s.depth (Ok read_pop) c one.1)) pops
command_spelled f s word tokens c (Some Solve) is h =
    let one = alone_is tokens (Ok read_solve) c h in
    single f word tokens read_solve c solve Solve (keyword_is word Solve is) one.0 (refl, tt) (ok_is read_solve c one.1)
    solves
command_spelled f s word tokens c (Some Add) is h =
    by (clause_from f [] tokens) refl
    (framed_is s.depth (and_then (clause_from f [] tokens) (in_limit s.clauses)) c h)
  where
    by : (r : Result (List ReadLiteral) ScriptFault) → clause_from f [] tokens ≡ r →
        and_then r (in_limit s.clauses) ≡ Ok c → IsCommand f (word ∷ tokens) c
    by (Ok clause) e k =
        let one = clause_spelled f tokens [] clause e in
        record {
          page = add (page_literals one.literals);
          spelled = (keyword_is word Add is, one.spelled);
          same = subst (λ x. IsSame f x (add (page_literals one.literals)))
              (ap read_add (sym one.added) ∙ limited_is s.clauses clause c k) (adds one.literals one.bound);
        }
    by (Err name) e k = cc

-- ---- the lines

abbrev IsLineOf : List ℕ → Command → Type 0
IsLineOf line c = AllZip Spells (words line) (command_symbols c)

abbrev kept : List (List ℕ) → List (List ℕ)
kept ls = filter (λ line. not (list_all is_space line)) ls

-- these commands come behind those of a state
record AreCommands (f : Dqbf) (s now : ScriptState) (ls : List (List ℕ)) : Type 0 where
  commands : List ScriptCommand
  pages : List Command
  behind : now.commands ≡ s.commands ++ commands
  same : AllZip (IsSame f) commands pages
  spelled : AllZip IsLineOf (kept ls) pages

no_command : (f : Dqbf) (s now : ScriptState) → s ≡ now → AreCommands f s now []
no_command f s now same = record {
  commands = [];
  pages = [];
  behind = ap (λ (x : ScriptState). x.commands) (sym same) ∙ sym (append-nil s.commands);
  same = tt;
  spelled = tt;
}

-- a line of blanks is left out
blank_line : (line : List ℕ) (ls : List (List ℕ)) → is_blank_line line ≡ true → kept (line ∷ ls) ≡ kept ls
blank_line line ls blank =
    ap (λ b. cond (not b) (line ∷ kept ls) (kept ls)) (blank_same line ∙ blank)

full_line : (line : List ℕ) (ls : List (List ℕ)) → is_blank_line line ≡ false → kept (line ∷ ls) ≡ line ∷ kept ls
full_line line ls full =
    ap (λ b. cond (not b) (line ∷ kept ls) (kept ls)) (blank_same line ∙ full)

abbrev no_word : List (List ℕ) → Bool
no_word [] = true
no_word (_ ∷ _) = false

module _ (f : Dqbf) (s now : ScriptState) (line : List ℕ) (ls : List (List ℕ)) where
  behind_blank : line_tokens line ≡ [] → AreCommands f s now ls → AreCommands f s now (line ∷ ls)
  behind_blank none rest = record {
    commands = rest.commands;
    pages = rest.pages;
    behind = rest.behind;
    same = rest.same;
    spelled = subst (λ ks. AllZip IsLineOf ks rest.pages) (sym (blank_line line ls (ap no_word none))) rest.spelled;
  }

  behind_command : (word : List ℕ) (tokens : List (List ℕ)) (c : ScriptCommand) → line_tokens line ≡ word ∷ tokens →
      IsCommand f (word ∷ tokens) c → AreCommands f (with_command s c) now ls → AreCommands f s now (line ∷ ls)
  behind_command word tokens c some one rest = record {
    commands = c ∷ rest.commands;
    pages = one.page ∷ rest.pages;
    behind = rest.behind ∙ append_assoc s.commands (c ∷ []) rest.commands;
    same = (one.same, rest.same);
    spelled = subst (λ ks. AllZip IsLineOf ks (one.page ∷ rest.pages)) (sym (full_line line ls (ap no_word some)))
        (subst (λ ws. AllZip Spells ws (command_symbols one.page)) (sym (words_are line ∙ some)) one.spelled, rest.spelled);
  }

lines_spelled : (f : Dqbf) (ls : List TextLine) (s now : ScriptState) → read_lines f s ls ≡ Ok now →
    AreCommands f s now (texts ls)
lines_spelled f [] s now h = no_command f s now cc
lines_spelled f (line ∷ ls) s now h =
    by (λ next. lines_spelled f ls next now) (line_tokens line.text) refl h
  where
    by : ((next : ScriptState) → read_lines f next ls ≡ Ok now → AreCommands f next now (texts ls)) →
        (tokens : List (List ℕ)) → line_tokens line.text ≡ tokens →
        and_then (on_line line.number (behind_line f s tokens)) (λ next. read_lines f next ls) ≡ Ok now →
        AreCommands f s now (line.text ∷ texts ls)
    by later [] is k = behind_blank f s now line.text (texts ls) is (later s k)
    by later (word ∷ tokens) is k = at (command_of f s (keyword word) tokens) refl k where
      at : (r : Result ScriptCommand ScriptFault) → command_of f s (keyword word) tokens ≡ r →
          and_then (on_line line.number (behind s r)) (λ next. read_lines f next ls) ≡ Ok now →
          AreCommands f s now (line.text ∷ texts ls)
      at (Ok c) e m =
          behind_command f s now line.text (texts ls) word tokens c is
          (command_spelled f s word tokens c (keyword word) refl e) (later (with_command s c) m)
      at (Err name) e m = cc

-- ---- the whole text

pub record IsScript (f : Dqbf) (script : List ℕ) (commands : List ScriptCommand) : Type 0 where
  pub pages : List Command
  pub same : AllZip (IsSame f) commands pages
  pub spelled : AllZip (λ line c. AllZip Spells (words line) (command_symbols c))
      (filter (λ line. not (list_all is_space line)) (lines script)) pages

pub script_spelled : (f : Dqbf) (script : List ℕ) (commands : List ScriptCommand) → read_script f script ≡ Ok commands →
    IsScript f script commands
script_spelled f script commands h = by (read_lines f (start f) (lines_from 1 script)) refl h where
  by : (r : Result ScriptState Refusal) → read_lines f (start f) (lines_from 1 script) ≡ r →
      and_then r (λ s. Ok s.commands) ≡ Ok commands → IsScript f script commands
  by (Ok now) e k =
      let all = lines_spelled f (lines_from 1 script) (start f) now e in
      let here : now.commands ≡ commands = cc in
      record {
        pages = all.pages;
        same = subst (λ cs. AllZip (IsSame f) cs all.pages) (sym all.behind ∙ here) all.same;
        spelled = subst (λ ks. AllZip IsLineOf (kept ks) all.pages) (sym (lines_are 1 script)) all.spelled;
      }
  by (Err refusal) e k = cc

-- ---- its commands may come where they stand

lawful : (f : Dqbf) (page : Formula) → declared f ≡ variables_of page → (depth clauses : ℕ) (cs : List ScriptCommand)
    (ps : List Command) → AllZip (IsSame f) cs ps → AreAllowed f depth clauses cs → AreLawful page depth ps
lawful f page known depth clauses [] [] same allowed = tt
lawful f page known depth clauses [] (p ∷ ps) same allowed = absurd same
lawful f page known depth clauses (c ∷ cs) [] same allowed = absurd same
lawful f page known depth clauses (c ∷ cs) (p ∷ ps) same allowed =
    by same.0 allowed (λ d n. lawful f page known d n cs ps same.1)
  where
    by : {d : ScriptCommand} {q : Command} → IsSame f d q → AreAllowed f depth clauses (d ∷ cs) →
        ((deep many : ℕ) → AreAllowed f deep many cs → AreLawful page deep ps) → AreLawful page depth (q ∷ ps)
    by pushes all rest =
        let deeper : depth + 1 ≡ suc depth = omega arith in
        subst (λ d. AreLawful page d ps) deeper (rest (depth + 1) clauses all.1)
    by (adds literals bound) all rest = (
      all.0.0,
      All-from_recursion (λ l. Contains (variables_of page) (variable_of l)) (page_literals literals)
          (declared_known (declared f) (variables_of page) known literals bound),
      rest depth (clauses + 1) all.1,
    )
    by pops all rest = (all.0, rest (depth - 1) clauses all.1)
    by solves all rest = rest depth clauses all.1

pub spells_script : (f : Dqbf) (page : Formula) (script : List ℕ) (commands : List ScriptCommand) (clauses : ℕ) →
    declared f ≡ variables_of page → (s : IsScript f script commands) → AreAllowed f 0 clauses commands →
    SpellsScript script page s.pages
spells_script f page script commands clauses known s allowed = record {
  spelled = s.spelled;
  lawful = lawful f page known 0 clauses commands s.pages s.same allowed;
}
