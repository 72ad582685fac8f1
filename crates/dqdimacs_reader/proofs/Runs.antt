-- Runs of the machine over lexemes alone.
use Rattle.std.proofs.Common.{◌≡◌, ℕ, List, [], ◌∷◌, map, Option, None, Some, Result, Ok, Err, refl, ◌∙◌, ap}
use Rattle.dq_lits.specs.Formula.{Dqbf}
use Rattle.dq_text.specs.Token.{TextToken}
use Rattle.dqdimacs_reader.specs.Lexeme.{lexeme_of}
use Rattle.dqdimacs_reader.specs.Machine.{State, TextFault, check, advance, at_end, on_line, unless_fault, read_from}
use Rattle.dqdimacs_reader.specs.declared.faults.FormulaFault.{FormulaFault}
use Rattle.dqdimacs_reader.specs.declared.lexemes.Lexeme.{Lexeme}

abbrev pub formula_or_none : Result Dqbf FormulaFault → Option Dqbf
formula_or_none (Ok f) = Some f
formula_or_none (Err _) = None

abbrev pub unless : Option FormulaFault → Option Dqbf → Option Dqbf
unless (Some _) _ = None
unless None rest = rest

-- the formula that lexemes make of a state, where they have no fault
abbrev pub run : State → List Lexeme → Option Dqbf
run state [] = formula_or_none (at_end state)
run state (lexeme ∷ lexemes) = unless (check state lexeme) (run (advance state lexeme) lexemes)

abbrev pub lexemes_of : List TextToken → List Lexeme
lexemes_of tokens = map (λ token. lexeme_of token.text) tokens

end_read : (r : Result Dqbf FormulaFault) (line : ℕ) (f : Dqbf) → on_line line r ≡ Ok f → formula_or_none r ≡ Some f
end_read (Ok g) line f h = let same : g ≡ f = cc in ap Some same
end_read (Err e) line f h = cc

end_run : (r : Result Dqbf FormulaFault) (line : ℕ) (f : Dqbf) → formula_or_none r ≡ Some f → on_line line r ≡ Ok f
end_run (Ok g) line f h = let same : g ≡ f = cc in ap Ok same
end_run (Err e) line f h = cc

step_read : (o : Option FormulaFault) (line : ℕ) (rest : Result Dqbf TextFault) (f : Dqbf) →
    unless_fault o line rest ≡ Ok f → (o ≡ None) × (rest ≡ Ok f)
step_read (Some name) line rest f h = cc
step_read None line rest f h = (refl, h)

step_run : (o : Option FormulaFault) (rest : Option Dqbf) (f : Dqbf) → unless o rest ≡ Some f →
    (o ≡ None) × (rest ≡ Some f)
step_run (Some name) rest f h = cc
step_run None rest f h = (refl, h)

pub run_from_reading : (tokens : List TextToken) (state : State) (last_line : ℕ) (f : Dqbf) →
    read_from state tokens last_line ≡ Ok f → run state (lexemes_of tokens) ≡ Some f
run_from_reading [] state last_line f h = end_read (at_end state) last_line f h
run_from_reading (token ∷ tokens) state last_line f h =
    let lexeme = lexeme_of token.text in
    let r = step_read (check state lexeme) token.line (read_from (advance state lexeme) tokens last_line) f h in
    ap (λ o. unless o (run (advance state lexeme) (lexemes_of tokens))) r.0
    ∙ run_from_reading tokens (advance state lexeme) last_line f r.1

pub reading_from_run : (tokens : List TextToken) (state : State) (last_line : ℕ) (f : Dqbf) →
    run state (lexemes_of tokens) ≡ Some f → read_from state tokens last_line ≡ Ok f
reading_from_run [] state last_line f h = end_run (at_end state) last_line f h
reading_from_run (token ∷ tokens) state last_line f h =
    let lexeme = lexeme_of token.text in
    let r = step_run (check state lexeme) (run (advance state lexeme) (lexemes_of tokens)) f h in
    ap (λ o. unless_fault o token.line (read_from (advance state lexeme) tokens last_line)) r.0
    ∙ reading_from_run tokens (advance state lexeme) last_line f r.1

pub run_step : (state : State) (lexeme : Lexeme) (lexemes : List Lexeme) (f : Dqbf) →
    run state (lexeme ∷ lexemes) ≡ Some f →
    (check state lexeme ≡ None) × (run (advance state lexeme) lexemes ≡ Some f)
run_step state lexeme lexemes f h = step_run (check state lexeme) (run (advance state lexeme) lexemes) f h

-- a lexeme that passes its checks is one step
pub run_pass : (state : State) (lexeme : Lexeme) (lexemes : List Lexeme) → check state lexeme ≡ None →
    run state (lexeme ∷ lexemes) ≡ run (advance state lexeme) lexemes
run_pass state lexeme lexemes h = ap (λ o. unless o (run (advance state lexeme) lexemes)) h
