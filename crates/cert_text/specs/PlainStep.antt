-- What is read of a step from left to right.
use Rattle.std.specs.Prelude.{◌≡◌, ℕ, ◌≤◌, ◌<◌, pos, Bool, true, List, [], ◌∷◌, ◌++◌, map, Result, Ok, Err}
use Rattle.std.specs.List.{All}
use Rattle.dq_lits.specs.Derivation.{ProofStep}
use Rattle.dq_lits.specs.Literal.{Literal, dimacs_number, variable_of}
use Rattle.dq_text.specs.Number.{number_of}
use Rattle.cert_text.specs.Grammar.{Tokens, integers}
use Rattle.cert_text.specs.declared.faults.CertFault.{CertFault}
use Rattle.cert_text.specs.declared.faults.LineStop.{LineStop}
use Rattle.cert_text.specs.declared.faults.LineStop.TheVariants.{Fault, Memory}

abbrev pub read_step : ℕ → List Literal → List ℕ → ProofStep
read_step id literals hints = record { id = id; literals = literals; hints = hints }

-- these literals and 0 stand in front of the tokens that are left, on variables of the proof
pub record LiteralsTaken (is_variable : ℕ → Bool) (tokens left : Tokens)
    (literals : List Literal) : Type 0 where
  pub numbers : map number_of tokens
      ≡ integers (map dimacs_number literals ++ pos 0 ∷ []) ++ map number_of left
  pub on_variables : All (λ l. is_variable (variable_of l) ≡ true) literals

-- these hints and 0 stand in front of the tokens that are left, and are below an id
pub record HintsTaken (id : ℕ) (tokens left : Tokens) (hints : List ℕ) : Type 0 where
  pub numbers : map number_of tokens
      ≡ integers (map (λ hint. pos hint) hints ++ pos 0 ∷ []) ++ map number_of left
  pub hints_before : All (λ hint. (1 ≤ hint) × (hint < id)) hints

-- the line's step, by its id and what stands in the buffers, or its fault, or want of memory
abbrev pub IsStepOf : Result ProofStep CertFault → Result ℕ LineStop → List Literal → List ℕ
    → Type 0
IsStepOf line (Ok id) literals hints = line ≡ Ok (read_step id literals hints)
IsStepOf line (Err (Fault name)) literals hints = line ≡ Err name
IsStepOf line (Err Memory) literals hints = Unit {0}
