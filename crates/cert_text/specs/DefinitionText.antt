-- The first fault of a text of definitions, line by line, or its blocks: this project's own format.
use Rattle.std.specs.Prelude.{ℕ, ◌+◌, List, [], ◌∷◌, Result, Ok, Err, codes}
use Rattle.dq_lits.specs.Formula.{Dqbf}
use Rattle.dq_text.specs.Line.{TextLine, LineCursor, line_tokens, lines_from}
use Rattle.dq_formula.specs.Prefix.{existential_variables}
use Rattle.cert_text.specs.AllowedDefinitions.{first_definition_id}
use Rattle.cert_text.specs.DefinitionBlocks.{Definition, Valuation, FreePair, DefinitionBlock, defined, free}
use Rattle.cert_text.specs.DefinitionLine.{definitions_header, definition_gates, head_line, signs_line}
use Rattle.cert_text.specs.ItemLine.{step_lines}
use Rattle.cert_text.specs.Kind.{refusal}
use Rattle.cert_text.specs.Lines.{and_read, at_line, read_some}
use Rattle.cert_text.specs.Scan.{blank_lines}
use Rattle.cert_text.specs.Variables.{is_up_to}
use Rattle.cert_text.specs.declared.definition_lines.BlockHead.{BlockHead}
use Rattle.cert_text.specs.declared.definition_lines.BlockHead.TheVariants.{Defined, Free}
use Rattle.cert_text.specs.declared.definition_lines.DefinedHead.{DefinedHead}
use Rattle.cert_text.specs.declared.faults.CertFault.{CertFault}
use Rattle.cert_text.specs.declared.faults.CertFault.TheVariants.{BadHeader, Truncated}
use Rattle.cert_text.specs.declared.faults.CertRefusal.{CertRefusal}

-- what some lines have, and the lines behind them, of which the first has this number
pub record PartRead (A : Type 0) : Type 0 where
  pub part : A
  pub rest : List TextLine
  pub number : ℕ

-- what the next line has; a missing one would have the number
abbrev pub next_line : {A : Type 0} → (List (List ℕ) → Result A CertFault) → List TextLine → ℕ
    → Result (PartRead A) CertRefusal
next_line read [] number = Err (refusal number Truncated)
next_line read (line ∷ lines) number =
    and_read (at_line line.number (read (line_tokens line.text)))
    (λ part. Ok (record { part = part; rest = lines; number = line.number + 1 }))

-- `gates` lines of gates and `steps` lines of steps
abbrev pub read_definition : Dqbf → ℕ → DefinedHead → List TextLine → ℕ
    → Result (PartRead Definition) CertRefusal
read_definition f y head lines number =
    and_read (read_some (definition_gates f) (f.variables + 1) head.gates lines number) (λ gates.
    and_read
    (read_some (step_lines (is_up_to (f.variables + head.gates)))
    (first_definition_id f head.gates) head.steps gates.rest gates.number)
    (λ steps. Ok (record {
      part = record {
        existential = y;
        output = head.output;
        gates = gates.items;
        steps = steps.items;
      };
      rest = steps.rest;
      number = steps.number;
    })))

-- `u` with the universals' signs, and `v` with the existentials'
abbrev pub read_valuation : Dqbf → List TextLine → ℕ → Result (PartRead Valuation) CertRefusal
read_valuation f lines number =
    and_read (next_line (signs_line (codes "u") f.universals) lines number) (λ row.
    and_read
    (next_line (signs_line (codes "v") (existential_variables f)) row.rest row.number)
    (λ values. Ok (record {
      part = record { row = row.part; values = values.part };
      rest = values.rest;
      number = values.number;
    })))

abbrev pub read_pair : Dqbf → ℕ → List TextLine → ℕ → Result (PartRead FreePair) CertRefusal
read_pair f y lines number =
    and_read (read_valuation f lines number) (λ first.
    and_read (read_valuation f first.rest first.number)
    (λ second. Ok (record {
      part = record { existential = y; first = first.part; second = second.part };
      rest = second.rest;
      number = second.number;
    })))

abbrev pub as_block : {A : Type 0} → (A → DefinitionBlock) → Result (PartRead A) CertRefusal
    → Result (PartRead DefinitionBlock) CertRefusal
as_block make read =
    and_read read
    (λ r. Ok (record { part = make r.part; rest = r.rest; number = r.number }))

-- what stands behind the first line of a block
abbrev pub read_behind_head : Dqbf → ℕ → BlockHead → List TextLine → ℕ
    → Result (PartRead DefinitionBlock) CertRefusal
read_behind_head f y (Defined head) lines number =
    as_block defined (read_definition f y head lines number)
read_behind_head f y Free lines number = as_block free (read_pair f y lines number)

-- the block of an existential
abbrev pub read_block : Dqbf → ℕ → List TextLine → ℕ → Result (PartRead DefinitionBlock) CertRefusal
read_block f y lines number =
    and_read (next_line (head_line f y) lines number)
    (λ head. read_behind_head f y head.part head.rest head.number)

-- the blocks of these existentials, and nothing behind them
abbrev pub read_blocks : Dqbf → List ℕ → List TextLine → ℕ → Result (List DefinitionBlock) CertRefusal
read_blocks f [] lines number = and_read (blank_lines lines) (λ _. Ok [])
read_blocks f (y ∷ ys) lines number =
    and_read (read_block f y lines number) (λ block.
    and_read (read_blocks f ys block.rest block.number) (λ blocks. Ok (block.part ∷ blocks)))

abbrev pub read_definitions : Dqbf → List TextLine → ℕ → Result (List DefinitionBlock) CertRefusal
read_definitions f [] number = Err (refusal number BadHeader)
read_definitions f (line ∷ lines) number =
    and_read (at_line line.number (definitions_header f (line_tokens line.text)))
    (λ _. read_blocks f (existential_variables f) lines (line.number + 1))

-- the blocks of all existentials in order, or the first fault of the text, whose first line has this
-- number
abbrev pub definitions_of : Dqbf → List ℕ → ℕ → Result (List DefinitionBlock) CertRefusal
definitions_of f bytes first = read_definitions f (lines_from first bytes) first

-- this was read, and these bytes are left
abbrev pub part_up_to : {A : Type 0} → A → LineCursor → PartRead A
part_up_to part left =
    record { part = part; rest = lines_from left.number left.rest; number = left.number }
