-- Lines that are written so far, for the first so many of the ids that an answer reaches.
use Rattle.std.specs.Prelude.{◌≡◌, ℕ, ◌==◌, true, false, List, [], ◌∷◌, ◌++◌, map, Some, slice_get, slice_index}
use Rattle.std.specs.List.{All, Contains, position_or_len}
use Rattle.std.specs.List.Sorted.{IsStrictlyIncreasing}
use Rattle.dq_lits.specs.Derivation.{ProofStep, is_tautology}
use Rattle.dq_lits.specs.Literal.{Literal, opposite}
use Rattle.hint_log.specs.Conditions.{IsId}
use Rattle.hint_log.specs.Entries.{Entry, Given, has_id, numbered, hints_at}
use Rattle.hint_log.specs.declared.origins.Origin.{Origin}
use Rattle.cert_export.specs.Lines.{is_derived, derived_ids, line_clause, line_steps, new_number}
use Rattle.cert_export.specs.Renaming.{Renaming, cut_hints}

-- by the ids' places, their clauses, renamed, and their new numbers; and the lines
pub record WrittenLines : Type 0 where
  pub clauses : List (List Literal)
  pub numbers : List ℕ
  pub steps : List ProofStep

-- the place of an id
abbrev pub place_in : List ℕ → ℕ → ℕ
place_in ids id = position_or_len (λ x. x == id) ids

-- a line's hints by places, as far as they are needed
abbrev pub needed_places : List (List Literal) → List ℕ → List Literal → List ℕ → List ℕ
needed_places clauses ids literals hints =
    cut_hints (slice_get clauses) (map opposite literals) (map (place_in ids) hints)

abbrev pub no_lines : WrittenLines
no_lines = record { clauses = []; numbers = []; steps = [] }

abbrev pub with_given : WrittenLines → List Literal → ℕ → WrittenLines
with_given w clause number =
    record w { clauses = w.clauses ++ clause ∷ []; numbers = w.numbers ++ number ∷ [] }

-- a line with this number, hinting the numbers at the places that it needs
abbrev pub with_line : WrittenLines → List ℕ → List Literal → List ℕ → ℕ → WrittenLines
with_line w ids clause hints number = record {
  clauses = w.clauses ++ clause ∷ [];
  numbers = w.numbers ++ number ∷ [];
  steps = w.steps
      ++ record {
        id = number;
        literals = clause;
        hints = map (slice_index w.numbers) (needed_places w.clauses ids clause hints);
      } ∷ [];
}

pub record IsWritten (r : Renaming) (base_id : Origin → ℕ) (entries : List Entry) (number : ℕ → ℕ)
    (ids : List ℕ) (w : WrittenLines) : Type 0 where
  pub clauses : w.clauses ≡ map (line_clause r entries) ids
  pub numbers : w.numbers ≡ map (new_number base_id entries number) ids
  pub steps : w.steps ≡ line_steps r base_id entries number (derived_ids entries ids)

-- ascending ids with all their hints, the origins of given ones known to the base, and no line with
-- a literal beside its negation
pub record CanBeWritten (r : Renaming) (Knows : Origin → Type 0) (entries : List Entry)
    (ids : List ℕ) : Type 0 where
  pub ascending : IsStrictlyIncreasing ids
  pub are_ids : All (IsId entries) ids
  pub closed : (at hint : ℕ) (hints : List ℕ) → Contains ids at → hints_at entries at ≡ Some hints
      → Contains hints hint → Contains ids hint
  pub known : (id : ℕ) (origin : Origin) (c : List Literal) → Contains ids id
      → numbered has_id entries id ≡ Some (Given origin c) → Knows origin
  pub consistent : (id : ℕ) → Contains ids id → is_derived (numbered has_id entries id) ≡ true
      → is_tautology (line_clause r entries id) ≡ false
