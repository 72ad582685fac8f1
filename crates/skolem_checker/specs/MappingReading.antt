-- How far a reading of the symbols has come, a word of private contracts; and what `Bench::new`
-- answers.
use Rattle.std.specs.Prelude.{◌≡◌, ℕ, ◌==◌, Bool, List, Result, Ok, Err}
use Rattle.std.specs.List.{list_any}
use Rattle.dq_lits.specs.Row.{bit_of}
use Rattle.skolem_checker.specs.Mapping.{Mapping}
use Rattle.skolem_checker.specs.declared.mapping.Mapped.{Mapped}
use Rattle.skolem_checker.specs.declared.mapping.MapError.{MapError}
use Rattle.skolem_checker.specs.declared.mapping.BenchStop.{BenchStop}
use Rattle.skolem_checker.specs.declared.mapping.BenchStop.TheVariants.{Map, Memory}

-- the bits stand at the variables of the list
abbrev pub IsSeen : List Bool → List ℕ → Type 0
IsSeen bits variables = (v : ℕ) → bit_of bits v ≡ list_any (λ w. w == v) variables

-- the answer is what the definition gives, but for want of memory
abbrev pub Answers : {A B : Type 0} → (B → A) → Result A MapError → Result B BenchStop → Type 0
Answers value expected (Ok x) = expected ≡ Ok (value x)
Answers value expected (Err (Map fault)) = expected ≡ Err fault
Answers value expected (Err Memory) = Unit {0}

-- the lists of a mapping that was read
abbrev pub mapping_in : Mapped → Mapping
mapping_in mapped = record { inputs = mapped.inputs.items; outputs = mapped.outputs.items }
