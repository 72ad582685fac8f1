-- Words of private contracts: clauses of a formula that is being built.
use Rattle.std.specs.Prelude.{ℕ, ◌+◌, ◌<◌, List}
use Rattle.std.specs.List.{All, filter_map}
use Rattle.std.specs.Option.{option_map}
use Rattle.dq_lits.specs.Literal.{Literal}
use Rattle.circuit_plain.specs.Netlist.{literal_variable}
use Rattle.cert_text.specs.NegatedMatrix.{without_constants}
use Rattle.dqdimacs_reader.specs.Building.{distinct}

-- the clauses that are left of clauses over literals as in AIGER
abbrev pub kept : List (List ℕ) → List (List Literal)
kept clauses = filter_map (λ clause. option_map distinct (without_constants clause)) clauses

-- the literals stand on the constant or on variables up to this number
abbrev pub AreWithin : ℕ → List ℕ → Type 0
AreWithin variables clause = All (λ l. literal_variable l < variables + 1) clause
