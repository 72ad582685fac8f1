-- The refutation that an answer stands for: the instances under the rows that it reaches are the
-- base, and the derived clauses that it rests on are lines, with the arbiters' variables as pairs
-- and all other literals left out.
use Rattle.std.specs.Prelude.{ℕ, ◌+◌, ◌-◌, ◌*◌, ◌==◌, Bool, false, ◌&&◌, List, [], map, length, get_or, Option, None, Some, if◌then◌else◌}
use Rattle.std.specs.List.{Contains, filter, list_any, position_or_len, range_with_len}
use Rattle.dq_lits.specs.Literal.{Literal}
use Rattle.dq_lits.specs.Formula.{Dqbf, Existential, existential_of, IsWellFormed}
use Rattle.dq_lits.specs.Expansion.{agree_on, pair_number, instance_at}
use Rattle.hint_log.specs.Conditions.{AreLogged}
use Rattle.hint_log.specs.Entries.{Entry, name_of, origin_at, rounds_of}
use Rattle.hint_log.specs.Naming.{numbered_from_one, rows_of}
use Rattle.hint_log.specs.declared.names.Name.{Name}
use Rattle.hint_log.specs.declared.names.Name.TheVariants.{Pair}
use Rattle.hint_log.specs.declared.origins.Origin.{Origin}
use Rattle.hint_log.specs.declared.origins.Origin.TheVariants.{Instance}
use Rattle.cert_export.specs.Given.{IsGivenAs}
use Rattle.cert_export.specs.Renaming.{Renaming}
use Rattle.cert_export.specs.LineOrder.{IsRenamedBase}

-- an instance of a clause under the row of this round
abbrev pub is_instance_of : ℕ → Option Origin → Bool
is_instance_of k (Some (Instance round j)) = round == k
is_instance_of k _ = false

-- the rounds that have an instance among these ids, in their order
abbrev pub has_instance : List Entry → List ℕ → ℕ → Bool
has_instance entries ids k = list_any (λ id. is_instance_of k (origin_at entries id)) ids

abbrev pub used_rounds : List Entry → List ℕ → List ℕ
used_rounds entries ids = filter (has_instance entries ids) (range_with_len 1 (rounds_of entries))

-- the rows of some rounds
abbrev pub row_of_round : List Entry → ℕ → List Bool
row_of_round entries k = get_or (rows_of entries) (k - 1) []

abbrev pub rows_among : List Entry → List ℕ → List (List Bool)
rows_among entries rounds = map (row_of_round entries) rounds

-- the rows of the instances among these ids, in the order of their rounds
abbrev pub used_rows : List Entry → List ℕ → List (List Bool)
used_rows entries ids = rows_among entries (used_rounds entries ids)

-- The pair that is named by an existential and the first of all rows that agrees with it has the
-- number of the first kept row that agrees; there is none where no kept row does, and any other
-- name is no pair's.
abbrev pub kept_pair : Dqbf → List (List Bool) → List (List Bool) → ℕ → Option (List Bool)
    → Option Existential → Option ℕ
kept_pair f rows kept k (Some row) (Some y) =
    if (position_or_len (agree_on f y row) rows + 1 == k) && list_any (agree_on f y row) kept
    then Some (pair_number f kept row y) else None
kept_pair f rows kept k (Some row) None = None
kept_pair f rows kept k None y = None

-- a pair's number; a name of no pair of the formula's existentials and the rounds' rows has none
abbrev pub pair_of : Dqbf → List (List Bool) → List (List Bool) → Option Name → Option ℕ
pair_of f rows kept (Some (Pair k y)) =
    kept_pair f rows kept k (numbered_from_one rows k) (existential_of f y)
pair_of f rows kept _ = None

-- the numbers of pairs under the rows of these rounds
abbrev pub pair_renaming : Dqbf → List Entry → List ℕ → Renaming
pair_renaming f entries rounds v =
    pair_of f (rows_of entries) (rows_among entries rounds) (name_of entries v)

-- a clause's number in the formula, where the formula's clauses have these numbers in the log
abbrev pub number_among : List ℕ → ℕ → ℕ
number_among live j = position_or_len (λ i. i == j) live + 1

-- an instance's id in the expansion of a formula of so many clauses under the rows of these rounds
abbrev pub instance_id : List ℕ → List ℕ → ℕ → Origin → ℕ
instance_id rounds live clauses (Instance k j) =
    position_or_len (λ i. i == k) rounds * clauses + number_among live j
instance_id rounds live clauses _ = 0

-- the given clauses that the refutation may rest on: instances of the formula's own clauses
abbrev pub IsInstanceClause : Dqbf → List ℕ → List Entry → Origin → List Literal → Type 0
IsInstanceClause f live entries (Instance k j) c =
    Contains live j × IsGivenAs f entries (Instance k j) (Instance k (number_among live j)) c
IsInstanceClause f live entries _ c = ⊥

-- those under the rows of these rounds
abbrev pub IsKeptClause : Dqbf → List ℕ → List ℕ → List Entry → Origin → List Literal → Type 0
IsKeptClause f rounds live entries (Instance k j) c =
    Contains rounds k × IsInstanceClause f live entries (Instance k j) c
IsKeptClause f rounds live entries _ c = ⊥

-- such instances, renamed, are those of the expansion under these rows, by its ids
abbrev pub InstancesAreExpansion : Type 0
InstancesAreExpansion =
    (f : Dqbf) (rounds live : List ℕ) (entries : List Entry) → IsWellFormed f → AreLogged entries
    → IsRenamedBase (pair_renaming f entries rounds) (instance_id rounds live (length f.matrix))
    (IsKeptClause f rounds live entries) (instance_at f (rows_among entries rounds))
    (length rounds * length f.matrix) entries
