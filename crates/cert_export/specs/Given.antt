-- What an export reads of a log: names of inputs, and given clauses that an answer rests on. A log
-- of many searches has these right for the formula of one of them, whatever the others gave.
use Rattle.std.specs.Prelude.{◌≡◌, ℕ, List, ◌∷◌, ◌++◌, Some}
use Rattle.std.specs.List.{Contains}
use Rattle.dq_lits.specs.Literal.{Literal}
use Rattle.dq_lits.specs.Formula.{Dqbf}
use Rattle.hint_log.specs.Entries.{Entry, Given, has_id, name_of, numbered}
use Rattle.hint_log.specs.Origins.{IsOriginsClause}
use Rattle.hint_log.specs.Reached.{Reaches}
use Rattle.hint_log.specs.declared.names.Name.TheVariants.{Input}
use Rattle.hint_log.specs.declared.origins.Origin.{Origin}

-- every input stands for a universal of the formula
abbrev pub HasUniversalInputs : Dqbf → List Entry → Type 0
HasUniversalInputs f entries =
    (v x : ℕ) → name_of entries v ≡ Some (Input x) → Contains f.universals x

-- where the clause was given with the one origin, it is by the formula what the other stands for
abbrev pub IsGivenAs : Dqbf → List Entry → Origin → Origin → List Literal → Type 0
IsGivenAs f entries given origin c =
    (more before : List Entry) → entries ≡ more ++ Given given c ∷ before
    → IsOriginsClause f before origin c

-- by the formula it is what its own origin stands for
abbrev pub IsGivenRightly : Dqbf → List Entry → Origin → List Literal → Type 0
IsGivenRightly f entries origin c = IsGivenAs f entries origin origin c

-- each given clause that an id reaches has a fact
abbrev pub EachGivenReached : (Origin → List Literal → Type 0) → List Entry → ℕ → Type 0
EachGivenReached P entries id =
    (h : ℕ) (origin : Origin) (c : List Literal) → Reaches entries id h
    → numbered has_id entries h ≡ Some (Given origin c) → P origin c
